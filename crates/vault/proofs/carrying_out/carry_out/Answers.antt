use Rattle.std.proofs.Common.{length, ◌∙◌, ap}
use Rattle.store_put.proofs.Refused.{together_many}
use Rattle.vault.proofs.carrying_out.carry_out.Goals as goal

pub check-requires-clause-indexes : goal.check-requires-clause-indexes
check-requires-clause-indexes c = ap length c.deref.ensures.value ∙ together_many c.args.directory.now.directory.stores c.args.indexes.now.items c.requires.together
