use Rattle.std.proofs.Common.{◌∙◌, sym}
use Rattle.pus_request.proofs.Viewed.{many}
use Rattle.pus_request.proofs.items.Items.len.Goals as goal

pub returns-clause-length : goal.returns-clause-length
returns-clause-length c = c.from.ensures ∙ c.count_in.ensures ∙ sym (many c.args.self.now)
