use Rattle.std.proofs.Common.{◌<◌, ℕ, arith}
use Rattle.std.proofs.lemmas.List.Elements.{All-from_get_or}
use Rattle.pst_model.proofs.ItemOctets.{AreOctets}
use Rattle.pus_request.proofs.Rows.{spelled-view}
use Rattle.pus_request.proofs.items.Items.new.Goals as goal

pub invariant_of-result-clause-octets : goal.invariant_of-result-clause-octets
invariant_of-result-clause-octets c = All-from_get_or (λ (octet : ℕ). octet < 256) c.args.body.now 0 (λ k within. let fits = c.type_inv.body k in omega arith)

pub returns-clause-spelled : goal.returns-clause-spelled
returns-clause-spelled c =
    let fit : AreOctets c.args.body.now = All-from_get_or (λ (octet : ℕ). octet < 256) c.args.body.now 0 (λ k within. let fits = c.type_inv.body k in omega arith) in
    spelled-view c.args.kind c.args.body.now fit c.requires
