use Rattle.std.proofs.Common.{◌∙◌, ap}
use Rattle.request_laws.specs.Counting.{reports_made}
use Rattle.vault.proofs.Prepared.{prepared}
use Rattle.vault.specs.Following.{Stores}
use Rattle.vault.proofs.preparing.prepare.Goals as goal

pub returns-clause-prepared : goal.returns-clause-prepared
returns-clause-prepared c =
    let carried = c.carry_out_all-refused in
    let count = c.count_reports-size in
    let old : Stores = record { directory = c.args.directory.now.directory; indexes = c.args.indexes.now.items; lasts = c.args.lasts.now.items } in
    let next : Stores = record { directory = carried.new.directory.directory; indexes = carried.new.indexes.items; lasts = carried.new.lasts.items } in
    prepared c.args.blocks c.args.acks c.args.items.now old next
    carried.result.refused.items carried.result.size c.args.out.now carried.new.out (record { directory = c.len.ensures.kept; share = c.requires.share; stores = c.requires.stores }) carried.ensures.carried c.requires.carried
    c.reports_on-made.result (c.reports_on-made.ensures.reports ∙ ap (reports_made c.args.acks c.args.items.now) c.len-2.ensures.value)
    count.new.directory.directory count.ensures.made count.new.out count.result count.ensures.written count.ensures.end
