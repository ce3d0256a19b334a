use Rattle.std.proofs.Common.{drop, ap, ◌∙◌, arith}
use Rattle.std.proofs.lemmas.List.{take_rest}
use Rattle.store_directory.specs.Entries.{links_in}
use Rattle.octet_fields.proofs.Numbers.{HasOctets, HasOctets-drop}
use Rattle.store_directory.proofs.LinkTexts.{links_fits}
use Rattle.store_directory.proofs.change_text.links_at.Goals as goal

pub returns-clause-fits : goal.returns-clause-fits
returns-clause-fits c =
    let octets : HasOctets c.args.octets.now = λ place. let fits = c.type_inv.octets place in omega arith in
    let same = c.new.ensures ∙ ap (links_in c.u16_at-2.result) (take_rest c.args.octets.now 5) in
    links_fits c.u16_at.result c.u16_at-2.result (drop 5 c.args.octets.now) c.new.result c.u16_at.type_inv c.u16_at-2.type_inv
    (HasOctets-drop 5 c.args.octets.now octets) same
