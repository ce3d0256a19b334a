use Rattle.std.proofs.Common.{ℕ, ◌∙◌, ap, [], ◌∷◌}
use Rattle.space_packet.specs.View.{octets_of}
use Rattle.store_put.proofs.Refused.{none_refused, none_taken, one_refused, told_before}
use Rattle.store_put.specs.declared.refusals.RefusedPut.{RefusedPut}
use Rattle.store_put.proofs.refusals.refusal_of.Goals as goal

pub returns-in-Stays : goal.returns-in-Stays
returns-in-Stays c store shown patterns =
    none_refused (octets_of c.args.packet.now) store (c.in-Stays.ensures.plan 0 store shown patterns)

pub returns-in-Takes : goal.returns-in-Takes
returns-in-Takes c store shown patterns =
    none_taken (octets_of c.args.packet.now) store c.in-Takes.field-0 (c.in-Takes.ensures.plan 0 store shown patterns)

pub returns-then-row : goal.returns-then-row
returns-then-row c store shown patterns =
    told_before (octets_of c.args.packet.now) store (c.in-Refuses.ensures.plan 0 store shown patterns).0 (shown.told ∙ c.if-row.true)

pub returns-else-row : goal.returns-else-row
returns-else-row c store shown patterns =
    let plan = c.in-Refuses.ensures.plan 0 store shown patterns in
    one_refused (octets_of c.args.packet.now) store c.in-Refuses.full.need c.in-Refuses.full.free plan.0 (shown.told ∙ c.if-row.false) plan.1 plan.2
    ∙ ap (λ (n : ℕ). let one : RefusedPut = record { store = n; need = c.in-Refuses.full.need; free = c.in-Refuses.full.free } in one ∷ []) shown.identifier
