use Rattle.space_packet.specs.Charge.{charge_of}
use Rattle.std.proofs.Common.{◌≡◌, length, [], inl, inr, sym, ap, ◌∙◌, arith}
use Rattle.record_view.specs.Records.{records_left}
use Rattle.record_view.specs.View.{meaning_of}
use Rattle.record_view.proofs.Spelling.{spells_read}
use Rattle.record_view.proofs.Walking.{no_more, records_end, records_step}
use Rattle.record_view.proofs.reading.Records.next_record.Goals.{then-self-eq0-via-then-self-eq0, then-self-eq0-via-else-self-eq0+then-self-eq256}
use Rattle.record_view.proofs.reading.Records.next_record.Goals as goal

pub returns-then-self-eq0-clause-gives : goal.returns-then-self-eq0-clause-gives
returns-then-self-eq0-clause-gives c =
    let none : records_left c.args.self.now ≡ [] = ap records_left (sym c.self.view_is)
    ∙ no_more c.self.inside.left c.self.inside.block.now c.self.inside.number c.self.inside.page
    (elim c.then-self-eq0.branch [
      | then-self-eq0-via-then-self-eq0 w ↦ inl w.if-self-eq0.true
      | then-self-eq0-via-else-self-eq0+then-self-eq256 w ↦ inr w.if-self-eq256.true
    ]) in (none, none)

pub returns-in_err-view-clause-gives : goal.returns-in_err-view-clause-gives
returns-in_err-view-clause-gives c =
    let none : records_left c.args.self.now ≡ [] = ap records_left (sym c.self.view_is)
    ∙ records_end c.self.inside.left c.self.inside.block.now c.self.inside.number c.self.inside.page
    c.in_err-view.ensures in
    rw c.from_residual.ensures (none, none)

pub invariant_of-self : goal.invariant_of-self
invariant_of-self c =
    let there = spells_read c.self.inside.block.now c.self.inside.number c.self.inside.page _
    c.self.invariant.0 c.in_ok-view.ensures in
    let size = ap length c.bytes.ensures.octets in
    (c.self.invariant.0, omega (arith, there.within, c.charge.ensures, size))

pub returns-clause-gives : goal.returns-clause-gives
returns-clause-gives c =
    ap records_left (sym c.self.view_is)
    ∙ records_step c.self.inside.left c.self.inside.block.now c.self.inside.number c.self.inside.page
    c.charge.result
    (meaning_of c.in_ok-view.view) c.if-self-eq0.false
    (c.charge.ensures ∙ ap (λ octets. charge_of (length octets)) c.bytes.ensures.octets)
    c.in_ok-view.ensures
