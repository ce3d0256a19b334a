use Rattle.std.proofs.Common.{◌≡◌, ℕ, ◌+◌, subst, arith}
use Rattle.octet_fields.proofs.Results.{on_err}
use Rattle.report_lines.proofs.Counted.{counted_on}
use Rattle.report_lines.proofs.Sendings.{breaks_early, breaks_on, lines_on}
use Rattle.report_lines.specs.Counting.{IsCountOf, and_then}
use Rattle.report_lines.specs.declared.sent.Sent.{Sent}
use Rattle.space_packet.specs.View.{octets_of}
use Rattle.handler.specs.Arriving.{lines_by}
use Rattle.handler.proofs.arrivals.send_lines.Goals as goal

pub returns-in_err-first-clause-breaks : goal.returns-in_err-first-clause-breaks
returns-in_err-first-clause-breaks g c =
    on_err c.from_residual.result
    (λ (number : ℕ). breaks_early g.B.Board.means c.args.board.now c.send_forwarded.new.board _ _ (c.in_err-first.ensures.breaks number))

pub returns-in_err-others-clause-breaks : goal.returns-in_err-others-clause-breaks
returns-in_err-others-clause-breaks g c =
    on_err c.from_residual-in_err-others.result
    (λ (number : ℕ).
    breaks_on g.B.Board.means c.args.board.now c.send_forwarded.new.board c.send_refusals.new.board _ _ (c.in_ok-first.ensures.sends number)
    (c.in_err-others.ensures.breaks number))

pub returns-clause-sends : goal.returns-clause-sends
returns-clause-sends g c number =
    lines_on g.B.Board.means c.args.board.now c.send_forwarded.new.board c.send_refusals.new.board _ _ (c.in_ok-first.ensures.sends number)
    (c.in_ok-others.ensures.sends number)

pub returns-clause-counted : goal.returns-clause-counted
returns-clause-counted g c number =
    let first = c.in_ok-first.first in
    let others = c.in_ok-others.others in
    let alone = c.in_ok-first.ensures.alone in
    let none = c.in_ok-others.ensures.alone in
    let forwarded : first.forwarded + others.forwarded ≡ first.forwarded = omega (arith, none) in
    let replies : first.replies + others.replies ≡ others.replies = omega (arith, alone.0) in
    let retrieved : first.retrieved + others.retrieved ≡ others.retrieved = omega (arith, alone.1) in
    let both : and_then first others ≡ record others { forwarded = first.forwarded; octets = first.octets + others.octets } =
    λ i. record { forwarded = forwarded i; replies = replies i; retrieved = retrieved i; octets = first.octets + others.octets } in
    subst (λ (sent : Sent). IsCountOf (lines_by number c.args.head.moment c.args.head.count c.args.is_forwarded (octets_of c.args.packet) c.args.refused.now) sent) both
    (counted_on _ _ first others (c.in_ok-first.ensures.counted number) (c.in_ok-others.ensures.counted number))
