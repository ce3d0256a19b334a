use Rattle.std.proofs.Common.{◌≡◌, ◌≤◌, ◌<◌, ℕ, ◌*◌, take}
use Rattle.handler.specs.Arriving.{refusals_from}
use Rattle.pst_model.specs.Reports.{count_behind}
use Rattle.report_lines.specs.Counting.{IsCountOf}
use Rattle.report_lines.specs.Sending.{SendsLines}
use Rattle.handler.proofs.arrivals.send_refusals.Given as goal

abbrev pub invariant-loop-refusal : goal.invariant-loop-refusal
invariant-loop-refusal g l =
    let means = g.B.Board.means in
    record {
      next : l.next ≡ count_behind l.count l.refusal-index;
      below : l.next < 16384;
      sends : (number : ℕ) → SendsLines means l.fn.board l.board (refusals_from number l.moment l.count (take l.refusal-index l.refused));
      counted : (number : ℕ) → IsCountOf (refusals_from number l.moment l.count (take l.refusal-index l.refused)) l.sent;
      forwarded : l.sent.forwarded ≡ 0;
      retrieved : l.sent.retrieved ≡ 0;
      replies : l.sent.replies ≤ l.refusal-index;
      octets : l.sent.octets ≤ 10000000 * l.refusal-index;
    }
