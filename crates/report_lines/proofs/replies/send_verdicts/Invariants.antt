use Rattle.std.proofs.Common.{◌≡◌, ◌≤◌, ◌<◌, ℕ, ◌*◌, map, take}
use Rattle.pst_model.specs.Replies.{replies_from}
use Rattle.pst_model.specs.Reports.{count_behind, verdict_report}
use Rattle.report_lines.specs.Counting.{IsCountOf}
use Rattle.report_lines.specs.Sending.{SendsLines}
use Rattle.report_lines.proofs.replies.send_verdicts.Given as goal

abbrev pub invariant-loop-verdict : goal.invariant-loop-verdict
invariant-loop-verdict g l =
    let means = g.B.Board.means in
    record {
      next : l.next ≡ count_behind l.count l.verdict-index;
      below : l.next < 16384;
      sends : (number : ℕ) → SendsLines means l.fn.board l.board (replies_from number l.moment l.count (map (verdict_report l.request) (take l.verdict-index l.verdicts)));
      counted : (number : ℕ) → IsCountOf (replies_from number l.moment l.count (map (verdict_report l.request) (take l.verdict-index l.verdicts))) l.sent;
      forwarded : l.sent.forwarded ≡ 0;
      retrieved : l.sent.retrieved ≡ 0;
      replies : l.sent.replies ≤ l.verdict-index;
      octets : l.sent.octets ≤ 8195 * l.verdict-index;
    }
