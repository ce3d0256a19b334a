-- Lines that are counted.
use Rattle.std.proofs.Common.{◌≡◌, ℕ, ◌+◌, List, [], ◌∷◌, ◌++◌, length, refl, ◌∙◌, ap, arith, length-append}
use Rattle.std.proofs.lemmas.List.Sums.{sum_by-append}
use Rattle.std.specs.Prelude.{if◌then◌else◌}
use Rattle.pst_model.specs.Laws.{is_reply}
use Rattle.pst_model.specs.Output.{output_line}
use Rattle.pst_model.specs.Rules.{Output, Reply}
use Rattle.pst_model.specs.Run.{lines_of}
use Rattle.pst_model.proofs.Runs.{lines_of-append}
use Rattle.report_lines.specs.Counting.{IsCountOf, and_then, is_forwarded, is_retrieved}
use Rattle.report_lines.specs.declared.sent.Sent.{Sent}

-- lines that were counted, and others behind them
pub counted_on : (xs ys : List Output) (first second : Sent) → IsCountOf xs first → IsCountOf ys second → IsCountOf (xs ++ ys) (and_then first second)
counted_on xs ys first second one two = record {
  forwarded = omega (arith, one.forwarded, two.forwarded, sum_by-append (λ (output : Output). if is_forwarded output.kind then 1 else 0) xs ys);
  replies = omega (arith, one.replies, two.replies, sum_by-append (λ (output : Output). if is_reply output.kind then 1 else 0) xs ys);
  retrieved = omega (arith, one.retrieved, two.retrieved, sum_by-append (λ (output : Output). if is_retrieved output.kind then 1 else 0) xs ys);
  octets =
      let lines : length (lines_of (xs ++ ys)) ≡ length (lines_of xs) + length (lines_of ys) = ap length (lines_of-append xs ys) ∙ length-append (lines_of xs) (lines_of ys) in
      omega (arith, one.octets, two.octets, lines);
}

-- a line alone, of a report
pub counted_one : (number : ℕ) (packet : List ℕ) (octets : ℕ) (sent : Sent) → octets ≡ length (output_line 0 packet) → sent.forwarded ≡ 0 → sent.retrieved ≡ 0
    → IsCountOf (record { command = number; kind = Reply; channel = 0; packet = packet } ∷ []) (record sent { replies = 1; octets = octets })
counted_one number packet octets sent line none neither = record {
  forwarded = none;
  replies = refl;
  retrieved = neither;
  octets = omega (arith, line, length-append (output_line 0 packet) []);
}
