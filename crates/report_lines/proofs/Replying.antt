-- Reports that went out, and one more.
use Rattle.std.proofs.Common.{◌≡◌, ℕ, ◌+◌, ◌<◌, ◌≤◌, List, [], ◌∷◌, ◌++◌, length, map, take, drop, get_or, sym, ◌∙◌, ap, arith, length-append, length-take}
use Rattle.std.proofs.lemmas.List.{length-map, map-append, take-append-drop, take_more}
use Rattle.std.proofs.lemmas.List.Sums.{sum_by-append}
use Rattle.std.specs.Prelude.{if◌then◌else◌}
use Rattle.pst_model.specs.declared.verdicts.Verdict.{Verdict}
use Rattle.pst_model.specs.declared.verdicts.Verdict.TheVariants.{Accepted}
use Rattle.pst_model.specs.Replies.{replies_from, reply}
use Rattle.pst_model.specs.Laws.{is_reply}
use Rattle.pst_model.specs.Output.{output_line}
use Rattle.pst_model.specs.Reports.{Report, count_behind, report_packet, verdict_report}
use Rattle.pst_model.specs.Rules.{Output}
use Rattle.pst_model.specs.Run.{lines_of}
use Rattle.pst_model.proofs.Counted.{replies_from-append}
use Rattle.pst_model.proofs.Runs.{lines_of-append}
use Rattle.report_lines.specs.declared.sent.Sent.{Sent}
use Rattle.report_lines.specs.Counting.{IsCountOf, is_forwarded, is_retrieved}

module _ (number moment first : ℕ) (request : List ℕ) (verdicts : List Verdict) (at : ℕ) (small : first < 16384) where
  -- the reports of the verdicts up to this place, and the others
  pub replies-split : at ≤ length verdicts → replies_from number moment first (map (verdict_report request) verdicts)
      ≡ replies_from number moment first (map (verdict_report request) (take at verdicts)) ++ replies_from number moment (count_behind first at) (map (verdict_report request) (drop at verdicts))
  replies-split le =
      let count : length (map (verdict_report request) (take at verdicts)) ≡ at = omega (arith, length-map (take at verdicts) (verdict_report request), length-take at verdicts) in
      ap (λ (l : List Verdict). replies_from number moment first (map (verdict_report request) l)) (sym (take-append-drop at verdicts))
      ∙ ap (replies_from number moment first) (map-append (verdict_report request) (take at verdicts) (drop at verdicts))
      ∙ replies_from-append number moment first (map (verdict_report request) (take at verdicts)) (map (verdict_report request) (drop at verdicts)) small
      ∙ ap (λ (n : ℕ). replies_from number moment first (map (verdict_report request) (take at verdicts)) ++ replies_from number moment (count_behind first n) (map (verdict_report request) (drop at verdicts))) count

  pub replies-more : at < length verdicts → replies_from number moment first (map (verdict_report request) (take (at + 1) verdicts))
      ≡ replies_from number moment first (map (verdict_report request) (take at verdicts)) ++ reply number moment (count_behind first at) (verdict_report request (get_or verdicts at Accepted)) ∷ []
  replies-more within =
      let count : length (map (verdict_report request) (take at verdicts)) ≡ at = omega (arith, length-map (take at verdicts) (verdict_report request), length-take at verdicts) in
      ap (λ (l : List Verdict). replies_from number moment first (map (verdict_report request) l)) (take_more verdicts at Accepted within)
      ∙ ap (replies_from number moment first) (map-append (verdict_report request) (take at verdicts) (get_or verdicts at Accepted ∷ []))
      ∙ replies_from-append number moment first (map (verdict_report request) (take at verdicts)) (verdict_report request (get_or verdicts at Accepted) ∷ []) small
      ∙ ap (λ (n : ℕ). replies_from number moment first (map (verdict_report request) (take at verdicts)) ++ reply number moment (count_behind first n) (verdict_report request (get_or verdicts at Accepted)) ∷ []) count

-- one report more is counted
pub counted_more : (outputs : List Output) (sent : Sent) (number moment count : ℕ) (report : Report) (octets : ℕ) → IsCountOf outputs sent → octets ≡ length (output_line 0 (report_packet count moment report))
    → IsCountOf (outputs ++ reply number moment count report ∷ []) (record sent { replies = sent.replies + 1; octets = sent.octets + octets })
counted_more outputs sent number moment count report octets counted line =
    let one = reply number moment count report ∷ [] in record {
      forwarded = omega (arith, counted.forwarded, sum_by-append (λ (output : Output). if is_forwarded output.kind then 1 else 0) outputs one);
      replies = omega (arith, counted.replies, sum_by-append (λ (output : Output). if is_reply output.kind then 1 else 0) outputs one);
      retrieved = omega (arith, counted.retrieved, sum_by-append (λ (output : Output). if is_retrieved output.kind then 1 else 0) outputs one);
      octets =
          let lines : length (lines_of (outputs ++ one)) ≡ length (lines_of outputs) + length (lines_of one) = ap length (lines_of-append outputs one) ∙ length-append (lines_of outputs) (lines_of one) in
          let last : length (lines_of one) ≡ length (output_line 0 (report_packet count moment report)) + 0 = length-append (output_line 0 (report_packet count moment report)) [] in
          omega (arith, counted.octets, line, lines, last);
    }
