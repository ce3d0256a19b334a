-- The reports of refusals, and one more.
use Rattle.std.proofs.Common.{◌≡◌, ◌<◌, ◌≤◌, ℕ, ◌+◌, List, [], ◌∷◌, ◌++◌, length, map, take, drop, get_or, sym, ◌∙◌, ap, arith, length-append, length-take}
use Rattle.std.proofs.lemmas.List.{length-map, map-append, take-append-drop, take_more}
use Rattle.std.proofs.lemmas.List.Sums.{sum_by-append}
use Rattle.std.specs.Prelude.{if◌then◌else◌}
use Rattle.pst_model.proofs.Counted.{replies_from-append}
use Rattle.pst_model.proofs.Runs.{lines_of-append}
use Rattle.pst_model.specs.Laws.{is_reply}
use Rattle.pst_model.specs.Replies.{replies_from, reply}
use Rattle.pst_model.specs.Reports.{count_behind}
use Rattle.pst_model.specs.Rules.{Output}
use Rattle.pst_model.specs.Run.{lines_of}
use Rattle.report_lines.specs.Counting.{IsCountOf, is_forwarded, is_retrieved}
use Rattle.report_lines.specs.declared.sent.Sent.{Sent}
use Rattle.store_put.specs.Refusals.{report_of}
use Rattle.store_put.specs.declared.refusals.RefusedPut.{RefusedPut}
use Rattle.handler.specs.Arriving.{refusals_from}

-- of no store
abbrev pub no_store : RefusedPut
no_store = record { store = 0; need = 0; free = 0 }

module _ (number moment first : ℕ) (refused : List RefusedPut) (at : ℕ) (small : first < 16384) where
  -- the reports up to a place, and the others
  pub refusals-split : at ≤ length refused → refusals_from number moment first refused
      ≡ refusals_from number moment first (take at refused) ++ refusals_from number moment (count_behind first at) (drop at refused)
  refusals-split le =
      let count : length (map report_of (take at refused)) ≡ at = omega (arith, length-map (take at refused) report_of, length-take at refused) in
      ap (refusals_from number moment first) (sym (take-append-drop at refused))
      ∙ ap (replies_from number moment first) (map-append report_of (take at refused) (drop at refused))
      ∙ replies_from-append number moment first (map report_of (take at refused)) (map report_of (drop at refused)) small
      ∙ ap (λ (n : ℕ). refusals_from number moment first (take at refused) ++ refusals_from number moment (count_behind first n) (drop at refused)) count

  pub refusals-more : at < length refused → refusals_from number moment first (take (at + 1) refused)
      ≡ refusals_from number moment first (take at refused) ++ reply number moment (count_behind first at) (report_of (get_or refused at no_store)) ∷ []
  refusals-more within =
      let count : length (map report_of (take at refused)) ≡ at = omega (arith, length-map (take at refused) report_of, length-take at refused) in
      ap (refusals_from number moment first) (take_more refused at no_store within)
      ∙ ap (replies_from number moment first) (map-append report_of (take at refused) (get_or refused at no_store ∷ []))
      ∙ replies_from-append number moment first (map report_of (take at refused)) (report_of (get_or refused at no_store) ∷ []) small
      ∙ ap (λ (n : ℕ). refusals_from number moment first (take at refused) ++ reply number moment (count_behind first n) (report_of (get_or refused at no_store)) ∷ []) count

-- a report more is counted, by how it was counted alone
pub counted_too : (outputs : List Output) (one : Output) (sent alone : Sent) → IsCountOf outputs sent → IsCountOf (one ∷ []) alone
    → alone.forwarded ≡ 0 → alone.retrieved ≡ 0 → alone.replies ≡ 1
    → IsCountOf (outputs ++ one ∷ []) (record sent { replies = sent.replies + 1; octets = sent.octets + alone.octets })
counted_too outputs one sent alone counted more none neither reply = record {
  forwarded = omega (arith, counted.forwarded, more.forwarded, none, sum_by-append (λ (output : Output). if is_forwarded output.kind then 1 else 0) outputs (one ∷ []));
  replies = omega (arith, counted.replies, more.replies, reply, sum_by-append (λ (output : Output). if is_reply output.kind then 1 else 0) outputs (one ∷ []));
  retrieved = omega (arith, counted.retrieved, more.retrieved, neither, sum_by-append (λ (output : Output). if is_retrieved output.kind then 1 else 0) outputs (one ∷ []));
  octets =
      let lines : length (lines_of (outputs ++ one ∷ [])) ≡ length (lines_of outputs) + length (lines_of (one ∷ [])) =
      ap length (lines_of-append outputs (one ∷ [])) ∙ length-append (lines_of outputs) (lines_of (one ∷ [])) in
      omega (arith, counted.octets, more.octets, lines);
}
