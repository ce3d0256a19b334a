-- The flash while the payload of an entry is written, a page at a time.
use Rattle.std.proofs.Common.{◌≡◌, ℕ, ◌+◌, ◌-◌, ◌<◌, ◌≤◌, true, false, List, sym, ◌∙◌, ap, subst}
use Rattle.std.proofs.Common.{arith}
use Rattle.board.specs.Flash.{Flash, IsClean, only_page, pages_from, written}
use Rattle.board.proofs.Pages.{above_pages, elsewhere, none_of_pages, written_more}
use Rattle.board.proofs.Touching.{Within}
use Rattle.commit_gate.specs.Commits.{payload_at, payload_page}

-- one page more
pub page_added : (first i : ℕ) (entry page : List ℕ) (old mid new : Flash)
    → page ≡ payload_page entry i → mid ≡ written (pages_from first i) (payload_at first entry) old
    → new ≡ written (only_page (first + i)) (λ _. page) mid
    → new ≡ written (pages_from first (i + 1)) (payload_at first entry) old
page_added first i entry page old mid new filled was step =
    let index : first + i - first ≡ i = omega arith in
    let same : page ≡ payload_at first entry (first + i) =
    filled ∙ ap (payload_page entry) (sym index) in
    step ∙ (λ j. written (only_page (first + i)) (λ _. same j) (was j))
    ∙ written_more first i (payload_at first entry) old

-- the next page is one of them all
pub page_within : (first i n page : ℕ) → page ≡ first + i → i < n
    → Within (only_page page) (pages_from first n)
page_within first i n page number more p out =
    subst (λ (k : ℕ). only_page k p ≡ false) (sym number) (none_of_pages first i n p more out)

-- the page behind those that are written is still clean
pub still_clean : (first i p : ℕ) (entry : List ℕ) (old mid : Flash)
    → mid ≡ written (pages_from first i) (payload_at first entry) old → first + i ≤ p
    → IsClean old p → IsClean mid p
still_clean first i p entry old mid was above clean =
    subst (λ (f : Flash). IsClean f p) (sym was) (
      elsewhere (pages_from first i p) false (old.erased p) (above_pages first i p above) ∙ clean.0,
      elsewhere (pages_from first i p) true (old.loose p) (above_pages first i p above) ∙ clean.1,
    )
