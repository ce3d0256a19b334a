-- The flash while octets are written into it, a page at a time.
use Rattle.std.proofs.Common.{◌≡◌, ℕ, ◌+◌, ◌-◌, ◌<◌, ◌≤◌, true, false, List, sym, ◌∙◌, ap, subst}
use Rattle.std.proofs.Common.{arith}
use Rattle.board.specs.Flash.{Flash, IsClean, only_page, pages_from, written}
use Rattle.board.proofs.Pages.{above_pages, elsewhere, none_of_pages, written_more}
use Rattle.board.proofs.Touching.{Within}
use Rattle.chain_log.specs.Pages.{page_in, with_pages}

-- one page more
pub page_added : (first i : ℕ) (octets page : List ℕ) (old mid new : Flash)
    → page ≡ page_in octets i → mid ≡ with_pages first i octets old
    → new ≡ written (only_page (first + i)) (λ _. page) mid
    → new ≡ with_pages first (i + 1) octets old
page_added first i octets page old mid new filled was step =
    let index : first + i - first ≡ i = omega arith in
    let pages : ℕ → List ℕ = λ p. page_in octets (p - first) in
    let same : page ≡ pages (first + i) = filled ∙ ap (page_in octets) (sym index) in
    step ∙ (λ j. written (only_page (first + i)) (λ _. same j) (was j))
    ∙ written_more first i pages old

-- the next page is one of them all
pub page_within : (first i n page : ℕ) → page ≡ first + i → i < n
    → Within (only_page page) (pages_from first n)
page_within first i n page number more p out =
    subst (λ (k : ℕ). only_page k p ≡ false) (sym number) (none_of_pages first i n p more out)

-- a page behind those that are written is still clean
pub still_clean : (first i p : ℕ) (octets : List ℕ) (old mid : Flash)
    → mid ≡ with_pages first i octets old → first + i ≤ p → IsClean old p → IsClean mid p
still_clean first i p octets old mid was above clean =
    subst (λ (f : Flash). IsClean f p) (sym was) (
      elsewhere (pages_from first i p) false (old.erased p) (above_pages first i p above) ∙ clean.0,
      elsewhere (pages_from first i p) true (old.loose p) (above_pages first i p above) ∙ clean.1,
    )
