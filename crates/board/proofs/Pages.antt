-- What steps of a flash leave, page by page.
use Rattle.std.proofs.Common.{◌≡◌, inl, inr, ℕ, ◌+◌, ◌<◌, ◌≤◌, Bool, true, false, List, refl, sym, ◌∙◌, ap, arith}
use Rattle.std.proofs.lemmas.Bool.{true≢false, false≢true, cases_eq, eq-eqb, ne_eqb}
use Rattle.std.proofs.lemmas.Bool.Decides.{nat_tests}
use Rattle.std.proofs.lemmas.List.{length-replicate}
use Rattle.std.proofs.lemmas.List.Elements.{All-replicate}
use Rattle.std.specs.Prelude.{if◌then◌else◌}
use Rattle.board.specs.Flash.{Flash, IsContent, IsImage, IsPage, blank, firm, loosened, only_page, pages_from, wiped, written}

-- a test that picks between two marks
pub outside : (b mark : Bool) → (if b then true else mark) ≡ false → (b ≡ false) × (mark ≡ false)
outside true mark h = absurd (true≢false h)
outside false mark h = (refl, h)

pub inside : {A : Type 0} (b : Bool) (x y : A) → b ≡ true → (if b then x else y) ≡ x
inside true x y h = refl
inside false x y h = absurd (false≢true h)

pub elsewhere : {A : Type 0} (b : Bool) (x y : A) → b ≡ false → (if b then x else y) ≡ y
elsewhere true x y h = absurd (true≢false h)
elsewhere false x y h = refl

-- pages from one on
pub in_pages : (first n p : ℕ) → first ≤ p → p < first + n → pages_from first n p ≡ true
in_pages first n p low high = grind (arith, nat_tests)

pub below_pages : (first n p : ℕ) → p < first → pages_from first n p ≡ false
below_pages first n p low = grind (arith, nat_tests)

pub above_pages : (first n p : ℕ) → first + n ≤ p → pages_from first n p ≡ false
above_pages first n p high = grind (arith, nat_tests)

pub is_only : (page : ℕ) → only_page page page ≡ true
is_only page = eq-eqb page page refl

pub not_only : (page p : ℕ) → (p ≡ page → ⊥) → only_page page p ≡ false
not_only page p ne = ne_eqb p page ne

-- a page that is none of more pages is none of fewer
pub fewer_pages : (first i n p : ℕ) → i ≤ n → pages_from first n p ≡ false → pages_from first i p ≡ false
fewer_pages first i n p le out = grind (arith, nat_tests)

pub none_of_pages : (first i n p : ℕ) → i < n → pages_from first n p ≡ false → only_page (first + i) p ≡ false
none_of_pages first i n p lt out = grind (arith, nat_tests)

-- a content is an image of its own flash
pub image_of_content : (blocks : ℕ) (flash : Flash) → IsContent blocks flash.content → IsImage blocks flash flash.content
image_of_content blocks flash pages = record { pages = pages; firm_pages = λ p within loose. refl }

-- a content stays one where what is written are pages
pub content_of_written : (blocks : ℕ) (these : ℕ → Bool) (pages : ℕ → List ℕ) (flash : Flash)
    → ((p : ℕ) → these p ≡ true → IsPage (pages p)) → IsContent blocks flash.content → IsContent blocks (written these pages flash).content
content_of_written blocks these pages flash are content p within = pick (these p) (are p) (content p within)
  where
    pick : (b : Bool) → (b ≡ true → IsPage (pages p)) → IsPage (flash.content p) → IsPage (if b then pages p else flash.content p)
    pick true new old = new refl
    pick false new old = old

pub blank_page : IsPage blank
unfolding blank
blank_page = record { size = length-replicate {A = ℕ} 256 255; octets = All-replicate (λ octet. octet < 256) 256 255 (omega arith) }

pub content_of_wiped : (blocks : ℕ) (these : ℕ → Bool) (flash : Flash) → IsContent blocks flash.content → IsContent blocks (wiped these flash).content
content_of_wiped blocks these flash content =
    content_of_written blocks these (λ _. blank) flash (λ p here. blank_page) content

-- a stop in the middle of a step, and one behind it, leave the same images
pub image_of_written : (blocks : ℕ) (these : ℕ → Bool) (pages : ℕ → List ℕ) (flash : Flash) (image : ℕ → List ℕ)
    → IsImage blocks (written these pages flash) image → IsImage blocks (loosened these flash) image
image_of_written blocks these pages flash image is = record {
  pages = is.pages;
  firm_pages = λ p within loose.
      is.firm_pages p within loose ∙ elsewhere (these p) (pages p) (flash.content p) (outside (these p) (flash.loose p) loose).0;
}

pub image_of_wiped : (blocks : ℕ) (these : ℕ → Bool) (flash : Flash) (image : ℕ → List ℕ)
    → IsImage blocks (wiped these flash) image → IsImage blocks (loosened these flash) image
image_of_wiped blocks these flash image is = record {
  pages = is.pages;
  firm_pages = λ p within loose.
      is.firm_pages p within loose ∙ elsewhere (these p) blank (flash.content p) (outside (these p) (flash.loose p) loose).0;
}

-- what is firm is no more than what may be loose
pub image_of_firm : (blocks : ℕ) (flash : Flash) (image : ℕ → List ℕ) → IsImage blocks (firm flash) image → IsImage blocks flash image
image_of_firm blocks flash image is = record { pages = is.pages; firm_pages = λ p within loose. is.firm_pages p within refl }

-- more pages in the way of a stop leave more images
pub image_of_more : (blocks : ℕ) (few many : ℕ → Bool) (flash : Flash) (image : ℕ → List ℕ)
    → ((p : ℕ) → many p ≡ false → few p ≡ false) → IsImage blocks (loosened few flash) image → IsImage blocks (loosened many flash) image
image_of_more blocks few many flash image fewer is = record {
  pages = is.pages;
  firm_pages = λ p within loose.
      let out = outside (many p) (flash.loose p) loose in
      is.firm_pages p within (elsewhere (few p) true (flash.loose p) (fewer p out.0) ∙ out.1);
}

pub image_of_loosened : (blocks : ℕ) (these : ℕ → Bool) (flash : Flash) (image : ℕ → List ℕ)
    → IsImage blocks flash image → IsImage blocks (loosened these flash) image
image_of_loosened blocks these flash image is = record {
  pages = is.pages;
  firm_pages = λ p within loose. is.firm_pages p within (outside (these p) (flash.loose p) loose).1;
}

-- one page more, at the end of a run
pub written_more : (first i : ℕ) (pages : ℕ → List ℕ) (flash : Flash)
    → written (only_page (first + i)) (λ _. pages (first + i)) (written (pages_from first i) pages flash) ≡ written (pages_from first (i + 1)) pages flash
written_more first i pages flash =
    λ j. record { content = λ p. holds p j; erased = λ p. marks false (flash.erased p) p j; loose = λ p. marks true (flash.loose p) p j }
  where
    marks : (mark old : Bool) (p : ℕ) → (if only_page (first + i) p then mark else (if pages_from first i p then mark else old)) ≡ (if pages_from first (i + 1) p then mark else old)
    marks mark old p = grind (arith, nat_tests)

    holds : (p : ℕ) → (if only_page (first + i) p then pages (first + i) else (if pages_from first i p then pages p else flash.content p)) ≡ (if pages_from first (i + 1) p then pages p else flash.content p)
    holds p = elim (cases_eq p (first + i)) [
      | inl here ↦ inside (only_page (first + i) p) (pages (first + i)) _ (eq-eqb p (first + i) here) ∙ ap pages (sym here) ∙ sym (inside (pages_from first (i + 1) p) (pages p) _ (in_pages first (i + 1) p (omega arith) (omega arith)))
      | inr other ↦ elsewhere (only_page (first + i) p) _ _ (ne_eqb p (first + i) other) ∙ ap (λ (b : Bool). if b then pages p else flash.content p) (same p other)
    ]
      where
        same : (p : ℕ) → (p ≡ first + i → ⊥) → pages_from first i p ≡ pages_from first (i + 1) p
        same p other = grind (arith, nat_tests)

-- no page
pub written_none : (first : ℕ) (pages : ℕ → List ℕ) (flash : Flash) → written (pages_from first 0) pages flash ≡ flash
written_none first pages flash = λ j. record {
  content = λ p. elsewhere (pages_from first 0 p) (pages p) (flash.content p) (none p) j;
  erased = λ p. elsewhere (pages_from first 0 p) false (flash.erased p) (none p) j;
  loose = λ p. elsewhere (pages_from first 0 p) true (flash.loose p) (none p) j;
}
  where
    none : (p : ℕ) → pages_from first 0 p ≡ false
    none p = grind (arith, nat_tests)
