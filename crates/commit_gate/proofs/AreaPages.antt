-- The pages of an area.
use Rattle.std.proofs.Common.{◌≡◌, ℕ, zero, suc, ◌+◌, ◌*◌, ◌/◌, ◌%◌, ◌<◌, ◌≤◌, Bool, true, false}
use Rattle.std.proofs.Common.{nat_lt}
use Rattle.std.proofs.Common.{List, [], ◌++◌, refl, sym, ◌∙◌, ap, ap₂, arith, append-nil}
use Rattle.std.proofs.Common.{append_assoc, add-zero}
use Rattle.std.specs.Prelude.{if◌then◌else◌}
use Rattle.std.proofs.lemmas.Bool.Decides.{nat_tests}
use Rattle.commit_gate.specs.Entries.{area_of, octets_from}

-- a page of an area, by its block
pub page_number : (first at : ℕ) → 256 * (first + at / 256) + at % 256 ≡ 256 * first + at
page_number first at = omega arith

pub area_page : (base : ℕ) (content : ℕ → List ℕ) (q : ℕ) → q < 512
    → area_of base content q ≡ content (base + q)
unfolding area_of
area_page base content q lt = rw below
  where
    below : nat_lt q 512 ≡ true
    below = grind (arith, nat_tests)

-- where two contents agree, two areas do
pub area_same : (base : ℕ) (content image : ℕ → List ℕ) (q : ℕ)
    → (q < 512 → image (base + q) ≡ content (base + q))
    → area_of base image q ≡ area_of base content q
unfolding area_of
area_same base content image q same = pick (nat_lt q 512) (λ t. same (low t))
  where
    low : nat_lt q 512 ≡ true → q < 512
    low t = grind (arith, nat_tests)

    pick : (b : Bool) → (b ≡ true → image (base + q) ≡ content (base + q))
        → (if b then image (base + q) else []) ≡ (if b then content (base + q) else [])
    pick true same = same refl
    pick false same = refl

-- no page, and one page more
pub octets_none : (area : ℕ → List ℕ) (first : ℕ) → octets_from area first 0 ≡ []
unfolding octets_from
octets_none area first = refl

pub octets_one : (area : ℕ → List ℕ) (first : ℕ) → octets_from area first 1 ≡ area first
unfolding octets_from
octets_one area first = append-nil (area first)

pub octets_last : (area : ℕ → List ℕ) (n first : ℕ)
    → octets_from area first (suc n) ≡ octets_from area first n ++ area (first + n)
unfolding octets_from
octets_last area zero first = append-nil (area first) ∙ ap area (sym (add-zero first))
octets_last area (suc n) first =
    ap (λ (l : List ℕ). area first ++ l) (octets_last area n (suc first))
    ∙ sym (append_assoc (area first) (octets_from area (suc first) n) (area (suc first + n)))
    ∙ ap (λ (k : ℕ). octets_from area first (suc n) ++ area k) (omega arith)

-- the same pages have the same octets
pub octets_same : (area other : ℕ → List ℕ) (n first : ℕ)
    → ((q : ℕ) → first ≤ q → q < first + n → other q ≡ area q)
    → octets_from other first n ≡ octets_from area first n
unfolding octets_from
octets_same area other zero first same = refl
octets_same area other (suc n) first same =
    ap₂ ◌++◌ (same first (omega arith) (omega arith))
    (octets_same area other n (suc first) (λ q low high. same q (omega arith) (omega arith)))
