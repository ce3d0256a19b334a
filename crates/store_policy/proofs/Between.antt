-- The pages of entries from one position to another.
use Rattle.std.proofs.Common.{◌≡◌, ◌≤◌, ◌<◌, ℕ, ◌+◌, ◌-◌, Bool, true, false, List, Some, length, drop, take, get_or, ap, refl, ◌∙◌, arith}
use Rattle.std.proofs.lemmas.Bool.{leb-false, leb-true}
use Rattle.std.proofs.lemmas.List.{get_or-drop, length-drop}
use Rattle.std.proofs.lemmas.List.Sums.{sum_by-take-drop, sum_by_more, sum_by_more_le}
use Rattle.std.proofs.lemmas.Option.{get_or_from_slice_get}
use Rattle.std.specs.Prelude.{nat_le, slice_get}
use Rattle.time_index.proofs.Entries.{cost}
use Rattle.time_index.specs.TimeIndex.{pages_of}
use Rattle.time_index.specs.declared.entry.Entry.{Entry}

module _ (es : List Entry) (first position : ℕ) (e : Entry) (at : slice_get es position ≡ Some e) (from : first ≤ position) (within : position < length es) where
  there : cost (get_or (drop first es) (position - first) e) ≡ cost e
  there =
      let place : first + (position - first) ≡ position = omega arith in
      ap cost (get_or-drop first es (position - first) e ∙ ap (λ (n : ℕ). get_or es n e) place ∙ get_or_from_slice_get es position e e at)

  -- one entry more
  pub one-more : pages_of (take (position + 1 - first) (drop first es)) ≡ pages_of (take (position - first) (drop first es)) + cost e
  one-more =
      let next : position + 1 - first ≡ position - first + 1 = omega arith in
      ap (λ (n : ℕ). pages_of (take n (drop first es))) next
      ∙ omega (arith, there, sum_by_more cost (drop first es) (position - first) e (omega (arith, length-drop first es)))

  -- and it is within the whole sum
  pub one-more-le : pages_of (take (position - first) (drop first es)) + cost e ≤ pages_of es
  one-more-le =
      omega (arith, there, sum_by_more_le cost (drop first es) (position - first) e (omega (arith, length-drop first es)), sum_by-take-drop cost es first)

-- the span of a loop at its end, which makes no step where it ends before it begins
pub span-is : (first end position : ℕ) → end ≤ position → (first ≤ end → position ≤ end) → (end ≤ first → position ≡ first) → position - first ≡ end - first
span-is first end position past most none = by (nat_le first end) refl
  where
    by : (up : Bool) → nat_le first end ≡ up → position - first ≡ end - first
    by true is = omega (arith, most (leb-true first end is))
    by false is = let before = leb-false first end is in omega (arith, none (omega arith))
