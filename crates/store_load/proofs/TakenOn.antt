-- An index takes the records of extents, one extent after another.
use Rattle.std.proofs.Common.{◌≡◌, ◌≤◌, ℕ, zero, suc, ◌||◌, nat_le, true, List, [], ◌∷◌, length, drop, Option, Some, refl, sym, ◌∙◌, ap, subst, arith}
use Rattle.std.specs.Prelude.{IfSome, slice_get}
use Rattle.record_view.specs.Records.{Meaning}
use Rattle.store_load.specs.Extents.{AreGiven, Extent, IsGiven, last_read, pages_in}
use Rattle.store_load.specs.Held.{AreTaken, IsTaken}
use Rattle.store_load.specs.Loading.{Progress, is_last, take_records}
use Rattle.store_load.specs.declared.loading.Limits.{Limits}

-- the pages that the records in front of a place use
abbrev pub UsedAt : List (List Meaning) → (at used : ℕ) → Type 0
UsedAt all zero used = used ≡ 0
UsedAt all (suc at) used = IfSome (slice_get all at) (λ records. used ≡ pages_in records)

-- all records, of which these stand from a place on
pub record IsWhole (limits : Limits) (least : ℕ) (extents : List Extent) (old : Progress) (at used : ℕ)
    (reads : List (List Meaning)) (new : Progress) : Type 0 where
  pub all : List (List Meaning)
  pub given : AreGiven extents all
  pub taken : AreTaken limits least extents all old new
  pub rest : drop at all ≡ reads
  pub used_is : UsedAt all at used

-- An index is at a place: whatever it takes from there on, it has taken all.
abbrev pub TakesOn : Limits → (least : ℕ) → List Extent → (old : Progress) → (at used : ℕ) → (here : Progress) → Type 0
TakesOn limits least extents old at used here =
    (reads : List (List Meaning)) (new : Progress) → AreGiven (drop at extents) reads
    → AreTaken limits least (drop at extents) reads here new → IsWhole limits least extents old at used reads new

pub takes_first : (limits : Limits) (least : ℕ) (extents : List Extent) (old : Progress) → TakesOn limits least extents old 0 0 old
takes_first limits least extents old reads new given taken =
    record { all = reads; given = given; taken = taken; rest = refl; used_is = refl }

one_more : (at : ℕ) (all rest : List (List Meaning)) (records : List Meaning) → drop at all ≡ records ∷ rest
    → (drop (suc at) all ≡ rest) × (slice_get all at ≡ Some records)
one_more zero [] rest records is = absurd (cc)
one_more zero (first ∷ all) rest records is = (ap (drop 1) is, ap (λ l. slice_get l 0) is)
one_more (suc at) [] rest records is = absurd (cc)
one_more (suc at) (first ∷ all) rest records is = one_more at all rest records is

pub takes_next : (limits : Limits) (least : ℕ) (extents : List Extent) (old : Progress) (at used pages : ℕ) (here next : Progress)
    (extent : Extent) (records : List Meaning) → drop at extents ≡ extent ∷ drop (suc at) extents → IsGiven extent records
    → take_records limits extent.block 0 records here ≡ Some next
    → (is_last (drop (suc at) extents) || nat_le least (pages_in records)) ≡ true → pages ≡ pages_in records
    → TakesOn limits least extents old at used here → TakesOn limits least extents old (suc at) pages next
takes_next limits least extents old at used pages here next extent records are gives took filled cost so_far reads new given taken =
    let whole = so_far (records ∷ reads) new
    (subst (λ (l : List Extent). AreGiven l (records ∷ reads)) (sym are) (gives, given))
    (subst (λ (l : List Extent). AreTaken limits least l (records ∷ reads) here new) (sym are) (next, took, filled, taken)) in
    let (behind, there) = one_more at whole.all reads records whole.rest in
    record {
      all = whole.all;
      given = whole.given;
      taken = whole.taken;
      rest = behind;
      used_is = subst (λ (o : Option (List Meaning)). IfSome o (λ r. pages ≡ pages_in r)) (sym there) cost;
    }

nothing_left : (extents : List Extent) (at : ℕ) → length extents ≤ at → drop at extents ≡ []
nothing_left [] zero h = refl
nothing_left [] (suc at) h = refl
nothing_left (extent ∷ extents) zero h = absurd (omega (arith, h))
nothing_left (extent ∷ extents) (suc at) h = nothing_left extents at (omega (arith, h))

pub given_many : (extents : List Extent) (reads : List (List Meaning)) → AreGiven extents reads → length reads ≡ length extents
given_many [] [] given = refl
given_many [] (records ∷ reads) given = absurd given
given_many (extent ∷ extents) [] given = absurd given
given_many (extent ∷ extents) (records ∷ reads) given = ap suc (given_many extents reads given.1)

last_used : (all : List (List Meaning)) (at used : ℕ) → at ≡ length all → UsedAt all at used → used ≡ pages_in (last_read all)
last_used [] zero used is here = here
last_used [] (suc at) used is here = absurd (omega (arith, is))
last_used (records ∷ all) zero used is here = absurd (omega (arith, is))
last_used (records ∷ []) (suc zero) used is here = here
last_used (records ∷ []) (suc (suc at)) used is here = absurd (omega (arith, is))
last_used (records ∷ next ∷ all) (suc zero) used is here = absurd (omega (arith, is))
last_used (records ∷ next ∷ all) (suc (suc at)) used is here = last_used (next ∷ all) (suc at) used (omega (arith, is)) here

pub takes_last : (limits : Limits) (least : ℕ) (extents : List Extent) (old : Progress) (at used : ℕ) (here : Progress)
    → at ≡ length extents → TakesOn limits least extents old at used here → IsTaken limits least extents old here used
takes_last limits least extents old at used here is so_far =
    let none = nothing_left extents at (omega (arith, is)) in
    let whole = so_far [] here (subst (λ (l : List Extent). AreGiven l []) (sym none) tt)
    (subst (λ (l : List Extent). AreTaken limits least l [] here here) (sym none) refl) in
    record {
      reads = whole.all;
      given = whole.given;
      taken = whole.taken;
      used_is = last_used whole.all at used (is ∙ sym (given_many extents whole.all whole.given)) whole.used_is;
    }
