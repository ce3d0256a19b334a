-- The greatest size of the store of each identifier, where an entry is written, added or taken out.
use Rattle.std.proofs.Common.{◌≡◌, ℕ, zero, suc, Bool, true, false, cond, not, List, [], ◌∷◌, ◌++◌, nat_eq, refl, sym, ap, subst, ◌∙◌, arith}
use Rattle.std.specs.Prelude.{◌≤◌, Some, if◌then◌else◌, slice_get}
use Rattle.std.specs.List.{All}
use Rattle.std.specs.Map.{keys_of, remove_entry}
use Rattle.std.proofs.lemmas.Bool.{and_parts, cond-false, cond-true, eq-eqb, eqb-false, eqb-true, false_from_ne_true, not-true}
use Rattle.std.proofs.lemmas.List.Elements.{All-head, All-tail}
use Rattle.indexmap.specs.Layout.{set_value_at}
use Rattle.store_directory.specs.Directory.{are_distinct, find_store, is_new}
use Rattle.store_directory.specs.Slots.{AreWithin, IsEntry, largest_in, size_of, sizes_of, stores_of}
use Rattle.store_directory.specs.declared.slot.Slot.{Slot}
use Rattle.store_directory.proofs.Held.{Entries}
use Rattle.store_directory.proofs.Places.{IsAbsent, IsFirst}

abbrev largest : Entries → ℕ → ℕ
largest es = largest_in (sizes_of es)

either : {P : Type 0} (test : Bool) → (test ≡ true → P) → (test ≡ false → P) → P
either true passes fails = passes refl
either false passes fails = fails refl

-- the first entry is not the one that is looked for
passed : (e : ℕ × Slot) (es : Entries) (other : ℕ) → nat_eq other e.0 ≡ false → largest (e ∷ es) other ≡ largest es other
passed e es other apart = cond-false (nat_eq other e.0) e.1.largest (largest es other) apart

here : (e : ℕ × Slot) (es : Entries) (other : ℕ) → nat_eq other e.0 ≡ true → largest (e ∷ es) other ≡ e.1.largest
here e es other same = cond-true (nat_eq other e.0) e.1.largest (largest es other) same

-- a number that equals one of two that differ is not the other
apart_by : (a b c : ℕ) → nat_eq a b ≡ false → nat_eq c b ≡ true → nat_eq c a ≡ false
apart_by a b c apart same = false_from_ne_true (nat_eq c a) (λ is. eqb-false a b apart (sym (eqb-true c a is) ∙ eqb-true c b same))

module _ (identifier : ℕ) where
  -- what stands under an identifier afterwards, where it was this before
  abbrev pub IsNow : (size : ℕ) → (old new : ℕ → ℕ) → Type 0
  IsNow size old new = (other : ℕ) → new other ≡ (if nat_eq other identifier then size else old other)

  -- by the entry at the front, which another one follows
  front : (size : ℕ) (e : ℕ × Slot) (old new : Entries) → nat_eq identifier e.0 ≡ false → IsNow size (largest old) (largest new) → IsNow size (largest (e ∷ old)) (largest (e ∷ new))
  front size e old new apart rest other =
      either (nat_eq other e.0) (
      λ same.
      here e new other same
      ∙ sym (here e old other same)
      ∙ sym (cond-false (nat_eq other identifier) size (largest (e ∷ old) other) (apart_by identifier e.0 other apart same))
      ) (
      λ later.
      passed e new other later ∙ rest other
      ∙ ap (λ n. if nat_eq other identifier then size else n) (sym (passed e old other later))
      )

  pub largest-written : (es : Entries) (i : ℕ) (new : Slot) → IsFirst (nat_eq identifier) (keys_of es) i → IsNow new.largest (largest es) (largest (set_value_at es i new))
  largest-written [] i new first other = absurd first
  largest-written (e ∷ es) zero new first other =
      either (nat_eq other e.0) (
      λ same.
      here (e.0, new) es other same
      ∙ sym (cond-true (nat_eq other identifier) new.largest (largest (e ∷ es) other) (eq-eqb other identifier (eqb-true other e.0 same ∙ sym (eqb-true identifier e.0 first))))
      ) (
      λ later.
      passed (e.0, new) es other later ∙ sym (passed e es other later)
      ∙ sym (cond-false (nat_eq other identifier) new.largest (largest (e ∷ es) other)
      (false_from_ne_true (nat_eq other identifier) (λ is. eqb-false other e.0 later (eqb-true other identifier is ∙ eqb-true identifier e.0 first))))
      )
  largest-written (e ∷ es) (suc i) new first other = front new.largest e es (set_value_at es i new) first.0 (largest-written es i new first.1) other

  pub largest-pushed : (es : Entries) (new : Slot) → IsAbsent (nat_eq identifier) (keys_of es) → IsNow new.largest (largest es) (largest (es ++ (identifier, new) ∷ []))
  largest-pushed [] new absent other = refl
  largest-pushed (e ∷ es) new absent other = front new.largest e es (es ++ (identifier, new) ∷ []) absent.0 (largest-pushed es new absent.1) other

  pub largest-absent : (es : Entries) → IsAbsent (nat_eq identifier) (keys_of es) → largest es identifier ≡ 0
  largest-absent [] absent = refl
  largest-absent (e ∷ es) absent = passed e es identifier absent.0 ∙ largest-absent es absent.1

  pub largest-first : (es : Entries) (i k : ℕ) (s : Slot) → IsFirst (nat_eq identifier) (keys_of es) i → slice_get es i ≡ Some (k, s) → largest es identifier ≡ s.largest
  largest-first [] i k s first there = absurd first
  largest-first (e ∷ es) zero k s first there = here e es identifier first ∙ size (k, s) there
    where
      size : (f : ℕ × Slot) → Some e ≡ Some f → e.1.largest ≡ f.1.largest
      size f is = cc
  largest-first (e ∷ es) (suc i) k s first there = passed e es identifier first.0 ∙ largest-first es i k s first.1 there

  -- a number that is new to a list is none of it
  new-absent : (numbers : List ℕ) → is_new identifier numbers ≡ true → IsAbsent (nat_eq identifier) numbers
  new-absent [] new = tt
  new-absent (number ∷ numbers) new =
      let parts = and_parts (not (nat_eq identifier number)) (is_new identifier numbers) new in
      (not-true (nat_eq identifier number) parts.0, new-absent numbers parts.1)

  removed : (e : ℕ × Slot) (es rest : Entries) (test : Bool) → test ≡ false → cond test es (e ∷ rest) ≡ e ∷ rest
  removed e es rest test is = cond-false test es (e ∷ rest) is

  pub largest-removed : (es : Entries) → are_distinct (keys_of es) ≡ true → IsNow 0 (largest es) (largest (remove_entry (nat_eq identifier) es))
  largest-removed [] distinct other = either (nat_eq other identifier) (λ is. sym (cond-true (nat_eq other identifier) 0 0 is)) (λ is. sym (cond-false (nat_eq other identifier) 0 0 is))
  largest-removed (e ∷ es) distinct other =
      let parts = and_parts (is_new e.0 (keys_of es)) (are_distinct (keys_of es)) distinct in
      either (nat_eq identifier e.0) (
      λ first.
      ap (λ l. largest l other) (cond-true (nat_eq identifier e.0) es (e ∷ remove_entry (nat_eq identifier) es) first)
      ∙ gone first parts.0
      ) (
      λ apart.
      ap (λ l. largest l other) (cond-false (nat_eq identifier e.0) es (e ∷ remove_entry (nat_eq identifier) es) apart)
      ∙ front 0 e es (remove_entry (nat_eq identifier) es) apart (largest-removed es parts.1) other
      )
    where
      gone : nat_eq identifier e.0 ≡ true → is_new e.0 (keys_of es) ≡ true → largest es other ≡ (if nat_eq other identifier then 0 else largest (e ∷ es) other)
      gone first new =
          let is_key = eqb-true identifier e.0 first in
          either (nat_eq other identifier) (
          λ same.
          ap (largest es) (eqb-true other identifier same)
          ∙ largest-absent es (new-absent (keys_of es) (subst (λ n. is_new n (keys_of es) ≡ true) (sym is_key) new))
          ∙ sym (cond-true (nat_eq other identifier) 0 (largest (e ∷ es) other) same)
          ) (
          λ apart.
          sym (passed e es other (subst (λ n. nat_eq other n ≡ false) is_key apart))
          ∙ sym (cond-false (nat_eq other identifier) 0 (largest (e ∷ es) other) apart)
          )

-- no store is greater than it has been
pub are-within : (es : Entries) → All IsEntry es → AreWithin (record { stores = stores_of es; sizes = sizes_of es })
are-within [] all identifier = omega arith
are-within (e ∷ es) all identifier =
    by (nat_eq identifier e.0) refl (are-within es (All-tail IsEntry e es all) identifier)
  where
    by : (same : Bool) → nat_eq identifier e.0 ≡ same → size_of (find_store identifier (stores_of es)) ≤ largest es identifier
        → size_of (find_store identifier (stores_of (e ∷ es))) ≤ largest (e ∷ es) identifier
    by true is rest =
        let entry = All-head IsEntry e es all in
        rw (is, ap (nat_eq identifier) entry.own ∙ is) entry.slot.within
    by false is rest =
        let entry = All-head IsEntry e es all in
        rw (is, ap (nat_eq identifier) entry.own ∙ is) rest
