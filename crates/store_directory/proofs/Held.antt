-- The entries of the map of stores, and what they show.
use Rattle.std.proofs.Common.{◌≡◌, ℕ, zero, suc, ◌+◌, Bool, true, false, cond, List, [], ◌∷◌, ◌++◌, nat_eq, slice_set, refl, sym, ap, subst, ◌∙◌, arith}
use Rattle.std.specs.Prelude.{Some, slice_get, position}
use Rattle.std.specs.List.{All}
use Rattle.std.specs.Map.{keys_of, remove_entry}
use Rattle.std.specs.Option.{option_map}
use Rattle.std.proofs.lemmas.List.{map-append}
use Rattle.std.proofs.lemmas.List.Elements.{All-cons, All-head, All-tail}
use Rattle.std.proofs.lemmas.Option.{get_or_from_slice_get, slice_get-map, slice_get_within}
use Rattle.indexmap.specs.Layout.{set_value_at}
use Rattle.block_pool.specs.Sizes.{blocks_for_size}
use Rattle.store_directory.specs.Directory.{identifiers, place_of, reserved_by, without_store}
use Rattle.store_directory.specs.Slots.{IsEntry, listed_of, sizes_of, stores_of}
use Rattle.store_directory.specs.declared.slot.Slot.{Slot}

abbrev pub Entries : Type 0
Entries = List (ℕ × Slot)

both : {X : Type 0} {x y : X} {xs ys : List X} → x ≡ y → xs ≡ ys → x ∷ xs ≡ y ∷ ys
both a b = rw (a, b) refl

-- the identifiers of the stores are the keys
pub identifiers-keys : (es : Entries) → All IsEntry es → identifiers (stores_of es) ≡ keys_of es
identifiers-keys [] each = refl
identifiers-keys (e ∷ es) each = both (All-head IsEntry e es each).own (identifiers-keys es (All-tail IsEntry e es each))

pub place-keys : (identifier : ℕ) (es : Entries) → All IsEntry es → position (nat_eq identifier) (keys_of es) ≡ place_of identifier (stores_of es)
place-keys identifier es each = ap (position (nat_eq identifier)) (sym (identifiers-keys es each))

-- the entry at a place

pub entry-at : (es : Entries) (i k : ℕ) (s : Slot) → slice_get es i ≡ Some (k, s) → All IsEntry es → IsEntry (k, s)
entry-at es i k s there each = subst IsEntry (get_or_from_slice_get es i (k, s) (k, s) there) (each i (k, s) (slice_get_within es i (k, s) there))

pub shown-at : (es : Entries) (i k : ℕ) (s : Slot) → slice_get es i ≡ Some (k, s) → slice_get (stores_of es) i ≡ Some (listed_of s)
shown-at es i k s there = slice_get-map (λ (e : ℕ × Slot). listed_of e.1) es i ∙ ap (option_map (λ (e : ℕ × Slot). listed_of e.1)) there

-- a slot written at a place

pub stores-written : (es : Entries) (i : ℕ) (new : Slot) → stores_of (set_value_at es i new) ≡ slice_set (stores_of es) i (listed_of new)
stores-written [] i new = refl
stores-written (e ∷ es) zero new = refl
stores-written (e ∷ es) (suc i) new = ap (λ l. listed_of e.1 ∷ l) (stores-written es i new)

pub each-written : (es : Entries) (i k : ℕ) (s new : Slot) → slice_get es i ≡ Some (k, s) → IsEntry (k, new) → All IsEntry es → All IsEntry (set_value_at es i new)
each-written [] i k s new there entry each = each
each-written (e ∷ es) zero k s new there entry each = All-cons IsEntry (e.0, new) es (subst (λ n. IsEntry (n, new)) (sym (key (k, s) there)) entry) (All-tail IsEntry e es each)
  where
    key : (f : ℕ × Slot) → Some e ≡ Some f → e.0 ≡ f.0
    key f same = cc
each-written (e ∷ es) (suc i) k s new there entry each =
    All-cons IsEntry e (set_value_at es i new) (All-head IsEntry e es each) (each-written es i k s new there entry (All-tail IsEntry e es each))

pub sizes-written : (es : Entries) (i k : ℕ) (s new : Slot) → slice_get es i ≡ Some (k, s) → new.largest ≡ s.largest → sizes_of (set_value_at es i new) ≡ sizes_of es
sizes-written [] i k s new there same = refl
sizes-written (e ∷ es) zero k s new there same = ap (λ n. (e.0, n) ∷ sizes_of es) (same ∙ sym (size (k, s) there))
  where
    size : (f : ℕ × Slot) → Some e ≡ Some f → e.1.largest ≡ f.1.largest
    size f is = cc
sizes-written (e ∷ es) (suc i) k s new there same = ap (λ l. (e.0, e.1.largest) ∷ l) (sizes-written es i k s new there same)

-- what depends on the rows alone stays where the row does

pub identifiers-written : (es : Entries) (i k : ℕ) (s new : Slot) → slice_get es i ≡ Some (k, s) → new.row.identifier ≡ s.row.identifier
    → identifiers (stores_of (set_value_at es i new)) ≡ identifiers (stores_of es)
identifiers-written [] i k s new there same = refl
identifiers-written (e ∷ es) zero k s new there same = ap (λ n. n ∷ identifiers (stores_of es)) (same ∙ sym (own (k, s) there))
  where
    own : (f : ℕ × Slot) → Some e ≡ Some f → e.1.row.identifier ≡ f.1.row.identifier
    own f is = cc
identifiers-written (e ∷ es) (suc i) k s new there same = ap (λ l. e.1.row.identifier ∷ l) (identifiers-written es i k s new there same)

pub reserved-written : (es : Entries) (i k : ℕ) (s new : Slot) → slice_get es i ≡ Some (k, s)
    → reserved_by (stores_of (set_value_at es i new)) + blocks_for_size s.row.size ≡ reserved_by (stores_of es) + blocks_for_size new.row.size
reserved-written [] i k s new there = absurd cc
reserved-written (e ∷ es) zero k s new there =
    let same : blocks_for_size e.1.row.size ≡ blocks_for_size s.row.size = ap blocks_for_size (size (k, s) there) in
    omega (arith, same)
  where
    size : (f : ℕ × Slot) → Some e ≡ Some f → e.1.row.size ≡ f.1.row.size
    size f is = cc
reserved-written (e ∷ es) (suc i) k s new there = omega (arith, reserved-written es i k s new there)

-- an entry behind the others

pub stores-pushed : (es : Entries) (k : ℕ) (s : Slot) → stores_of (es ++ (k, s) ∷ []) ≡ stores_of es ++ listed_of s ∷ []
stores-pushed es k s = map-append (λ (e : ℕ × Slot). listed_of e.1) es ((k, s) ∷ [])

-- a removed entry

removed : (e : ℕ × Slot) (es rest : Entries) (test : Bool) → stores_of (cond test es (e ∷ rest)) ≡ cond test (stores_of es) (listed_of e.1 ∷ stores_of rest)
removed e es rest true = refl
removed e es rest false = refl

pub stores-removed : (identifier : ℕ) (es : Entries) → All IsEntry es → stores_of (remove_entry (nat_eq identifier) es) ≡ without_store identifier (stores_of es)
stores-removed identifier [] each = refl
stores-removed identifier (e ∷ es) each =
    removed e es (remove_entry (nat_eq identifier) es) (nat_eq identifier e.0)
    ∙ ap (λ n. cond (nat_eq identifier n) (stores_of es) (listed_of e.1 ∷ stores_of (remove_entry (nat_eq identifier) es))) (sym (All-head IsEntry e es each).own)
    ∙ ap (λ l. cond (nat_eq identifier e.1.row.identifier) (stores_of es) (listed_of e.1 ∷ l)) (stores-removed identifier es (All-tail IsEntry e es each))
