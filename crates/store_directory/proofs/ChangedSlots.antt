-- A slot that was changed, and the directory's stores then.
use Rattle.std.proofs.Common.{◌≡◌, ℕ, zero, suc, true, List, [], ◌∷◌, nat_eq, refl, sym, ap, subst, ◌∙◌, arith}
use Rattle.std.specs.Prelude.{Option, Some, None, slice_get}
use Rattle.indexmap.specs.Layout.{length-set_value_at, set_value_at}
use Rattle.store_directory.specs.Changes.{change_store}
use Rattle.store_directory.specs.Directory.{Listed, are_distinct, find_store, identifiers, place_of, put_store}
use Rattle.store_directory.specs.Slots.{AreSlots, Held, KeepsSlot, listed_of, sizes_of, stores_of}
use Rattle.store_directory.specs.declared.slot.Slot.{Slot}
use Rattle.store_directory.proofs.Held.{Entries, each-written, entry-at, identifiers-written, reserved-written, shown-at, sizes-written, stores-written}
use Rattle.store_directory.proofs.Places.{absent-position, find-absent, find-first, first-position, own-first, put-first, IsFirst}

-- the slot at the place of an identifier
pub record StandsAt (identifier : ℕ) (es : Entries) (i k : ℕ) (s : Slot) : Type 0 where
  pub place : place_of identifier (stores_of es) ≡ Some i
  pub there : slice_get es i ≡ Some (k, s)

pub found : (identifier : ℕ) (es : Entries) (i k : ℕ) (s : Slot) → StandsAt identifier es i k s → find_store identifier (stores_of es) ≡ Some (listed_of s)
found identifier es i k s at =
    find-first identifier (stores_of es) i (first-position (nat_eq identifier) (identifiers (stores_of es)) i at.place) ∙ shown-at es i k s at.there

pub own : (identifier : ℕ) (es : Entries) (i k : ℕ) (s : Slot) → StandsAt identifier es i k s → identifier ≡ s.row.identifier
own identifier es i k s at =
    own-first identifier (stores_of es) i (listed_of s) (first-position (nat_eq identifier) (identifiers (stores_of es)) i at.place) (shown-at es i k s at.there)

-- a slot of the same identifier, written at the place
pub put-written : (identifier : ℕ) (es : Entries) (i k : ℕ) (s new : Slot) → StandsAt identifier es i k s → new.row.identifier ≡ identifier
    → put_store (listed_of new) (stores_of es) ≡ stores_of (set_value_at es i new)
put-written identifier es i k s new at same =
    let first = first-position (nat_eq identifier) (identifiers (stores_of es)) i at.place in
    put-first (listed_of new) (stores_of es) i (subst (λ n. IsFirst (nat_eq n) (identifiers (stores_of es)) i) (sym same) first)
    ∙ sym (stores-written es i new)

module _ (identifier : ℕ) (change : Listed → Option Listed) (es : Entries) (i k : ℕ) (s new : Slot) where
  pub changed : StandsAt identifier es i k s → change (listed_of s) ≡ Some (listed_of new) → new.row ≡ s.row
      → change_store identifier change (stores_of es) ≡ Some (stores_of (set_value_at es i new))
  changed at is row =
      let same : new.row.identifier ≡ identifier = ap (λ r. r.identifier) row ∙ sym (own identifier es i k s at) in
      rw (found identifier es i k s at, is) (ap Some (put-written identifier es i k s new at same))

  pub refused : StandsAt identifier es i k s → change (listed_of s) ≡ None → change_store identifier change (stores_of es) ≡ None
  refused at is = rw (found identifier es i k s at, is) refl

pub missing : (identifier : ℕ) (change : Listed → Option Listed) (stores : List Listed) → place_of identifier stores ≡ None → change_store identifier change stores ≡ None
missing identifier change stores none = rw (find-absent identifier stores (absent-position (nat_eq identifier) (identifiers stores) none)) refl

pub slots-kept : (es : Entries) (i k : ℕ) (s new : Slot) → slice_get es i ≡ Some (k, s) → KeepsSlot s new → AreSlots es → AreSlots (set_value_at es i new)
slots-kept es i k s new there keeps slots =
    let entry = entry-at es i k s there slots.each in
    let identifier : new.row.identifier ≡ s.row.identifier = ap (λ r. r.identifier) keeps.row in
    let size : new.row.size ≡ s.row.size = ap (λ r. r.size) keeps.row in
    record {
      few = omega (arith, length-set_value_at es i new, slots.few);
      reserved = omega (arith, reserved-written es i k s new there, size, slots.reserved);
      distinct = subst (λ l. are_distinct l ≡ true) (sym (identifiers-written es i k s new there identifier)) slots.distinct;
      each = each-written es i k s new there (record { own = identifier ∙ entry.own; slot = keeps.slot entry.slot }) slots.each;
    }

-- a slot that is written back as it was
pub written-back : (es : Entries) (i k : ℕ) (s : Slot) → slice_get es i ≡ Some (k, s) → set_value_at es i s ≡ es
written-back [] i k s there = refl
written-back (e ∷ es) zero k s there = ap (λ (f : ℕ × Slot). f ∷ es) (entry (k, s) there)
  where
    entry : (f : ℕ × Slot) → Some e ≡ Some f → ◌≡◌ {A = ℕ × Slot} (e.0, f.1) e
    entry f same = cc
written-back (e ∷ es) (suc i) k s there = ap (λ l. e ∷ l) (written-back es i k s there)

-- what the entries show
abbrev pub shown : Entries → Held
shown es = record { stores = stores_of es; sizes = sizes_of es }

-- What was shown before, and the slot at the place of an identifier.
pub record Before (identifier : ℕ) (es : Entries) (now : Held) (i k : ℕ) (s : Slot) : Type 0 where
  pub view : shown es ≡ now
  pub at : StandsAt identifier es i k s

pub before : (identifier : ℕ) (es : Entries) (now : Held) (i k : ℕ) (s : Slot) → shown es ≡ now → place_of identifier now.stores ≡ Some i → slice_get es i ≡ Some (k, s) → Before identifier es now i k s
before identifier es now i k s view place there = record { view = view; at = record { place = ap (λ h. place_of identifier h.stores) view ∙ place; there = there } }

module _ (identifier : ℕ) (change : Listed → Option Listed) (es : Entries) (now : Held) (i k : ℕ) (s new : Slot) where
  pub changed-store : Before identifier es now i k s → KeepsSlot s new → change (listed_of s) ≡ Some (listed_of new)
      → change_store identifier change now.stores ≡ Some (stores_of (set_value_at es i new))
  changed-store b keeps is = ap (λ h. change_store identifier change h.stores) (sym b.view) ∙ changed identifier change es i k s new b.at is keeps.row

  pub refused-store : Before identifier es now i k s → (change (listed_of s) ≡ None) × (new ≡ s)
      → (change_store identifier change now.stores ≡ None) × (shown (set_value_at es i new) ≡ now)
  refused-store b err = (
    ap (λ h. change_store identifier change h.stores) (sym b.view) ∙ refused identifier change es i k s new b.at err.0,
    ap (λ t. shown (set_value_at es i t)) err.1 ∙ ap shown (written-back es i k s b.at.there) ∙ b.view,
  )

  pub same-sizes : Before identifier es now i k s → KeepsSlot s new → sizes_of (set_value_at es i new) ≡ now.sizes
  same-sizes b keeps = sizes-written es i k s new b.at.there keeps.largest ∙ ap (λ h. h.sizes) b.view
