-- The stores where a row was put in the place of the one of a slot, or a slot was put behind the
-- others.
use Rattle.std.proofs.Common.{◌≡◌, ℕ, zero, suc, ◌+◌, ◌<◌, ◌≤◌, Bool, true, false, List, [], ◌∷◌, ◌++◌, length, nat_eq, refl, sym, ap, subst, inl, inr, ◌⊎◌, ◌∙◌, arith, length-append}
use Rattle.std.specs.Prelude.{IfSome, None, Option, Some, nat_lt, slice_get, if◌then◌else◌}
use Rattle.std.proofs.lemmas.Bool.{cond-false, cond-true, eqb-true, lt-ltb}
use Rattle.std.specs.Map.{keys_of, lookup}
use Rattle.indexmap.proofs.MapLemmas.{Missing-position}
use Rattle.std.proofs.lemmas.List.{length-map}
use Rattle.std.proofs.lemmas.List.Elements.{All-push}
use Rattle.indexmap.specs.Layout.{length-set_value_at, set_value_at}
use Rattle.block_pool.specs.Sizes.{blocks_for_size}
use Rattle.store_directory.specs.Changes.{listed_by, put_row}
use Rattle.store_directory.specs.Directory.{Listed, are_distinct, find_store, identifiers, place_of, put_store, reserved_by, trimmed}
use Rattle.store_directory.specs.Rows.{is_lawful_row}
use Rattle.store_directory.specs.Slots.{AreSlots, Held, IsEntry, AddsStore, HasOwnSizes, IsSlot, PutsRow, PutsStore, greater, largest_in, listed_of, size_of, sizes_of, stores_of}
use Rattle.store_directory.specs.Views.{listed_as}
use Rattle.store_directory.specs.declared.row.Row.{Row}
use Rattle.store_directory.specs.declared.slot.Slot.{Slot}
use Rattle.store_directory.proofs.ChangedSlots.{StandsAt, found, own, put-written, shown, written-back}
use Rattle.store_directory.proofs.Held.{Entries, each-written, entry-at, identifiers-written, identifiers-keys, place-keys, reserved-written, shown-at, stores-pushed}
use Rattle.store_directory.proofs.Places.{IsAbsent, IsFirst, absent-position, find-absent, find-last, find-other, first-position, put-absent}
use Rattle.store_directory.proofs.Puts.{distinct-pushed, linked, put-is, trimmed-none}
use Rattle.store_directory.proofs.Sizes.{largest-first, largest-pushed, largest-written}
use Rattle.store_directory.proofs.Reserved.{reserved-pushed}

-- a row that is put in the place of the one at the place of its identifier
module _ (row : Row) (es : Entries) (i k : ℕ) (s new : Slot) (slots : AreSlots es) (at : StandsAt row.identifier es i k s) where
  -- what the row makes of the slot's store
  listed : listed_by row (find_store row.identifier (stores_of es)) ≡ listed_by row (Some (listed_of s))
  listed = ap (listed_by row) (found row.identifier es i k s at)

  blocks : reserved_by (stores_of es) + blocks_for_size row.size ≤ 504 + blocks_for_size s.row.size → new.row.size ≡ row.size → reserved_by (stores_of (set_value_at es i new)) ≤ 504
  blocks most size = omega (arith, most, reserved-written es i k s new at.there, ap blocks_for_size size)

  pub slots-put : PutsRow row s new → reserved_by (stores_of es) + blocks_for_size row.size ≤ 504 + blocks_for_size s.row.size → AreSlots (set_value_at es i new)
  slots-put puts most =
      let is : new.row ≡ row = ap (λ l. l.row) puts.listed in
      let same : new.row.identifier ≡ s.row.identifier = ap (λ r. r.identifier) is ∙ own row.identifier es i k s at in
      let entry = entry-at es i k s at.there slots.each in
      record {
        few = omega (arith, length-set_value_at es i new, slots.few);
        reserved = blocks most (ap (λ r. r.size) is);
        distinct = subst (λ l. are_distinct l ≡ true) (sym (identifiers-written es i k s new at.there same)) slots.distinct;
        each = each-written es i k s new at.there (record { own = same ∙ entry.own; slot = puts.slot }) slots.each;
      }

  pub row-put : PutsRow row s new → is_lawful_row row ≡ true → reserved_by (stores_of es) + blocks_for_size row.size ≤ 504 + blocks_for_size s.row.size
      → put_row row (stores_of es) ≡ Some (stores_of (set_value_at es i new))
  row-put puts lawful most =
      let is : new.row ≡ row = ap (λ l. l.row) puts.listed in
      let after = set_value_at es i new in
      put-is row (stores_of es) (listed_of new) (stores_of after) (listed ∙ sym puts.listed) (put-written row.identifier es i k s new at (ap (λ r. r.identifier) is))
      (record {
        lawful = ap is_lawful_row is ∙ lawful;
        few = omega (arith, length-map after (λ (e : ℕ × Slot). listed_of e.1), length-set_value_at es i new, slots.few);
        reserved = blocks most (ap (λ r. r.size) is);
        links = puts.slot.listed.links;
      })

  pub row-linked : blocks_for_size row.size < length (trimmed row.first row.count s.links.items) → put_row row (stores_of es) ≡ None
  row-linked many = linked row (stores_of es) (listed_by row (Some (listed_of s))) (put_store (listed_by row (Some (listed_of s))) (stores_of es)) listed refl many

  first : IsFirst (nat_eq row.identifier) (keys_of es) i
  first =
      subst (λ l. IsFirst (nat_eq row.identifier) l i) (identifiers-keys es slots.each)
      (first-position (nat_eq row.identifier) (identifiers (stores_of es)) i at.place)

  pub was-largest : largest_in (sizes_of es) row.identifier ≡ s.largest
  was-largest = largest-first row.identifier es i k s first at.there

  pub sizes-put : PutsRow row s new → (identifier : ℕ) → largest_in (sizes_of (set_value_at es i new)) identifier
      ≡ (if nat_eq identifier row.identifier then greater (largest_in (sizes_of es) row.identifier) row.size else largest_in (sizes_of es) identifier)
  sizes-put puts identifier =
      largest-written row.identifier es i new first identifier
      ∙ ap (λ n. if nat_eq identifier row.identifier then n else largest_in (sizes_of es) identifier) (puts.largest ∙ ap (λ n. greater n row.size) (sym was-largest))

-- a slot that is put behind the others, whose identifier none of them has
module _ (es : Entries) (new : Slot) (slots : AreSlots es) (fresh : place_of new.row.identifier (stores_of es) ≡ None) where
  absent : IsAbsent (nat_eq new.row.identifier) (identifiers (stores_of es))
  absent = absent-position (nat_eq new.row.identifier) (identifiers (stores_of es)) fresh

  abbrev pub pushed : Entries
  pushed = es ++ (new.row.identifier, new) ∷ []

  stores-are : stores_of pushed ≡ stores_of es ++ listed_of new ∷ []
  stores-are = stores-pushed es new.row.identifier new

  reserved-are : reserved_by (stores_of pushed) ≡ reserved_by (stores_of es) + blocks_for_size new.row.size
  reserved-are = ap reserved_by stores-are ∙ reserved-pushed (stores_of es) (listed_of new)

  pub slots-pushed : IsSlot new → length es < 32 → reserved_by (stores_of es) + blocks_for_size new.row.size ≤ 504 → AreSlots pushed
  slots-pushed slot few most = record {
    few = omega (arith, length-append es ((new.row.identifier, new) ∷ []), few);
    reserved = omega (arith, reserved-are, most);
    distinct = subst (λ l. are_distinct (identifiers l) ≡ true) (sym stores-are) (distinct-pushed (stores_of es) (listed_of new) slots.distinct absent);
    each = All-push IsEntry es (new.row.identifier, new) slots.each (record { own = refl; slot = slot });
  }

  absent_key : IsAbsent (nat_eq new.row.identifier) (keys_of es)
  absent_key = subst (λ l. IsAbsent (nat_eq new.row.identifier) l) (identifiers-keys es slots.each) absent

  pub sizes-pushed : (identifier : ℕ) → largest_in (sizes_of pushed) identifier ≡ (if nat_eq identifier new.row.identifier then new.largest else largest_in (sizes_of es) identifier)
  sizes-pushed identifier = largest-pushed new.row.identifier es new absent_key identifier

-- What is known where a slot is to take a row.
pub record Replaces (row : Row) (es : Entries) (now : Held) (i k : ℕ) (s : Slot) : Type 0 where
  pub view : shown es ≡ now
  pub slots : AreSlots es
  pub at : StandsAt row.identifier es i k s
  pub most : reserved_by (stores_of es) + blocks_for_size row.size ≤ 504 + blocks_for_size s.row.size

pub replaces : (row : Row) (es : Entries) (now : Held) (i k : ℕ) (s : Slot) → shown es ≡ now → AreSlots es → place_of row.identifier now.stores ≡ Some i → slice_get es i ≡ Some (k, s)
    → IfSome (slice_get now.stores i) (λ t. reserved_by now.stores + blocks_for_size row.size ≤ 504 + blocks_for_size t.size) → Replaces row es now i k s
replaces row es now i k s view slots place there most = record {
  view = view;
  slots = slots;
  at = record { place = ap (λ h. place_of row.identifier h.stores) view ∙ place; there = there };
  most =
      subst (λ (o : Option Listed). IfSome o (λ t. reserved_by (stores_of es) + blocks_for_size row.size ≤ 504 + blocks_for_size t.size)) (shown-at es i k s there)
      (subst (λ (h : Held). IfSome (slice_get h.stores i) (λ t. reserved_by h.stores + blocks_for_size row.size ≤ 504 + blocks_for_size t.size)) (sym view) most);
}

module _ (row : Row) (es : Entries) (now : Held) (i k : ℕ) (s new : Slot) (r : Replaces row es now i k s) where
  pub kept-after : PutsRow row s new ⊎ (new ≡ s) → AreSlots (set_value_at es i new)
  kept-after (inl puts) = slots-put row es i k s new r.slots r.at puts r.most
  kept-after (inr same) = subst AreSlots (sym (ap (set_value_at es i) same ∙ written-back es i k s r.at.there)) r.slots

  pub puts-after : is_lawful_row row ≡ true → PutsRow row s new → PutsStore row now (shown (set_value_at es i new))
  puts-after lawful puts = record {
    stores = ap (λ h. put_row row h.stores) (sym r.view) ∙ row-put row es i k s new r.slots r.at puts lawful r.most;
    largest = λ identifier. sizes-put row es i k s new r.slots r.at puts identifier
        ∙ ap (λ h. if nat_eq identifier row.identifier then greater (largest_in h.sizes row.identifier) row.size else largest_in h.sizes identifier) r.view;
  }

  pub unfit-after : blocks_for_size row.size < length (trimmed row.first row.count s.links.items) → put_row row now.stores ≡ None
  unfit-after many = ap (λ h. put_row row h.stores) (sym r.view) ∙ row-linked row es i k s new r.slots r.at many

  pub largest-before : largest_in now.sizes row.identifier ≡ s.largest
  largest-before = ap (λ h. largest_in h.sizes row.identifier) (sym r.view) ∙ was-largest row es i k s new r.slots r.at

  pub same-after : new ≡ s → shown (set_value_at es i new) ≡ now
  same-after same = ap (λ t. shown (set_value_at es i t)) same ∙ ap shown (written-back es i k s r.at.there) ∙ r.view

-- What is known where a slot is to go behind the others.
pub record Pushes (es : Entries) (now : Held) (new : Slot) : Type 0 where
  pub view : shown es ≡ now
  pub slots : AreSlots es
  pub fresh : place_of new.row.identifier (stores_of es) ≡ None
  pub few : length es < 32
  pub most : reserved_by (stores_of es) + blocks_for_size new.row.size ≤ 504
  pub slot : IsSlot new

pub pushes : (es : Entries) (now : Held) (new : Slot) → shown es ≡ now → AreSlots es → place_of new.row.identifier now.stores ≡ None → length now.stores < 32
    → reserved_by now.stores + blocks_for_size new.row.size ≤ 504 → IsSlot new → Pushes es now new
pushes es now new view slots fresh few most slot = record {
  view = view;
  slots = slots;
  fresh = ap (λ h. place_of new.row.identifier h.stores) view ∙ fresh;
  few = omega (arith, length-map es (λ (e : ℕ × Slot). listed_of e.1), ap (λ h. length h.stores) view, few);
  most = omega (arith, ap (λ h. reserved_by h.stores) view, most);
  slot = slot;
}

module _ (es : Entries) (now : Held) (new : Slot) (r : Pushes es now new) where
  pub kept-pushed : AreSlots (pushed es new r.slots r.fresh)
  kept-pushed = slots-pushed es new r.slots r.fresh r.slot r.few r.most

  pub adds-pushed : AddsStore (listed_of new) new.largest now (shown (pushed es new r.slots r.fresh))
  adds-pushed = record {
    fresh = ap (λ h. place_of new.row.identifier h.stores) (sym r.view) ∙ r.fresh;
    stores = stores-pushed es new.row.identifier new ∙ ap (λ h. h.stores ++ listed_of new ∷ []) r.view;
    largest = λ identifier. sizes-pushed es new r.slots r.fresh identifier
        ∙ ap (λ h. if nat_eq identifier new.row.identifier then new.largest else largest_in h.sizes identifier) r.view;
  }

-- the map has no entry of an identifier that no store has
pub no-entry : (identifier : ℕ) (es : Entries) (now : Held) → shown es ≡ now → AreSlots es → place_of identifier now.stores ≡ None → lookup (nat_eq identifier) es ≡ None
no-entry identifier es now view slots none =
    (Missing-position (nat_eq identifier) es (place-keys identifier es slots.each ∙ ap (λ h. place_of identifier h.stores) view ∙ none)).value

-- a row that is put behind the others, where no store has its identifier
pub row-behind : (row : Row) (stores : List Listed) → place_of row.identifier stores ≡ None → is_lawful_row row ≡ true → length stores < 32 → reserved_by stores + blocks_for_size row.size ≤ 504
    → put_row row stores ≡ Some (stores ++ listed_as row [] [] ∷ [])
row-behind row stores fresh lawful few most =
    let absent = absent-position (nat_eq row.identifier) (identifiers stores) fresh in
    let new = listed_as row [] [] in
    let listed : listed_by row (find_store row.identifier stores) ≡ new =
    ap (listed_by row) (find-absent row.identifier stores absent) ∙ ap (listed_as row []) (trimmed-none row.first row.count)
    in
    put-is row stores new (stores ++ new ∷ []) listed (put-absent new stores absent)
    (record { lawful = lawful; few = omega (arith, length-append stores (new ∷ []), few); reserved = omega (arith, reserved-pushed stores new, most); links = omega arith })

greater-none : (size : ℕ) → greater 0 size ≡ size
greater-none zero = refl
greater-none (suc size) = cond-true (nat_lt 0 (suc size)) (suc size) 0 (lt-ltb 0 (suc size) (omega arith))

-- a new store was put
pub puts-new : (row : Row) (size : ℕ) (listed : Listed) (old new : Held) → AddsStore listed size old new → listed ≡ listed_as row [] [] → size ≡ row.size → place_of row.identifier old.stores ≡ None
    → largest_in old.sizes row.identifier ≡ 0 → is_lawful_row row ≡ true → length old.stores < 32 → reserved_by old.stores + blocks_for_size row.size ≤ 504 → PutsStore row old new
puts-new row size store old new adds is large fresh none lawful few most = record {
  stores = row-behind row old.stores fresh lawful few most ∙ ap Some (ap (λ (l : Listed). old.stores ++ l ∷ []) (sym is) ∙ sym adds.stores);
  largest = λ identifier. adds.largest identifier
      ∙ (λ i. if nat_eq identifier (is i).row.identifier then large i else largest_in old.sizes identifier)
      ∙ ap (λ (n : ℕ). if nat_eq identifier row.identifier then n else largest_in old.sizes identifier) (sym (ap (λ (n : ℕ). greater n row.size) none ∙ greater-none row.size));
}

-- a store that was added, which has been no greater than it is
pub own-sizes : (listed : Listed) (old new : Held) → AddsStore listed listed.size old new → HasOwnSizes old → HasOwnSizes new
own-sizes listed old new adds own identifier = by (nat_eq identifier listed.identifier) refl
  where
    absent : IsAbsent (nat_eq listed.identifier) (identifiers old.stores)
    absent = absent-position (nat_eq listed.identifier) (identifiers old.stores) adds.fresh

    by : (test : Bool) → nat_eq identifier listed.identifier ≡ test → largest_in new.sizes identifier ≡ size_of (find_store identifier new.stores)
    by true same =
        adds.largest identifier
        ∙ cond-true (nat_eq identifier listed.identifier) listed.size (largest_in old.sizes identifier) same
        ∙ sym (ap size_of (ap (find_store identifier) adds.stores ∙ ap (λ (n : ℕ). find_store n (old.stores ++ listed ∷ [])) (eqb-true identifier listed.identifier same) ∙ find-last listed old.stores absent))
    by false other =
        adds.largest identifier
        ∙ cond-false (nat_eq identifier listed.identifier) listed.size (largest_in old.sizes identifier) other
        ∙ own identifier
        ∙ sym (ap size_of (ap (find_store identifier) adds.stores ∙ find-other identifier listed old.stores other))
