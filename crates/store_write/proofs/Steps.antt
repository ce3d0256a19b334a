-- One copy more of the records of an index.
use Rattle.std.proofs.Common.{◌≡◌, ℕ, zero, suc, ◌+◌, ◌-◌, ◌%◌, ◌<◌, ◌≤◌, List, [], ◌∷◌, All, length, take, drop}
use Rattle.std.proofs.Common.{Some, Result, Ok, Err, refl, sym, ◌∙◌, ap, subst, arith}
use Rattle.std.specs.Prelude.{IfErr, IsErrAnd, slice_get}
use Rattle.std.proofs.lemmas.List.Elements.{All-head, All-tail}
use Rattle.std.proofs.lemmas.Option.{none-some, same_Some}
use Rattle.chain_log.specs.Copies.{OnMismatch}
use Rattle.chain_log.specs.declared.place.LoadFault.{LoadFault}
use Rattle.chain_log.specs.declared.place.LoadFault.TheVariants.{Flash, Mismatch}
use Rattle.record_view.specs.declared.link.Link.{Link}
use Rattle.space_packet.specs.Charge.{charge_of}
use Rattle.store_directory.specs.Rows.{between}
use Rattle.store_directory.specs.declared.row.Row.{Row}
use Rattle.store_load.specs.Extents.{last_of}
use Rattle.store_load.specs.Renewing.{last_position, renewed_part}
use Rattle.store_load.proofs.RenewedParts.{next_renewed}
use Rattle.time_index.specs.TimeIndex.{TimeIndex, pages_of, with_entry_at}
use Rattle.time_index.specs.declared.entry.Entry.{Entry}
use Rattle.store_write.specs.Moved.{at_place}
use Rattle.store_write.specs.Renewed.{first_in_last}
use Rattle.store_write.proofs.Entries.{as_many, get_dropped, next_is, pages_all, pages_next}

pub at_place_of : {X : Type 0} (P : X → Type 0) (xs : List X) (at : ℕ) (x : X) → All P xs
    → slice_get xs at ≡ Some x → P x
at_place_of P [] at x each is = absurd (none-some x is)
at_place_of P (y ∷ ys) zero x each is = subst P (same_Some y x is) (All-head P y ys each)
at_place_of P (y ∷ ys) (suc at) x each is = at_place_of P ys at x (All-tail P y ys each) is

-- the error of a call that is handed on
pub handed_on : (C : Type 0) {A : Type 0} (answer : Result A LoadFault) (fault : LoadFault) (P : Type 0)
    → IsErrAnd answer (λ e. e ≡ fault) → OnMismatch {A = C} (Err fault) P → OnMismatch answer P
handed_on C (Ok value) fault P is holds = tt
handed_on C {A} (Err e) fault P is holds =
    subst (λ (x : LoadFault). OnMismatch {A = A} (Err x) P) (sym is) (any fault holds)
  where
    any : (x : LoadFault) → OnMismatch {A = C} (Err x) P → OnMismatch {A = A} (Err x) P
    any Flash h = tt
    any (Mismatch block page kept found) h = h

pub passed_on : {A : Type 0} (answer : Result A LoadFault) (fault : LoadFault)
    (P : LoadFault → Type 0) → IsErrAnd answer (λ e. e ≡ fault) → P fault → IfErr answer P
passed_on (Ok value) fault P is holds = tt
passed_on (Err e) fault P is holds = subst P (sym is) holds

-- the last of the links, and its first number
got_last : (link : Link) (links : List Link) (at : ℕ) → at ≡ length links
    → slice_get (link ∷ links) at ≡ Some (last_of link links)
got_last link [] zero is = refl
got_last link [] (suc at) is = absurd (omega (arith, is))
got_last link (next ∷ links) zero is = absurd (omega (arith, is))
got_last link (next ∷ links) (suc at) is = got_last next links at (omega (arith, is))

pub first_of_last : (row : Row) (links : List Link) (link : Link) → 1 < length links
    → Some link ≡ slice_get links (length links - 1) → link.first ≡ first_in_last row links
first_of_last row [] link many is = absurd (omega (arith, many))
first_of_last row (a ∷ []) link many is = absurd (omega (arith, many))
first_of_last row (a ∷ b ∷ links) link many is =
    ap (λ (l : Link). l.first)
    (same_Some link (last_of b links)
    (is ∙ got_last a (b ∷ links) (length (a ∷ b ∷ links) - 1) (omega arith)))

-- the position of that record
pub from_is : (row : Row) (links : List Link) (first : ℕ) → row.first < 4294967296
    → first ≡ first_in_last row links
    → (first + (4294967296 - row.first)) % 4294967296 ≡ last_position row links
from_is row [] first low is = none row.first first low is
  where
    none : (f n : ℕ) → f < 4294967296 → n ≡ f → (n + (4294967296 - f)) % 4294967296 ≡ 0
    none f n low is = omega (arith, low, is)
from_is row (link ∷ []) first low is = none row.first first low is
  where
    none : (f n : ℕ) → f < 4294967296 → n ≡ f → (n + (4294967296 - f)) % 4294967296 ≡ 0
    none f n low is = omega (arith, low, is)
from_is row (link ∷ next ∷ links) first low is =
    behind row.first first low ∙ ap (between row.first) is
  where
    behind : (f n : ℕ) → f < 4294967296 → (n + (4294967296 - f)) % 4294967296 ≡ between f n
    behind f n low = omega (arith, low)

module _ (from block position : ℕ) (index current : TimeIndex) (low : from ≤ position)
    (within : position < length index.entries)
    (is : current ≡ renewed_part from (position - from) block index) where
  abbrev n : ℕ
  n = position - from

  abbrev entries : List Entry
  entries = drop from index.entries

  at : position ≡ from + n
  at = omega (arith, low)

  -- as many entries as before
  pub still_within : position < length current.entries
  still_within =
      let same = ap (λ (i : TimeIndex). length i.entries) is ∙ as_many block from n index in
      omega (arith, same, within)

  module _ (entry : Entry) (here : slice_get current.entries position ≡ Some entry) where
    was_there : slice_get index.entries position ≡ Some entry
    was_there =
        sym (ap (λ (i : TimeIndex). slice_get i.entries position) is
        ∙ next_is block from n index position (omega (arith, low, within)) at) ∙ here

    -- it is the next one of those from the position on
    pub is_next : slice_get entries n ≡ Some entry
    is_next = get_dropped from n position index.entries at ∙ was_there

    pub takes_more : pages_of (take (position + 1 - from) entries)
        ≡ pages_of (take n entries) + charge_of entry.length
    takes_more =
        let one : position + 1 - from ≡ suc n = omega (arith, low) in
        ap (λ (k : ℕ). pages_of (take k entries)) one ∙ pages_next entries n entry is_next

    pub fits_all : pages_of (take n entries) + charge_of entry.length ≤ pages_of entries
    fits_all =
        let next = pages_next entries n entry is_next in
        let all = pages_all entries (suc n) in
        omega (arith, next, all)

    pub one_renewed : with_entry_at current position
        (at_place block (pages_of (take n entries)) entry)
        ≡ renewed_part from (position + 1 - from) block index
    one_renewed =
        let one : n + 1 ≡ position + 1 - from = omega (arith, low) in
        let placed = at_place block (pages_of (take n entries)) entry in
        (λ i. with_entry_at (is i) (at i) placed)
        ∙ next_renewed from n block index entry
        (ap (slice_get index.entries) (sym at) ∙ was_there)
        ∙ ap (λ (k : ℕ). renewed_part from k block index) one
