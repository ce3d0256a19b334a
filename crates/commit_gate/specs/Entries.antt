-- Entries of an area of 512 pages: what stands at a page, and the entries from a page on.
use Rattle.std.specs.Prelude.{◌≡◌, ℕ, zero, suc, ◌+◌, ◌/◌, Bool, true, false, ◌&&◌, nat_le, nat_lt}
use Rattle.std.specs.Prelude.{List, [], ◌∷◌, ◌++◌, take, drop, replicate, bytes_eq, Option, Some}
use Rattle.std.specs.Prelude.{None, option_map, if◌then◌else◌, ⊤}
use Rattle.byteorder.specs.Endian.{big_number}

-- a gate page that is open
unfoldable pub open_page : List ℕ
open_page = replicate 256 90

abbrev pub is_open : List ℕ → Bool
is_open page = bytes_eq page open_page

-- the pages of the area whose first page has this number, and nothing behind them
unfoldable pub area_of : ℕ → (ℕ → List ℕ) → ℕ → List ℕ
area_of base content q = if nat_lt q 512 then content (base + q) else []

-- the octets of n pages from this one on
unfoldable pub octets_from : (ℕ → List ℕ) → ℕ → ℕ → List ℕ
octets_from area first zero = []
octets_from area first (suc n) = area first ++ octets_from area (suc first) n

-- how many pages a text of this length fills, behind its length in four octets
abbrev pub payload_pages : ℕ → ℕ
payload_pages len = (len + 259) / 256

-- the length that stands first in a page
unfoldable pub length_in : List ℕ → ℕ
length_in page = big_number 4 page

-- whether a text of this length, at most the longest, may stand from the page `first` on
abbrev pub is_lawful : ℕ → ℕ → ℕ → Bool
is_lawful longest first len =
    nat_le 1 len && nat_le len longest && nat_le (first + payload_pages len) 512

-- the text of this length, from the page `first` on
abbrev pub text_of : (ℕ → List ℕ) → ℕ → ℕ → List ℕ
text_of area first len = take len (drop 4 (octets_from area first (payload_pages len)))

-- what stands at a page
pub data EntryAt : Type 0 where
  -- a text, and the page behind it
  Entry : List ℕ → ℕ → EntryAt
  End : EntryAt
  -- a length that is not lawful
  Damaged : ℕ → EntryAt

-- A text where its length is lawful. It is a function, so that nothing is computed where it is not.
abbrev pub text_by : Bool → ℕ → (⊤ → List ℕ) → ℕ → EntryAt
text_by false len text next = Damaged len
text_by true len text next = Entry (text tt) next

-- the text of at most so many octets that stands from a page on, behind its length
unfoldable pub text_at : ℕ → (ℕ → List ℕ) → ℕ → EntryAt
text_at longest area first =
    let len = length_in (area first) in
    text_by (is_lawful longest first len) len (λ _. text_of area first len)
    (first + payload_pages len)

-- what is behind a gate, where it is open
abbrev pub behind_gate : Bool → (⊤ → EntryAt) → EntryAt
behind_gate false payload = End
behind_gate true payload = payload tt

-- what stands at a gate: a gate in the last page has no room for a payload, and ends the entries
unfoldable pub entry_at : (ℕ → List ℕ) → ℕ → EntryAt
entry_at area at =
    behind_gate (nat_lt at 511 && is_open (area at)) (λ _. text_at 5116 area (at + 1))

-- an entry with those behind it
abbrev pub with_rest : EntryAt → (ℕ → Option (List (List ℕ))) → Option (List (List ℕ))
with_rest End rest = Some []
with_rest (Damaged len) rest = None
with_rest (Entry text next) rest = option_map (λ entries. text ∷ entries) (rest next)

-- The texts of the entries from a page on, fewer than so many. None: they end in damage.
unfoldable pub entries_from : ℕ → (ℕ → List ℕ) → ℕ → Option (List (List ℕ))
entries_from zero area at = None
entries_from (suc fuel) area at = with_rest (entry_at area at) (λ next. entries_from fuel area next)

-- the entries from a page on end in damage
abbrev pub IsDamaged : (ℕ → List ℕ) → ℕ → Type 0
IsDamaged area at = entries_from 512 area at ≡ None

-- From this page on the area has these entries, the last of which ends before the page `end`.
abbrev pub HasEntries : (ℕ → List ℕ) → ℕ → List (List ℕ) → ℕ → Type 0
HasEntries area at [] end = (at ≡ end) × (entry_at area end ≡ End)
HasEntries area at (entry ∷ entries) end =
    (next : ℕ) × (entry_at area at ≡ Entry entry next) × HasEntries area next entries end
