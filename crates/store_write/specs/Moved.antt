-- Records that are copied to another block, one behind the other.
use Rattle.std.specs.Prelude.{◌≡◌, ◌≢◌, ◌<◌, ⊤, ℕ, ◌+◌, ◌%◌, ◌^◌}
use Rattle.std.specs.Prelude.{List, length, take, slice_get, Some}
use Rattle.chain_log.specs.Loaded.{IsPlace}
use Rattle.chain_log.specs.Pages.{block_octets}
use Rattle.chain_log.specs.declared.place.LoadFault.{LoadFault}
use Rattle.chain_log.specs.declared.place.LoadFault.TheVariants.{Flash, Mismatch}
use Rattle.chain_log.specs.declared.place.Place.{Place}
use Rattle.record_view.specs.Records.{Meaning, record_at}
use Rattle.store_load.specs.Renewing.{renewed_part}
use Rattle.time_index.specs.TimeIndex.{TimeIndex, pages_of}
use Rattle.time_index.specs.declared.entry.Entry.{Entry}

-- where the record of an entry lies
abbrev pub place_of : Entry → Place
place_of entry = record { block = entry.block; page = entry.page; length = entry.length }

-- an entry's place lies in one block of a device, and its packet has 7 to 4,096 octets
abbrev pub IsInPlace : (blocks : ℕ) → Entry → Type 0
IsInPlace blocks entry = IsPlace blocks (place_of entry)

-- the entry of a record that was copied to this place
abbrev pub at_place : (block page : ℕ) → Entry → Entry
at_place block page entry = record entry { block = block; page = page }

-- An index of which some records from a position on were copied into a block.
pub record IsPartlyRenewed (position block : ℕ) (old new : TimeIndex) : Type 0 where
  pub count : ℕ
  pub is : new ≡ renewed_part position count block old

-- The record of an entry is spelled at its place, under this number.
pub record IsSpelled (content : ℕ → List ℕ) (number : ℕ) (entry : Entry) (meaning : Meaning)
    : Type 0 where
  pub spelled : record_at (block_octets content entry.block) number entry.page ≡ Some meaning
  pub long : length meaning.packet ≡ entry.length

-- the entry's place lies in another block
abbrev pub IsElsewhere : (block : ℕ) → Entry → Type 0
IsElsewhere block entry = entry.block ≢ block

-- Each entry's record is spelled at its place. The first one's number is `first`.
abbrev pub AreSpelled : (content : ℕ → List ℕ) → (first : ℕ) → List Entry → Type 0
AreSpelled content first entries = (j : ℕ) (entry : Entry) → slice_get entries j ≡ Some entry
    → (meaning : Meaning) × IsSpelled content ((first + j) % 2 ^ 32) entry meaning

-- Each of the first records of entries that is spelled at its place is spelled in a block too, under
-- its number, one behind the other from page 0 on.
abbrev pub AreCopiedUpTo : (many : ℕ) → (old new : ℕ → List ℕ) → (block first : ℕ) → List Entry
    → Type 0
AreCopiedUpTo many old new block first entries = (j : ℕ) (entry : Entry) (meaning : Meaning)
    → j < many → slice_get entries j ≡ Some entry
    → IsSpelled old ((first + j) % 2 ^ 32) entry meaning
    → record_at (block_octets new block) ((first + j) % 2 ^ 32) (pages_of (take j entries))
    ≡ Some meaning

-- so is each of all of them
abbrev pub AreCopied : (old new : ℕ → List ℕ) → (block first : ℕ) → List Entry → Type 0
AreCopied old new block first entries =
    AreCopiedUpTo (length entries) old new block first entries

-- A mismatch names the place of one of these entries, and two numbers that differ.
abbrev pub IsMismatchIn : List Entry → LoadFault → Type 0
IsMismatchIn entries Flash = ⊤
IsMismatchIn entries (Mismatch block page kept found) =
    (j : ℕ) × (entry : Entry) × (slice_get entries j ≡ Some entry) × (block ≡ entry.block)
    × (page ≡ entry.page) × (kept ≢ found)
