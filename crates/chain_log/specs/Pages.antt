-- The pages of records on a flash.
use Rattle.std.specs.Prelude.{◌≡◌, ℕ, ◌+◌, ◌-◌, ◌*◌, ◌<◌, ◌≤◌, List, length, take, drop}
use Rattle.board.specs.Flash.{Flash, IsClean, pages_from, written}
use Rattle.commit_gate.specs.Entries.{octets_from}
use Rattle.space_packet.specs.Charge.{charge_of}
use Rattle.record_view.specs.Written.{record_pages}

-- a block that may hold records: those below it are of the roots and of the journal
abbrev pub IsDataBlock : ℕ → ℕ → Type 0
IsDataBlock blocks block = (7 ≤ block) × (block < blocks)

-- the octets of a block
abbrev pub block_octets : (ℕ → List ℕ) → ℕ → List ℕ
block_octets content block = octets_from content (256 * block) 256

-- the page with this index of some octets
abbrev pub page_in : List ℕ → ℕ → List ℕ
page_in octets i = take 256 (drop (256 * i) octets)

-- the flash with octets in this many pages from this one on
abbrev pub with_pages : ℕ → ℕ → List ℕ → Flash → Flash
with_pages first pages octets flash =
    written (pages_from first pages) (λ p. page_in octets (p - first)) flash

-- the flash with a record whose first page is this one
abbrev pub with_record : ℕ → ℕ → ℕ → List ℕ → Flash → Flash
with_record first number stamp packet flash =
    with_pages first (charge_of (length packet)) (record_pages number stamp packet) flash

-- the pages of a block from this one on are clean
abbrev pub IsCleanFrom : Flash → ℕ → ℕ → Type 0
IsCleanFrom flash block used = (q : ℕ) → used ≤ q → q < 256 → IsClean flash (256 * block + q)

-- these pages hold these octets, one page behind the other
abbrev pub AreWritten : (ℕ → List ℕ) → ℕ → ℕ → List ℕ → Type 0
AreWritten content first pages octets =
    (i : ℕ) → i < pages → content (first + i) ≡ page_in octets i
