-- How a change of the directory becomes durable.
use Rattle.std.specs.Prelude.{◌≡◌, ◌≤◌, ◌<◌, ◌+◌, Some, ◌⊎◌, ⊤, ℕ, Bool, nat_lt, if◌then◌else◌, List, [], ◌∷◌, Result, OnOk, is_ok}
use Rattle.board.specs.Flash.{Flash, pages_from}
use Rattle.image_table.specs.Table.{table_by}
use Rattle.meta_journal.specs.Journals.{FirmJournal, Holds}
use Rattle.pst_model.specs.Reports.{count_behind}
use Rattle.pst_model.specs.Table.{Table}
use Rattle.store_directory.specs.Changes.{Change, Put, apply}
use Rattle.store_directory.specs.Directory.{Directory, Listed, find_store}
use Rattle.store_directory.specs.Slots.{size_of}
use Rattle.vault.specs.Memory.{InMemory}

-- the pages of the blocks 0 to 6: the roots and both halves of the journal
abbrev pub journal_pages : ℕ → Bool
journal_pages = pages_from 0 1792

-- The flash holds a directory, and no page of its journal is loose.
pub record IsKept (blocks : ℕ) (d : Directory) (flash : Flash) : Type 0 where
  pub holds : Holds blocks d flash.content
  pub is_firm : FirmJournal flash

-- an image holds the one directory or the other
abbrev pub HoldsOne : (blocks : ℕ) → (before after : Directory) → (ℕ → List ℕ) → Type 0
HoldsOne blocks before after image = Holds blocks before image ⊎ Holds blocks after image

-- work that is done only if the room is below 21 pages
abbrev pub if_short : (room work : ℕ) → ℕ
if_short room work = if nat_lt room 21 then work else 0

-- The room of a journal after an entry of at most so many pages. If less than 21 pages were room, the
-- other half counts now, and had 432 pages of room before the entry at least.
pub record RoomAfter (most old new : ℕ) : Type 0 where
  pub falls : 21 ≤ old → new ≤ old
  pub within : 21 ≤ old → old ≤ new + most
  pub switched : old < 21 → 432 ≤ new + most

-- a table with one report more
abbrev pub with_report : Table → Table
with_report table = record table { reports = count_behind table.reports 1 }

-- Two stores that have the same records: the same blocks, and the same numbers of records in them.
pub record SameRecords (s t : Listed) : Type 0 where
  pub links : t.links ≡ s.links
  pub first : t.first ≡ s.first
  pub count : t.count ≡ s.count
  pub size : t.size ≡ s.size

-- of each store, in its place
abbrev pub KeepRecords : List Listed → List Listed → Type 0
KeepRecords [] [] = ⊤
KeepRecords (s ∷ stores) (t ∷ others) = SameRecords s t × KeepRecords stores others
KeepRecords _ _ = ⊥

-- A directory that moves no record of another one, and whose time is not before that one's.
pub record MovesNone (d next : Directory) : Type 0 where
  pub later : d.now ≤ next.now
  pub stores : KeepRecords d.stores next.stores

-- A change that can be made of a directory, and moves none of its records.
abbrev pub CanBeEntered : Directory → Change → Type 0
CanBeEntered d change = (next : Directory) × (apply d change ≡ Some next) × MovesNone d next

-- A row is no greater than its store is, so the directory needs no memory for it.
abbrev pub NeedsNone : Change → List Listed → Type 0
NeedsNone (Put row) stores = row.size ≤ size_of (find_store row.identifier stores)
NeedsNone change stores = ⊤

-- this is the table of the directory behind a change, by the records that the flash holds
abbrev pub Becomes : InMemory → Change → Flash → Table → Type 0
Becomes vault change flash after =
    (next : Directory) → apply vault.directory.directory change ≡ Some next
    → table_by vault.blocks flash.content next ≡ Some after

-- A vault after a change was entered: only the directory, and what is kept of the journal, are others.
-- It is open if that succeeded.
pub record IsAfterEntry {A E : Type 0} (old new : InMemory) (change : Change) (result : Result A E)
    : Type 0 where
  pub others : new ≡ record old {
    directory = new.directory;
    journal = new.journal;
    is_open = is_ok result;
  }
  pub directory : OnOk result
      (apply old.directory.directory change ≡ Some new.directory.directory)

-- A vault after a report: only the count, and what is kept of the journal, are others. It is open if
-- the report succeeded.
pub record IsAfterReport {A E : Type 0} (old new : InMemory) (result : Result A E) : Type 0 where
  pub others : new ≡ record old {
    directory = new.directory;
    journal = new.journal;
    is_open = is_ok result;
  }
  pub directory : OnOk result (new.directory.directory
      ≡ record old.directory.directory { reports = count_behind old.directory.reports 1 })
