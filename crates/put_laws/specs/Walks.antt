-- An arriving packet on its way along the stores. Its entry begins with the clock. Then each store's changes
-- follow, a link before the put that counts its record.
use Rattle.std.specs.Prelude.{◌≡◌, ◌≤◌, ℕ, ◌+◌, ◌*◌, true, List, [], ◌∷◌, ◌++◌, All, length, map, drop, take, flat_map, slice_get, slice_set, Some}
use Rattle.board.specs.Flash.{IsContent}
use Rattle.pst_model.specs.Arrivals.{offer_report, offered}
use Rattle.pst_model.specs.Reports.{count_behind}
use Rattle.pst_model.specs.Table.{Store, Stored, Table}
use Rattle.store_directory.specs.Changes.{Change, Clock, apply_all}
use Rattle.store_directory.specs.Directory.{Directory, IsDirectory, Listed, is_new}
use Rattle.store_directory.specs.Entries.{FitsChange, entry_octets}
use Rattle.image_table.specs.Table.{table_by}
use Rattle.put_laws.specs.Puts.{Begins, Outcome, changes_of_put, is_unnamed, listed_behind}

-- the number of reports behind those of the stores that refuse a packet
abbrev pub reports_behind : Stored → Table → ℕ
reports_behind stored table =
    count_behind table.reports (length (flat_map (offer_report stored) table.stores))

-- how many reports the first stores make, so many of them
abbrev pub reports_up_to : Stored → (at : ℕ) → Table → ℕ
reports_up_to stored at table = length (flat_map (offer_report stored) (take at table.stores))

-- stores, the first of which a packet was offered to, so many of them
abbrev pub offered_to : Stored → (at : ℕ) → List Store → List Store
offered_to stored at stores = map (offered stored) (take at stores) ++ drop at stores

-- the table at that time: its time is the packet's, and all its reports are counted
abbrev pub table_at : Stored → (at : ℕ) → Table → Table
table_at stored at table = record table {
  now = stored.time;
  reports = reports_behind stored table;
  stores = offered_to stored at table.stores;
}

-- The change of the clock, with which the entry of an arrival begins.
abbrev pub clock_of : Stored → Table → Change
clock_of stored table = Clock stored.time (reports_behind stored table)

-- A packet was offered to so many stores of a table: these changes make a directory of which the image
-- holds the table at that time. They can be written, in 9 octets and at most 41 for each store, and the
-- stores that are left are as they were.
pub record HasOffered (blocks : ℕ) (image : ℕ → List ℕ) (d : Directory) (table : Table)
    (stored : Stored) (at : ℕ) (changes : List Change) (next : Directory) : Type 0 where
  pub pages : IsContent blocks image
  pub made : apply_all d changes ≡ Some next
  pub written : All FitsChange changes
  pub short : length (entry_octets changes) ≤ 9 + 41 * at
  pub directory : IsDirectory next
  pub loads : table_by blocks image next ≡ Some (table_at stored at table)
  pub left : drop at next.stores ≡ drop at d.stores

-- the store at a place, as the directory lists it and as the table has it
pub record IsTurn (d : Directory) (table : Table) (at : ℕ) (s : Listed) (store : Store) : Type 0 where
  pub listed : slice_get d.stores at ≡ Some s
  pub shown : slice_get table.stores at ≡ Some store

-- the block that an outcome begins, if it does, is another one than this
abbrev pub IsOther : (block : ℕ) → Outcome → Type 0
IsOther block (Begins gone link) = is_new block (link.block ∷ []) ≡ true
IsOther block _ = Unit {0}

-- The next store was offered the packet too: by its changes the walk goes on. The others are listed as
-- they were. A block that no store named, and that is not begun for this one, is one that no store
-- names.
pub record HasGoneOn (blocks : ℕ) (image : ℕ → List ℕ) (d : Directory) (table : Table)
    (stored : Stored) (at : ℕ) (changes : List Change) (before : Directory) (s : Listed)
    (outcome : Outcome) : Type 0 where
  pub next : Directory
  pub applied : apply_all before (changes_of_put s.row outcome) ≡ Some next
  pub walk : HasOffered blocks image d table stored (at + 1) (changes ++ changes_of_put s.row outcome) next
  pub stores : next.stores ≡ slice_set before.stores at (listed_behind outcome s)
  pub unnamed : (block : ℕ) → is_unnamed block before ≡ true → IsOther block outcome
      → is_unnamed block next ≡ true
