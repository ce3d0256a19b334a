-- The table that an image holds.
use Rattle.std.specs.Prelude.{◌≡◌, ℕ, Bool, true, ◌&&◌, List, map, Option, Some}
use Rattle.std.specs.List.{list_any}
use Rattle.std.specs.Option.{option_map}
use Rattle.meta_journal.specs.Directories.{SameJournal, directory_of}
use Rattle.pst_model.specs.Table.{Store, Stored, Table}
use Rattle.record_view.specs.Records.{Meaning}
use Rattle.store_directory.specs.Checkpoints.{is_lawful}
use Rattle.store_directory.specs.Directory.{Directory, Listed}
use Rattle.store_directory.specs.Options.{◌>>=◌, given}
use Rattle.store_load.specs.Claims.{may_share}
use Rattle.store_load.specs.Each.{each}
use Rattle.store_load.specs.Frame.{in_store}
use Rattle.store_load.specs.Kept.{kept_of}
use Rattle.store_load.specs.declared.rule.Rule.{Rule}

-- every block but a store's last has 240 pages in use, and a packet has 4,096 octets at most
abbrev pub table_rule : Rule
table_rule = record { least = 240; largest = 4096 }

-- a record as the table has it
abbrev pub stored_of : Meaning → Stored
stored_of meaning = record { time = meaning.stamp; octets = meaning.packet }

-- a store of the directory with the packets of these records
abbrev pub store_with : Listed → List Meaning → Store
store_with s records = record {
  identifier = s.identifier;
  kind = s.kind;
  size = s.size;
  channel = s.channel;
  storage = s.storage;
  open_on = s.open_on;
  told = s.told;
  patterns = s.patterns;
  packets = map stored_of records;
  behind = s.behind;
  range = s.range;
}

-- a store of the directory with the packets that it keeps on the image
abbrev pub store_of : (image : ℕ → List ℕ) → (now : ℕ) → Listed → Option Store
store_of image now s = option_map (store_with s) (kept_of table_rule image now s.row s.links)

abbrev pub table_with : Directory → List Store → Table
table_with d stores =
    record { now = d.now; reports = d.reports; forward = d.forward; stores = stores }

-- The table of a directory whose records stand in the image: the directory is lawful, its stores may
-- share a device of so many blocks, and each of them keeps its records.
unfoldable pub table_by : (blocks : ℕ) → (image : ℕ → List ℕ) → Directory → Option Table
table_by blocks image d = do
  _ ← given (is_lawful d && may_share 240 blocks d.stores)
  stores ← each (store_of image d.now) d.stores
  Some (table_with d stores)

-- The table that an image of a device of so many blocks holds.
unfoldable pub table_of : (blocks : ℕ) → (image : ℕ → List ℕ) → Option Table
table_of blocks image = do
  d ← directory_of blocks image
  table_by blocks image d

-- whether a page is one that the records of a directory are read from
abbrev pub in_records : (image : ℕ → List ℕ) → (p : ℕ) → Directory → Bool
in_records image p d = list_any (λ (s : Listed). in_store image p s.row s.links) d.stores

-- Two images agree on all that the table of the first one is read from: the root pages, the halves
-- that count, and the pages of the records of its directory.
pub record SameFrame (blocks : ℕ) (image other : ℕ → List ℕ) : Type 0 where
  pub journal : SameJournal image other
  pub records : (d : Directory) → directory_of blocks image ≡ Some d
      → (p : ℕ) → in_records image p d ≡ true → other p ≡ image p
