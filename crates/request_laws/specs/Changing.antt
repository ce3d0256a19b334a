-- The change of the directory that an instruction of a request makes, what stands in the place of its
-- stores then, and how a table and its directory stand to each other.
use Rattle.std.specs.Prelude.{◌≡◌, ⊤, ℕ, ◌==◌, Bool, true, false, if◌then◌else◌, List, [], ◌∷◌, Option, Some, None}
use Rattle.std.specs.Option.{option_map}
use Rattle.control_defs.specs.declared.instructions.Instruction.{Instruction}
use Rattle.control_defs.specs.declared.instructions.Instruction.TheVariants.{ForwardAdd, ForwardDelete, Enable, Disable, AddTypes, DeleteTypes, StartRange, DeleteUpTo, OpenFrom, Resume, Suspend, Abort, Remove, ToCircular, ToBounded, Channel}
use Rattle.control_defs.specs.declared.instructions.StoreKind.{StoreKind}
use Rattle.control_defs.specs.declared.instructions.StoreKind.TheVariants.{Circular, Bounded}
use Rattle.pst_model.specs.Table.{Store, Table}
use Rattle.retrieval.specs.Picks.{dropped_row, opened_row, ranged_row}
use Rattle.store_directory.specs.Changes.{Change, Forward, Gone, Put, Types, listed_by}
use Rattle.store_directory.specs.Directory.{Directory, Listed, find_store, put_store, without_store}
use Rattle.store_directory.specs.declared.row.Row.{Row}
use Rattle.store_load.specs.Kept.{begins_well}
use Rattle.store_policy.specs.Shown.{AreAllIndexed, AreAllTogether}
use Rattle.time_index.specs.TimeIndex.{TimeIndex, count_up_to, without_first}

-- a row with its storage, or its open retrieval, on or off, of another kind, which has not been told of
-- as full, on another channel, and without its range retrieval

abbrev pub with_storage : Bool → Row → Row
with_storage on row = record row { storage = on }

abbrev pub with_open : Bool → Row → Row
with_open on row = record row { open_on = on }

abbrev pub with_kind : StoreKind → Row → Row
with_kind kind row = record row { kind = kind; told = false }

abbrev pub with_channel : (channel : ℕ) → Row → Row
with_channel channel row = record row { channel = channel }

abbrev pub without_range : Row → Row
without_range row = record row { range = None }

-- the row, and the index, without the packets with times of at most t

abbrev pub deleted_row : (t : ℕ) → TimeIndex → Row → Row
deleted_row t index row =
    record (dropped_row (count_up_to index.entries t) row) { told = false }

abbrev pub deleted_index : (t : ℕ) → TimeIndex → TimeIndex
deleted_index t index = without_first index (count_up_to index.entries t)

-- the index of the store with an identifier, and one of no entries where it does not stand
abbrev pub index_for : (identifier : ℕ) → List Listed → List TimeIndex → TimeIndex
index_for identifier (s ∷ stores) (index ∷ indexes) =
    if identifier == s.identifier then index else index_for identifier stores indexes
index_for identifier _ _ = record { first = 0; entries = []; size = 0 }

-- the put of what is made of the row of a store that is found
abbrev pub put_by : (next : Row → Row) → Option Listed → Option Change
put_by next found = option_map (λ (s : Listed). Put (next s.row)) found

-- The change of an instruction that takes effect on a directory, whose stores have these indexes. There
-- is none where it only asks, where its store does not stand, and where it is of a kind that is not
-- carried out.
abbrev pub change_by : Directory → List TimeIndex → Instruction → Option Change
change_by d indexes (ForwardAdd pattern) = Some (Forward true pattern)
change_by d indexes (ForwardDelete pattern) = Some (Forward false pattern)
change_by d indexes (Enable store) = put_by (with_storage true) (find_store store d.stores)
change_by d indexes (Disable store) = put_by (with_storage false) (find_store store d.stores)
change_by d indexes (AddTypes store pattern) =
    option_map (λ (s : Listed). Types store true pattern) (find_store store d.stores)
change_by d indexes (DeleteTypes store pattern) =
    option_map (λ (s : Listed). Types store false pattern) (find_store store d.stores)
change_by d indexes (StartRange store t1 t2) =
    put_by (ranged_row t1 t2 (index_for store d.stores indexes)) (find_store store d.stores)
change_by d indexes (DeleteUpTo store t) =
    put_by (deleted_row t (index_for store d.stores indexes)) (find_store store d.stores)
change_by d indexes (OpenFrom store t) =
    put_by (opened_row t (index_for store d.stores indexes)) (find_store store d.stores)
change_by d indexes (Resume store) = put_by (with_open true) (find_store store d.stores)
change_by d indexes (Suspend store) = put_by (with_open false) (find_store store d.stores)
change_by d indexes (Abort store) = put_by without_range (find_store store d.stores)
change_by d indexes (Remove store) =
    option_map (λ (_ : Listed). Gone store) (find_store store d.stores)
change_by d indexes (ToCircular store) = put_by (with_kind Circular) (find_store store d.stores)
change_by d indexes (ToBounded store) = put_by (with_kind Bounded) (find_store store d.stores)
change_by d indexes (Channel store channel) =
    put_by (with_channel channel) (find_store store d.stores)
change_by d indexes _ = None

-- what stands in the places of stores, with another one in that of an identifier, and without that

abbrev pub changed_for : {X : Type 0} → (identifier : ℕ) → (X → X) → List Listed → List X → List X
changed_for identifier next (s ∷ stores) (x ∷ xs) =
    if identifier == s.identifier then next x ∷ xs
    else x ∷ changed_for identifier next stores xs
changed_for identifier next _ xs = xs

abbrev pub without_for : {X : Type 0} → (identifier : ℕ) → List Listed → List X → List X
without_for identifier (s ∷ stores) (x ∷ xs) =
    if identifier == s.identifier then xs else x ∷ without_for identifier stores xs
without_for identifier _ xs = xs

-- the indexes of the stores behind that change
abbrev pub indexes_by : Directory → List TimeIndex → Instruction → List TimeIndex
indexes_by d indexes (DeleteUpTo store t) =
    changed_for store (deleted_index t) d.stores indexes
indexes_by d indexes (Remove store) = without_for store d.stores indexes
indexes_by d indexes _ = indexes

-- The indexes of the stores of a directory are those of the packets that its table has.
pub record HasIndexes (table : Table) (d : Directory) (indexes : List TimeIndex) : Type 0 where
  pub packets : AreAllIndexed table.stores indexes
  pub together : AreAllTogether d.stores indexes

-- A store of a table is what a directory lists of it, whatever its packets are.
pub record IsListedAs (store : Store) (s : Listed) : Type 0 where
  pub identifier : store.identifier ≡ s.identifier
  pub kind : store.kind ≡ s.kind
  pub size : store.size ≡ s.size
  pub channel : store.channel ≡ s.channel
  pub storage : store.storage ≡ s.storage
  pub open_on : store.open_on ≡ s.open_on
  pub told : store.told ≡ s.told
  pub behind : store.behind ≡ s.behind
  pub range : store.range ≡ s.range
  pub patterns : store.patterns ≡ s.patterns

-- each store, by what is listed in its place
abbrev pub AreListedAs : List Store → List Listed → Type 0
AreListedAs [] [] = ⊤
AreListedAs (store ∷ stores) (s ∷ listed) = IsListedAs store s × AreListedAs stores listed
AreListedAs _ _ = ⊥

-- A table is that of a directory, whatever packets its stores have.
pub record IsTableOf (table : Table) (d : Directory) : Type 0 where
  pub now : table.now ≡ d.now
  pub reports : table.reports ≡ d.reports
  pub forward : table.forward ≡ d.forward
  pub stores : AreListedAs table.stores d.stores

-- A store has blocks exactly where it has records, and its first record is in its first block. So a
-- put of its row takes no block away.
abbrev pub BeginsWell : Listed → Type 0
BeginsWell s = begins_well s.row s.links ≡ true

-- A store keeps its records: it has the same blocks, and as many packets from the same number on.
pub record KeepsRecords (old new : Listed) : Type 0 where
  pub identifier : new.identifier ≡ old.identifier
  pub size : new.size ≡ old.size
  pub first : new.first ≡ old.first
  pub count : new.count ≡ old.count
  pub links : new.links ≡ old.links

-- each store, and the one in its place
abbrev pub AllKeepRecords : List Listed → List Listed → Type 0
AllKeepRecords [] [] = ⊤
AllKeepRecords (old ∷ olds) (new ∷ news) = KeepsRecords old new × AllKeepRecords olds news
AllKeepRecords _ _ = ⊥

-- The packets with times of at most t leave the front of a store.
pub record LeavesFront (store t : ℕ) (d : Directory) (indexes : List TimeIndex) (next : Directory)
    : Type 0 where
  pub s : Listed
  pub found : find_store store d.stores ≡ Some s
  pub stores : next.stores ≡ put_store
      (listed_by (deleted_row t (index_for store d.stores indexes) s.row) (Some s)) d.stores

-- A store goes, with its packets.
pub record Goes (store : ℕ) (d next : Directory) : Type 0 where
  pub s : Listed
  pub found : find_store store d.stores ≡ Some s
  pub stores : next.stores ≡ without_store store d.stores

-- What the change of an instruction does to the stores of a directory: packets leave the front of one,
-- one goes, or each keeps its records.
abbrev pub StepsBy : Instruction → Directory → List TimeIndex → (next : Directory) → Type 0
StepsBy (DeleteUpTo store t) d indexes next = LeavesFront store t d indexes next
StepsBy (Remove store) d indexes next = Goes store d next
StepsBy _ d indexes next = AllKeepRecords d.stores next.stores
