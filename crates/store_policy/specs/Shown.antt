-- What is shown of the table of packet stores by rows and time indexes, which know no octets of packets.
use Rattle.std.specs.Prelude.{◌≡◌, ⊤, ℕ, List, [], ◌∷◌, length, map}
use Rattle.pst_model.specs.Laws.{time_of}
use Rattle.pst_model.specs.Table.{Store, Stored, Table}
use Rattle.store_directory.specs.Directory.{Listed}
use Rattle.store_directory.specs.declared.row.Row.{Row}
use Rattle.store_policy.specs.declared.view.View.{View}
use Rattle.time_index.specs.TimeIndex.{TimeIndex, stamp_of}
use Rattle.time_index.specs.declared.entry.Entry.{Entry}

-- lengths of packets, in octets

abbrev pub octets_in : Stored → ℕ
octets_in stored = length stored.octets

abbrev pub length_of : Entry → ℕ
length_of entry = entry.length

-- The packets have, in order, the times and the lengths of the entries.
pub record AreIndexed (packets : List Stored) (entries : List Entry) : Type 0 where
  pub times : map time_of packets ≡ map stamp_of entries
  pub lengths : map octets_in packets ≡ map length_of entries

-- the packets of each store have, in order, the times and the lengths of the entries of its index
abbrev pub AreAllIndexed : List Store → List TimeIndex → Type 0
AreAllIndexed [] [] = ⊤
AreAllIndexed (store ∷ stores) (index ∷ indexes) =
    AreIndexed store.packets index.entries × AreAllIndexed stores indexes
AreAllIndexed _ _ = ⊥

-- A row and an index are those of one store.
pub record AreTogether (row : Row) (index : TimeIndex) : Type 0 where
  pub first : index.first ≡ row.first
  pub count : length index.entries ≡ row.count
  pub size : index.size ≡ row.size

-- each row and the index in its place
abbrev pub AreAllTogether : List Listed → List TimeIndex → Type 0
AreAllTogether [] [] = ⊤
AreAllTogether (listed ∷ rest) (index ∷ indexes) =
    AreTogether listed.row index × AreAllTogether rest indexes
AreAllTogether _ _ = ⊥

-- A store, but for its patterns, is shown by a row and an index.
pub record IsShown (store : Store) (row : Row) (index : TimeIndex) : Type 0 where
  pub identifier : store.identifier ≡ row.identifier
  pub kind : store.kind ≡ row.kind
  pub size : store.size ≡ row.size
  pub channel : store.channel ≡ row.channel
  pub storage : store.storage ≡ row.storage
  pub open_on : store.open_on ≡ row.open_on
  pub told : store.told ≡ row.told
  pub behind : store.behind ≡ row.behind
  pub range : store.range ≡ row.range
  pub packets : AreIndexed store.packets index.entries

-- A store is shown by what a directory lists of it, and an index.
pub record IsStoreShown (store : Store) (listed : Listed) (index : TimeIndex) : Type 0 where
  pub shown : IsShown store listed.row index
  pub patterns : store.patterns ≡ listed.patterns

-- each store by the listed one and the index in its place
abbrev pub AreShown : List Store → List Listed → List TimeIndex → Type 0
AreShown [] [] [] = ⊤
AreShown (store ∷ stores) (listed ∷ rest) (index ∷ indexes) =
    IsStoreShown store listed index × AreShown stores rest indexes
AreShown _ _ _ = ⊥

-- A table is shown by what lies in memory.
pub record IsTableShown (table : Table) (view : View) : Type 0 where
  pub now : table.now ≡ view.directory.now.now
  pub reports : table.reports ≡ view.directory.now.reports
  pub forward : table.forward ≡ view.directory.now.forward
  pub stores : AreShown table.stores view.directory.now.stores view.indexes.now
