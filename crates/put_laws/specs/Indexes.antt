-- The time indexes of the stores while a packet is offered to one after another.
use Rattle.std.specs.Prelude.{◌≡◌, ℕ, List, length}
use Rattle.pst_model.specs.Table.{Stored, Table}
use Rattle.store_policy.specs.Shown.{AreAllIndexed}
use Rattle.time_index.specs.TimeIndex.{TimeIndex, with_entry, without_first}
use Rattle.time_index.specs.declared.entry.Entry.{Entry}
use Rattle.put_laws.specs.Walks.{offered_to}

-- the index of a store behind a put: so many entries leave the front, and that of the packet goes last
abbrev pub index_behind_put : (gone : ℕ) → Entry → TimeIndex → TimeIndex
index_behind_put gone entry index = with_entry (without_first index gone) entry

-- An entry has the time and the length of a packet.
pub record IsEntryOf (stored : Stored) (entry : Entry) : Type 0 where
  pub stamp : entry.stamp ≡ stored.time
  pub length : entry.length ≡ length stored.octets

-- the entry of a packet whose record begins at a page of a block
abbrev pub entry_of : Stored → (block page : ℕ) → Entry
entry_of stored block page = record {
  stamp = stored.time;
  block = block;
  page = page;
  length = length stored.octets;
}

-- The packets of the stores are indexed while a packet was offered to so many of them.
abbrev pub AreIndexedAt : Stored → (at : ℕ) → Table → List TimeIndex → Type 0
AreIndexedAt stored at table indexes = AreAllIndexed (offered_to stored at table.stores) indexes
