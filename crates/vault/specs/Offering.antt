-- What one offer of an arriving packet takes and makes in memory.
use Rattle.std.specs.Prelude.{◌≡◌, ◌≤◌, ℕ, ◌+◌, false, List, [], ◌∷◌, drop, length, slice_get, slice_set, Some}
use Rattle.pst_model.specs.Table.{Store, Stored}
use Rattle.put_laws.specs.Indexes.{index_behind_put}
use Rattle.put_laws.specs.Puts.{Accepts, row_behind_put}
use Rattle.record_view.specs.declared.link.Link.{Link}
use Rattle.space_packet.specs.Charge.{charge_of}
use Rattle.store_directory.specs.Changes.{Links, Put}
use Rattle.store_directory.specs.Directory.{Listed}
use Rattle.store_load.specs.Extents.{end_of, last_of}
use Rattle.store_policy.specs.Shown.{AreTogether, IsShown}
use Rattle.store_put.specs.Making.{AreShared, Makes}
use Rattle.store_put.specs.Plans.{IsPlanOf, leaving_of}
use Rattle.store_put.specs.declared.plan.Plan.{Plan}
use Rattle.time_index.specs.TimeIndex.{EndsBy, TimeIndex, pages_of}
use Rattle.time_index.specs.declared.entry.Entry.{Entry}
use Rattle.vault.specs.Memory.{InMemory}
use Rattle.vault.specs.declared.last_block.LastBlock.{LastBlock}

-- The store at a place, with its index and what is known of its last block.
pub record IsAt (vault : InMemory) (at : ℕ) (s : Listed) (index : TimeIndex) (last : LastBlock)
    : Type 0 where
  pub listed : slice_get vault.directory.stores at ≡ Some s
  pub indexed : slice_get vault.indexes at ≡ Some index
  pub known : slice_get vault.lasts at ≡ Some last

-- Some store is at a place. Its row and its index are those of one store, whose packets take no more
-- pages than it has.
pub record HasStoreAt (vault : InMemory) (at : ℕ) : Type 0 where
  pub s : Listed
  pub index : TimeIndex
  pub last : LastBlock
  pub here : IsAt vault at s index last
  pub together : AreTogether s.row index
  pub filled : pages_of index.entries ≤ index.size

-- What the store at a place does with a packet is this plan, whatever the octets of its packets are.
pub record IsPlanAt (vault : InMemory) (stored : Stored) (at : ℕ) (plan : Plan) : Type 0 where
  pub decides : (s : Listed) (index : TimeIndex) (last : LastBlock) → IsAt vault at s index last
      → (store : Store) → IsShown store s.row index → store.patterns ≡ s.patterns
      → IsPlanOf stored store plan
  pub within : (s : Listed) (index : TimeIndex) (last : LastBlock) → IsAt vault at s index last
      → leaving_of plan ≤ s.row.count

-- The store at a place takes a packet, behind so many packets that leave its front.
pub record TakesAt (vault : InMemory) (stored : Stored) (at gone : ℕ) : Type 0 where
  pub accepts : (s : Listed) (index : TimeIndex) (last : LastBlock) → IsAt vault at s index last
      → (store : Store) → IsShown store s.row index → store.patterns ≡ s.patterns
      → Accepts store stored gone
  pub within : (s : Listed) (index : TimeIndex) (last : LastBlock) → IsAt vault at s index last
      → gone ≤ s.row.count

-- The last one of some links names this block.
pub record IsLastBlock (links : List Link) (block : ℕ) : Type 0 where
  pub link : Link
  pub rest : List Link
  pub some : links ≡ link ∷ rest
  pub last : block ≡ (last_of link rest).block

-- The record of an entry can be counted as the last one of the store at a place.
pub record CanBeCounted (vault : InMemory) (at gone : ℕ) (entry : Entry) : Type 0 where
  pub s : Listed
  pub index : TimeIndex
  pub last : LastBlock
  pub here : IsAt vault at s index last
  pub share : AreShared vault.directory.stores
  pub together : AreTogether s.row index
  pub leaving : gone ≤ length index.entries
  pub pages : pages_of (drop gone index.entries) + charge_of entry.length ≤ index.size
  pub order : EndsBy (drop gone index.entries) entry.stamp

-- It was counted: the row and the index have it, and so many pages of the last block are in use.
pub record IsCounted (old new : InMemory) (at gone : ℕ) (entry : Entry) (used : ℕ)
    (old_text new_text : List ℕ) (s : Listed) (index : TimeIndex) : Type 0 where
  pub others : new ≡ record old {
    directory = new.directory;
    indexes = slice_set old.indexes at (index_behind_put gone entry index);
    lasts = slice_set old.lasts at (record { used = used; stale = false });
  }
  pub makes : Makes (Put (row_behind_put gone s.row) ∷ []) old.directory.directory
      new.directory.directory old_text new_text

-- the link of a block that begins behind the last record of a store
abbrev pub link_behind : Listed → (block : ℕ) → Link
link_behind s block = record { block = block; first = end_of s.row }

-- A block was linked behind those of a store.
pub record IsLinked (old new : InMemory) (block : ℕ) (old_text new_text : List ℕ) (s : Listed)
    : Type 0 where
  pub others : new ≡ record old { directory = new.directory }
  pub makes : Makes (Links s.identifier (link_behind s block ∷ []) ∷ []) old.directory.directory
      new.directory.directory old_text new_text
