-- A stale last block that is renewed before a packet is put into it.
use Rattle.std.specs.Prelude.{◌≡◌, ◌≢◌, ◌<◌, ⊤, ℕ, true, false, List, [], ◌∷◌, slice_get, slice_set, Some, Result, IfErr, IfOk, OnOk, is_ok}
use Rattle.block_pool.specs.Blocks.{Blocks, blocks_of, is_free}
use Rattle.board.specs.Counts.{Counts, Rose}
use Rattle.board.specs.Flash.{IsImage, loosened, pages_of_block}
use Rattle.board.specs.Meaning.{BoardMeaning, TellsFlash, TellsLink}
use Rattle.board.specs.Moments.{LeavesOnly, SendsNothing}
use Rattle.board.specs.Touches.{KeptElsewhere}
use Rattle.chain_log.specs.declared.place.LoadFault.{LoadFault}
use Rattle.chain_log.specs.declared.place.LoadFault.TheVariants as loads
use Rattle.image_table.specs.Standing.{HoldsTable}
use Rattle.meta_journal.specs.Standing as journals
use Rattle.pst_model.specs.Table.{Store, Table}
use Rattle.put_laws.specs.Puts.{Accepts}
use Rattle.record_view.specs.declared.link.Link.{Link}
use Rattle.store_directory.specs.Directory.{Listed, with_stores}
use Rattle.store_directory.specs.declared.row.Row.{Row}
use Rattle.store_load.specs.Extents.{last_of}
use Rattle.store_policy.specs.Shown.{AreShown, IsShown}
use Rattle.store_put.specs.Pools.{IsTaken}
use Rattle.store_put.specs.Refusals.{at_any_time}
use Rattle.store_write.specs.Renewed.{first_in_last, last_entries}
use Rattle.time_index.specs.TimeIndex.{TimeIndex, pages_of}
use Rattle.vault.specs.Fetching.{OnFlash, UnlessFlash}
use Rattle.vault.specs.Memory.{InMemory, IsSound, has_link}
use Rattle.vault.specs.Standing.{StandsFor}
use Rattle.vault.specs.declared.copying.LastCopy.{LastCopy}
use Rattle.vault.specs.declared.fault.VaultFault.{VaultFault}
use Rattle.vault.specs.declared.fault.VaultFault.TheVariants.{Flash, Mismatch}
use Rattle.vault.specs.declared.last_block.LastBlock.{LastBlock}

-- P holds of the store at a place, with the index and the last block in its place
abbrev pub AtPlace : InMemory → (at : ℕ) → (Listed → TimeIndex → LastBlock → Type 0) → Type 0
AtPlace vault at P =
    (s : Listed) (index : TimeIndex) (last : LastBlock) → slice_get vault.directory.stores at ≡ Some s
    → slice_get vault.indexes at ≡ Some index → slice_get vault.lasts at ≡ Some last
    → P s index last

abbrev pub IsLinked : Listed → TimeIndex → LastBlock → Type 0
IsLinked s index last = has_link s.links ≡ true

abbrev pub IsNotStale : Listed → TimeIndex → LastBlock → Type 0
IsNotStale s index last = last.stale ≡ false

-- A store takes the packet into its last block, whose other pages are not known to be clean.
pub record NeedsRenewal (packet : List ℕ) (s : Listed) (index : TimeIndex) (last : LastBlock) : Type 0 where
  pub store : Store
  pub gone : ℕ
  pub shown : IsShown store s.row index
  pub patterns : store.patterns ≡ s.patterns
  pub takes : Accepts store (at_any_time packet) gone
  pub linked : has_link s.links ≡ true
  pub room : last.used < 240
  pub stale : last.stale ≡ true

-- the block of a store's last link, and 0 if it has none
abbrev pub last_block : List Link → ℕ
last_block [] = 0
last_block (link ∷ links) = (last_of link links).block

-- What was copied is a store's last block: which one, the number of the first record that was copied,
-- and how many pages the copies use.
pub record IsLastCopy (row : Row) (links : List Link) (index : TimeIndex) (copy : LastCopy) : Type 0 where
  pub old : copy.old ≡ last_block links
  pub first : copy.first ≡ first_in_last row links
  pub used : copy.used ≡ pages_of (last_entries row links index)

-- A block was taken from a pool of as many blocks.
pub record IsTakenFrom (old new : Blocks) (block : ℕ) : Type 0 where
  pub taken : IsTaken old new block
  pub many : blocks_of new ≡ blocks_of old

-- the link was not called
pub record LeavesLink (old new : Counts) : Type 0 where
  pub faults : new.link_faults ≡ old.link_faults
  pub sends : new.sends ≡ old.sends

-- Only the pages of one block that was free were written, also if a call failed: the block of the copy.
pub record CopiesInto {B : Type 0} (means : BoardMeaning B) (pool : Blocks) (old new : B)
    (result : Result LastCopy LoadFault) : Type 0 where
  pub block : ℕ
  pub was_free : is_free pool block ≡ true
  pub is : IfOk result (λ copy. copy.block ≡ block)
  pub others : TellsFlash means old → KeptElsewhere (pages_of_block block) (means.flash old) (means.flash new)
  pub leaves : TellsFlash means old → LeavesOnly means old new
      (IsImage (means.device old).blocks (loosened (pages_of_block block) (means.flash old)))
  pub unsent : TellsLink means old → SendsNothing means old new
  pub link : LeavesLink (means.counts old) (means.counts new)
  pub same : means.device new ≡ means.device old

-- two numbers that should be one differ
abbrev pub Differs : LoadFault → Type 0
Differs loads.Flash = ⊤
Differs (loads.Mismatch block page kept found) = kept ≢ found

-- So do those of a fault of a vault, and then the flash is not told.
abbrev pub DiffersUntold : (told : Type 0) → VaultFault → Type 0
DiffersUntold told Flash = ⊤
DiffersUntold told (Mismatch block page kept found) = (kept ≢ found) × (told → ⊥)

-- Stores of the same rows and patterns, in their places.
abbrev pub KeepRows : List Listed → List Listed → Type 0
KeepRows [] [] = ⊤
KeepRows (s ∷ stores) (t ∷ others) =
    (t.row ≡ s.row) × (t.patterns ≡ s.patterns) × KeepRows stores others
KeepRows _ _ = ⊥

-- no last block is stale that was not
abbrev pub KeepFresh : List LastBlock → List LastBlock → Type 0
KeepFresh [] [] = ⊤
KeepFresh (last ∷ lasts) (next ∷ others) =
    (last.stale ≡ false → next.stale ≡ false) × KeepFresh lasts others
KeepFresh _ _ = ⊥

-- What of a vault a renewal leaves as it was. It is open if that succeeded.
pub record IsAfterRenewal {A E : Type 0} (old new : InMemory) (result : Result A E) : Type 0 where
  pub others : new ≡ record old {
    directory = new.directory;
    indexes = new.indexes;
    lasts = new.lasts;
    pool = new.pool;
    journal = new.journal;
    is_open = is_ok result;
  }
  pub directory : new.directory.directory
      ≡ with_stores old.directory.directory new.directory.stores
  pub rows : KeepRows old.directory.stores new.directory.stores
  pub fresh : KeepFresh old.lasts new.lasts

-- The store at a place has another last block, which is not stale. The other stores are as they were.
pub record RenewsAt (old new : InMemory) (at : ℕ) : Type 0 where
  pub s : Listed
  pub index : TimeIndex
  pub last : LastBlock
  pub stores : new.directory.stores ≡ slice_set old.directory.stores at s
  pub indexes : new.indexes ≡ slice_set old.indexes at index
  pub lasts : new.lasts ≡ slice_set old.lasts at last
  pub fresh : last.stale ≡ false

-- Last blocks were renewed, and nothing else: also if a call failed, each image holds the table that
-- the vault stood for. If none failed, the vault stands for it still, and shows it.
pub record Renews {A B : Type 0} (means : BoardMeaning B) (old new : B) (was now : InMemory)
    (result : Result A VaultFault) : Type 0 where
  pub leaves : TellsFlash means old → (table : Table) → StandsFor was (means.flash old) table
      → LeavesOnly means old new (HoldsTable was.blocks table)
  pub stands : OnOk result (TellsFlash means old → (table : Table)
      → StandsFor was (means.flash old) table → StandsFor now (means.flash new) table)
  pub shown : OnOk result ((stores : List Store) → AreShown stores was.directory.stores was.indexes
      → AreShown stores now.directory.stores now.indexes)
  pub after : IsAfterRenewal was now result
  pub sound : OnOk result (IsSound now)
  pub journal : OnOk result (TellsFlash means old → journals.StandsFor now.journal (means.flash new))
  pub unsent : TellsLink means old → SendsNothing means old new
  pub link : LeavesLink (means.counts old) (means.counts new)
  pub same : means.device new ≡ means.device old
  pub mismatch : IfErr result (DiffersUntold (TellsFlash means old))
  pub no_fault : UnlessFlash result ((means.counts new).flash_faults ≡ (means.counts old).flash_faults)
  pub cause : OnFlash result (Rose (means.counts old).flash_faults (means.counts new).flash_faults)
