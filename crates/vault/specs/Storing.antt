-- An arriving packet that is put into one store after another.
use Rattle.std.specs.Prelude.{◌≡◌, ◌≤◌, ◌<◌, ◌⊎◌, ℕ, ◌+◌, ◌*◌, Bool, true, false, ◌&&◌, not, nat_le, if◌then◌else◌, List, [], ◌∷◌, length, map, take, drop, slice_get, Some}
use Rattle.block_pool.specs.Blocks.{is_free, is_ready}
use Rattle.board.specs.Counts.{Works}
use Rattle.board.specs.Flash.{Flash}
use Rattle.board.specs.Meaning.{BoardMeaning, TellsFlash, TellsLink}
use Rattle.board.specs.Moments.{LeavesOnly, SendsNothing}
use Rattle.chain_log.specs.Pages.{IsCleanFrom}
use Rattle.image_table.specs.Standing.{HoldsTable}
use Rattle.image_table.specs.Table.{in_records, table_by}
use Rattle.meta_journal.specs.Standing as journals
use Rattle.pst_model.specs.Arrivals.{is_offered}
use Rattle.pst_model.specs.Rules.{is_refused}
use Rattle.pst_model.specs.Table.{Store, Stored, Table}
use Rattle.put_laws.specs.Indexes.{AreIndexedAt}
use Rattle.put_laws.specs.Puts.{Accepts}
use Rattle.put_laws.specs.Walks.{HasOffered}
use Rattle.record_view.specs.declared.link.Link.{Link}
use Rattle.space_packet.specs.Charge.{charge_of}
use Rattle.store_directory.specs.Changes.{Change, apply_all}
use Rattle.store_directory.specs.Directory.{Listed}
use Rattle.store_directory.specs.Entries.{entry_octets}
use Rattle.store_policy.specs.Shown.{IsShown, IsStoreShown, IsTableShown}
use Rattle.store_policy.specs.declared.view.View.{View}
use Rattle.store_put.specs.Ranges.{IsFullBy}
use Rattle.store_put.specs.Refusals.{at_any_time}
use Rattle.store_put.specs.Walking.{IsWalking}
use Rattle.time_index.specs.TimeIndex.{TimeIndex}
use Rattle.vault.specs.Changing.{IsKept}
use Rattle.vault.specs.Memory.{EachStore, InMemory, IsSound, IsViewOf}
use Rattle.vault.specs.Standing.{IsStoreOf, StandsFor}
use Rattle.vault.specs.declared.last_block.LastBlock.{LastBlock}

-- If a store takes the packet into its last block, that block's other pages are known to be clean.
abbrev pub IsFreshFor : (packet : List ℕ) → Listed → TimeIndex → LastBlock → Type 0
IsFreshFor packet s index last =
    (store : Store) (gone : ℕ) → IsShown store s.row index → store.patterns ≡ s.patterns
    → Accepts store (at_any_time packet) gone → IsFullBy last.used s.links ⊎ (last.stale ≡ false)

-- no store of a vault has to be renewed before it takes the packet
abbrev pub AreFreshFor : (packet : List ℕ) → InMemory → Type 0
AreFreshFor packet vault =
    EachStore (IsFreshFor packet) vault.directory.stores vault.indexes vault.lasts

abbrev pub used_of : LastBlock → ℕ
used_of last = last.used

-- a store takes the packet
abbrev pub takes : (packet : List ℕ) → Store → Bool
takes packet store =
    is_offered packet store && not (is_refused store (charge_of (length packet)))

-- how many stores take it
abbrev pub takers : (packet : List ℕ) → List Store → ℕ
takers packet [] = 0
takers packet (store ∷ stores) = (if takes packet store then 1 else 0) + takers packet stores

-- a last block has no room for each packet any more, and a store without blocks has none
abbrev pub is_full : List Link → LastBlock → Bool
is_full [] last = true
is_full (link ∷ links) last = nat_le 240 last.used

-- how many stores take the packet into a new block
abbrev pub beginners : (packet : List ℕ) → List Store → List Listed → List LastBlock → ℕ
beginners packet [] listed lasts = 0
beginners packet (store ∷ stores) [] lasts = 0
beginners packet (store ∷ stores) (s ∷ listed) [] = 0
beginners packet (store ∷ stores) (s ∷ listed) (last ∷ lasts) =
    (if takes packet store && is_full s.links last then 1 else 0)
    + beginners packet stores listed lasts

-- No last block is stale that was not, and of the first stores, so many of them, none that took the
-- packet has one that is.
pub record IsFreshened (packet : List ℕ) (at : ℕ) (old : InMemory) (lasts : List LastBlock) : Type 0 where
  pub stale : (place : ℕ) (was last : LastBlock) → slice_get old.lasts place ≡ Some was
      → slice_get lasts place ≡ Some last → last.stale ≡ true → was.stale ≡ true
  pub taken : (place : ℕ) (s : Listed) (index : TimeIndex) (store : Store) (last : LastBlock)
      → place < at → slice_get old.directory.stores place ≡ Some s
      → slice_get old.indexes place ≡ Some index → IsStoreShown store s index
      → takes packet store ≡ true → slice_get lasts place ≡ Some last → last.stale ≡ false

-- What is in memory of the vault, and the text of the entry, once the packet was offered to so many
-- stores. The vault is not open meanwhile.
pub record IsOffering (old now : InMemory) (stored : Stored) (at : ℕ) (changes : List Change)
    (text : List ℕ) : Type 0 where
  pub others : now ≡ record old {
    directory = now.directory;
    indexes = now.indexes;
    lasts = now.lasts;
    pool = now.pool;
    is_open = false;
  }
  pub walk : IsWalking old.blocks old.directory.directory stored.time at now.directory.directory
      now.indexes (map used_of now.lasts) now.pool
  pub made : apply_all old.directory.directory changes ≡ Some now.directory.directory
  pub spelled : text ≡ entry_octets changes
  pub begun : 9 ≤ length text
  pub short : length text ≤ 9 + 41 * at
  -- the stores that are left have the indexes and the last blocks that they had
  pub indexes : drop at now.indexes ≡ drop at old.indexes
  pub lasts : drop at now.lasts ≡ drop at old.lasts
  pub fresh : AreFreshFor stored.octets old
  pub freshened : IsFreshened stored.octets at old now.lasts
  pub sound : IsSound old

-- What the flash holds then: still the table from before, and of the directory in memory the table
-- whose stores were offered the packet, so many of them.
pub record OffersOn (flash : Flash) (old now : InMemory) (table : Table) (stored : Stored) (at : ℕ)
    (changes : List Change) : Type 0 where
  pub kept : IsKept old.blocks old.directory.directory flash
  pub journal : journals.StandsFor old.journal flash
  pub loads : table_by old.blocks flash.content old.directory.directory ≡ Some table
  pub firm_records : (p : ℕ) → in_records flash.content p old.directory.directory ≡ true
      → flash.loose p ≡ false
  pub offered : HasOffered old.blocks flash.content old.directory.directory table stored at changes
      now.directory.directory
  pub indexed : AreIndexedAt stored at table now.indexes
  pub stores : EachStore (IsStoreOf flash stored.time) now.directory.stores now.indexes now.lasts
  pub ready : (block : ℕ) → is_free now.pool block ≡ true → is_ready now.pool block ≡ true
      → IsCleanFrom flash block 0

-- The work of an offer to so many stores, for each table that the vault shows.
abbrev pub OffersWithin : {B : Type 0} → BoardMeaning B → (start board : B) → (old : InMemory)
    → (packet : List ℕ) → (at : ℕ) → Type 0
OffersWithin means start board old packet at =
    (table : Table) (view : View) → IsViewOf view old → IsTableShown table view
    → let begun = beginners packet (take at table.stores) old.directory.stores old.lasts in
    Works 0 (charge_of (length packet) * takers packet (take at table.stores)) begun begun
    (means.counts start) (means.counts board)

-- What holds of the board whether or not the last call failed: nothing was sent, each image holds the
-- table from before, and the work is that of an offer to so many stores.
pub record OffersQuietly {B : Type 0} (means : BoardMeaning B) (start board : B) (old : InMemory)
    (packet : List ℕ) (at : ℕ) : Type 0 where
  pub leaves : TellsFlash means start → (table : Table) → StandsFor old (means.flash start) table
      → LeavesOnly means start board (HoldsTable old.blocks table)
  pub unsent : TellsLink means start → SendsNothing means start board
  pub same : means.device board ≡ means.device start
  pub work : OffersWithin means start board old packet at

-- The packet was offered to so many stores of the vault that was `old` when the board was `start`.
pub record HasPut {B : Type 0} (means : BoardMeaning B) (start board : B) (old now : InMemory)
    (stored : Stored) (at : ℕ) (text : List ℕ) : Type 0 where
  pub changes : List Change
  pub memory : IsOffering old now stored at changes text
  pub quiet : OffersQuietly means start board old stored.octets at
  pub device : old.blocks ≡ (means.device start).blocks
  -- where the flash is told, the vault stood for a table of it
  pub stood : TellsFlash means start → (table : Table) × StandsFor old (means.flash start) table
  pub flash : TellsFlash means start → (table : Table) → StandsFor old (means.flash start) table
      → OffersOn (means.flash board) old now table stored at changes

-- so it was from some board and vault on
abbrev pub IsPutting : {B : Type 0} → BoardMeaning B → (board : B) → (now : InMemory) → Stored
    → (at : ℕ) → (text : List ℕ) → Type 0
IsPutting {B} means board now stored at text =
    (start : B) × (old : InMemory) × HasPut means start board old now stored at text
