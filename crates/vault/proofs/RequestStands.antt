-- A vault that stands for the table behind a request.
use Rattle.std.proofs.Common.{◌≡◌, inl, inr, ℕ, ◌&&◌, nat_le, nat_lt, true, List, All, length, map, Some, refl, sym, ◌∙◌, ap, subst}
use Rattle.std.proofs.lemmas.Bool.{and_from, and_parts}
use Rattle.block_pool.specs.Blocks.{Blocks, IsPool, blocks_of, is_free}
use Rattle.board.specs.Flash.{Flash, IsContent, IsImage, loosened}
use Rattle.board.specs.Touches.{KeptElsewhere}
use Rattle.control_defs.specs.declared.instructions.Instruction.{Instruction}
use Rattle.image_table.specs.Standing.{HoldsEitherTable}
use Rattle.image_table.specs.Table.{in_records, table_by}
use Rattle.image_table.proofs.Frames.{own_links, shared_links}
use Rattle.meta_journal.specs.Journals.{Holds}
use Rattle.meta_journal.specs.Standing as journals
use Rattle.pst_model.specs.Table.{Table}
use Rattle.request_laws.specs.Carrying.{IsViewWith}
use Rattle.request_laws.specs.Counting.{table_behind}
use Rattle.request_laws.proofs.Stays.{kept_same}
use Rattle.store_directory.specs.Directory.{Directory, is_new}
use Rattle.store_directory.specs.Kept.{Kept}
use Rattle.store_load.specs.Claims.{all_links, block_of}
use Rattle.store_policy.specs.declared.refusal.Refusal.{Refusal}
use Rattle.store_policy.specs.declared.view.View.{View}
use Rattle.store_put.specs.Pools.{IsBelow, is_unlinked}
use Rattle.time_index.specs.TimeIndex.{TimeIndex}
use Rattle.vault.proofs.Committed.{IsSettled}
use Rattle.vault.proofs.EachStores.{as_many_indexes}
use Rattle.vault.proofs.Entered.{behind_stands, here, one_held, one_of, ready_clean, stores_next}
use Rattle.vault.proofs.Keeping.{moves_none}
use Rattle.vault.proofs.SameRecords.{keep_same}
use Rattle.vault.proofs.Tables.{shared_parts}
use Rattle.vault.specs.Changing.{HoldsOne, IsKept, journal_pages}
use Rattle.vault.specs.Following.{stores_of}
use Rattle.vault.specs.Memory.{EachStore, InMemory, IsSound, IsSoundStore, IsViewOf}
use Rattle.vault.specs.Requests.{IsPrepared, OfShown}
use Rattle.vault.specs.Standing.{IsStoreOf, StandsFor}
use Rattle.vault.specs.declared.last_block.LastBlock.{LastBlock}

-- what is shown of a vault
abbrev pub view_of_vault : InMemory → View
view_of_vault vault = record {
  directory = record { ref_ptr = (0, 0); now = vault.directory };
  indexes = record { ref_ptr = (0, 0); now = vault.indexes };
  blocks = vault.blocks;
}

-- the table for which a vault stands is shown
pub shown_here : (vault : InMemory) (flash : Flash) (table : Table) → StandsFor vault flash table → (P : Table → Type 0)
    → OfShown vault.directory.directory vault.indexes P → P table
shown_here vault flash table stands P each =
    let view = view_of_vault vault in
    each table view (record { directory = refl; indexes = refl })
    (stands.shows view (record { directory = refl; indexes = refl; blocks = refl }))

-- the view of a vault is that of its directory and its indexes
pub view_with : (vault : InMemory) (view : View) → IsViewOf view vault → IsViewWith vault.directory.directory vault.indexes view
view_with vault view is = record { directory = ap (λ (kept : Kept). kept.directory) is.directory; indexes = is.indexes }

-- an image with the directory from before, whose data pages were not touched
pub still_held : (vault : InMemory) (flash : Flash) (table after : Table) → IsSound vault → StandsFor vault flash table → (image : ℕ → List ℕ)
    → Holds vault.blocks vault.directory.directory image → IsImage vault.blocks (loosened journal_pages flash) image → HoldsEitherTable vault.blocks table after image
still_held vault flash table after sound stands image holds is =
    let d = vault.directory.directory in
    elim (one_held vault flash table sound stands d (moves_none d d refl (kept_same d.stores)) table (here vault flash table sound stands) image (inl holds) is) [
      | inl was ↦ inl was
      | inr now ↦ inl now
    ]

module _ (vault : InMemory) (acks : ℕ) (items : List Instruction) (next : Kept) (indexes : List TimeIndex) (lasts : List LastBlock) (refused : List (ℕ × Refusal)) (text : List ℕ)
    (prepared : IsPrepared vault.blocks acks items (stores_of vault) (record { directory = next.directory; indexes = indexes; lasts = lasts }) refused text) (sound : IsSound vault) where
  abbrev d : Directory
  d = vault.directory.directory

  abbrev behind : Table → Table
  behind table = table_behind vault.blocks acks items table

  -- each link's block is one of the device, and no free block is linked

  pub links_within : All (IsBelow (blocks_of vault.pool)) (all_links next.stores)
  links_within =
      subst (λ (n : ℕ). All (IsBelow n) (all_links next.stores)) (sym sound.pool_blocks)
      (own_links vault.blocks (all_links next.stores) (shared_links vault.blocks next.stores prepared.share))

  pub free_unlinked : (block : ℕ) → is_free vault.pool block ≡ true → is_unlinked (blocks_of vault.pool) next.stores block ≡ true
  free_unlinked block free =
      let old = and_parts (nat_le 7 block && nat_lt block vault.blocks) (is_new block (map block_of (all_links vault.directory.stores))) (sym (sound.free block) ∙ free) in
      ap (λ (n : ℕ). is_unlinked n next.stores block) sound.pool_blocks
      ∙ and_from (nat_le 7 block && nat_lt block vault.blocks) (is_new block (map block_of (all_links next.stores))) old.0 (prepared.moved.unlinked block old.1)

  module _ (pool : Blocks) (settled : IsSettled next.stores vault.pool pool) (journal : journals.Kept) where
    abbrev pub vault_behind : InMemory
    vault_behind = record vault { directory = next; indexes = indexes; lasts = lasts; pool = pool; journal = journal }

    pub request_sound : IsSound vault_behind
    request_sound =
        let stores : EachStore (IsSoundStore next.now) next.stores indexes lasts =
        subst (λ (n : ℕ). EachStore (IsSoundStore n) next.stores indexes lasts) (sym prepared.now) (prepared.moved.sound vault.directory.now sound.stores) in
        record {
          least = sound.least;
          most = sound.most;
          kept = prepared.directory;
          stores = stores;
          as_many = as_many_indexes (IsSoundStore next.now) next.stores indexes lasts stores;
          share = prepared.share;
          reserved = (shared_parts vault.blocks next.stores prepared.share).0;
          pool_blocks = ap length settled.wear ∙ sound.pool_blocks;
          free = λ block. settled.free block ∙ ap (λ (n : ℕ). is_unlinked n next.stores block) sound.pool_blocks;
        }

  module _ (flash : Flash) (table : Table) (stands : StandsFor vault flash table) where
    after_here : table_by vault.blocks flash.content next.directory ≡ Some (behind table)
    after_here =
        shown_here vault flash table stands
        (λ (table : Table). (image : ℕ → List ℕ) → IsContent vault.blocks image → table_by vault.blocks image d ≡ Some table
        → table_by vault.blocks image next.directory ≡ Some (behind table))
        prepared.held flash.content stands.pages (here vault flash table sound stands)

    there_before : (p : ℕ) → in_records flash.content p next.directory ≡ true → in_records flash.content p d ≡ true
    there_before p = prepared.moved.pages flash.content p

    pub either_held : (image : ℕ → List ℕ) → HoldsOne vault.blocks d next.directory image
        → IsImage vault.blocks (loosened journal_pages flash) image → HoldsEitherTable vault.blocks table (behind table) image
    either_held = one_of vault flash table sound stands next.directory there_before (behind table) after_here

    pub request_stands : (new : Flash) (pool : Blocks) (settled : IsSettled next.stores vault.pool pool) (journal : journals.Kept) → IsPool vault.pool → IsContent vault.blocks new.content
        → KeptElsewhere journal_pages flash new → IsKept vault.blocks next.directory new → journals.StandsFor journal new
        → StandsFor (vault_behind pool settled journal) new (behind table)
    request_stands new pool settled journal is_pool pages kept is_kept journal_is =
        let were : EachStore (IsStoreOf flash next.now) next.stores indexes lasts =
        subst (λ (n : ℕ). EachStore (IsStoreOf flash n) next.stores indexes lasts) (sym prepared.now) (prepared.moved.places flash vault.directory.now stands.pages stands.stores) in
        behind_stands vault flash table sound stands next there_before (behind table) after_here new journal is_pool pages kept is_kept journal_is indexes lasts
        (stores_next vault flash table sound stands next there_before (behind table) after_here new journal is_pool pages kept is_kept journal_is next.now next.stores indexes lasts
        (keep_same next.stores) were)
        pool
        (λ block free marked. ready_clean vault flash table sound stands next there_before (behind table) after_here new journal is_pool pages kept is_kept journal_is block
        (settled.given block free marked) (settled.ready block marked))
