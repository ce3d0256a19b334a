-- A packet was put into each store that takes it: while its entry is added, and behind it.
use Rattle.std.proofs.Common.{◌≡◌, inl, inr, ◌≤◌, ◌+◌, ℕ, true, List, [], ◌∷◌, length, map, Some, sym, ◌∙◌, ap, subst, arith}
use Rattle.std.specs.List.{list_all}
use Rattle.std.proofs.lemmas.Bool.{cases_lt, false≢true}
use Rattle.std.proofs.lemmas.Option.{same_Some}
use Rattle.block_pool.specs.Blocks.{Blocks, blocks_of, is_free, is_ready}
use Rattle.board.specs.Flash.{Flash, IsContent}
use Rattle.board.specs.Touches.{KeptElsewhere}
use Rattle.board.proofs.Pages.{elsewhere}
use Rattle.chain_log.specs.Pages.{IsCleanFrom}
use Rattle.image_table.proofs.DataPages.{data_page}
use Rattle.image_table.proofs.Frames.{data_links, records_kept, shared_links, table_loads}
use Rattle.image_table.proofs.Standing.{table_here}
use Rattle.image_table.specs.Standing.{HoldsEitherTable}
use Rattle.image_table.specs.Table.{store_of, table_by}
use Rattle.meta_journal.specs.Journals.{HoldsEither}
use Rattle.meta_journal.specs.Standing as journals
use Rattle.pst_model.specs.Table.{Store, Stored, Table}
use Rattle.put_laws.proofs.Ending.{folds}
use Rattle.put_laws.proofs.Indexed.{table_shown}
use Rattle.put_laws.specs.Walks.{table_at}
use Rattle.store_directory.specs.Changes.{Change}
use Rattle.store_directory.specs.Directory.{Directory, Listed, reserved_by}
use Rattle.store_directory.specs.Folds.{fold_entry}
use Rattle.store_directory.specs.Kept.{Kept}
use Rattle.store_load.specs.Claims.{is_data, may_share}
use Rattle.store_load.proofs.Eachs.{each_both}
use Rattle.store_load.proofs.Frames.{answered}
use Rattle.store_policy.specs.Shown.{AreAllIndexed, IsTableShown}
use Rattle.store_policy.specs.declared.view.View.{View}
use Rattle.store_put.specs.Pools as pools
use Rattle.store_put.specs.Walking.{EachInPlace}
use Rattle.time_index.specs.TimeIndex.{TimeIndex}
use Rattle.vault.proofs.DataBlocks.{clean_from, data_out, store_next}
use Rattle.vault.proofs.EachStores.{as_many_indexes}
use Rattle.vault.proofs.SameRecords.{each_next, keep_same}
use Rattle.vault.proofs.Tables.{shared_parts}
use Rattle.vault.specs.Changing.{IsKept, journal_pages}
use Rattle.vault.specs.Memory.{EachStore, InMemory, IsSound, IsSoundStore, IsViewOf, is_unlinked}
use Rattle.vault.specs.Standing.{IsStoreOf, StandsFor}
use Rattle.vault.specs.Storing.{IsOffering, OffersOn, used_of}
use Rattle.vault.specs.declared.last_block.LastBlock.{LastBlock}

pub each_sound : (now : ℕ) (stores : List Listed) (indexes : List TimeIndex) (lasts : List LastBlock) → EachInPlace now stores indexes (map used_of lasts)
    → EachStore (IsSoundStore now) stores indexes lasts
each_sound now [] [] [] each = tt
each_sound now [] [] (l ∷ lasts) each = absurd each
each_sound now [] (i ∷ indexes) [] each = absurd each
each_sound now [] (i ∷ indexes) (l ∷ lasts) each = absurd each
each_sound now (s ∷ stores) [] [] each = absurd each
each_sound now (s ∷ stores) [] (l ∷ lasts) each = absurd each
each_sound now (s ∷ stores) (i ∷ indexes) [] each = absurd each
each_sound now (s ∷ stores) (i ∷ indexes) (l ∷ lasts) each =
    let range = each.0.in_range in (
      record { together = record { first = range.first; count = range.count; size = range.size }; in_place = each.0 },
      each_sound now stores indexes lasts each.1,
    )

-- The pool behind a commit: what it gave back is not ready.
pub record IsSettled (stores : List Listed) (old new : Blocks) : Type 0 where
  pub free : (block : ℕ) → is_free new block ≡ pools.is_unlinked (blocks_of old) stores block
  pub ready : (block : ℕ) → is_ready new block ≡ true → is_ready old block ≡ true
  pub given : (block : ℕ) → is_free new block ≡ true → is_ready new block ≡ true → is_free old block ≡ true
  pub wear : new.wear ≡ old.wear

module _ (old vault : InMemory) (stored : Stored) (at : ℕ) (changes : List Change) (text : List ℕ) (memory : IsOffering old vault stored at changes text) where
  abbrev d : Directory
  d = old.directory.directory

  abbrev e : Directory
  e = vault.directory.directory

  pub same_blocks : vault.blocks ≡ old.blocks
  same_blocks = ap (λ (v : InMemory). v.blocks) memory.others

  module _ (pool : Blocks) (settled : IsSettled vault.directory.stores vault.pool pool) (journal : journals.Kept) where
    pub put_sound : IsSound (record vault { pool = pool; journal = journal; is_open = true })
    put_sound =
        let walk = memory.walk in
        let stores : EachStore (IsSoundStore e.now) e.stores vault.indexes vault.lasts =
        subst (λ (n : ℕ). EachStore (IsSoundStore n) e.stores vault.indexes vault.lasts) (sym walk.now)
        (each_sound stored.time e.stores vault.indexes vault.lasts walk.stores) in
        record {
          least = omega (arith, same_blocks, memory.sound.least);
          most = omega (arith, same_blocks, memory.sound.most);
          kept = walk.kept;
          stores = stores;
          as_many = as_many_indexes (IsSoundStore e.now) e.stores vault.indexes vault.lasts stores;
          share = ap (λ (n : ℕ). may_share 240 n e.stores) same_blocks ∙ walk.share;
          reserved = subst (λ (n : ℕ). reserved_by e.stores + 8 ≤ n) (sym same_blocks) (shared_parts old.blocks e.stores walk.share).0;
          pool_blocks = ap length settled.wear ∙ walk.pool_blocks ∙ sym same_blocks;
          free = λ block. settled.free block
              ∙ ap (λ (n : ℕ). is_unlinked n e.stores block) (walk.pool_blocks ∙ sym same_blocks);
        }

    module _ (flash : Flash) (table : Table) (on : OffersOn flash old vault table stored at changes) (next : Table)
        (by : table_by vault.blocks flash.content e ≡ Some next) (new : Flash) (pages : IsContent vault.blocks new.content)
        (kept : KeptElsewhere journal_pages flash new) (is_kept : IsKept vault.blocks e new) (journal_is : journals.StandsFor journal new)
        (firm : journals.AllFirm new) where
      were : IsContent vault.blocks flash.content
      were = subst (λ (n : ℕ). IsContent n flash.content) (sym same_blocks) on.offered.pages

      share : may_share 240 vault.blocks e.stores ≡ true
      share = (table_loads vault.blocks flash.content e next by).share

      by_new : table_by vault.blocks new.content e ≡ Some next
      by_new =
          records_kept vault.blocks flash.content new.content were pages e
          (λ p there. let page = data_page vault.blocks flash.content were p e share there in
          kept.content p (data_out p page.low)) next by

      -- the table is that of the walk
      next_is : table_at stored at table ≡ next
      next_is =
          same_Some (table_at stored at table) next
          (sym on.offered.loads ∙ ap (λ (n : ℕ). table_by n flash.content e) (sym same_blocks) ∙ by)

      abbrev Keeps : Listed → Type 0
      Keeps t = (list_all (is_data vault.blocks) t.links ≡ true) × ((store : Store) × (store_of flash.content e.now t ≡ Some store))

      stores_are : EachStore (IsStoreOf new e.now) e.stores vault.indexes vault.lasts
      stores_are =
          let loads = table_loads vault.blocks flash.content e next by in
          each_next Keeps (IsStoreOf flash stored.time) (IsStoreOf new e.now)
          (λ s t index last same keeps is. store_next vault.blocks flash new kept stored.time e.now s t index last same keeps.0 keeps.1 is)
          e.stores e.stores vault.indexes vault.lasts (keep_same e.stores)
          (each_both (λ (t : Listed). list_all (is_data vault.blocks) t.links ≡ true) (λ (t : Listed). (store : Store) × (store_of flash.content e.now t ≡ Some store))
          Keeps (λ t own answer. (own, answer)) e.stores (data_links vault.blocks e.stores (shared_links vault.blocks e.stores share))
          (answered (store_of flash.content e.now) e.stores next.stores loads.stores))
          on.stores

      ready_clean : (block : ℕ) → is_free pool block ≡ true → is_ready pool block ≡ true → IsCleanFrom new block 0
      ready_clean block free marked =
          let was_free = settled.given block free marked in
          elim (cases_lt block 7) [
            | inl low ↦ absurd (false≢true (sym (memory.walk.lawful.free_data block low) ∙ was_free))
            | inr high ↦ clean_from vault.blocks flash new kept block 0 high (on.ready block was_free (settled.ready block marked))
          ]

      shows : (view : View) → IsViewOf view (record vault { pool = pool; journal = journal; is_open = true }) → IsTableShown next view
      shows view is =
          table_shown vault.blocks new.content next view
          (ap (λ (k : Kept). table_by vault.blocks new.content k.directory) is.directory ∙ by_new)
          (subst (λ (l : List TimeIndex). AreAllIndexed next.stores l) (sym is.indexes)
          (subst (λ (t : Table). AreAllIndexed t.stores vault.indexes) next_is on.indexed))

      pub put_stands : StandsFor (record vault { pool = pool; journal = journal; is_open = true }) new next
      put_stands = record {
        pages = pages;
        holds = table_here vault.blocks new.content e next is_kept.holds by_new;
        directory = is_kept.holds;
        shows = shows;
        journal = journal_is;
        stores = stores_are;
        ready = ready_clean;
        firm_journal = is_kept.is_firm;
        firm_records = λ p there. firm p;
      }

  -- while the entry is added
  module _ (flash : Flash) (table : Table) (on : OffersOn flash old vault table stored at changes) where
    pub entry_folds : fold_entry d text ≡ Some e
    entry_folds =
        ap (fold_entry d) memory.spelled
        ∙ folds old.blocks flash.content d table stored at changes e on.offered

    pub kept_first : IsKept vault.blocks d flash
    kept_first = subst (λ (n : ℕ). IsKept n d flash) (sym same_blocks) on.kept

    pub put_either : (next : Table) → table_by vault.blocks flash.content e ≡ Some next → (image : ℕ → List ℕ)
        → HoldsEither vault.blocks journal_pages flash d e image → HoldsEitherTable vault.blocks table next image
    put_either next by image either =
        let pages : IsContent vault.blocks flash.content = subst (λ (n : ℕ). IsContent n flash.content) (sym same_blocks) on.offered.pages in
        let loads : table_by vault.blocks flash.content d ≡ Some table = ap (λ (n : ℕ). table_by n flash.content d) same_blocks ∙ on.loads in
        let share = (table_loads vault.blocks flash.content d table loads).share in
        let share_next = (table_loads vault.blocks flash.content e next by).share in
        elim either [
          | inl was ↦ inl (table_here vault.blocks image d table was.holds
              (records_kept vault.blocks flash.content image pages was.elsewhere.pages d
              (λ p there. let page = data_page vault.blocks flash.content pages p d share there in
              was.elsewhere.firm_pages p page.high
              (elsewhere (journal_pages p) true (flash.loose p) (data_out p page.low) ∙ on.firm_records p there)) table loads))
          | inr now ↦ inr (table_here vault.blocks image e next now.holds
              (records_kept vault.blocks flash.content image pages now.pages e
              (λ p there. let page = data_page vault.blocks flash.content pages p e share_next there in
              now.elsewhere p page.high (data_out p page.low)) next by))
        ]
