-- A vault that stands for the table behind an entry of the journal.
use Rattle.std.proofs.Common.{◌≡◌, inl, inr, ℕ, true, false, List, map, None, Some, Result, Ok, Err, refl, sym, ◌∙◌, ap, subst, arith}
use Rattle.std.specs.Prelude.{⊤, OnErr, OnOk, nat_le, nat_lt, ◌&&◌}
use Rattle.std.specs.List.{list_all}
use Rattle.std.proofs.lemmas.Bool.{cases_lt, false≢true}
use Rattle.std.proofs.lemmas.Option.{none-some, same_Some}
use Rattle.block_pool.specs.Blocks.{Blocks, IsPool, is_free, is_ready}
use Rattle.board.specs.Flash.{Flash, IsContent, IsImage, loosened}
use Rattle.board.specs.Touches.{KeptElsewhere}
use Rattle.board.proofs.Pages.{elsewhere}
use Rattle.chain_log.specs.Pages.{IsCleanFrom}
use Rattle.image_table.proofs.DataPages.{data_page}
use Rattle.image_table.proofs.Frames.{data_links, records_kept, same_records, shared_links, table_loads}
use Rattle.image_table.proofs.Standing.{table_here}
use Rattle.image_table.specs.Standing.{HoldsEitherTable}
use Rattle.image_table.specs.Table.{in_records, store_of, table_by, table_of}
use Rattle.meta_journal.specs.Journals.{Holds}
use Rattle.meta_journal.specs.Standing as journals
use Rattle.pst_model.specs.Table.{Store, Table}
use Rattle.record_view.specs.declared.link.Link.{Link}
use Rattle.store_directory.specs.Changes.{Change, Clock, Forward, Gone, Links, Put, Swap, Types, apply}
use Rattle.store_directory.specs.Directory.{Directory, IsDirectory, Listed, is_new}
use Rattle.store_directory.specs.Kept.{Kept, NeedsRoom}
use Rattle.store_directory.specs.Slots.{AreWithin, largest_in}
use Rattle.store_directory.specs.declared.fault.ApplyFault.{ApplyFault}
use Rattle.store_directory.specs.declared.fault.ApplyFault.TheVariants as faults
use Rattle.store_load.specs.Claims.{block_of, is_data, may_share}
use Rattle.store_load.proofs.Eachs.{each_both}
use Rattle.store_load.proofs.Frames.{answered}
use Rattle.store_policy.specs.Shown.{IsTableShown}
use Rattle.time_index.specs.TimeIndex.{TimeIndex}
use Rattle.vault.proofs.DataBlocks.{clean_from, data_out, store_next}
use Rattle.vault.proofs.EachStores.{as_many_indexes, each_gives}
use Rattle.vault.proofs.Fetched.{by_directory}
use Rattle.vault.proofs.SameRecords.{each_any, each_next, links_kept, records_kept_in, share_kept, sound_same}
use Rattle.vault.proofs.Tables.{HasIndex, shared_parts, shows_table, view_shows}
use Rattle.vault.specs.Changing.{HoldsOne, IsKept, KeepRecords, MovesNone, NeedsNone, journal_pages}
use Rattle.vault.specs.Memory.{EachStore, InMemory, IsSound, IsSoundStore}
use Rattle.vault.specs.Standing.{IsStoreOf, StandsFor}
use Rattle.vault.specs.declared.last_block.LastBlock.{LastBlock}

-- what a change that fits and takes no memory makes
pub made_by : (r : Result ⊤ ApplyFault) (d new next : Directory) (change : Change) → OnOk r (apply d change ≡ Some new)
    → (r ≡ Err faults.Unfit → apply d change ≡ None) → (r ≡ Err faults.NoMemory → ⊥) → apply d change ≡ Some next → next ≡ new
made_by (Ok x) d new next change ok unfit memory is = same_Some next new (sym is ∙ ok)
made_by (Err faults.Unfit) d new next change ok unfit memory is = absurd (none-some next (sym (unfit refl) ∙ is))
made_by (Err faults.NoMemory) d new next change ok unfit memory is = absurd (memory refl)

-- a change that needs no memory lacks none

lacks_none : (change : Change) (d : Kept) → NeedsNone change d.stores → NeedsRoom change (largest_in d.sizes)
    → AreWithin (record { stores = d.stores; sizes = d.sizes }) → ⊥
lacks_none (Put row) d none room within = let has = within row.identifier in omega (arith, none, room, has)
lacks_none (Clock now reports) d none room within = room
lacks_none (Gone store) d none room within = room
lacks_none (Forward add pattern) d none room within = room
lacks_none (Types store add pattern) d none room within = room
lacks_none (Links store links) d none room within = room
lacks_none (Swap store link) d none room within = room

pub no_memory : (r : Result ⊤ ApplyFault) (d new : Kept) (change : Change) → NeedsNone change d.stores
    → (r ≡ Err faults.NoMemory → NeedsRoom change (largest_in d.sizes)) → OnErr r (new ≡ d)
    → AreWithin (record { stores = new.stores; sizes = new.sizes }) → r ≡ Err faults.NoMemory → ⊥
no_memory r d new change none needs failed within is =
    let same : new ≡ d = subst (λ (answer : Result ⊤ ApplyFault). OnErr answer (new ≡ d)) is failed in
    lacks_none change d none (needs is) (subst (λ (e : Kept). AreWithin (record { stores = e.stores; sizes = e.sizes })) same within)

-- what is in memory fits together still
pub sound_entered : (vault : InMemory) (next : Kept) (journal : journals.Kept) → IsSound vault → IsDirectory next.directory
    → MovesNone vault.directory.directory next.directory → IsSound (record vault { directory = next; journal = journal })
sound_entered vault next journal sound kept moves =
    let d = vault.directory.directory in
    let share : may_share 240 vault.blocks next.stores ≡ true = share_kept vault.blocks d.stores next.stores moves.stores ∙ sound.share in
    let stores : EachStore (IsSoundStore next.now) next.stores vault.indexes vault.lasts =
    each_next (λ (s : Listed). ⊤) (IsSoundStore d.now) (IsSoundStore next.now)
    (λ s t index last same any is. sound_same s t same d.now next.now index last moves.later is)
    d.stores next.stores vault.indexes vault.lasts moves.stores (each_any next.stores) sound.stores in
    record {
      least = sound.least;
      most = sound.most;
      kept = kept;
      stores = stores;
      as_many = as_many_indexes (IsSoundStore next.now) next.stores vault.indexes vault.lasts stores;
      share = share;
      reserved = (shared_parts vault.blocks next.stores share).0;
      pool_blocks = sound.pool_blocks;
      free = λ block. sound.free block
          ∙ ap (λ (links : List Link). nat_le 7 block && nat_lt block vault.blocks && is_new block (map block_of links))
          (sym (links_kept d.stores next.stores moves.stores));
    }

module _ (vault : InMemory) (flash : Flash) (table : Table) (sound : IsSound vault) (stands : StandsFor vault flash table) where
  abbrev d : Directory
  d = vault.directory.directory

  pub here : table_by vault.blocks flash.content d ≡ Some table
  here = by_directory vault.blocks flash.content d table stands.directory stands.holds

  -- an image with the one directory or the other, whose data pages were not touched
  pub one_of : (next : Directory) → ((p : ℕ) → in_records flash.content p next ≡ true → in_records flash.content p d ≡ true) → (after : Table)
      → table_by vault.blocks flash.content next ≡ Some after → (image : ℕ → List ℕ) → HoldsOne vault.blocks d next image → IsImage vault.blocks (loosened journal_pages flash) image
      → HoldsEitherTable vault.blocks table after image
  one_of next there_before after after_here image one is =
      elim one [
        | inl was ↦ inl (held d table here stands.firm_records was)
        | inr now ↦ inr (held next after after_here (λ p there. stands.firm_records p (there_before p there)) now)
      ]
    where
      held : (e : Directory) (made : Table) → table_by vault.blocks flash.content e ≡ Some made
          → ((p : ℕ) → in_records flash.content p e ≡ true → flash.loose p ≡ false) → Holds vault.blocks e image
          → table_of vault.blocks image ≡ Some made
      held e made by firm holds =
          let share = (table_loads vault.blocks flash.content e made by).share in
          table_here vault.blocks image e made holds
          (records_kept vault.blocks flash.content image stands.pages is.pages e
          (λ p there. let page = data_page vault.blocks flash.content stands.pages p e share there in
          is.firm_pages p page.high (elsewhere (journal_pages p) true (flash.loose p) (data_out p page.low) ∙ firm p there))
          made by)

  -- where no record was moved
  pub one_held : (next : Directory) → MovesNone d next → (after : Table) → table_by vault.blocks flash.content next ≡ Some after → (image : ℕ → List ℕ)
      → HoldsOne vault.blocks d next image → IsImage vault.blocks (loosened journal_pages flash) image → HoldsEitherTable vault.blocks table after image
  one_held next moves = one_of next (λ p there. sym (records_kept_in flash.content p d.stores next.stores moves.stores) ∙ there)

  -- and the vault in the end
  module _ (next : Kept) (there_before : (p : ℕ) → in_records flash.content p next.directory ≡ true → in_records flash.content p d ≡ true)
      (after : Table) (after_here : table_by vault.blocks flash.content next.directory ≡ Some after) (new : Flash) (journal : journals.Kept) (is_pool : IsPool vault.pool)
      (pages : IsContent vault.blocks new.content) (kept : KeptElsewhere journal_pages flash new) (is_kept : IsKept vault.blocks next.directory new)
      (journal_is : journals.StandsFor journal new) where
    abbrev e : Directory
    e = next.directory

    share : may_share 240 vault.blocks e.stores ≡ true
    share = (table_loads vault.blocks flash.content e after after_here).share

    same_pages : (p : ℕ) → in_records flash.content p e ≡ true → new.content p ≡ flash.content p
    same_pages p there =
        let page = data_page vault.blocks flash.content stands.pages p e share there in
        kept.content p (data_out p page.low)

    by_new : table_by vault.blocks new.content e ≡ Some after
    by_new = records_kept vault.blocks flash.content new.content stands.pages pages e same_pages after after_here

    abbrev Keeps : Listed → Type 0
    Keeps t = (list_all (is_data vault.blocks) t.links ≡ true) × ((store : Store) × (store_of flash.content e.now t ≡ Some store))

    -- stores with the same records as others, at a later time
    pub stores_next : (now : ℕ) (stores : List Listed) (indexes : List TimeIndex) (lasts : List LastBlock) → KeepRecords stores e.stores → EachStore (IsStoreOf flash now) stores indexes lasts
        → EachStore (IsStoreOf new e.now) e.stores indexes lasts
    stores_next now stores indexes lasts keeps were =
        let loads = table_loads vault.blocks flash.content e after after_here in
        each_next Keeps (IsStoreOf flash now) (IsStoreOf new e.now)
        (λ s t index last same keeps is. store_next vault.blocks flash new kept now e.now s t index last same keeps.0 keeps.1 is)
        stores e.stores indexes lasts keeps
        (each_both (λ (t : Listed). list_all (is_data vault.blocks) t.links ≡ true) (λ (t : Listed). (store : Store) × (store_of flash.content e.now t ≡ Some store))
        Keeps (λ t own answer. (own, answer)) e.stores (data_links vault.blocks e.stores (shared_links vault.blocks e.stores share))
        (answered (store_of flash.content e.now) e.stores after.stores loads.stores))
        were

    pub ready_clean : (block : ℕ) → is_free vault.pool block ≡ true → is_ready vault.pool block ≡ true → IsCleanFrom new block 0
    ready_clean block free marked = elim (cases_lt block 7) [
      | inl low ↦ absurd (false≢true (sym (is_pool.ready_data block low) ∙ marked))
      | inr high ↦ clean_from vault.blocks flash new kept block 0 high (stands.ready block free marked)
    ]

    firm_after : (p : ℕ) → in_records new.content p e ≡ true → new.loose p ≡ false
    firm_after p there =
        let there_too : in_records flash.content p e ≡ true =
        sym (same_records vault.blocks flash.content new.content stands.pages pages e same_pages after after_here p) ∙ there in
        let page = data_page vault.blocks flash.content stands.pages p e share there_too in
        kept.firm p (data_out p page.low) (stands.firm_records p (there_before p there_too))

    -- with these indexes and last blocks, and this pool
    module _ (indexes : List TimeIndex) (lasts : List LastBlock) (stores_are : EachStore (IsStoreOf new e.now) e.stores indexes lasts) (pool : Blocks)
        (clean : (block : ℕ) → is_free pool block ≡ true → is_ready pool block ≡ true → IsCleanFrom new block 0) where
      abbrev vault_now : InMemory
      vault_now = record vault { directory = next; indexes = indexes; lasts = lasts; pool = pool; journal = journal }

      pub behind_stands : StandsFor vault_now new after
      behind_stands =
          let loads = table_loads vault.blocks new.content e after by_new in
          let shows = shows_table vault.blocks new.content e indexes lasts loads.lawful loads.share
          (each_gives (IsStoreOf new e.now) (HasIndex new.content e.now) (λ s index last one. one.index_is) e.stores indexes lasts stores_are) in
          record {
            pages = pages;
            holds = table_here vault.blocks new.content e after is_kept.holds by_new;
            directory = is_kept.holds;
            shows = λ view is. subst (λ (t : Table). IsTableShown t view) (same_Some shows.table after (sym shows.by ∙ by_new))
                (view_shows vault.blocks new.content vault_now shows view is);
            journal = journal_is;
            stores = stores_are;
            ready = clean;
            firm_journal = is_kept.is_firm;
            firm_records = firm_after;
          }

  -- where no record was moved
  pub entered_stands : (next : Kept) → MovesNone d next.directory → (after : Table) → table_by vault.blocks flash.content next.directory ≡ Some after → (new : Flash)
      (journal : journals.Kept) → IsPool vault.pool → IsContent vault.blocks new.content → KeptElsewhere journal_pages flash new → IsKept vault.blocks next.directory new
      → journals.StandsFor journal new → StandsFor (record vault { directory = next; journal = journal }) new after
  entered_stands next moves after after_here new journal is_pool pages kept is_kept journal_is =
      let there_before : (p : ℕ) → in_records flash.content p next.directory ≡ true → in_records flash.content p d ≡ true =
      λ p there. sym (records_kept_in flash.content p d.stores next.directory.stores moves.stores) ∙ there in
      behind_stands next there_before after after_here new journal is_pool pages kept is_kept journal_is vault.indexes vault.lasts
      (stores_next next there_before after after_here new journal is_pool pages kept is_kept journal_is d.now d.stores vault.indexes vault.lasts moves.stores stands.stores) vault.pool
      (ready_clean next there_before after after_here new journal is_pool pages kept is_kept journal_is)
