-- A store's last block that is copied, and the entry that makes the copy the store's last block.
use Rattle.std.proofs.Common.{◌≡◌, ℕ, true, false, List, set, slice_set, Some, Result, Ok, Err, refl, sym, ◌∙◌, ap, subst}
use Rattle.std.specs.Prelude.{⊤, None, OnOk}
use Rattle.block_pool.specs.Blocks.{Blocks, IsPool, blocks_of, is_free}
use Rattle.board.specs.Counts.{Rose}
use Rattle.board.specs.Device.{Device}
use Rattle.board.specs.Flash.{IsContent, IsImage, loosened, pages_of_block}
use Rattle.board.specs.Meaning.{BoardMeaning, TellsFlash}
use Rattle.board.specs.Moments.{LeavesOnly}
use Rattle.board.specs.Touches.{KeptElsewhere, Touches}
use Rattle.board.proofs.Runs as runs
use Rattle.board.proofs.Stops as stops
use Rattle.board.proofs.Works.{tells_too}
use Rattle.chain_log.specs.Copies.{OnMismatch}
use Rattle.chain_log.specs.Loaded as loaded
use Rattle.chain_log.specs.Pages.{IsCleanFrom}
use Rattle.chain_log.specs.declared.place.LoadFault.{LoadFault}
use Rattle.chain_log.specs.declared.place.LoadFault.TheVariants as loads
use Rattle.image_table.specs.Standing.{HoldsTable}
use Rattle.image_table.specs.Table.{table_rule}
use Rattle.meta_journal.specs.Journals.{HoldsEither}
use Rattle.meta_journal.specs.Standing.{AllFirm}
use Rattle.meta_journal.specs.Standing as journals
use Rattle.pst_model.specs.Table.{Table}
use Rattle.record_view.specs.Records.{Meaning}
use Rattle.record_view.specs.declared.link.Link.{Link}
use Rattle.store_directory.specs.Changes.{Swap, apply}
use Rattle.store_directory.specs.Directory.{Directory, Listed, with_stores}
use Rattle.store_directory.specs.Kept.{Kept}
use Rattle.store_directory.specs.declared.fault.ApplyFault.{ApplyFault}
use Rattle.store_directory.specs.declared.fault.ApplyFault.TheVariants as faults
use Rattle.store_load.specs.Keeping.{Keeps}
use Rattle.store_load.specs.Loaded.{index_of}
use Rattle.store_load.specs.Moving.{SpellsLast}
use Rattle.store_policy.specs.Shown.{AreShown, IsStoreShown}
use Rattle.store_write.specs.Renewed.{last_entries, renewed_index, renewed_link}
use Rattle.time_index.specs.TimeIndex.{TimeIndex, pages_of}
use Rattle.vault.proofs.Entered.{made_by}
use Rattle.vault.proofs.Renewed.{journal_copied, kept_copied, while_copying, while_swapping}
use Rattle.vault.proofs.RenewedMemory.{IsStoreAt, applied, found, lawful_now, next, renewed_store, share_now, sound_renewed, swapped}
use Rattle.vault.proofs.RenewedPlaces.{renewed_shown}
use Rattle.vault.proofs.RenewedStands.{keeps_at, renewed_stands}
use Rattle.vault.proofs.RenewRuns.{StandsIfTold}
use Rattle.vault.proofs.ReplacedStores.{fresh_replaced, fresh_same, rows_replaced, rows_same, shown_replaced}
use Rattle.vault.specs.Changing.{IsKept, journal_pages}
use Rattle.vault.specs.Fetching.{OnFlash, UnlessFlash, vault_fault_of}
use Rattle.vault.specs.Memory.{InMemory, IsSound, has_link}
use Rattle.vault.specs.Renewing.{CopiesInto, Differs, DiffersUntold, IsLastCopy, KeepRows, Renews, RenewsAt, last_block}
use Rattle.vault.specs.Standing.{StandsFor}
use Rattle.vault.specs.declared.copying.LastCopy.{LastCopy}
use Rattle.vault.specs.declared.fault.VaultFault.TheVariants.{Flash}
use Rattle.vault.specs.declared.last_block.LastBlock.{LastBlock}

module _ {B : Type 0} (means : BoardMeaning B) (content : (board : B) → TellsFlash means board → IsContent (means.device board).blocks (means.flash board).content)
    (old mid : B) (vault : InMemory) (by : vault.blocks ≡ (means.device old).blocks) (sound : IsSound vault)
    (stands : StandsIfTold means old vault) (at : ℕ) (s : Listed) (index : TimeIndex) (last : LastBlock) (own : IsStoreAt vault at s index last)
    (linked : has_link s.links ≡ true) where
  -- while the block is copied, each image holds the table
  pub copy_leaves : (result : Result LastCopy LoadFault) → CopiesInto means vault.pool old mid result → TellsFlash means old → (table : Table)
      → StandsFor vault (means.flash old) table → LeavesOnly means old mid (HoldsTable vault.blocks table)
  copy_leaves result copies told table here =
      stops.weaker means old mid (HoldsTable vault.blocks table)
      (IsImage (means.device old).blocks (loosened (pages_of_block copies.block) (means.flash old))) (copies.leaves told)
      (λ image is. while_copying vault (means.flash old) table copies.block sound here copies.was_free image
      (subst (λ (n : ℕ). IsImage n (loosened (pages_of_block copies.block) (means.flash old)) image) (sym by) is))

  -- nothing differs where the flash is told
  pub none_differs : (fault : LoadFault) → Differs fault
      → (TellsFlash means old → (now : ℕ) (records : List Meaning)
      → Keeps table_rule (means.device old).blocks (means.flash old).content now s.row s.links records
      → index_of table_rule (means.flash old).content now s.row s.links ≡ Some index → OnMismatch {A = LastCopy} (Err fault) ⊥)
      → DiffersUntold (TellsFlash means old) (vault_fault_of fault)
  none_differs loads.Flash differs agrees = tt
  none_differs (loads.Mismatch block page one other) differs agrees = (differs, λ told. no told)
    where
      no : TellsFlash means old → ⊥
      no told =
          let (table, here) = stands told in
          let keeps = keeps_at vault (means.flash old) at s index last sound own here.pages here.stores in
          agrees told vault.directory.now keeps.records
          (subst (λ (n : ℕ). Keeps table_rule n (means.flash old).content vault.directory.now s.row s.links keeps.records) by keeps.keeps) keeps.indexed

  -- the copy failed
  pub copy_failed : {A : Type 0} (fault : LoadFault) (indexes : List TimeIndex) (pool : Blocks)
      → CopiesInto means vault.pool old mid (Err fault) → Differs fault
      → (TellsFlash means old → (now : ℕ) (records : List Meaning)
      → Keeps table_rule (means.device old).blocks (means.flash old).content now s.row s.links records
      → index_of table_rule (means.flash old).content now s.row s.links ≡ Some index → OnMismatch {A = LastCopy} (Err fault) ⊥)
      → loaded.UnlessFlash {A = LastCopy} (Err fault) ((means.counts mid).flash_faults ≡ (means.counts old).flash_faults)
      → loaded.OnFlash {A = LastCopy} (Err fault) (Rose (means.counts old).flash_faults (means.counts mid).flash_faults)
      → Renews {A = A} means old mid vault (record vault { indexes = indexes; pool = pool; is_open = false }) (Err (vault_fault_of fault))
  copy_failed {A = A} fault indexes pool copies differs agrees no_fault cause = record {
    leaves = copy_leaves (Err fault) copies;
    stands = tt;
    shown = tt;
    after = record { others = refl; directory = refl; rows = rows_same vault.directory.stores; fresh = fresh_same vault.lasts };
    sound = tt;
    journal = tt;
    unsent = copies.unsent;
    link = copies.link;
    same = copies.same;
    mismatch = none_differs fault differs agrees;
    no_fault = unless fault ((means.counts mid).flash_faults ≡ (means.counts old).flash_faults) no_fault;
    cause = on fault (Rose (means.counts old).flash_faults (means.counts mid).flash_faults) cause;
  }
    where
      unless : (f : LoadFault) (P : Type 0) → loaded.UnlessFlash {A = LastCopy} (Err f) P → UnlessFlash {A = A} (Err (vault_fault_of f)) P
      unless loads.Flash P h = tt
      unless (loads.Mismatch block page one other) P h = h

      on : (f : LoadFault) (P : Type 0) → loaded.OnFlash {A = LastCopy} (Err f) P → OnFlash {A = A} (Err (vault_fault_of f)) P
      on loads.Flash P h = h
      on (loads.Mismatch block page one other) P h = tt

  -- the copy is made

  module _ (copy : LastCopy) (copies : CopiesInto means vault.pool old mid (Ok copy)) (copied : IsLastCopy s.row s.links index copy)
      (spelled : TellsFlash means old → (now : ℕ) (records : List Meaning)
      → Keeps table_rule (means.device old).blocks (means.flash old).content now s.row s.links records
      → index_of table_rule (means.flash old).content now s.row s.links ≡ Some index
      → SpellsLast (means.flash mid).content s.row s.links (renewed_link s.row s.links copy.block))
      (clean : TellsFlash means old → IsCleanFrom (means.flash mid) copy.block copy.used)
      (firsts : (means.counts mid).flash_faults ≡ (means.counts old).flash_faults) where
    abbrev d : Directory
    d = vault.directory.directory

    pub free : is_free vault.pool copy.block ≡ true
    free = subst (λ (n : ℕ). is_free vault.pool n ≡ true) (sym copies.is) copies.was_free

    kept : TellsFlash means old → KeptElsewhere (pages_of_block copy.block) (means.flash old) (means.flash mid)
    kept told = subst (λ (n : ℕ). KeptElsewhere (pages_of_block n) (means.flash old) (means.flash mid)) (sym copies.is) (copies.others told)

    pages : TellsFlash means old → IsContent vault.blocks (means.flash mid).content
    pages told =
        subst (λ (n : ℕ). IsContent n (means.flash mid).content) (ap (λ (v : Device). v.blocks) copies.same ∙ sym by) (content mid (tells_too copies.same told))

    abbrev after : Directory
    after = next vault sound at s index last own linked copy.block free

    abbrev new : Link
    new = renewed_link s.row s.links copy.block

    swap_applied : apply d (Swap s.identifier new) ≡ Some after
    swap_applied = applied vault sound at s index last own linked copy.block free

    -- the link that is entered
    abbrev pub entered : Link
    entered = record { block = copy.block; first = copy.first }

    -- the change fits
    pub swap_entered : apply d (Swap s.identifier entered) ≡ Some after
    swap_entered =
        ap (λ (n : ℕ). apply d (Swap s.identifier (record { block = copy.block; first = n }))) copied.first ∙ swap_applied

    pub made_after : (r : Result ⊤ ApplyFault) (made : Kept) → OnOk r (apply d (Swap s.identifier entered) ≡ Some made.directory)
        → (r ≡ Err faults.Unfit → apply d (Swap s.identifier entered) ≡ None) → (r ≡ Err faults.NoMemory → ⊥) → made.directory ≡ after
    made_after r made ok unfit memory =
        sym (made_by r d made.directory after (Swap s.identifier entered) ok unfit memory swap_entered)

    pub journal_mid : TellsFlash means mid → journals.StandsFor vault.journal (means.flash mid)
    journal_mid told =
        let told_old = tells_too (sym copies.same) told in
        let (table, here) = stands told_old in
        journal_copied vault (means.flash old) table copy.block sound here free (means.flash mid) (kept told_old) (pages told_old)

    kept_mid : TellsFlash means old → IsKept (means.device mid).blocks d (means.flash mid)
    kept_mid told =
        let (table, here) = stands told in
        subst (λ (n : ℕ). IsKept n d (means.flash mid)) (by ∙ sym (ap (λ (v : Device). v.blocks) copies.same))
        (kept_copied vault (means.flash old) table copy.block sound here free (means.flash mid) (kept told) (pages told))

    spells : TellsFlash means old → SpellsLast (means.flash mid).content s.row s.links new
    spells told =
        let (table, here) = stands told in
        let keeps = keeps_at vault (means.flash old) at s index last sound own here.pages here.stores in
        spelled told vault.directory.now keeps.records
        (subst (λ (n : ℕ). Keeps table_rule n (means.flash old).content vault.directory.now s.row s.links keeps.records) by keeps.keeps) keeps.indexed

    -- and behind the entry, or while it is added

    module _ (final : B)
        (either : TellsFlash means mid → (before behind : Directory) → IsKept (means.device mid).blocks before (means.flash mid)
        → apply before (Swap s.identifier entered) ≡ Some behind
        → LeavesOnly means mid final (HoldsEither (means.device mid).blocks journal_pages (means.flash mid) before behind))
        {p e b : ℕ} (touches : Touches means journal_pages p e b mid final) where
      entry_leaves : TellsFlash means old → (table : Table) → StandsFor vault (means.flash old) table → LeavesOnly means old final (HoldsTable vault.blocks table)
      entry_leaves told table here =
          let share = share_now vault sound at s index last own linked copy.block free in
          stops.goes_on means old mid final (HoldsTable vault.blocks table) (HoldsTable vault.blocks table)
          (copy_leaves (Ok copy) copies told table here)
          (stops.weaker means mid final (HoldsTable vault.blocks table)
          (HoldsEither vault.blocks journal_pages (means.flash mid) d after)
          (subst (λ (n : ℕ). LeavesOnly means mid final (HoldsEither n journal_pages (means.flash mid) d after))
          (ap (λ (v : Device). v.blocks) copies.same ∙ sym by)
          (either (tells_too copies.same told) d after (kept_mid told) swap_entered))
          (λ image is. while_swapping vault (means.flash old) table copy.block sound here free (means.flash mid) (kept told) (pages told)
          s.identifier s new after (found vault sound at s index last own linked copy.block free) swap_applied
          (lawful_now vault sound at s index last own linked copy.block free) share (spells told) image is))
          (λ image is. is)

      -- the entry failed
      pub entry_failed : {A : Type 0} (indexes : List TimeIndex) (pool : Blocks) (journal : journals.Kept)
          → Rose (means.counts mid).flash_faults (means.counts final).flash_faults
          → Renews {A = A} means old final vault (record vault { indexes = indexes; pool = pool; journal = journal; is_open = false }) (Err Flash)
      entry_failed indexes pool journal cause = record {
        leaves = entry_leaves;
        stands = tt;
        shown = tt;
        after = record { others = refl; directory = refl; rows = rows_same vault.directory.stores; fresh = fresh_same vault.lasts };
        sound = tt;
        journal = tt;
        unsent = λ told. runs.sends_nothing_on means old mid final (copies.unsent told) (touches.unsent (runs.links_too copies.same told));
        link = record { faults = touches.work.link_faults ∙ copies.link.faults; sends = touches.work.sends ∙ copies.link.sends };
        same = touches.same ∙ copies.same;
        mismatch = tt;
        no_fault = tt;
        cause = subst (λ (n : ℕ). Rose n (means.counts final).flash_faults) firsts cause;
      }

      -- the entry is added
      module _ (is_open : vault.is_open ≡ true) (kept_now : Kept) (same_now : kept_now.directory ≡ after) (pool : Blocks) (was : IsPool vault.pool)
          (many : blocks_of pool ≡ blocks_of vault.pool)
          (freed : pool.free ≡ set (set vault.pool.free copy.block false) copy.old true)
          (readied : pool.ready ≡ set (set vault.pool.ready copy.block false) copy.old false)
          (journal : journals.Kept) (index_now : TimeIndex) (index_is : index_now ≡ renewed_index s.row s.links copy.block index) where
        abbrev last_now : LastBlock
        last_now = record { used = copy.used; stale = false }

        abbrev pub made_now : InMemory
        made_now = record vault {
          directory = kept_now;
          indexes = slice_set vault.indexes at index_now;
          lasts = slice_set vault.lasts at last_now;
          pool = pool;
          journal = journal;
        }

        -- the same, by what was copied
        abbrev made_by_copy : TimeIndex → LastBlock → InMemory
        made_by_copy i l = record made_now { indexes = slice_set vault.indexes at i; lasts = slice_set vault.lasts at l }

        last_is : (record { used = pages_of (last_entries s.row s.links index); stale = false }) ≡ last_now
        last_is = λ i. record { used = sym copied.used i; stale = false }

        freed_old : pool.free ≡ set (set vault.pool.free copy.block false) (last_block s.links) true
        freed_old = freed ∙ ap (λ (n : ℕ). set (set vault.pool.free copy.block false) n true) copied.old

        readied_old : pool.ready ≡ set (set vault.pool.ready copy.block false) (last_block s.links) false
        readied_old = readied ∙ ap (λ (n : ℕ). set (set vault.pool.ready copy.block false) n false) copied.old

        pub swapped_sound : IsSound made_now
        swapped_sound =
            subst (λ (i : TimeIndex). IsSound (made_by_copy i last_now)) (sym index_is)
            (subst (λ (l : LastBlock). IsSound (made_by_copy (renewed_index s.row s.links copy.block index) l)) last_is
            (sound_renewed vault sound at s index last own linked copy.block free pool was freed_old readied_old kept_now journal same_now many))

        pub swapped_stands : (TellsFlash means mid → (before behind : Directory) → IsKept (means.device mid).blocks before (means.flash mid)
            → apply before (Swap s.identifier entered) ≡ Some behind → IsKept (means.device mid).blocks behind (means.flash final))
            → (TellsFlash means mid → AllFirm (means.flash final)) → (TellsFlash means mid → journals.StandsFor journal (means.flash final))
            → TellsFlash means old → (table : Table) → StandsFor vault (means.flash old) table → StandsFor made_now (means.flash final) table
        swapped_stands holds firm journal_is told table here =
            let told_mid = tells_too copies.same told in
            let blocks = ap (λ (v : Device). v.blocks) copies.same ∙ sym by in
            subst (λ (i : TimeIndex). StandsFor (made_by_copy i last_now) (means.flash final) table) (sym index_is)
            (subst (λ (l : LastBlock). StandsFor (made_by_copy (renewed_index s.row s.links copy.block index) l) (means.flash final) table) last_is
            (renewed_stands vault sound at s index last own linked copy.block free (means.flash old) (means.flash mid) table here (kept told) (pages told)
            (spells told) (subst (IsCleanFrom (means.flash mid) copy.block) copied.used (clean told)) (means.flash final) (touches.others told_mid)
            (subst (λ (n : ℕ). IsContent n (means.flash final).content) (ap (λ (v : Device). v.blocks) touches.same ∙ blocks)
            (content final (tells_too touches.same told_mid)))
            (subst (λ (n : ℕ). IsKept n after (means.flash final)) blocks (holds told_mid d after (kept_mid told) swap_entered))
            (firm told_mid) pool was freed_old readied_old kept_now journal same_now (journal_is told_mid)))

        pub entry_added : (TellsFlash means mid → (before behind : Directory) → IsKept (means.device mid).blocks before (means.flash mid)
            → apply before (Swap s.identifier entered) ≡ Some behind → IsKept (means.device mid).blocks behind (means.flash final))
            → (TellsFlash means mid → AllFirm (means.flash final)) → (TellsFlash means mid → journals.StandsFor journal (means.flash final))
            → (means.counts final).flash_faults ≡ (means.counts mid).flash_faults
            → Renews {A = ⊤} means old final vault made_now (Ok tt)
        entry_added holds firm journal_is no_fault = record {
          leaves = entry_leaves;
          stands = swapped_stands holds firm journal_is;
          shown = λ stores are.
              subst (λ (e : Directory). AreShown stores e.stores made_now.indexes) (sym same_now)
              (shown_replaced stores d.stores vault.indexes at s (renewed_store vault sound at s index last own linked copy.block free) index
              index_now are own.there own.indexed
              (λ store is. subst (IsStoreShown store (renewed_store vault sound at s index last own linked copy.block free)) (sym index_is)
              (renewed_shown s (swapped vault sound at s index last own linked copy.block free) index copy.block store is)));
          after = record {
            others = λ i. record made_now { is_open = is_open i };
            directory = same_now ∙ ap (λ (e : Directory). with_stores d e.stores) (sym same_now);
            rows =
                subst (λ (e : Directory). KeepRows d.stores e.stores) (sym same_now)
                (rows_replaced d.stores at s (renewed_store vault sound at s index last own linked copy.block free) own.there refl refl);
            fresh = fresh_replaced vault.lasts at last_now refl;
          };
          sound = swapped_sound;
          journal = λ told. journal_is (tells_too copies.same told);
          unsent = λ told. runs.sends_nothing_on means old mid final (copies.unsent told) (touches.unsent (runs.links_too copies.same told));
          link = record { faults = touches.work.link_faults ∙ copies.link.faults; sends = touches.work.sends ∙ copies.link.sends };
          same = touches.same ∙ copies.same;
          mismatch = tt;
          no_fault = no_fault ∙ firsts;
          cause = tt;
        }

        pub place_renewed : RenewsAt vault made_now at
        place_renewed = record {
          s = renewed_store vault sound at s index last own linked copy.block free;
          index = index_now;
          last = last_now;
          stores = ap (λ (e : Directory). e.stores) same_now;
          indexes = refl;
          lasts = refl;
          fresh = refl;
        }
