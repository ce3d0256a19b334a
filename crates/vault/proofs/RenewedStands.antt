-- A vault whose store's last block was renewed stands for the same table.
use Rattle.std.proofs.Common.{◌≡◌, inl, inr, ℕ, ◌+◌, ◌*◌, ◌<◌, ◌≤◌, ◌==◌, ◌/◌, Bool, true, false, List, [], ◌∷◌, length, map, set, slice_set, Some, refl, sym, ◌∙◌, ap, subst, arith}
use Rattle.std.specs.List.{list_all}
use Rattle.std.proofs.lemmas.Bool.{and_parts, cases_lt, eq-eqb, eqb-true, false≢true, not-true}
use Rattle.std.proofs.lemmas.Option.{none-some, same_Some}
use Rattle.block_pool.specs.Blocks.{Blocks, IsPool, is_free, is_ready}
use Rattle.board.specs.Flash.{Flash, IsContent, pages_of_block}
use Rattle.board.specs.Touches.{KeptElsewhere}
use Rattle.board.proofs.Pages.{above_pages, below_pages}
use Rattle.chain_log.specs.Pages.{IsCleanFrom}
use Rattle.image_table.proofs.DataPages.{data_page}
use Rattle.image_table.proofs.Frames.{data_links, own_links, records_kept, shared_links, table_loads}
use Rattle.image_table.proofs.Standing.{table_here}
use Rattle.image_table.specs.Table.{store_of, table_by, table_rule}
use Rattle.meta_journal.specs.Standing.{AllFirm}
use Rattle.meta_journal.specs.Standing as journals
use Rattle.pst_model.specs.Table.{Store, Table}
use Rattle.record_view.specs.Records.{Meaning}
use Rattle.record_view.specs.declared.link.Link.{Link}
use Rattle.store_directory.proofs.Steps.{some_then}
use Rattle.store_directory.specs.Checkpoints.{is_lawful}
use Rattle.store_directory.specs.Directory.{Directory, Listed, is_new, swap_last}
use Rattle.store_directory.specs.Kept.{Kept}
use Rattle.store_load.proofs.Eachs.{each_both}
use Rattle.store_load.proofs.Frames.{answered}
use Rattle.store_load.proofs.Indexed.{index_kept}
use Rattle.store_load.proofs.StayingIndexes.{index_stays, used_stays}
use Rattle.store_load.specs.Claims.{block_of, is_data, may_share}
use Rattle.store_load.specs.Extents.{last_of}
use Rattle.store_load.specs.Frame.{in_store}
use Rattle.store_load.specs.Keeping.{Keeps}
use Rattle.store_load.specs.Loaded.{index_of}
use Rattle.store_load.specs.Moving.{SpellsLast}
use Rattle.store_policy.specs.Shown.{IsTableShown}
use Rattle.store_write.proofs.Lying.{renewed_indexed}
use Rattle.store_write.specs.Renewed.{last_entries, renewed_index, renewed_link}
use Rattle.time_index.specs.TimeIndex.{TimeIndex, pages_of}
use Rattle.vault.proofs.DataBlocks.{clean_from, data_out, store_next}
use Rattle.vault.proofs.EachStores.{each_gives}
use Rattle.vault.proofs.FreeBlocks.{new_each, off_store}
use Rattle.vault.proofs.Loads.{own_at}
use Rattle.vault.proofs.Renewed.{by_next}
use Rattle.vault.proofs.RenewedMemory.{IsStoreAt, applied, found, lawful_now, made, next, ready_before, renewed_store, share_now, swapped, unlinked}
use Rattle.vault.proofs.ReplacedStores.{each_here, each_replaced, each_with}
use Rattle.vault.proofs.SameRecords.{each_next, keep_same}
use Rattle.vault.proofs.Tables.{HasIndex, shows_table, view_shows}
use Rattle.vault.specs.Changing.{IsKept, journal_pages}
use Rattle.vault.specs.Memory.{EachStore, InMemory, IsSound, has_link}
use Rattle.vault.specs.Renewing.{last_block}
use Rattle.vault.specs.Standing.{IsCleanBehind, IsStoreOf, StandsFor}
use Rattle.vault.specs.declared.last_block.LastBlock.{LastBlock}

-- the records of a store that the flash keeps
pub record KeepsAt (vault : InMemory) (flash : Flash) (s : Listed) (index : TimeIndex) : Type 0 where
  pub records : List Meaning
  pub keeps : Keeps table_rule vault.blocks flash.content vault.directory.now s.row s.links records
  pub indexed : index_of table_rule flash.content vault.directory.now s.row s.links ≡ Some index

few_links : (n m : ℕ) → n ≤ m / 240 + 3 → m ≤ 100000 → n ≤ 512
few_links n m h most = omega (arith, h, most)

pub keeps_at : (vault : InMemory) (flash : Flash) (at : ℕ) (s : Listed) (index : TimeIndex) (last : LastBlock) → IsSound vault
    → IsStoreAt vault at s index last → IsContent vault.blocks flash.content
    → EachStore (IsStoreOf flash vault.directory.now) vault.directory.stores vault.indexes vault.lasts → KeepsAt vault flash s index
keeps_at vault flash at s index last sound own content stores =
    let here = each_here (IsStoreOf flash vault.directory.now) vault.directory.stores vault.indexes vault.lasts at s stores own.there in
    let same : here.index ≡ index = same_Some here.index index (sym here.indexed ∙ own.indexed) in
    let is : index_of table_rule flash.content vault.directory.now s.row s.links ≡ Some index = here.is.index_is ∙ ap Some same in
    let (records, kept, seen) = index_kept table_rule flash.content vault.directory.now s.row s.links index is in
    let within = own_at vault.blocks vault.directory.stores at s sound.share own.there in
    record {
      records = records;
      keeps = record {
        pages = content;
        count = own.few;
        first = own.listed.fits.first;
        few = few_links (length s.links) s.size own.listed.links own.size;
        each_link = λ k default lt. record { block = within k default lt; first = (own.listed.fitting k default lt).1 };
        kept = kept;
      };
      indexed = is;
    }

other_way : (a b : ℕ) → (a == b) ≡ false → (b == a) ≡ false
other_way a b h = pick (b == a) refl
  where
    pick : (t : Bool) → (b == a) ≡ t → t ≡ false
    pick false is = refl
    pick true is = absurd (false≢true (sym h ∙ eq-eqb a b (sym (eqb-true b a is))))

-- a free block is a data block
data_block : (pool : Blocks) (block : ℕ) → IsPool pool → is_free pool block ≡ true → 7 ≤ block
data_block pool block lawful free = elim (cases_lt block 7) [
  | inl low ↦ absurd (false≢true (sym (lawful.free_data block low) ∙ free))
  | inr high ↦ high
]

swapped_some : (new : Link) (links swapped : List Link) → swap_last new links ≡ Some swapped → has_link swapped ≡ true
swapped_some new [] swapped made = absurd (none-some swapped made)
swapped_some new (link ∷ []) swapped made = ap has_link (sym (same_Some (new ∷ []) swapped made))
swapped_some new (link ∷ next ∷ links) swapped made =
    let (deeper, inner, last) = some_then (swap_last new (next ∷ links)) (λ (l : List Link). Some (link ∷ l)) swapped made in
    ap has_link (sym (same_Some (link ∷ deeper) swapped last))

-- pages of another block
other_block : (fresh block q : ℕ) → (fresh == block) ≡ false → q < 256 → pages_of_block fresh (256 * block + q) ≡ false
other_block fresh block q apart low = elim (cases_lt block fresh) [
  | inl lt ↦ below_pages (256 * fresh) 256 (256 * block + q) (omega (arith, lt, low))
  | inr le ↦ above_pages (256 * fresh) 256 (256 * block + q) (omega (arith, low, above fresh block le apart))
]
  where
    above : (a b : ℕ) → a ≤ b → (a == b) ≡ false → a < b
    above a b le apart = elim (cases_lt a b) [
      | inl lt ↦ lt
      | inr ge ↦ absurd (false≢true (sym apart ∙ eq-eqb a b (omega (arith, le, ge))))
    ]

not_named : (fresh : ℕ) (link : Link) (links : List Link) → is_new fresh (map block_of (link ∷ links)) ≡ true → (fresh == (last_of link links).block) ≡ false
not_named fresh link [] new = not-true (fresh == link.block) (and_parts _ true new).0
not_named fresh link (next ∷ links) new = not_named fresh next links (and_parts _ (is_new fresh (map block_of (next ∷ links))) new).1

module _ (vault : InMemory) (sound : IsSound vault) (at : ℕ) (s : Listed) (index : TimeIndex) (last : LastBlock) (own : IsStoreAt vault at s index last)
    (linked : has_link s.links ≡ true) (fresh : ℕ) (free : is_free vault.pool fresh ≡ true)
    (flash copied : Flash) (table : Table) (stands : StandsFor vault flash table)
    (kept : KeptElsewhere (pages_of_block fresh) flash copied) (pages : IsContent vault.blocks copied.content) where
  abbrev d : Directory
  d = vault.directory.directory

  abbrev after : Directory
  after = next vault sound at s index last own linked fresh free

  abbrev Apart : Listed → Type 0
  Apart x = (list_all (is_data vault.blocks) x.links ≡ true) × (is_new fresh (map block_of x.links) ≡ true)

  -- each store is as before beside the copies

  off : (x : Listed) → Apart x → (p : ℕ) → in_store flash.content p x.row x.links ≡ true → copied.content p ≡ flash.content p
  off x apart p there = kept.content p (pick (pages_of_block fresh p) refl)
    where
      pick : (b : Bool) → pages_of_block fresh p ≡ b → b ≡ false
      pick true inside = absurd (off_store vault.blocks flash.content stands.pages fresh p inside x apart.0 apart.1 there)
      pick false inside = refl

  clean_beside : (links : List Link) (used : ℕ) → is_new fresh (map block_of links) ≡ true → IsCleanBehind flash links used → IsCleanBehind copied links used
  clean_beside [] used new clean = tt
  clean_beside (link ∷ links) used new clean = λ q low high.
      let out = other_block fresh (last_of link links).block q (not_named fresh link links new) high in
      let was = clean q low high in
      (kept.erased (256 * (last_of link links).block + q) out ∙ was.0, kept.firm (256 * (last_of link links).block + q) out was.1)

  store_beside : (x : Listed) (i : TimeIndex) (l : LastBlock) → Apart x → IsStoreOf flash d.now x i l → IsStoreOf copied d.now x i l
  store_beside x i l apart is =
      let within = own_links vault.blocks x.links apart.0 in
      record {
        index_is =
            index_stays table_rule vault.blocks flash.content copied.content d.now x.row x.links i stands.pages pages within is.index_is (off x apart);
        used_is =
            is.used_is
            ∙ sym (used_stays table_rule vault.blocks flash.content copied.content d.now x.row x.links i stands.pages pages within is.index_is (off x apart));
        clean = λ not_stale. clean_beside x.links l.used apart.1 (is.clean not_stale);
      }

  stores_beside : EachStore (IsStoreOf copied d.now) d.stores vault.indexes vault.lasts
  stores_beside =
      each_with Apart (IsStoreOf flash d.now) (IsStoreOf copied d.now) store_beside d.stores vault.indexes vault.lasts
      (each_both (λ (x : Listed). list_all (is_data vault.blocks) x.links ≡ true) (λ (x : Listed). is_new fresh (map block_of x.links) ≡ true) Apart
      (λ x data_blocks new. (data_blocks, new)) d.stores
      (data_links vault.blocks d.stores (shared_links vault.blocks d.stores sound.share))
      (new_each fresh d.stores (unlinked vault sound at s index last own linked fresh free).1))
      stands.stores

  -- the copied block is that of the store

  module _ (spells : SpellsLast copied.content s.row s.links (renewed_link s.row s.links fresh))
      (clean : IsCleanFrom copied fresh (pages_of (last_entries s.row s.links index))) where
    abbrev index_after : TimeIndex
    index_after = renewed_index s.row s.links fresh index

    abbrev last_after : LastBlock
    last_after = record { used = pages_of (last_entries s.row s.links index); stale = false }

    abbrev indexes : List TimeIndex
    indexes = slice_set vault.indexes at index_after

    abbrev lasts : List LastBlock
    lasts = slice_set vault.lasts at last_after

    ends_new : (new : Link) (links swapped : List Link) → swap_last new links ≡ Some swapped → IsCleanFrom copied new.block last_after.used
        → IsCleanBehind copied swapped last_after.used
    ends_new new [] swapped made clean = absurd (none-some swapped made)
    ends_new new (link ∷ []) swapped made clean =
        subst (λ (l : List Link). IsCleanBehind copied l last_after.used) (same_Some (new ∷ []) swapped made) clean
    ends_new new (link ∷ next ∷ links) swapped made clean =
        let (deeper, inner, last) = some_then (swap_last new (next ∷ links)) (λ (l : List Link). Some (link ∷ l)) swapped made in
        subst (λ (l : List Link). IsCleanBehind copied l last_after.used) (same_Some (link ∷ deeper) swapped last)
        (longer link deeper (swapped_some new (next ∷ links) deeper inner) (ends_new new (next ∷ links) deeper inner clean))
      where
        longer : (link : Link) (links : List Link) → has_link links ≡ true → IsCleanBehind copied links last_after.used
            → IsCleanBehind copied (link ∷ links) last_after.used
        longer link [] has clean = absurd (false≢true has)
        longer link (next ∷ links) has clean = clean

    store_after : IsStoreOf copied d.now (renewed_store vault sound at s index last own linked fresh free) index_after last_after
    store_after =
        let keeps = keeps_at vault copied at s index last sound own pages stores_beside in
        let is_made = made vault sound at s index last own linked fresh free in
        let are = renewed_indexed table_rule vault.blocks copied.content d.now s.row s.links (swapped vault sound at s index last own linked fresh free)
        keeps.records index fresh keeps.keeps keeps.indexed spells is_made in
        record {
          index_is = are.0;
          used_is = sym are.1;
          clean = λ not_stale. ends_new (renewed_link s.row s.links fresh) s.links (swapped vault sound at s index last own linked fresh free) is_made clean;
        }

    stores_copied : EachStore (IsStoreOf copied d.now) after.stores indexes lasts
    stores_copied =
        each_replaced (IsStoreOf copied d.now) d.stores vault.indexes vault.lasts at s (renewed_store vault sound at s index last own linked fresh free)
        index_after last_after stores_beside own.there store_after

    by_copied_next : table_by vault.blocks copied.content after ≡ Some table
    by_copied_next =
        by_next vault flash table fresh sound stands free copied kept pages s.identifier s (renewed_link s.row s.links fresh) after
        (found vault sound at s index last own linked fresh free) (applied vault sound at s index last own linked fresh free)
        (lawful_now vault sound at s index last own linked fresh free) (share_now vault sound at s index last own linked fresh free) spells

    -- and behind the entry

    module _ (final : Flash) (written : KeptElsewhere journal_pages copied final) (content : IsContent vault.blocks final.content)
        (is_kept : IsKept vault.blocks after final) (firm : AllFirm final) (pool : Blocks) (was : IsPool vault.pool)
        (freed : pool.free ≡ set (set vault.pool.free fresh false) (last_block s.links) true)
        (readied : pool.ready ≡ set (set vault.pool.ready fresh false) (last_block s.links) false) where
      abbrev Keeps_too : Listed → Type 0
      Keeps_too t = (list_all (is_data vault.blocks) t.links ≡ true) × ((store : Store) × (store_of copied.content d.now t ≡ Some store))

      stores_final : EachStore (IsStoreOf final d.now) after.stores indexes lasts
      stores_final =
          let loads = table_loads vault.blocks copied.content after table by_copied_next in
          each_next Keeps_too (IsStoreOf copied d.now) (IsStoreOf final d.now)
          (λ x t i l same keeps is. store_next vault.blocks copied final written d.now d.now x t i l same keeps.0 keeps.1 is)
          after.stores after.stores indexes lasts (keep_same after.stores)
          (each_both (λ (t : Listed). list_all (is_data vault.blocks) t.links ≡ true) (λ (t : Listed). (store : Store) × (store_of copied.content d.now t ≡ Some store))
          Keeps_too (λ t data_blocks answer. (data_blocks, answer)) after.stores
          (data_links vault.blocks after.stores (shared_links vault.blocks after.stores (share_now vault sound at s index last own linked fresh free)))
          (answered (store_of copied.content d.now) after.stores table.stores loads.stores))
          stores_copied

      by_final : table_by vault.blocks final.content after ≡ Some table
      by_final =
          records_kept vault.blocks copied.content final.content pages content after
          (λ p there.
          let page = data_page vault.blocks copied.content pages p after (share_now vault sound at s index last own linked fresh free) there in
          written.content p (data_out p page.low)) table by_copied_next

      ready_final : (block : ℕ) → is_free pool block ≡ true → is_ready pool block ≡ true → IsCleanFrom final block 0
      ready_final block free_too ready =
          let before = ready_before vault sound at s index last own linked fresh free pool was freed readied block free_too ready in
          let clean_was = stands.ready block before.was_free before.was_ready in
          let high : 7 ≤ block = data_block vault.pool block was before.was_free in
          let differs : (fresh == block) ≡ false = other_way block fresh before.apart in
          clean_from vault.blocks copied final written block 0 high
          (λ q low top.
          let out = other_block fresh block q differs top in
          let page = clean_was q low top in
          (kept.erased (256 * block + q) out ∙ page.0, kept.firm (256 * block + q) out page.1))

      pub renewed_stands : (next_kept : Kept) (journal : journals.Kept) → next_kept.directory ≡ after → journals.StandsFor journal final
          → StandsFor (record vault { directory = next_kept; indexes = indexes; lasts = lasts; pool = pool; journal = journal }) final table
      renewed_stands next_kept journal same journal_is =
          let now = record vault { directory = next_kept; indexes = indexes; lasts = lasts; pool = pool; journal = journal } in
          let loads = table_loads vault.blocks final.content after table by_final in
          let back = sym same in
          let kept_too : IsKept vault.blocks next_kept.directory final = subst (λ (e : Directory). IsKept vault.blocks e final) back is_kept in
          let by_too : table_by vault.blocks final.content next_kept.directory ≡ Some table =
          subst (λ (e : Directory). table_by vault.blocks final.content e ≡ Some table) back by_final in
          let stores_too : EachStore (IsStoreOf final next_kept.now) next_kept.stores indexes lasts =
          subst (λ (e : Directory). EachStore (IsStoreOf final e.now) e.stores indexes lasts) back stores_final in
          let shows = shows_table vault.blocks final.content next_kept.directory indexes lasts
          (subst (λ (e : Directory). is_lawful e ≡ true) back loads.lawful)
          (subst (λ (e : Directory). may_share 240 vault.blocks e.stores ≡ true) back loads.share)
          (each_gives (IsStoreOf final next_kept.now) (HasIndex final.content next_kept.now) (λ x i l one. one.index_is)
          next_kept.stores indexes lasts stores_too) in
          record {
            pages = content;
            holds = table_here vault.blocks final.content next_kept.directory table kept_too.holds by_too;
            directory = kept_too.holds;
            shows = λ view is. subst (λ (t : Table). IsTableShown t view) (same_Some shows.table table (sym shows.by ∙ by_too))
                (view_shows vault.blocks final.content now shows view is);
            journal = journal_is;
            stores = stores_too;
            ready = ready_final;
            firm_journal = kept_too.is_firm;
            firm_records = λ p there. firm p;
          }
