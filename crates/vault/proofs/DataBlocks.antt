-- What is read of data blocks, after pages of the journal alone were written.
use Rattle.std.proofs.Common.{◌≡◌, ℕ, ◌+◌, ◌*◌, ◌≤◌, false, true, List, [], ◌∷◌, Option, Some, refl, sym, ◌∙◌, ap, ap₂, subst, arith}
use Rattle.std.specs.Prelude.{⊤}
use Rattle.std.specs.List.{list_all}
use Rattle.std.proofs.lemmas.Bool.{and_parts}
use Rattle.board.specs.Flash.{Flash}
use Rattle.board.specs.Touches.{KeptElsewhere}
use Rattle.board.proofs.Pages.{above_pages}
use Rattle.chain_log.specs.Pages.{IsCleanFrom}
use Rattle.commit_gate.proofs.AreaPages.{octets_same}
use Rattle.image_table.proofs.Frames.{data_tests, store_kept}
use Rattle.image_table.specs.Table.{store_of, table_rule}
use Rattle.pst_model.specs.Table.{Store}
use Rattle.record_view.specs.Records.{Meaning}
use Rattle.record_view.specs.declared.link.Link.{Link}
use Rattle.store_directory.specs.Directory.{Listed}
use Rattle.store_directory.specs.Options.{◌>>=◌, given}
use Rattle.store_directory.specs.declared.row.Row.{Row}
use Rattle.store_load.specs.Claims.{is_data}
use Rattle.store_load.specs.Each.{each}
use Rattle.store_load.specs.Extents.{Extent, all_records, end_of, extent_to, extents_from, extents_of, last_of, read_extent}
use Rattle.store_load.specs.Frame.{pages_read}
use Rattle.store_load.specs.Kept.{begins_well}
use Rattle.store_load.specs.Loaded.{index_by, index_of, used_in}
use Rattle.time_index.specs.TimeIndex.{TimeIndex}
use Rattle.vault.proofs.SameRecords.{index_stays, used_same}
use Rattle.vault.specs.Changing.{SameRecords, journal_pages}
use Rattle.vault.specs.Standing.{IsCleanBehind, IsStoreOf}
use Rattle.vault.specs.declared.last_block.LastBlock.{LastBlock}

pub data_out : (p : ℕ) → 1792 ≤ p → journal_pages p ≡ false
data_out p from = above_pages 0 1792 p (omega (arith, from))

module _ (blocks : ℕ) (flash new : Flash) (kept : KeptElsewhere journal_pages flash new) where
  -- a data block is read as before
  read_same : (extent : Extent) → 7 ≤ extent.block → read_extent new.content extent ≡ read_extent flash.content extent
  unfolding read_extent
  read_same extent from =
      ap (λ (octets : List ℕ). all_records octets extent.count extent.first 0)
      (octets_same flash.content new.content 256 (256 * extent.block)
      (λ q low high. kept.content q (data_out q (omega (arith, low, from)))))

  abbrev join : Option (List Meaning) → Option (List (List Meaning)) → Option (List (List Meaning))
  join first rest = first >>= λ (y : List Meaning). rest >>= λ (ys : List (List Meaning)). Some (y ∷ ys)

  reads_from : (end : ℕ) (link : Link) (links : List Link) → list_all (is_data blocks) (link ∷ links) ≡ true
      → each (read_extent new.content) (extents_from end link links) ≡ each (read_extent flash.content) (extents_from end link links)
  reads_from end link [] own =
      let parts = and_parts (is_data blocks link) true own in
      ap (λ (o : Option (List Meaning)). join o (Some [])) (read_same (extent_to end link) (data_tests blocks link.block parts.0).0)
  reads_from end link (next ∷ links) own =
      let parts = and_parts (is_data blocks link) (list_all (is_data blocks) (next ∷ links)) own in
      ap₂ join (read_same (extent_to next.first link) (data_tests blocks link.block parts.0).0) (reads_from end next links parts.1)

  reads_of : (row : Row) (links : List Link) → list_all (is_data blocks) links ≡ true
      → each (read_extent new.content) (extents_of row links) ≡ each (read_extent flash.content) (extents_of row links)
  reads_of row [] own = refl
  reads_of row (link ∷ links) own = reads_from (end_of row) link links own

  index_read : (now : ℕ) (row : Row) (links : List Link) → list_all (is_data blocks) links ≡ true
      → index_of table_rule new.content now row links ≡ index_of table_rule flash.content now row links
  unfolding index_of
  index_read now row links own =
      ap (λ (o : Option (List (List Meaning))). given (begins_well row links) >>= λ (_ : ⊤). o >>= index_by table_rule now row links)
      (reads_of row links own)

  last_data : (link : Link) (links : List Link) → list_all (is_data blocks) (link ∷ links) ≡ true → 7 ≤ (last_of link links).block
  last_data link [] own = (data_tests blocks link.block (and_parts (is_data blocks link) true own).0).0
  last_data link (next ∷ links) own = last_data next links (and_parts (is_data blocks link) (list_all (is_data blocks) (next ∷ links)) own).1

  used_read : (row : Row) (links : List Link) → list_all (is_data blocks) links ≡ true → used_in new.content row links ≡ used_in flash.content row links
  used_read row [] own = refl
  used_read row (link ∷ links) own =
      ap pages_read (read_same (extent_to (end_of row) (last_of link links)) (last_data link links own))

  -- a clean data block stays clean
  pub clean_from : (block used : ℕ) → 7 ≤ block → IsCleanFrom flash block used → IsCleanFrom new block used
  clean_from block used from clean = λ q low high.
      let out = data_out (256 * block + q) (omega (arith, from)) in
      let was = clean q low high in
      (kept.erased (256 * block + q) out ∙ was.0, kept.firm (256 * block + q) out was.1)

  clean_read : (links : List Link) (used : ℕ) → list_all (is_data blocks) links ≡ true → IsCleanBehind flash links used → IsCleanBehind new links used
  clean_read [] used own clean = tt
  clean_read (link ∷ links) used own clean = clean_from (last_of link links).block used (last_data link links own) clean

  -- a store of the same records at a later time, if it keeps them by the flash from before
  pub store_next : (now later : ℕ) (s t : Listed) (index : TimeIndex) (last : LastBlock) → SameRecords s t → list_all (is_data blocks) t.links ≡ true
      → (store : Store) × (store_of flash.content later t ≡ Some store) → IsStoreOf flash now s index last → IsStoreOf new later t index last
  store_next now later s t index last same own (store, answer) is =
      let (records, keeps, whole) = store_kept flash.content later t store answer in
      record {
        index_is =
            index_read later t.row t.links own ∙ index_stays s t same table_rule flash.content now later index records is.index_is keeps;
        used_is = is.used_is ∙ sym (used_same s t same flash.content) ∙ sym (used_read t.row t.links own);
        clean =
            λ not_stale. clean_read t.links last.used own
            (subst (λ (links : List Link). IsCleanBehind flash links last.used) (sym same.links) (is.clean not_stale));
      }
