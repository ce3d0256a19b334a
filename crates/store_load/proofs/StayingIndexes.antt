-- The index of a store on other images, at later times, and by other rows.
use Rattle.std.proofs.Common.{◌≡◌, ℕ, ◌≤◌, true, List, [], ◌∷◌, All, Some, refl, sym, ◌∙◌, ap}
use Rattle.board.specs.Flash.{IsContent}
use Rattle.record_view.specs.Records.{Meaning}
use Rattle.record_view.specs.declared.link.Link.{Link}
use Rattle.store_directory.specs.declared.row.Row.{Row}
use Rattle.time_index.specs.TimeIndex.{TimeIndex}
use Rattle.store_load.specs.Extents.{end_of, last_read}
use Rattle.store_load.specs.Frame.{in_store, pages_read}
use Rattle.store_load.specs.Keeping.{IsInDevice}
use Rattle.store_load.specs.Loaded.{index_of, used_in}
use Rattle.store_load.specs.declared.rule.Rule.{Rule}
use Rattle.store_load.proofs.Counting.{KeptAre, kept_parts}
use Rattle.store_load.proofs.Frames.{stay_are}
use Rattle.store_load.proofs.IndexMade.{index_is, index_made}
use Rattle.store_load.proofs.Indexed.{index_kept}
use Rattle.store_load.proofs.More.{last_spelled}
use Rattle.store_load.proofs.Moved.{rise_later}

-- on an image with the same pages of the store's records
module _ (rule : Rule) (blocks : ℕ) (image other : ℕ → List ℕ) (now : ℕ) (row : Row) (links : List Link) (index : TimeIndex)
    (content : IsContent blocks image) (others : IsContent blocks other) (own : All (IsInDevice blocks) links)
    (is : index_of rule image now row links ≡ Some index)
    (same : (p : ℕ) → in_store image p row links ≡ true → other p ≡ image p) where
  pub index_stays : index_of rule other now row links ≡ Some index
  index_stays =
      let (records, kept, seen) = index_kept rule image now row links index is in
      let are = kept_parts rule image now row links records kept in
      index_made rule other now row links records are.reads
      (stay_are blocks image other content others row links own same rule now records are)
      ∙ ap Some (index_is rule image now row links records index kept is)

  pub used_stays : used_in other row links ≡ used_in image row links
  used_stays =
      let (records, kept, seen) = index_kept rule image now row links index is in
      let are = kept_parts rule image now row links records kept in
      by_links links records are (stay_are blocks image other content others row links own same rule now records are)
    where
      by_links : (l : List Link) (records : List Meaning) (are : KeptAre rule image now row l records)
          → (stays : KeptAre rule other now row l records) × (stays.reads ≡ are.reads) → used_in other row l ≡ used_in image row l
      by_links [] records are stays = refl
      by_links (link ∷ rest) records are (stays, reads) =
          ap pages_read
          (last_spelled other (end_of row) link rest stays.reads stays.read
          ∙ ap (λ (l : List (List Meaning)). Some (last_read l)) reads
          ∙ sym (last_spelled image (end_of row) link rest are.reads are.read))

-- at a later time
pub later_are : (rule : Rule) (image : ℕ → List ℕ) (now later : ℕ) (row : Row) (links : List Link) (records : List Meaning) → now ≤ later
    → (are : KeptAre rule image now row links records) → (still : KeptAre rule image later row links records) × (still.reads ≡ are.reads)
later_are rule image now later row links records le are = (
  record {
    begins = are.begins;
    reads = are.reads;
    read = are.read;
    live = are.live;
    filled = are.filled;
    short = are.short;
    rise = rise_later now later 0 records le are.rise;
    fits = are.fits;
  },
  refl,
)

pub index_later : (rule : Rule) (image : ℕ → List ℕ) (now later : ℕ) (row : Row) (links : List Link) (index : TimeIndex) → now ≤ later
    → index_of rule image now row links ≡ Some index → index_of rule image later row links ≡ Some index
index_later rule image now later row links index le is =
    let (records, kept, seen) = index_kept rule image now row links index is in
    let are = kept_parts rule image now row links records kept in
    index_made rule image later row links records are.reads (later_are rule image now later row links records le are)
    ∙ ap Some (index_is rule image now row links records index kept is)

-- by a row of the same records and the same size
pub same_index : (rule : Rule) (image : ℕ → List ℕ) (now : ℕ) (row other : Row) (links : List Link)
    → other.first ≡ row.first → other.count ≡ row.count → other.size ≡ row.size
    → index_of rule image now other links ≡ index_of rule image now row links
unfolding index_of
same_index rule image now row other [] first count size =
    λ i. index_of rule image now (record row { first = first i; count = count i; size = size i }) []
same_index rule image now row other (link ∷ []) first count size =
    λ i. index_of rule image now (record row { first = first i; count = count i; size = size i }) (link ∷ [])
same_index rule image now row other (link ∷ next ∷ links) first count size =
    λ i. index_of rule image now (record row { first = first i; count = count i; size = size i }) (link ∷ next ∷ links)
