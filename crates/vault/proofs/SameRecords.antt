-- Stores that have the same records: what is read of them, and what fits together of them.
use Rattle.std.proofs.Common.{◌≡◌, ℕ, ◌+◌, ◌≤◌, ◌&&◌, ◌||◌, nat_le, true, Bool, List, [], ◌∷◌, ◌++◌, length, drop, Some, refl, sym, ◌∙◌, ap₂, subst, arith}
use Rattle.std.specs.Prelude.{⊤}
use Rattle.std.specs.List.{list_all, list_any}
use Rattle.std.proofs.lemmas.Option.{same_Some}
use Rattle.image_table.specs.Table.{table_rule}
use Rattle.record_view.specs.Records.{Meaning}
use Rattle.record_view.specs.declared.link.Link.{Link}
use Rattle.store_directory.specs.Directory.{Listed}
use Rattle.store_directory.specs.Options.{◌>>=◌}
use Rattle.store_directory.specs.declared.row.Row.{Row}
use Rattle.store_directory.proofs.Steps.{some_then}
use Rattle.store_load.specs.Claims.{all_links, are_apart, blocks_at, is_within, may_share, reserved_at}
use Rattle.store_load.specs.Each.{each}
use Rattle.store_load.specs.Extents.{extents_of, read_extent}
use Rattle.store_load.specs.Frame.{in_store}
use Rattle.store_load.specs.InRange.{IsInRange}
use Rattle.store_load.specs.Kept.{begins_well, dead_by, kept_by, kept_of, live_of, may_keep}
use Rattle.store_load.specs.Loaded.{index_by, index_of, index_with, placed_all, used_in}
use Rattle.store_load.specs.declared.rule.Rule.{Rule}
use Rattle.store_load.proofs.Eachs.{EachIs, given_then}
use Rattle.time_index.specs.TimeIndex.{TimeIndex}
use Rattle.vault.specs.Changing.{KeepRecords, SameRecords}
use Rattle.store_load.specs.Extents.{end_of}
use Rattle.store_put.specs.Ranges.{AreFewIn}
use Rattle.vault.specs.Memory.{EachStore, IsSoundStore}
use Rattle.vault.specs.declared.last_block.LastBlock.{LastBlock}

-- a row with the numbers of another one's records
abbrev numbered : Row → Row → Row
numbered row other = record other { first = row.first; count = row.count; size = row.size }

begins_numbered : (row other : Row) (links : List Link) → begins_well (numbered row other) links ≡ begins_well row links
begins_numbered row other [] = refl
begins_numbered row other (link ∷ []) = refl
begins_numbered row other (link ∷ next ∷ links) = refl

index_numbered : (rule : Rule) (image : ℕ → List ℕ) (now : ℕ) (row other : Row) (links : List Link)
    → index_of rule image now (numbered row other) links ≡ index_of rule image now row links
unfolding index_of
index_numbered rule image now row other [] = refl
index_numbered rule image now row other (link ∷ []) = refl
index_numbered rule image now row other (link ∷ next ∷ links) = refl

used_numbered : (image : ℕ → List ℕ) (row other : Row) (links : List Link) → used_in image (numbered row other) links ≡ used_in image row links
used_numbered image row other [] = refl
used_numbered image row other (link ∷ links) = refl

range_numbered : (now later : ℕ) (row other : Row) (links : List Link) (index : TimeIndex) (used : ℕ) → now ≤ later
    → IsInRange table_rule now row links index used → IsInRange table_rule later (numbered row other) links index used
range_numbered now later row other links index used le range = record {
  begins = begins_numbered row other links ∙ range.begins;
  first = range.first;
  count = range.count;
  size = range.size;
  pages = range.pages;
  placed =
      λ k default lt. let one = range.placed k default lt in
      record { stamp = omega (arith, one.stamp, le); shortest = one.shortest; longest = one.longest; within = one.within };
  blocks = range.blocks;
  order = range.order;
  filled = range.filled;
  used_within = range.used_within;
}

-- an index is that at a later time too, at which the store keeps its records
index_later : (rule : Rule) (image : ℕ → List ℕ) (now later : ℕ) (row : Row) (links : List Link) (index : TimeIndex) (records : List Meaning)
    → index_of rule image now row links ≡ Some index → kept_of rule image later row links ≡ Some records
    → index_of rule image later row links ≡ Some index
unfolding index_of kept_of
index_later rule image now later row links index records is kept =
    let reads_are = each (read_extent image) (extents_of row links) in
    let (begins, rest) = given_then (begins_well row links) (λ (_ : ⊤). reads_are >>= index_by rule now row links) index is in
    let (reads, read, by) = some_then reads_are (index_by rule now row links) index rest in
    let made = (given_then (may_keep rule now row.size reads (live_of row links reads))
    (λ (_ : ⊤). Some (index_with row (drop (dead_by row.first links) (placed_all (extents_of row links) reads)))) index by).1 in
    let (begins_too, rest_too) = given_then (begins_well row links) (λ (_ : ⊤). reads_are >>= kept_by rule later row links) records kept in
    let (others, read_too, by_too) = some_then reads_are (kept_by rule later row links) records rest_too in
    let may = (given_then (may_keep rule later row.size others (live_of row links others)) (λ (_ : ⊤). Some (live_of row links others)) records by_too).0 in
    let same : others ≡ reads = same_Some others reads (sym read_too ∙ read) in
    let may_here = subst (λ (r : List (List Meaning)). may_keep rule later row.size r (live_of row links r) ≡ true) same may in
    rw begins (rw read (rw may_here made))

module _ (s t : Listed) (same : SameRecords s t) where
  row_is : numbered s.row t.row ≡ t.row
  row_is = λ i. record t.row { first = sym same.first i; count = sym same.count i; size = sym same.size i }

  pub index_same : (rule : Rule) (image : ℕ → List ℕ) (now : ℕ) → index_of rule image now t.row t.links ≡ index_of rule image now s.row s.links
  index_same rule image now =
      (λ i. index_of rule image now (sym row_is i) (same.links i)) ∙ index_numbered rule image now s.row t.row s.links

  pub used_same : (image : ℕ → List ℕ) → used_in image t.row t.links ≡ used_in image s.row s.links
  used_same image = (λ i. used_in image (sym row_is i) (same.links i)) ∙ used_numbered image s.row t.row s.links

  pub pages_same : (image : ℕ → List ℕ) (p : ℕ) → in_store image p t.row t.links ≡ in_store image p s.row s.links
  pages_same image p = λ i. in_store image p (sym row_is i) (same.links i)

  pub sound_same : (now later : ℕ) (index : TimeIndex) (last : LastBlock) → now ≤ later → IsSoundStore now s index last → IsSoundStore later t index last
  sound_same now later index last le sound = record {
    together = record {
      first = sound.together.first ∙ sym same.first;
      count = sound.together.count ∙ sym same.count;
      size = sound.together.size ∙ sym same.size;
    };
    in_place = record {
      in_range =
          subst (λ (row : Row). IsInRange table_rule later row t.links index last.used) row_is
          (subst (λ (links : List Link). IsInRange table_rule later (numbered s.row t.row) links index last.used) (sym same.links)
          (range_numbered now later s.row t.row s.links index last.used le sound.in_place.in_range));
      few =
          subst (λ (row : Row). AreFewIn last.used (end_of row) t.links) row_is
          (subst (λ (links : List Link). AreFewIn last.used (end_of (numbered s.row t.row)) links) (sym same.links) sound.in_place.few);
    };
  }

  -- the index at a later time, where the other store keeps its records
  pub index_stays : (rule : Rule) (image : ℕ → List ℕ) (now later : ℕ) (index : TimeIndex) (records : List Meaning)
      → index_of rule image now s.row s.links ≡ Some index → kept_of rule image later t.row t.links ≡ Some records
      → index_of rule image later t.row t.links ≡ Some index
  index_stays rule image now later index records is kept =
      index_later rule image now later t.row t.links index records (index_same rule image now ∙ is) kept

-- each of the stores with its index and last block
pub each_next : (E : Listed → Type 0) (P Q : Listed → TimeIndex → LastBlock → Type 0)
    → ((s t : Listed) (index : TimeIndex) (last : LastBlock) → SameRecords s t → E t → P s index last → Q t index last)
    → (stores others : List Listed) (indexes : List TimeIndex) (lasts : List LastBlock) → KeepRecords stores others → EachIs E others
    → EachStore P stores indexes lasts → EachStore Q others indexes lasts
each_next E P Q f [] [] [] [] keep all each = tt
each_next E P Q f [] [] [] (l ∷ lasts) keep all each = absurd each
each_next E P Q f [] [] (i ∷ indexes) lasts keep all each = absurd each
each_next E P Q f [] (t ∷ others) indexes lasts keep all each = absurd keep
each_next E P Q f (s ∷ stores) [] indexes lasts keep all each = absurd keep
each_next E P Q f (s ∷ stores) (t ∷ others) [] lasts keep all each = absurd each
each_next E P Q f (s ∷ stores) (t ∷ others) (i ∷ indexes) [] keep all each = absurd each
each_next E P Q f (s ∷ stores) (t ∷ others) (i ∷ indexes) (l ∷ lasts) keep all each =
    (f s t i l keep.0 all.0 each.0, each_next E P Q f stores others indexes lasts keep.1 all.1 each.1)

pub each_any : (stores : List Listed) → EachIs (λ (s : Listed). ⊤) stores
each_any [] = tt
each_any (s ∷ stores) = (tt, each_any stores)

-- stores with the same records as themselves
pub keep_same : (stores : List Listed) → KeepRecords stores stores
keep_same [] = tt
keep_same (s ∷ stores) = (record { links = refl; first = refl; count = refl; size = refl }, keep_same stores)

-- what the stores take together

pub links_kept : (stores others : List Listed) → KeepRecords stores others → all_links others ≡ all_links stores
links_kept [] [] keep = refl
links_kept [] (t ∷ others) keep = absurd keep
links_kept (s ∷ stores) [] keep = absurd keep
links_kept (s ∷ stores) (t ∷ others) keep = ap₂ (λ (l r : List Link). l ++ r) keep.0.links (links_kept stores others keep.1)

reserved_kept : (stores others : List Listed) → KeepRecords stores others → reserved_at 240 others ≡ reserved_at 240 stores
reserved_kept [] [] keep = refl
reserved_kept [] (t ∷ others) keep = absurd keep
reserved_kept (s ∷ stores) [] keep = absurd keep
reserved_kept (s ∷ stores) (t ∷ others) keep = ap₂ (λ (size rest : ℕ). blocks_at 240 size + rest) keep.0.size (reserved_kept stores others keep.1)

within_kept : (stores others : List Listed) → KeepRecords stores others → list_all (is_within 240) others ≡ list_all (is_within 240) stores
within_kept [] [] keep = refl
within_kept [] (t ∷ others) keep = absurd keep
within_kept (s ∷ stores) [] keep = absurd keep
within_kept (s ∷ stores) (t ∷ others) keep =
    let one : is_within 240 t ≡ is_within 240 s = (λ i. nat_le (length (keep.0.links i)) (blocks_at 240 (keep.0.size i))) in
    ap₂ (λ (one rest : Bool). one && rest) one (within_kept stores others keep.1)

pub share_kept : (blocks : ℕ) (stores others : List Listed) → KeepRecords stores others → may_share 240 blocks others ≡ may_share 240 blocks stores
share_kept blocks stores others keep =
    λ i. nat_le (reserved_kept stores others keep i + 8) blocks && within_kept stores others keep i && are_apart blocks (links_kept stores others keep i)

-- the pages that all records are read from
pub records_kept_in : (image : ℕ → List ℕ) (p : ℕ) (stores others : List Listed) → KeepRecords stores others
    → list_any (λ (s : Listed). in_store image p s.row s.links) others ≡ list_any (λ (s : Listed). in_store image p s.row s.links) stores
records_kept_in image p [] [] keep = refl
records_kept_in image p [] (t ∷ others) keep = absurd keep
records_kept_in image p (s ∷ stores) [] keep = absurd keep
records_kept_in image p (s ∷ stores) (t ∷ others) keep =
    ap₂ (λ (one rest : Bool). one || rest) (pages_same s t keep.0 image p) (records_kept_in image p stores others keep.1)
