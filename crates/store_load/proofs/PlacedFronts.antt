-- The entries that are left when the front of a store goes.
use Rattle.std.proofs.Common.{◌≡◌, ℕ, ◌+◌, ◌<◌, Bool, true, false, List, [], ◌∷◌, ◌++◌, All, length, drop, Some, refl, sym, ◌∙◌, ap}
use Rattle.std.specs.Prelude.{if◌then◌else◌}
use Rattle.std.proofs.Math.Seq.{drop-append-add}
use Rattle.std.proofs.lemmas.List.Elements.{All-tail}
use Rattle.std.proofs.lemmas.Option.{same_Some}
use Rattle.board.specs.Flash.{IsContent}
use Rattle.record_view.specs.Records.{Meaning}
use Rattle.record_view.specs.declared.link.Link.{Link}
use Rattle.store_directory.specs.Directory.{trim_front}
use Rattle.store_directory.specs.Rows.{between, is_by}
use Rattle.time_index.specs.declared.entry.Entry.{Entry}
use Rattle.store_load.specs.Each.{each}
use Rattle.store_load.specs.Extents.{extent_to, extents_from, extents_to, read_extent}
use Rattle.store_load.specs.Keeping.{IsLinkOf}
use Rattle.store_load.specs.Kept.{dead_by}
use Rattle.store_load.specs.Loaded.{placed, placed_all}
use Rattle.store_load.proofs.Counting.{by_low}
use Rattle.store_load.proofs.Eachs.{each_cons}
use Rattle.store_load.proofs.InRange.{placed_many}
use Rattle.store_load.proofs.Trims.{split_front}

-- the entries without those of the dead records
abbrev pub live_entries : (end first : ℕ) → List Link → List (List Meaning) → List Entry
live_entries end first links reads = drop (dead_by first links) (placed_all (extents_to end links) reads)

module _ (blocks : ℕ) (image : ℕ → List ℕ) (content : IsContent blocks image) (end first : ℕ) (low : first < 4294967296) where
  pub placed_trimmed : (link : Link) (links : List Link) (reads left : List (List Meaning)) → All (IsLinkOf blocks) (link ∷ links)
      → each (read_extent image) (extents_from end link links) ≡ Some reads
      → each (read_extent image) (extents_to end (trim_front first link links)) ≡ Some left
      → live_entries end first (trim_front first link links) left ≡ live_entries end first (link ∷ links) reads
  placed_trimmed link [] reads left own h k = ap (live_entries end first (link ∷ [])) (same_Some left reads (sym k ∙ h))
  placed_trimmed link (next ∷ links) reads left own h k =
      pick (λ rest are kept. placed_trimmed next links rest left (All-tail (IsLinkOf blocks) link (next ∷ links) own) are kept)
      (is_by next.first first) refl k
    where
      pick : ((rest : List (List Meaning)) → each (read_extent image) (extents_from end next links) ≡ Some rest
          → each (read_extent image) (extents_to end (trim_front first next links)) ≡ Some left
          → live_entries end first (trim_front first next links) left ≡ live_entries end first (next ∷ links) rest)
          → (b : Bool) → is_by next.first first ≡ b
          → each (read_extent image) (extents_to end (if b then trim_front first next links else link ∷ next ∷ links)) ≡ Some left
          → live_entries end first (if b then trim_front first next links else link ∷ next ∷ links) left ≡ live_entries end first (link ∷ next ∷ links) reads
      pick again false is k = ap (live_entries end first (link ∷ next ∷ links)) (same_Some left reads (sym k ∙ h))
      pick again true is k =
          let (records, rest, read, are, whole) = each_cons (read_extent image) (extent_to next.first link) (extents_from end next links) reads h in
          let here = placed link.block 0 records in
          let behind = placed_all (extents_from end next links) rest in
          let split : between link.first first ≡ length records + between next.first first =
          split_front blocks image content first low link next links records own read (by_low next.first first is) in
          let front : live_entries end first (link ∷ next ∷ links) reads ≡ drop (between next.first first) behind =
          ap (live_entries end first (link ∷ next ∷ links)) (sym whole)
          ∙ ap (λ (n : ℕ). drop n (here ++ behind)) (split ∙ ap (λ (n : ℕ). n + between next.first first) (sym (placed_many link.block 0 records)))
          ∙ drop-append-add here behind (between next.first first) in
          again rest are k ∙ sym front
