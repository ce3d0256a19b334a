-- What is left of a store's links when its front goes.
use Rattle.std.specs.Prelude.{◌≡◌, ◌<◌, ℕ, ◌+◌, true, List, ◌∷◌, length, drop, Some}
use Rattle.std.specs.List.{All}
use Rattle.record_view.specs.Records.{Meaning}
use Rattle.record_view.specs.declared.link.Link.{Link}
use Rattle.store_directory.specs.Rows.{between}
use Rattle.store_load.specs.Each.{each}
use Rattle.store_load.specs.Extents.{extents_to, joined, last_of, last_read, read_extent}
use Rattle.store_load.specs.Keeping.{IsLinkOf}
use Rattle.store_load.specs.Kept.{are_filled, are_short, dead_by}

-- what is left of links whose extents have some records, where the first number is a later one
pub record IsTrimmed (blocks : ℕ) (image : ℕ → List ℕ) (end first : ℕ) (kept : List Link) (far : ℕ)
    (reads : List (List Meaning)) (last : Link) : Type 0 where
  -- there is a link, not past the number
  pub link : Link
  pub links : List Link
  pub some : kept ≡ link ∷ links
  pub is_near : between link.first first < 2147483648
  pub left : List (List Meaning)
  pub read : each (read_extent image) (extents_to end kept) ≡ Some left
  pub own : All (IsLinkOf blocks) (link ∷ links)
  -- the last block stays
  pub last_is : last_of link links ≡ last
  pub last_same : last_read left ≡ last_read reads
  -- the records that are not dead are those from before without as many as the number went on
  pub records : drop (dead_by first kept) (joined left) ≡ drop far (joined reads)
  pub within : dead_by first kept + length (joined reads) ≡ far + length (joined left)
  pub filled : (least : ℕ) → are_filled least reads ≡ true → are_filled least left ≡ true
  pub all_short : (largest : ℕ) → are_short largest (joined reads) ≡ true → are_short largest (joined left) ≡ true
