-- The records of a directory's table lie in the data blocks of the device.
use Rattle.std.proofs.Common.{◌≡◌, ℕ, ◌+◌, ◌*◌, ◌<◌, ◌≤◌, true, List, [], ◌∷◌, Option, Some, None, refl, arith}
use Rattle.std.specs.List.{list_all}
use Rattle.std.proofs.lemmas.Bool.{and_parts}
use Rattle.std.proofs.lemmas.Bool.Decides.{nat_tests}
use Rattle.board.specs.Flash.{IsContent, pages_from}
use Rattle.record_view.specs.Records.{Meaning}
use Rattle.record_view.specs.declared.link.Link.{Link}
use Rattle.store_directory.specs.Directory.{Directory, Listed}
use Rattle.store_directory.specs.declared.row.Row.{Row}
use Rattle.store_load.specs.Claims.{is_data, may_share}
use Rattle.store_load.specs.Extents.{Extent, end_of, extents_from, extents_of, pages_in, read_extent}
use Rattle.store_load.specs.Frame.{in_extent, in_store, pages_read}
use Rattle.store_load.proofs.Eachs.{EachIs, any_of, each_weaker}
use Rattle.store_load.proofs.Records.{extent_within}
use Rattle.image_table.specs.Table.{in_records}
use Rattle.image_table.proofs.Frames.{data_links, data_tests, shared_links}

-- a page of the data blocks
pub record IsDataPage (blocks p : ℕ) : Type 0 where
  pub low : 1792 ≤ p
  pub high : p < 256 * blocks

abbrev InData : (blocks : ℕ) → Extent → Type 0
InData blocks extent = (7 ≤ extent.block) × (extent.block < blocks)

extents_data : (blocks end : ℕ) (link : Link) (links : List Link) → list_all (is_data blocks) (link ∷ links) ≡ true
    → EachIs (InData blocks) (extents_from end link links)
extents_data blocks end link [] h =
    (data_tests blocks link.block (and_parts (is_data blocks link) true h).0, tt)
extents_data blocks end link (next ∷ links) h =
    let parts = and_parts (is_data blocks link) (list_all (is_data blocks) (next ∷ links)) h in
    (data_tests blocks link.block parts.0, extents_data blocks end next links parts.1)

all_data : (blocks : ℕ) (row : Row) (links : List Link) → list_all (is_data blocks) links ≡ true
    → EachIs (InData blocks) (extents_of row links)
all_data blocks row [] h = tt
all_data blocks row (link ∷ links) h = extents_data blocks (end_of row) link links h

module _ (blocks : ℕ) (image : ℕ → List ℕ) (content : IsContent blocks image) (p : ℕ) where
  few : (extent : Extent) → extent.block < blocks → pages_read (read_extent image extent) ≤ 256
  few extent within = pick (read_extent image extent) (λ records h. extent_within blocks image content extent records within h)
    where
      pick : (o : Option (List Meaning)) → ((records : List Meaning) → o ≡ Some records → pages_in records ≤ 256) → pages_read o ≤ 256
      pick None h = omega arith
      pick (Some records) h = h records refl

  extent_page : (extent : Extent) → InData blocks extent → in_extent image p extent ≡ true → IsDataPage blocks p
  extent_page extent (low, high) here =
      let (from, to) = tests (256 * extent.block) (pages_read (read_extent image extent)) p here in
      record { low = omega (arith, low, from); high = omega (arith, high, to, few extent high) }
    where
      tests : (first n p : ℕ) → pages_from first n p ≡ true → (first ≤ p) × (p < first + n)
      tests first n p t = (grind (arith, nat_tests), grind (arith, nat_tests))

  store_page : (s : Listed) → list_all (is_data blocks) s.links ≡ true → in_store image p s.row s.links ≡ true → IsDataPage blocks p
  store_page s h t =
      any_of (in_extent image p) (IsDataPage blocks p) (extents_of s.row s.links)
      (each_weaker (InData blocks) (λ e. in_extent image p e ≡ true → IsDataPage blocks p) extent_page (extents_of s.row s.links) (all_data blocks s.row s.links h)) t

  pub data_page : (d : Directory) → may_share 240 blocks d.stores ≡ true → in_records image p d ≡ true → IsDataPage blocks p
  data_page d share t =
      any_of (λ (s : Listed). in_store image p s.row s.links) (IsDataPage blocks p) d.stores
      (each_weaker (λ (s : Listed). list_all (is_data blocks) s.links ≡ true) (λ (s : Listed). in_store image p s.row s.links ≡ true → IsDataPage blocks p)
      store_page d.stores (data_links blocks d.stores (shared_links blocks d.stores share))) t
