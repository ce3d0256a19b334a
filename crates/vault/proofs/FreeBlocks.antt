-- A free block is none that the table is read from.
use Rattle.std.proofs.Common.{◌≡◌, ℕ, ◌+◌, ◌*◌, ◌<◌, ◌≤◌, ◌==◌, ◌&&◌, not, nat_le, nat_lt, Bool, true, false, List, [], ◌∷◌, ◌++◌, map, Option, Some, None, refl, sym, ◌∙◌, arith}
use Rattle.std.specs.List.{list_all}
use Rattle.std.proofs.lemmas.Bool.{and_parts, false≢true}
use Rattle.std.proofs.lemmas.Bool.Decides.{nat_tests}
use Rattle.block_pool.specs.Blocks.{is_free}
use Rattle.board.specs.Flash.{Flash, IsContent, pages_from, pages_of_block}
use Rattle.image_table.proofs.Frames.{data_links, data_tests, shared_links}
use Rattle.image_table.specs.Standing.{Beside}
use Rattle.image_table.specs.Table.{in_records}
use Rattle.record_view.specs.Records.{Meaning}
use Rattle.record_view.specs.declared.link.Link.{Link}
use Rattle.store_directory.specs.Directory.{Directory, Listed, is_new}
use Rattle.store_directory.specs.declared.row.Row.{Row}
use Rattle.store_load.specs.Claims.{all_links, block_of, is_data, may_share}
use Rattle.store_load.specs.Extents.{Extent, end_of, extents_from, extents_of, pages_in, read_extent}
use Rattle.store_load.specs.Frame.{in_extent, in_store, pages_read}
use Rattle.store_load.proofs.Eachs.{EachIs, any_of, each_both, each_weaker}
use Rattle.store_load.proofs.Records.{extent_within}
use Rattle.vault.specs.Memory.{InMemory, IsSound}

not_true : (b : Bool) → not b ≡ true → b ≡ false
not_true true h = sym h
not_true false h = refl

-- the links of one store, and those of the others
new_parts : (block : ℕ) (front back : List Link) → is_new block (map block_of (front ++ back)) ≡ true
    → (is_new block (map block_of front) ≡ true) × (is_new block (map block_of back) ≡ true)
new_parts block [] back h = (refl, h)
new_parts block (link ∷ front) back h =
    let parts = and_parts (not (block == link.block)) (is_new block (map block_of (front ++ back))) h in
    let rest = new_parts block front back parts.1 in
    (both (not (block == link.block)) (is_new block (map block_of front)) parts.0 rest.0, rest.1)
  where
    both : (a b : Bool) → a ≡ true → b ≡ true → (a && b) ≡ true
    both true b h k = k
    both false b h k = absurd (false≢true h)

pub new_each : (block : ℕ) (stores : List Listed) → is_new block (map block_of (all_links stores)) ≡ true
    → EachIs (λ (s : Listed). is_new block (map block_of s.links) ≡ true) stores
new_each block [] h = tt
new_each block (s ∷ stores) h =
    let parts = new_parts block s.links (all_links stores) h in (parts.0, new_each block stores parts.1)

module _ (blocks : ℕ) (image : ℕ → List ℕ) (content : IsContent blocks image) (block p : ℕ) (here : pages_of_block block p ≡ true) where
  -- another block of the device
  abbrev IsOther : Extent → Type 0
  IsOther extent = (extent.block < blocks) × ((block == extent.block) ≡ false)

  few : (extent : Extent) → extent.block < blocks → pages_read (read_extent image extent) ≤ 256
  few extent within = pick (read_extent image extent) (λ records h. extent_within blocks image content extent records within h)
    where
      pick : (o : Option (List Meaning)) → ((records : List Meaning) → o ≡ Some records → pages_in records ≤ 256) → pages_read o ≤ 256
      pick None h = omega arith
      pick (Some records) h = h records refl

  off_extent : (extent : Extent) → IsOther extent → in_extent image p extent ≡ true → ⊥
  off_extent extent (within, other) there =
      let most = few extent within in
      let (from, to) = tests (256 * extent.block) (pages_read (read_extent image extent)) there in
      let (low, high) = tests (256 * block) 256 here in
      false≢true (sym other ∙ same block extent.block (omega (arith, most, from, to, low, high)))
    where
      tests : (first n : ℕ) → pages_from first n p ≡ true → (first ≤ p) × (p < first + n)
      tests first n t = (grind (arith, nat_tests), grind (arith, nat_tests))

      same : (a b : ℕ) → a ≡ b → (a == b) ≡ true
      same a b h = grind (arith, nat_tests)

  others_from : (end : ℕ) (link : Link) (links : List Link) → list_all (is_data blocks) (link ∷ links) ≡ true
      → is_new block (map block_of (link ∷ links)) ≡ true → EachIs IsOther (extents_from end link links)
  others_from end link [] own new =
      let own_data = and_parts (is_data blocks link) true own in
      let apart = and_parts (not (block == link.block)) true new in
      (((data_tests blocks link.block own_data.0).1, not_true (block == link.block) apart.0), tt)
  others_from end link (next ∷ links) own new =
      let own_data = and_parts (is_data blocks link) (list_all (is_data blocks) (next ∷ links)) own in
      let apart = and_parts (not (block == link.block)) (is_new block (map block_of (next ∷ links))) new in
      (((data_tests blocks link.block own_data.0).1, not_true (block == link.block) apart.0), others_from end next links own_data.1 apart.1)

  others_of : (row : Row) (links : List Link) → list_all (is_data blocks) links ≡ true → is_new block (map block_of links) ≡ true
      → EachIs IsOther (extents_of row links)
  others_of row [] own new = tt
  others_of row (link ∷ links) own new = others_from (end_of row) link links own new

  pub off_store : (s : Listed) → list_all (is_data blocks) s.links ≡ true → is_new block (map block_of s.links) ≡ true → in_store image p s.row s.links ≡ true → ⊥
  off_store s own new =
      any_of (in_extent image p) ⊥ (extents_of s.row s.links)
      (each_weaker IsOther (λ e. in_extent image p e ≡ true → ⊥) off_extent (extents_of s.row s.links) (others_of s.row s.links own new))

  pub off_records : (d : Directory) → may_share 240 blocks d.stores ≡ true → is_new block (map block_of (all_links d.stores)) ≡ true
      → in_records image p d ≡ true → ⊥
  off_records d share new =
      any_of (λ (s : Listed). in_store image p s.row s.links) ⊥ d.stores
      (each_both (λ (s : Listed). list_all (is_data blocks) s.links ≡ true) (λ (s : Listed). is_new block (map block_of s.links) ≡ true)
      (λ (s : Listed). in_store image p s.row s.links ≡ true → ⊥) off_store d.stores
      (data_links blocks d.stores (shared_links blocks d.stores share)) (new_each block d.stores new))

-- the pages of a free block are beside the table
pub free_beside : (vault : InMemory) (flash : Flash) (block : ℕ) → IsContent vault.blocks flash.content → IsSound vault → is_free vault.pool block ≡ true
    → Beside flash vault.directory.directory (pages_of_block block)
free_beside vault flash block pages sound free =
    let d = vault.directory.directory in
    let unlinked = and_parts (nat_le 7 block && nat_lt block vault.blocks) (is_new block (map block_of (all_links d.stores))) (sym (sound.free block) ∙ free) in
    let low = (data_tests vault.blocks block unlinked.0).0 in
    record {
      journal = λ p below. outside (256 * block) p (omega (arith, below, low));
      records = λ p there. decide (pages_of_block block p) (λ here. off_records vault.blocks flash.content pages block p here d sound.share unlinked.1 there);
    }
  where
    outside : (first p : ℕ) → p < first → pages_from first 256 p ≡ false
    outside first p lt = grind (arith, nat_tests)

    decide : (b : Bool) → (b ≡ true → ⊥) → b ≡ false
    decide true h = absurd (h refl)
    decide false h = refl
