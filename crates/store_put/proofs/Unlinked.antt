-- Blocks that no store names, and a list with another element.
use Rattle.std.proofs.Common.{◌≡◌, ℕ, zero, suc, ◌+◌, ◌<◌, ◌≤◌, ◌==◌, ◌&&◌, not, nat_le, nat_lt, Bool, true, false, List, [], ◌∷◌, map, get_or, set, slice_set, Some, refl, sym, ◌∙◌, ap, arith, eqb-true, eq-eqb}
use Rattle.std.specs.Prelude.{slice_get}
use Rattle.std.specs.List.{list_all}
use Rattle.std.proofs.lemmas.Bool.{and_from, and_parts, false≢true, leb-true}
use Rattle.std.proofs.lemmas.Bool.Decides.{nat_tests}
use Rattle.std.proofs.lemmas.List.{get_or-set_other, get_or-set_same}
use Rattle.std.proofs.lemmas.Option.{none-some}
use Rattle.block_pool.specs.Blocks.{Blocks, IsPool, is_free}
use Rattle.block_pool.specs.Sizes.{blocks_for_size}
use Rattle.store_directory.specs.Directory.{Directory, Listed, is_new, reserved_by}
use Rattle.store_load.specs.Claims.{all_links, are_apart, block_of, is_within, may_share, reserved_at}
use Rattle.put_laws.specs.Puts.{is_unnamed}
use Rattle.store_put.specs.Pools.{IsTaken, is_unlinked}

-- what stores that may share a device reserve
pub shared_parts : (blocks : ℕ) (stores : List Listed) → may_share 240 blocks stores ≡ true
    → (reserved_by stores + 8 ≤ blocks) × (list_all (is_within 240) stores ≡ true)
shared_parts blocks stores share =
    let parts = and_parts (nat_le (reserved_at 240 stores + 8) blocks && list_all (is_within 240) stores) (are_apart blocks (all_links stores)) share in
    let (room, within) = and_parts (nat_le (reserved_at 240 stores + 8) blocks) (list_all (is_within 240) stores) parts.0 in
    let fits = leb-true (reserved_at 240 stores + 8) blocks room in
    let same = same_reserved stores in
    (omega (arith, fits, same), within)
  where
    same_reserved : (stores : List Listed) → reserved_at 240 stores ≡ reserved_by stores
    same_reserved [] = refl
    same_reserved (s ∷ stores) = ap (λ (n : ℕ). blocks_for_size s.size + n) (same_reserved stores)

-- blocks that are unlinked, by what no link names
pub unlinked_on : (blocks : ℕ) (d e : Directory) → ((block : ℕ) → is_unnamed block d ≡ true → is_unnamed block e ≡ true)
    → (block : ℕ) → is_unlinked blocks d.stores block ≡ true → is_unlinked blocks e.stores block ≡ true
unlinked_on blocks d e goes block is =
    let parts = and_parts (nat_le 7 block && nat_lt block blocks) (is_new block (map block_of (all_links d.stores))) is in
    and_from (nat_le 7 block && nat_lt block blocks) (is_new block (map block_of (all_links e.stores))) parts.0 (goes block parts.1)

pub got_set : {X : Type 0} (xs : List X) (at : ℕ) (new x : X) → slice_get xs at ≡ Some x → slice_get (slice_set xs at new) at ≡ Some new
got_set [] at new x is = absurd (none-some x is)
got_set (y ∷ xs) zero new x is = refl
got_set (y ∷ xs) (suc at) new x is = got_set xs at new x is

pub leb-lt : (a b : ℕ) → nat_lt a b ≡ true → a < b
leb-lt a b h = grind (arith, nat_tests)

-- a block that is free behind one that was taken is another one, and was free
pub free_other : (old new : Blocks) (block other : ℕ) → IsPool old → IsTaken old new block → is_free new other ≡ true
    → (is_free old other ≡ true) × (is_new other (block ∷ []) ≡ true)
free_other old new block other lawful taken free = pick (other == block) refl
  where
    marks : get_or (set old.free block false) other false ≡ true
    marks = ap (λ (l : List Bool). get_or l other false) (sym taken.free) ∙ free

    pick : (b : Bool) → (other == block) ≡ b → (is_free old other ≡ true) × (is_new other (block ∷ []) ≡ true)
    pick true same =
        let equal = eqb-true other block same in
        absurd (false≢true
        (sym (ap (λ (n : ℕ). get_or (set old.free block false) n false) equal
        ∙ get_or-set_same old.free block false false (omega (arith, taken.own.1, lawful.free_marks))) ∙ marks))
    pick false apart = (
      sym (get_or-set_other old.free block other false false (λ equal. false≢true (sym apart ∙ eq-eqb other block equal))) ∙ marks,
      ap (λ (b : Bool). not b && true) apart,
    )

pub unlinked_over : (blocks : ℕ) (d e : Directory) (block : ℕ) {P : Type 0} → P → (is_unnamed block d ≡ true → P → is_unnamed block e ≡ true)
    → is_unlinked blocks d.stores block ≡ true → is_unlinked blocks e.stores block ≡ true
unlinked_over blocks d e block p goes is =
    let parts = and_parts (nat_le 7 block && nat_lt block blocks) (is_new block (map block_of (all_links d.stores))) is in
    and_from (nat_le 7 block && nat_lt block blocks) (is_new block (map block_of (all_links e.stores))) parts.0 (goes parts.1 p)
