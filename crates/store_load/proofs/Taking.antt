-- The blocks that links take of those that are free.
use Rattle.std.proofs.Common.{◌≡◌, ℕ, zero, suc, ◌<◌, ◌≤◌, ◌&&◌, ◌==◌, nat_le, nat_lt, true, false, not, Bool, List, [], ◌∷◌, ◌++◌, length, get_or, map, set, Option, Some, None, refl, sym, ◌∙◌, ap, arith, if◌then◌else◌}
use Rattle.std.specs.List.{list_all}
use Rattle.std.specs.Option.{is_some}
use Rattle.std.proofs.lemmas.Bool.{leb-true, ltb-true}
use Rattle.std.proofs.lemmas.Bool.Decides.{nat_tests}
use Rattle.block_pool.specs.Blocks.{Blocks, IsPool, blocks_of}
use Rattle.record_view.specs.declared.link.Link.{Link}
use Rattle.store_directory.specs.Directory.{are_distinct, is_new}
use Rattle.store_load.specs.Claims.{are_apart, block_of, is_data}
use Rattle.store_load.specs.Taking.{AllAreFree, take_each}

-- whether the block of a link is free
abbrev pub has_free : List Bool → Link → Bool
has_free free link = get_or free link.block false

-- marks after one block was taken
pub one_taken : (free : List Bool) (block other : ℕ) → block < length free
    → get_or (set free block false) other false ≡ (get_or free other false && not (block == other))
one_taken [] block other within = absurd (omega arith)
one_taken (mark ∷ free) zero zero within = grind arith
one_taken (mark ∷ free) zero (suc other) within = grind (arith, nat_tests)
one_taken (mark ∷ free) (suc block) zero within = grind (arith, nat_tests)
one_taken (mark ∷ free) (suc block) (suc other) within =
    grind (arith, nat_tests, one_taken free block other (omega arith))

-- a free block is within the marks
pub free_within : (free : List Bool) (block : ℕ) → get_or free block false ≡ true → block < length free
free_within [] block h = absurd (grind arith)
free_within (mark ∷ free) zero h = omega arith
free_within (mark ∷ free) (suc block) h = omega (arith, free_within free block h)

and_assoc : (a b c : Bool) → ((a && b) && c) ≡ (a && (b && c))
and_assoc true b c = refl
and_assoc false b c = refl

-- which links have free blocks once one was taken
pub all_taken : (free : List Bool) (block : ℕ) (links : List Link) → block < length free
    → list_all (has_free (set free block false)) links
    ≡ (list_all (has_free free) links && is_new block (map block_of links))
all_taken free block [] within = refl
all_taken free block (link ∷ links) within =
    ap (λ (b : Bool). b && list_all (has_free (set free block false)) links) (one_taken free block link.block within)
    ∙ ap (λ (b : Bool). (get_or free link.block false && not (block == link.block)) && b) (all_taken free block links within)
    ∙ regroup (get_or free link.block false) (not (block == link.block)) (list_all (has_free free) links) (is_new block (map block_of links))
  where
    regroup : (a b c d : Bool) → ((a && b) && (c && d)) ≡ ((a && c) && (b && d))
    regroup true true c d = refl
    regroup true false true d = refl
    regroup true false false d = refl
    regroup false b c d = refl

-- Links are taken if their blocks are free and differ.
pub taken_if : (free : List Bool) (links : List Link)
    → is_some (take_each free links) ≡ (list_all (has_free free) links && are_distinct (map block_of links))
taken_if free [] = refl
taken_if free (link ∷ links) =
    at_it (get_or free link.block false) refl (taken_if (set free link.block false) links)
  where
    at_it : (mark : Bool) → get_or free link.block false ≡ mark
        → is_some (take_each (set free link.block false) links)
        ≡ (list_all (has_free (set free link.block false)) links && are_distinct (map block_of links))
        → is_some (if mark then take_each (set free link.block false) links else None)
        ≡ ((mark && list_all (has_free free) links) && (is_new link.block (map block_of links) && are_distinct (map block_of links)))
    at_it false is behind = refl
    at_it true is behind =
        behind
        ∙ ap (λ (b : Bool). b && are_distinct (map block_of links)) (all_taken free link.block links (free_within free link.block is))
        ∙ and_assoc (list_all (has_free free) links) (is_new link.block (map block_of links)) (are_distinct (map block_of links))

-- and are free no more
pub marks_taken : (free after : List Bool) (links : List Link) → take_each free links ≡ Some after
    → (block : ℕ) → get_or after block false ≡ (get_or free block false && is_new block (map block_of links))
marks_taken free after [] h block = grind (arith, h)
marks_taken free after (link ∷ links) h block =
    at_it (get_or free link.block false) refl h (λ is. marks_taken (set free link.block false) after links is block)
  where
    turned : (a b : ℕ) → (a == b) ≡ (b == a)
    turned a b = grind (arith, nat_tests)

    at_it : (mark : Bool) → get_or free link.block false ≡ mark
        → (if mark then take_each (set free link.block false) links else None) ≡ Some after
        → (take_each (set free link.block false) links ≡ Some after
        → get_or after block false ≡ (get_or (set free link.block false) block false && is_new block (map block_of links)))
        → get_or after block false
        ≡ (get_or free block false && (not (block == link.block) && is_new block (map block_of links)))
    at_it false is h behind = absurd (grind (arith, h))
    at_it true is h behind =
        behind h
        ∙ ap (λ (b : Bool). b && is_new block (map block_of links))
        (one_taken free link.block block (free_within free link.block is))
        ∙ and_assoc (get_or free block false) (not (link.block == block)) (is_new block (map block_of links))
        ∙ ap (λ (b : Bool). get_or free block false && (not b && is_new block (map block_of links))) (turned link.block block)

-- Links in front of others are taken first.
pub taken_then : (free next : List Bool) (front back : List Link) → take_each free front ≡ Some next
    → take_each free (front ++ back) ≡ take_each next back
taken_then free next [] back h = grind (arith, h)
taken_then free next (link ∷ front) back h =
    at_it (get_or free link.block false) h (taken_then (set free link.block false) next front back)
  where
    at_it : (mark : Bool)
        → (if mark then take_each (set free link.block false) front else None) ≡ Some next
        → (take_each (set free link.block false) front ≡ Some next
        → take_each (set free link.block false) (front ++ back) ≡ take_each next back)
        → (if mark then take_each (set free link.block false) (front ++ back) else None) ≡ take_each next back
    at_it false h behind = absurd (grind (arith, h))
    at_it true h behind = behind h

pub refused_then : (free : List Bool) (front back : List Link) → take_each free front ≡ None
    → take_each free (front ++ back) ≡ None
refused_then free [] back h = absurd (grind (arith, h))
refused_then free (link ∷ front) back h =
    at_it (get_or free link.block false) h (refused_then (set free link.block false) front back)
  where
    at_it : (mark : Bool)
        → (if mark then take_each (set free link.block false) front else None) ≡ None
        → (take_each (set free link.block false) front ≡ None
        → take_each (set free link.block false) (front ++ back) ≡ None)
        → (if mark then take_each (set free link.block false) (front ++ back) else None) ≡ None
    at_it false h behind = refl
    at_it true h behind = behind h

past : (free : List Bool) (block : ℕ) → length free ≤ block → get_or free block false ≡ false
past [] block h = refl
past (mark ∷ free) zero h = absurd (omega arith)
past (mark ∷ free) (suc block) h = past free block (omega arith)

-- of a pool whose data blocks are all free
module _ (pool : Blocks) (lawful : IsPool pool) (all_free : AllAreFree pool) where
  at_block : (block : ℕ) (low high : Bool) → nat_le 7 block ≡ low → nat_lt block (blocks_of pool) ≡ high
      → get_or pool.free block false ≡ (low && high)
  at_block block false high is_low is_high = lawful.free_data block (below block is_low)
    where
      below : (a : ℕ) → nat_le 7 a ≡ false → a < 7
      below a h = grind (arith, nat_tests)
  at_block block true true is_low is_high =
      all_free block (leb-true 7 block is_low, ltb-true block (blocks_of pool) is_high)
  at_block block true false is_low is_high =
      past pool.free block (omega (arith, lawful.free_marks, beyond block (blocks_of pool) is_high))
    where
      beyond : (a b : ℕ) → nat_lt a b ≡ false → b ≤ a
      beyond a b h = grind (arith, nat_tests)

  all_data : (links : List Link) → list_all (has_free pool.free) links ≡ list_all (is_data (blocks_of pool)) links
  all_data [] = refl
  all_data (link ∷ links) =
      let here = at_block link.block (nat_le 7 link.block) (nat_lt link.block (blocks_of pool)) refl refl in
      λ i. here i && all_data links i

  pub apart_if : (links : List Link) → is_some (take_each pool.free links) ≡ are_apart (blocks_of pool) links
  apart_if links =
      taken_if pool.free links ∙ ap (λ (b : Bool). b && are_distinct (map block_of links)) (all_data links)

-- what shows that links were taken, or that they are not to be taken
pub answer_is : (found : Option (List Bool)) (after : List Bool) (result : Bool)
    → (result ≡ true → found ≡ Some after) → (result ≡ false → found ≡ None) → result ≡ is_some found
answer_is found after true taken refused = sym (ap is_some (taken refl))
answer_is found after false taken refused = sym (ap is_some (refused refl))

pub all_three : (a b c : Bool) → (a && b) ≡ true → c ≡ (a && b && c)
all_three true true c h = refl
all_three true false c h = absurd (grind (arith, h))
all_three false b c h = absurd (grind (arith, h))
