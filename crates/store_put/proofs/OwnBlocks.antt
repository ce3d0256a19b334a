-- No two stores name one block.
use Rattle.std.proofs.Common.{◌≡◌, ℕ, zero, suc, ◌+◌, ◌==◌, ◌&&◌, not, nat_le, Bool, true, false, List, [], ◌∷◌, ◌++◌, map, Some, refl, sym, ◌∙◌, ap, subst, eqb-true, eq-eqb}
use Rattle.std.specs.Prelude.{slice_get}
use Rattle.std.specs.List.{list_all}
use Rattle.std.proofs.lemmas.Bool.{and_from, and_parts, false≢true}
use Rattle.std.proofs.lemmas.Option.{none-some, same_Some}
use Rattle.record_view.specs.declared.link.Link.{Link}
use Rattle.store_directory.specs.Directory.{Listed, are_distinct, is_new}
use Rattle.store_load.specs.Claims.{all_links, are_apart, block_of, is_data, is_within, may_share, reserved_at}

-- a number that is none of some, in their parts
parts_new : (n : ℕ) (xs ys : List Link) → is_new n (map block_of (xs ++ ys)) ≡ true
    → (is_new n (map block_of xs) ≡ true) × (is_new n (map block_of ys) ≡ true)
parts_new n [] ys h = (refl, h)
parts_new n (x ∷ xs) ys h =
    let here = and_parts (not (n == x.block)) (is_new n (map block_of (xs ++ ys))) h in
    let rest = parts_new n xs ys here.1 in
    (and_from (not (n == x.block)) (is_new n (map block_of xs)) here.0 rest.0, rest.1)

parts_distinct : (xs ys : List Link) → are_distinct (map block_of (xs ++ ys)) ≡ true → are_distinct (map block_of ys) ≡ true
parts_distinct [] ys h = h
parts_distinct (x ∷ xs) ys h =
    parts_distinct xs ys (and_parts (is_new x.block (map block_of (xs ++ ys))) (are_distinct (map block_of (xs ++ ys))) h).1

-- a link of the first part is none of the second
front_new : (xs ys : List Link) (i : ℕ) (link : Link) → are_distinct (map block_of (xs ++ ys)) ≡ true → slice_get xs i ≡ Some link
    → is_new link.block (map block_of ys) ≡ true
front_new [] ys i link h is = absurd (none-some link is)
front_new (x ∷ xs) ys zero link h is =
    let here = and_parts (is_new x.block (map block_of (xs ++ ys))) (are_distinct (map block_of (xs ++ ys))) h in
    subst (λ (l : Link). is_new l.block (map block_of ys) ≡ true) (same_Some x link is) (parts_new x.block xs ys here.0).1
front_new (x ∷ xs) ys (suc i) link h is =
    front_new xs ys i link (and_parts (is_new x.block (map block_of (xs ++ ys))) (are_distinct (map block_of (xs ++ ys))) h).1 is

-- nor is one of the second part any of the first
other_way : (a b : ℕ) → not (a == b) ≡ true → not (b == a) ≡ true
other_way a b h = pick (b == a) refl
  where
    pick : (t : Bool) → (b == a) ≡ t → not t ≡ true
    pick false is = refl
    pick true is = absurd (false≢true (sym (ap not (eq-eqb a b (sym (eqb-true b a is)))) ∙ h))

at_new : (n : ℕ) (ys : List Link) (i : ℕ) (link : Link) → is_new n (map block_of ys) ≡ true → slice_get ys i ≡ Some link → not (n == link.block) ≡ true
at_new n [] i link h is = absurd (none-some link is)
at_new n (y ∷ ys) zero link h is =
    subst (λ (l : Link). not (n == l.block) ≡ true) (same_Some y link is) (and_parts (not (n == y.block)) (is_new n (map block_of ys)) h).0
at_new n (y ∷ ys) (suc i) link h is = at_new n ys i link (and_parts (not (n == y.block)) (is_new n (map block_of ys)) h).1 is

back_new : (xs ys : List Link) (i : ℕ) (link : Link) → are_distinct (map block_of (xs ++ ys)) ≡ true → slice_get ys i ≡ Some link
    → is_new link.block (map block_of xs) ≡ true
back_new [] ys i link h is = refl
back_new (x ∷ xs) ys i link h is =
    let here = and_parts (is_new x.block (map block_of (xs ++ ys))) (are_distinct (map block_of (xs ++ ys))) h in
    and_from (not (link.block == x.block)) (is_new link.block (map block_of xs))
    (other_way x.block link.block (at_new x.block ys i link (parts_new x.block xs ys here.0).1 is)) (back_new xs ys i link here.1 is)

-- a link of a store is one of all links
pub link_of_all : (stores : List Listed) (at : ℕ) (s : Listed) (i : ℕ) (link : Link) → slice_get stores at ≡ Some s → slice_get s.links i ≡ Some link
    → (k : ℕ) × (slice_get (all_links stores) k ≡ Some link)
link_of_all [] at s i link is has = absurd (none-some s is)
link_of_all (x ∷ stores) zero s i link is has =
    in_front x.links (all_links stores) i (ap (λ (l : Listed). slice_get l.links i) (same_Some x s is) ∙ has)
  where
    in_front : (xs ys : List Link) (i : ℕ) → slice_get xs i ≡ Some link → (k : ℕ) × (slice_get (xs ++ ys) k ≡ Some link)
    in_front [] ys i h = absurd (none-some link h)
    in_front (x ∷ xs) ys zero h = (zero, h)
    in_front (x ∷ xs) ys (suc i) h = let (k, there) = in_front xs ys i h in (suc k, there)
link_of_all (x ∷ stores) (suc at) s i link is has =
    let (k, there) = link_of_all stores at s i link is has in behind x.links k there
  where
    behind : (xs : List Link) (k : ℕ) → slice_get (all_links stores) k ≡ Some link → (j : ℕ) × (slice_get (xs ++ all_links stores) j ≡ Some link)
    behind [] k h = (k, h)
    behind (x ∷ xs) k h = let (j, there) = behind xs k h in (suc j, there)

-- what is new to all links is new to those of a store
pub new_to_each : (n : ℕ) (stores : List Listed) (at : ℕ) (s : Listed) → is_new n (map block_of (all_links stores)) ≡ true → slice_get stores at ≡ Some s
    → is_new n (map block_of s.links) ≡ true
new_to_each n [] at s new is = absurd (none-some s is)
new_to_each n (x ∷ stores) zero s new is =
    subst (λ (l : Listed). is_new n (map block_of l.links) ≡ true) (same_Some x s is) (parts_new n x.links (all_links stores) new).0
new_to_each n (x ∷ stores) (suc at) s new is = new_to_each n stores at s (parts_new n x.links (all_links stores) new).1 is

own_blocks : (stores : List Listed) (at place : ℕ) (s other : Listed) (i : ℕ) (link : Link) → are_distinct (map block_of (all_links stores)) ≡ true
    → slice_get stores at ≡ Some s → slice_get stores place ≡ Some other → (place == at) ≡ false → slice_get s.links i ≡ Some link
    → is_new link.block (map block_of other.links) ≡ true
own_blocks [] at place s other i link distinct is there apart has = absurd (none-some s is)
own_blocks (x ∷ stores) zero zero s other i link distinct is there apart has = absurd (false≢true (sym apart))
own_blocks (x ∷ stores) zero (suc place) s other i link distinct is there apart has =
    new_to_each link.block stores place other
    (front_new x.links (all_links stores) i link distinct (ap (λ (l : Listed). slice_get l.links i) (same_Some x s is) ∙ has)) there
own_blocks (x ∷ stores) (suc at) zero s other i link distinct is there apart has =
    let (k, in_all) = link_of_all stores at s i link is has in
    subst (λ (l : Listed). is_new link.block (map block_of l.links) ≡ true) (same_Some x other there)
    (back_new x.links (all_links stores) k link distinct in_all)
own_blocks (x ∷ stores) (suc at) (suc place) s other i link distinct is there apart has =
    own_blocks stores at place s other i link (parts_distinct x.links (all_links stores) distinct) is there (same_test place at apart) has
  where
    same_test : (a b : ℕ) → (suc a == suc b) ≡ false → (a == b) ≡ false
    same_test a b h = pick (a == b) refl
      where
        pick : (t : Bool) → (a == b) ≡ t → t ≡ false
        pick false e = refl
        pick true e = absurd (false≢true (sym h ∙ eq-eqb (suc a) (suc b) (ap (λ (n : ℕ). suc n) (eqb-true a b e))))

pub own_of_shared : (blocks : ℕ) (stores : List Listed) (at place : ℕ) (s other : Listed) (i : ℕ) (link : Link) → may_share 240 blocks stores ≡ true
    → slice_get stores at ≡ Some s → slice_get stores place ≡ Some other → (place == at) ≡ false → slice_get s.links i ≡ Some link
    → is_new link.block (map block_of other.links) ≡ true
own_of_shared blocks stores at place s other i link share is there apart has =
    let parts = and_parts (nat_le (reserved_at 240 stores + 8) blocks && list_all (is_within 240) stores) (are_apart blocks (all_links stores)) share in
    let alone = and_parts (list_all (is_data blocks) (all_links stores)) (are_distinct (map block_of (all_links stores))) parts.1 in
    own_blocks stores at place s other i link alone.1 is there apart has
