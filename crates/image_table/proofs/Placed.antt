-- A store of a directory with another row, in its place.
use Rattle.std.proofs.Common.{◌≡◌, ℕ, zero, suc, ◌+◌, ◌&&◌, not, nat_eq, nat_le, Bool, true, false, List, [], ◌∷◌, ◌++◌, length, slice_set, Option, Some, refl, sym, ◌∙◌, ap, subst}
use Rattle.std.specs.Prelude.{slice_get}
use Rattle.std.specs.List.{list_all}
use Rattle.std.proofs.lemmas.Bool.{and_from, and_parts, eq-eqb, not-true}
use Rattle.std.proofs.lemmas.Option.{none-some, same_Some}
use Rattle.block_pool.specs.Sizes.{blocks_for_size}
use Rattle.record_view.specs.declared.link.Link.{Link}
use Rattle.store_directory.specs.Checkpoints.{are_lawful, is_lawful_listed}
use Rattle.store_directory.specs.Directory.{Listed, are_distinct, identifiers, is_new, reserved_by}
use Rattle.store_directory.proofs.Places.{IsFirst}
use Rattle.store_directory.proofs.Puts.{swapped}
use Rattle.store_load.specs.Claims.{all_links, are_apart, blocks_at, is_within, may_share, reserved_at}
use Rattle.store_load.specs.Each.{each}
use Rattle.store_load.proofs.Eachs.{each_cons, each_more}

-- the store at a place is the first of its identifier

new_at : (n : ℕ) (stores : List Listed) (at : ℕ) (s : Listed) → is_new n (identifiers stores) ≡ true → slice_get stores at ≡ Some s → nat_eq n s.identifier ≡ false
new_at n [] at s new there = absurd (none-some s there)
new_at n (x ∷ stores) zero s new there =
    ap (λ (y : Listed). nat_eq n y.identifier) (sym (same_Some x s there)) ∙ not-true (nat_eq n x.identifier) (and_parts (not (nat_eq n x.identifier)) (is_new n (identifiers stores)) new).0
new_at n (x ∷ stores) (suc at) s new there =
    new_at n stores at s (and_parts (not (nat_eq n x.identifier)) (is_new n (identifiers stores)) new).1 there

pub first_own : (stores : List Listed) (at : ℕ) (s : Listed) → are_distinct (identifiers stores) ≡ true → slice_get stores at ≡ Some s → IsFirst (nat_eq s.identifier) (identifiers stores) at
first_own [] at s distinct there = absurd (none-some s there)
first_own (x ∷ stores) zero s distinct there = eq-eqb s.identifier x.identifier (ap (λ (y : Listed). y.identifier) (sym (same_Some x s there)))
first_own (x ∷ stores) (suc at) s distinct there =
    let parts = and_parts (is_new x.identifier (identifiers stores)) (are_distinct (identifiers stores)) distinct in
    (swapped x.identifier s.identifier (new_at x.identifier stores at s parts.0 there), first_own stores at s parts.1 there)

-- one element of a list and of its answers
pub each_at : {A B : Type 0} (f : A → Option B) (xs : List A) (ys : List B) (at : ℕ) (x : A) (y : B) → each f xs ≡ Some ys → slice_get xs at ≡ Some x → slice_get ys at ≡ Some y → f x ≡ Some y
each_at f [] ys at x y is there_x there_y = absurd (none-some x there_x)
each_at {A = A} {B = B} f (a ∷ xs) ys at x y is there_x there_y =
    let (b, bs, here, behind, whole) = each_cons f a xs ys is in
    pick at b bs here there_x (subst (λ (l : List B). slice_get l at ≡ Some y) (sym whole) there_y) (λ k. each_at f xs bs k x y behind)
  where
    pick : (k : ℕ) (b : B) (bs : List B) → f a ≡ Some b → slice_get (a ∷ xs) k ≡ Some x → slice_get (b ∷ bs) k ≡ Some y
        → ((k : ℕ) → slice_get xs k ≡ Some x → slice_get bs k ≡ Some y → f x ≡ Some y) → f x ≡ Some y
    pick zero b bs here there_x there_y deeper = ap f (sym (same_Some a x there_x)) ∙ here ∙ there_y
    pick (suc k) b bs here there_x there_y deeper = deeper k there_x there_y

pub each_set : {A B : Type 0} (f : A → Option B) (xs : List A) (ys : List B) (at : ℕ) (new : A) (made : B) → each f xs ≡ Some ys → f new ≡ Some made → each f (slice_set xs at new) ≡ Some (slice_set ys at made)
each_set {B = B} f [] ys at new made is here = ap (λ (l : List B). Some (slice_set l at made)) (same_Some [] ys is)
each_set {A = A} {B = B} f (a ∷ xs) ys at new made is here =
    let (b, bs, first, behind, whole) = each_cons f a xs ys is in
    pick at b bs first behind (λ k. each_set f xs bs k new made behind here) ∙ ap (λ (l : List B). Some (slice_set l at made)) whole
  where
    pick : (k : ℕ) (b : B) (bs : List B) → f a ≡ Some b → each f xs ≡ Some bs → ((k : ℕ) → each f (slice_set xs k new) ≡ Some (slice_set bs k made))
        → each f (slice_set (a ∷ xs) k new) ≡ Some (slice_set (b ∷ bs) k made)
    pick zero b bs first behind deeper = each_more f new xs made bs here behind
    pick (suc k) b bs first behind deeper = each_more f a (slice_set xs k new) b (slice_set bs k made) first (deeper k)

set_all : (test : Listed → Bool) (stores : List Listed) (at : ℕ) (new : Listed) → list_all test stores ≡ true → test new ≡ true → list_all test (slice_set stores at new) ≡ true
set_all test [] at new all here = refl
set_all test (x ∷ stores) zero new all here = and_from (test new) (list_all test stores) here (and_parts (test x) (list_all test stores) all).1
set_all test (x ∷ stores) (suc at) new all here =
    let parts = and_parts (test x) (list_all test stores) all in
    and_from (test x) (list_all test (slice_set stores at new)) parts.0 (set_all test stores at new parts.1 here)

-- what stores take together of their directory and their device
record TakeSame (some other : List Listed) : Type 0 where
  identifiers_are : identifiers some ≡ identifiers other
  length_is : length some ≡ length other
  reserved_is : reserved_by some ≡ reserved_by other
  reserved_at_is : reserved_at 240 some ≡ reserved_at 240 other
  within_is : list_all (is_within 240) some ≡ list_all (is_within 240) other
  links_are : all_links some ≡ all_links other

module _ (s new : Listed) (identifier_is : new.identifier ≡ s.identifier) (size_is : new.size ≡ s.size) (links_are : new.links ≡ s.links) where
  take_same : (stores : List Listed) (at : ℕ) → slice_get stores at ≡ Some s → TakeSame (slice_set stores at new) stores
  take_same [] at there = absurd (none-some s there)
  take_same (x ∷ stores) zero there =
      let is : s ≡ x = sym (same_Some x s there) in
      record {
        identifiers_are = ap (λ (n : ℕ). n ∷ identifiers stores) (identifier_is ∙ ap (λ (y : Listed). y.identifier) is);
        length_is = refl;
        reserved_is = ap (λ (n : ℕ). blocks_for_size n + reserved_by stores) (size_is ∙ ap (λ (y : Listed). y.size) is);
        reserved_at_is = ap (λ (n : ℕ). blocks_at 240 n + reserved_at 240 stores) (size_is ∙ ap (λ (y : Listed). y.size) is);
        within_is =
            (λ i. nat_le (length (links_are i)) (blocks_at 240 (size_is i)) && list_all (is_within 240) stores)
            ∙ ap (λ (y : Listed). is_within 240 y && list_all (is_within 240) stores) is;
        links_are = ap (λ (l : List Link). l ++ all_links stores) (links_are ∙ ap (λ (y : Listed). y.links) is);
      }
  take_same (x ∷ stores) (suc at) there =
      let rest = take_same stores at there in
      record {
        identifiers_are = ap (λ (l : List ℕ). x.identifier ∷ l) rest.identifiers_are;
        length_is = ap (λ (n : ℕ). suc n) rest.length_is;
        reserved_is = ap (λ (n : ℕ). blocks_for_size x.size + n) rest.reserved_is;
        reserved_at_is = ap (λ (n : ℕ). blocks_at 240 x.size + n) rest.reserved_at_is;
        within_is = ap (λ (t : Bool). is_within 240 x && t) rest.within_is;
        links_are = ap (λ (l : List Link). x.links ++ l) rest.links_are;
      }

  module _ (stores : List Listed) (at : ℕ) (there : slice_get stores at ≡ Some s) where
    same : TakeSame (slice_set stores at new) stores
    same = take_same stores at there

    pub set_lawful : are_lawful stores ≡ true → is_lawful_listed new ≡ true → are_lawful (slice_set stores at new) ≡ true
    set_lawful lawful here =
        let others = and_parts (list_all is_lawful_listed stores && are_distinct (identifiers stores) && nat_le (length stores) 32) (nat_le (reserved_by stores) 504) lawful in
        let named = and_parts (list_all is_lawful_listed stores && are_distinct (identifiers stores)) (nat_le (length stores) 32) others.0 in
        let each_is = (and_parts (list_all is_lawful_listed stores) (are_distinct (identifiers stores)) named.0).0 in
        let all_are : list_all is_lawful_listed (slice_set stores at new) ≡ list_all is_lawful_listed stores = set_all is_lawful_listed stores at new each_is here ∙ sym each_is in
        (λ i. all_are i && are_distinct (same.identifiers_are i) && nat_le (same.length_is i) 32 && nat_le (same.reserved_is i) 504) ∙ lawful

    pub set_shares : (blocks : ℕ) → may_share 240 blocks (slice_set stores at new) ≡ may_share 240 blocks stores
    set_shares blocks = λ i. nat_le (same.reserved_at_is i + 8) blocks && same.within_is i && are_apart blocks (same.links_are i)

    pub set_few : length (slice_set stores at new) ≡ length stores
    set_few = same.length_is

    pub set_reserves : reserved_by (slice_set stores at new) ≡ reserved_by stores
    set_reserves = same.reserved_is
