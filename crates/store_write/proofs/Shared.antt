-- Stores that share a device still do so when the last block of one is another one.
use Rattle.std.proofs.Common.{◌≡◌, ℕ, suc, ◌+◌, ◌==◌, ◌&&◌, not, nat_le, Bool, true, false, List, [], ◌∷◌, ◌++◌, append_assoc}
use Rattle.std.proofs.Common.{length, map, Some, refl, sym, ◌∙◌, ap, subst}
use Rattle.std.specs.Prelude.{if◌then◌else◌}
use Rattle.std.specs.List.{list_all}
use Rattle.std.proofs.lemmas.Bool.{and_parts, eq-eqb, eqb-true, false≢true}
use Rattle.std.proofs.lemmas.Option.{none-some, same_Some}
use Rattle.record_view.specs.declared.link.Link.{Link}
use Rattle.store_directory.specs.Directory.{Listed, are_distinct, find_store, is_new, put_store, swap_last}
use Rattle.store_directory.proofs.Steps.{some_then}
use Rattle.store_load.specs.Extents.{last_of}
use Rattle.store_load.specs.Claims.{all_links, are_apart, block_of, blocks_at, is_data, is_within, may_share, reserved_at}
use Rattle.store_load.proofs.Eachs.{both, one, two}
use Rattle.store_write.specs.Renewed.{AreNamed}

-- links of which one is another one
record Replaced (old new : Link) (links others : List Link) : Type 0 where
  front : List Link
  back : List Link
  was : links ≡ front ++ old ∷ back
  is : others ≡ front ++ new ∷ back

-- whether a link names none of the blocks, and whether they name different ones
abbrev new_in : (block : ℕ) → List Link → Bool
new_in block links = is_new block (map block_of links)

abbrev apart : List Link → Bool
apart links = are_distinct (map block_of links)

not_equal : (a b : ℕ) → not (a == b) ≡ true → not (b == a) ≡ true
not_equal a b h = pick (b == a) refl
  where
    pick : (t : Bool) → (b == a) ≡ t → not (b == a) ≡ true
    pick false is = ap not is
    pick true is =
        absurd (false≢true (sym (ap not (eq-eqb a b (sym (eqb-true b a is)))) ∙ h))

module _ (old new : Link) (back : List Link) where
  still_new : (block : ℕ) (front : List Link) → not (block == new.block) ≡ true
      → new_in block (front ++ old ∷ back) ≡ true → new_in block (front ++ new ∷ back) ≡ true
  still_new block [] other is =
      both (not (block == new.block)) (new_in block back) other
      (two (not (block == old.block)) (new_in block back) is)
  still_new block (link ∷ front) other is =
      both (not (block == link.block)) (new_in block (front ++ new ∷ back))
      (one (not (block == link.block)) (new_in block (front ++ old ∷ back)) is)
      (still_new block front other
      (two (not (block == link.block)) (new_in block (front ++ old ∷ back)) is))

  still_apart : (front : List Link) → new_in new.block (front ++ old ∷ back) ≡ true
      → apart (front ++ old ∷ back) ≡ true → apart (front ++ new ∷ back) ≡ true
  still_apart [] is distinct =
      both (new_in new.block back) (apart back)
      (two (not (new.block == old.block)) (new_in new.block back) is)
      (two (new_in old.block back) (apart back) distinct)
  still_apart (link ∷ front) is distinct =
      both (new_in link.block (front ++ new ∷ back)) (apart (front ++ new ∷ back))
      (still_new link.block front
      (not_equal new.block link.block
      (one (not (new.block == link.block)) (new_in new.block (front ++ old ∷ back)) is))
      (one (new_in link.block (front ++ old ∷ back)) (apart (front ++ old ∷ back)) distinct))
      (still_apart front
      (two (not (new.block == link.block)) (new_in new.block (front ++ old ∷ back)) is)
      (two (new_in link.block (front ++ old ∷ back)) (apart (front ++ old ∷ back)) distinct))

  still_data : (blocks : ℕ) (front : List Link) → is_data blocks new ≡ true
      → list_all (is_data blocks) (front ++ old ∷ back) ≡ true
      → list_all (is_data blocks) (front ++ new ∷ back) ≡ true
  still_data blocks [] own all =
      both (is_data blocks new) (list_all (is_data blocks) back) own
      (two (is_data blocks old) (list_all (is_data blocks) back) all)
  still_data blocks (link ∷ front) own all =
      both (is_data blocks link) (list_all (is_data blocks) (front ++ new ∷ back))
      (one (is_data blocks link) (list_all (is_data blocks) (front ++ old ∷ back)) all)
      (still_data blocks front own
      (two (is_data blocks link) (list_all (is_data blocks) (front ++ old ∷ back)) all))

-- links that are apart stay so
replaced_apart : (blocks : ℕ) (old new : Link) (links others : List Link)
    → Replaced old new links others → is_data blocks new ≡ true → new_in new.block links ≡ true
    → are_apart blocks links ≡ true → are_apart blocks others ≡ true
replaced_apart blocks old new links others r own is all =
    let parts = and_parts (list_all (is_data blocks) (r.front ++ old ∷ r.back))
    (apart (r.front ++ old ∷ r.back)) (sym (ap (are_apart blocks) r.was) ∙ all) in
    ap (are_apart blocks) r.is
    ∙ both (list_all (is_data blocks) (r.front ++ new ∷ r.back)) (apart (r.front ++ new ∷ r.back))
    (still_data old new r.back blocks r.front own parts.0)
    (still_apart old new r.back r.front (sym (ap (new_in new.block) r.was) ∙ is) parts.1)

-- a swap replaces the last link
record SwapIs (new : Link) (links swapped : List Link) : Type 0 where
  old : Link
  replaced : Replaced old new links swapped
  long : length swapped ≡ length links

swap_is : (new : Link) (links swapped : List Link) → swap_last new links ≡ Some swapped
    → SwapIs new links swapped
swap_is new [] swapped is = absurd (none-some swapped is)
swap_is new (link ∷ []) swapped is = record {
  old = link;
  replaced = record { front = []; back = []; was = refl; is = sym (same_Some (new ∷ []) swapped is) };
  long = sym (ap length (same_Some (new ∷ []) swapped is));
}
swap_is new (link ∷ next ∷ links) swapped is =
    let (deeper, made, last) = some_then (swap_last new (next ∷ links))
    (λ (l : List Link). Some (link ∷ l)) swapped is in
    let inner = swap_is new (next ∷ links) deeper made in
    let are = sym (same_Some (link ∷ deeper) swapped last) in
    record {
      old = inner.old;
      replaced = record {
        front = link ∷ inner.replaced.front;
        back = inner.replaced.back;
        was = ap (λ (l : List Link). link ∷ l) inner.replaced.was;
        is = are ∙ ap (λ (l : List Link). link ∷ l) inner.replaced.is;
      };
      long = ap length are ∙ ap suc inner.long;
    }

-- the stores, of which one has other links
module _ (least : ℕ) (s : Listed) (new : Link) (swapped : List Link)
    (made : SwapIs new s.links swapped) where
  abbrev renewed : Listed
  renewed = record s { links = swapped }

  record PutTo (stores after : List Listed) : Type 0 where
    replaced : Replaced made.old new (all_links stores) (all_links after)
    reserved : reserved_at least after ≡ reserved_at least stores
    within : list_all (is_within least) after ≡ list_all (is_within least) stores

  put_is : (stores : List Listed) → find_store s.identifier stores ≡ Some s
      → PutTo stores (put_store renewed stores)
  put_is [] found = absurd (none-some s found)
  put_is (x ∷ stores) found = pick (s.identifier == x.identifier) found (put_is stores)
    where
      pick : (t : Bool) → (if t then Some x else find_store s.identifier stores) ≡ Some s
          → (find_store s.identifier stores ≡ Some s → PutTo stores (put_store renewed stores))
          → PutTo (x ∷ stores) (if t then renewed ∷ stores else x ∷ put_store renewed stores)
      pick true is deeper =
          let r = made.replaced in
          let rest = all_links stores in
          subst (λ (y : Listed). PutTo (y ∷ stores) (renewed ∷ stores)) (sym (same_Some x s is))
          (record {
            replaced = record {
              front = r.front;
              back = r.back ++ rest;
              was = ap (λ (l : List Link). l ++ rest) r.was
                  ∙ append_assoc r.front (made.old ∷ r.back) rest;
              is = ap (λ (l : List Link). l ++ rest) r.is
                  ∙ append_assoc r.front (new ∷ r.back) rest;
            };
            reserved = refl;
            within = ap (λ (n : ℕ). nat_le n (blocks_at least s.size)
                && list_all (is_within least) stores) made.long;
          })
      pick false is deeper =
          let put = deeper is in
          let r = put.replaced in
          record {
            replaced = record {
              front = x.links ++ r.front;
              back = r.back;
              was = ap (λ (l : List Link). x.links ++ l) r.was
                  ∙ sym (append_assoc x.links r.front (made.old ∷ r.back));
              is = ap (λ (l : List Link). x.links ++ l) r.is
                  ∙ sym (append_assoc x.links r.front (new ∷ r.back));
            };
            reserved = ap (λ (n : ℕ). blocks_at least x.size + n) put.reserved;
            within = ap (λ (b : Bool). is_within least x && b) put.within;
          }

pub swapped_share : (least blocks : ℕ) (stores : List Listed) (s : Listed) (new : Link)
    (swapped : List Link) → may_share least blocks stores ≡ true
    → find_store s.identifier stores ≡ Some s → swap_last new s.links ≡ Some swapped
    → is_data blocks new ≡ true → is_new new.block (map block_of (all_links stores)) ≡ true
    → may_share least blocks (put_store (record s { links = swapped }) stores) ≡ true
swapped_share least blocks stores s new swapped share found made own is =
    let swap = swap_is new s.links swapped made in
    let put = put_is least s new swapped swap stores found in
    let room = nat_le (reserved_at least stores + 8) blocks in
    let within = list_all (is_within least) stores in
    let parts = and_parts (room && within) (are_apart blocks (all_links stores)) share in
    (λ i. (nat_le (put.reserved i + 8) blocks && put.within i)
    && are_apart blocks (all_links (put_store (record s { links = swapped }) stores)))
    ∙ both (room && within)
    (are_apart blocks (all_links (put_store (record s { links = swapped }) stores))) parts.0
    (replaced_apart blocks swap.old new (all_links stores)
    (all_links (put_store (record s { links = swapped }) stores)) put.replaced own is parts.1)

-- the blocks that no store names, behind a swap
module _ (old new : Link) (back : List Link) where
  same_new : (block : ℕ) (front : List Link) → (block == old.block) ≡ false
      → (block == new.block) ≡ false
      → new_in block (front ++ new ∷ back) ≡ new_in block (front ++ old ∷ back)
  same_new block [] not_old not_new =
      (λ i. not (not_new i) && new_in block back) ∙ sym (λ i. not (not_old i) && new_in block back)
  same_new block (link ∷ front) not_old not_new =
      ap (λ (b : Bool). not (block == link.block) && b) (same_new block front not_old not_new)

  named : (front : List Link) → new_in new.block (front ++ new ∷ back) ≡ false
  named [] = ap (λ (b : Bool). not b && new_in new.block back) (eq-eqb new.block new.block refl)
  named (link ∷ front) = pick (not (new.block == link.block)) (named front)
    where
      pick : (a : Bool) {b : Bool} → b ≡ false → (a && b) ≡ false
      pick true is = is
      pick false is = refl

  unnamed : (front : List Link) → new_in new.block (front ++ old ∷ back) ≡ true
      → apart (front ++ old ∷ back) ≡ true → new_in old.block (front ++ new ∷ back) ≡ true
  unnamed [] is distinct =
      both (not (old.block == new.block)) (new_in old.block back)
      (not_equal new.block old.block (one (not (new.block == old.block)) (new_in new.block back) is))
      (one (new_in old.block back) (apart back) distinct)
  unnamed (link ∷ front) is distinct =
      both (not (old.block == link.block)) (new_in old.block (front ++ new ∷ back))
      (not_equal link.block old.block
      (there link.block front (one (new_in link.block (front ++ old ∷ back))
      (apart (front ++ old ∷ back)) distinct)))
      (unnamed front (two (not (new.block == link.block)) (new_in new.block (front ++ old ∷ back)) is)
      (two (new_in link.block (front ++ old ∷ back)) (apart (front ++ old ∷ back)) distinct))
    where
      there : (block : ℕ) (front : List Link) → new_in block (front ++ old ∷ back) ≡ true
          → not (block == old.block) ≡ true
      there block [] is = one (not (block == old.block)) (new_in block back) is
      there block (a ∷ front) is =
          there block front (two (not (block == a.block)) (new_in block (front ++ old ∷ back)) is)

-- the last link is the one that a swap replaces
last_in : Link → List Link → Link
last_in none [] = none
last_in none (link ∷ links) = last_of link links

swap_old : (new none : Link) (links swapped : List Link)
    → (is : swap_last new links ≡ Some swapped)
    → (swap_is new links swapped is).old ≡ last_in none links
unfolding swap_is last_in
swap_old new none [] swapped is = absurd (none-some swapped is)
swap_old new none (link ∷ []) swapped is = refl
swap_old new none (link ∷ next ∷ links) swapped is =
    let (deeper, made, last) = some_then (swap_last new (next ∷ links))
    (λ (l : List Link). Some (link ∷ l)) swapped is in
    swap_old new none (next ∷ links) deeper made

are_named : (old new : Link) (links others : List Link) → Replaced old new links others
    → new_in new.block links ≡ true → apart links ≡ true
    → AreNamed old.block new.block links others
are_named old new links others r is distinct =
    let is_there = sym (ap (new_in new.block) r.was) ∙ is in
    record {
      taken = ap (new_in new.block) r.is ∙ named old new r.back r.front;
      given = ap (new_in old.block) r.is
          ∙ unnamed old new r.back r.front is_there (sym (ap apart r.was) ∙ distinct);
      others = λ block not_old not_new. ap (new_in block) r.is
          ∙ same_new old new r.back block r.front not_old not_new ∙ sym (ap (new_in block) r.was);
    }

pub swapped_named : (least blocks : ℕ) (stores : List Listed) (s : Listed) (link : Link)
    (links : List Link) (new : Link) (swapped : List Link) → may_share least blocks stores ≡ true
    → find_store s.identifier stores ≡ Some s → s.links ≡ link ∷ links
    → swap_last new s.links ≡ Some swapped
    → is_new new.block (map block_of (all_links stores)) ≡ true
    → AreNamed (last_of link links).block new.block (all_links stores)
    (all_links (put_store (record s { links = swapped }) stores))
unfolding last_in
swapped_named least blocks stores s link links new swapped share found same made is =
    let swap = swap_is new s.links swapped made in
    let put = put_is least s new swapped swap stores found in
    let room = nat_le (reserved_at least stores + 8) blocks in
    let within = list_all (is_within least) stores in
    let parts = and_parts (room && within) (are_apart blocks (all_links stores)) share in
    let distinct = (and_parts (list_all (is_data blocks) (all_links stores))
    (apart (all_links stores)) parts.1).1 in
    let last : swap.old ≡ last_of link links =
    swap_old new link s.links swapped made ∙ ap (last_in link) same in
    subst (λ (old : Link). AreNamed old.block new.block (all_links stores)
    (all_links (put_store (record s { links = swapped }) stores))) last
    (are_named swap.old new (all_links stores)
    (all_links (put_store (record s { links = swapped }) stores)) put.replaced is distinct)
