-- The blocks of links that go are named by no other one.
use Rattle.std.proofs.Common.{◌≡◌, ℕ, zero, suc, ◌<◌, true, not, ◌==◌, List, [], ◌∷◌, ◌++◌, append_assoc, length, map, drop, slice_set, Some, sym, ◌∙◌, ap, arith}
use Rattle.std.specs.Prelude.{slice_get}
use Rattle.std.proofs.lemmas.Bool.{and_from, and_parts, not-true, not_from_false}
use Rattle.image_table.proofs.Frames.{table_loads}
use Rattle.pst_model.specs.Table.{Stored, Table}
use Rattle.record_view.specs.declared.link.Link.{Link}
use Rattle.store_directory.specs.Changes.{Change}
use Rattle.store_directory.specs.Directory.{Directory, Listed, are_distinct, is_new}
use Rattle.store_directory.proofs.Puts.{swapped}
use Rattle.store_load.specs.Claims.{all_links, block_of}
use Rattle.put_laws.specs.Puts.{is_unnamed}
use Rattle.put_laws.specs.Walks.{HasOffered, table_at}
use Rattle.put_laws.proofs.Named.{links_around, named_by}
use Rattle.put_laws.proofs.NewPages.{new_parts, shares}
use Rattle.put_laws.proofs.Spots.{set_in, spot}

new_joined : (n : ℕ) (front back : List Link) → is_new n (named_by front) ≡ true → is_new n (named_by back) ≡ true → is_new n (named_by (front ++ back)) ≡ true
new_joined n [] back ahead behind = behind
new_joined n (x ∷ front) back ahead behind =
    let parts = and_parts (not (n == x.block)) (is_new n (named_by front)) ahead in
    and_from (not (n == x.block)) (is_new n (named_by (front ++ back))) parts.0 (new_joined n front back parts.1 behind)

new_left : (n k : ℕ) (links : List Link) → is_new n (named_by links) ≡ true → is_new n (named_by (drop k links)) ≡ true
new_left n zero links new = new
new_left n (suc k) [] new = new
new_left n (suc k) (link ∷ links) new = new_left n k links (and_parts (not (n == link.block)) (is_new n (named_by links)) new).1

-- a link among others names a block of its own
distinct_at : (front : List Link) (link : Link) (back : List Link) → are_distinct (named_by (front ++ link ∷ back)) ≡ true → is_new link.block (named_by (front ++ back)) ≡ true
distinct_at [] link back distinct = (and_parts (is_new link.block (named_by back)) (are_distinct (named_by back)) distinct).0
distinct_at (x ∷ front) link back distinct =
    let parts = and_parts (is_new x.block (named_by (front ++ link ∷ back))) (are_distinct (named_by (front ++ link ∷ back))) distinct in
    let here = (new_parts x.block front (link ∷ back) parts.0).1 in
    let other = not-true (x.block == link.block) (and_parts (not (x.block == link.block)) (is_new x.block (named_by back)) here).0 in
    and_from (not (link.block == x.block)) (is_new link.block (named_by (front ++ back)))
    (not_from_false (link.block == x.block) (swapped x.block link.block other)) (distinct_at front link back parts.1)

-- one of the first links: none of those behind the first ones names its block, nor any around
pub record IsAlone (front : List Link) (links back : List Link) (gone : ℕ) (link : Link) : Type 0 where
  pub ahead : is_new link.block (named_by front) ≡ true
  pub rest : is_new link.block (named_by (drop gone links)) ≡ true
  pub behind : is_new link.block (named_by back) ≡ true

alone : (front links back : List Link) (which gone : ℕ) (link : Link) → are_distinct (named_by (front ++ (links ++ back))) ≡ true
    → slice_get links which ≡ Some link → which < gone → IsAlone front links back gone link
alone front links back which gone link distinct here before =
    let there = spot links which link here in
    let whole : front ++ (links ++ back) ≡ (front ++ there.front) ++ link ∷ (there.back ++ back) =
    ap (λ (l : List Link). front ++ (l ++ back)) there.parted
    ∙ ap (λ (l : List Link). front ++ l) (append_assoc there.front (link ∷ there.back) back)
    ∙ sym (append_assoc front there.front (link ∷ (there.back ++ back))) in
    let apart = distinct_at (front ++ there.front) link (there.back ++ back) (ap (λ (l : List Link). are_distinct (named_by l)) (sym whole) ∙ distinct) in
    let parts = new_parts link.block (front ++ there.front) (there.back ++ back) apart in
    let near = new_parts link.block front there.front parts.0 in
    let far = new_parts link.block there.back back parts.1 in
    record {
      ahead = near.0;
      rest =
          ap (λ (l : List Link). is_new link.block (named_by (drop gone l))) there.parted
          ∙ past there.front there.back gone (omega (arith, there.long, before)) far.0;
      behind = far.1;
    }
  where
    past : (first rest : List Link) (gone : ℕ) → length first < gone → is_new link.block (named_by rest) ≡ true → is_new link.block (named_by (drop gone (first ++ link ∷ rest))) ≡ true
    past first rest zero few new = absurd (omega arith)
    past [] rest (suc gone) few new = new_left link.block gone rest new
    past (x ∷ first) rest (suc gone) few new = past first rest gone (omega (arith, few)) new

pub left_unnamed : (blocks : ℕ) (image : ℕ → List ℕ) (d : Directory) (table : Table) (stored : Stored) (at place gone which : ℕ) (changes : List Change) (before next : Directory)
    (s new : Listed) (more : List Link) (link : Link) → HasOffered blocks image d table stored at changes before → slice_get before.stores place ≡ Some s
    → next.stores ≡ slice_set before.stores place new → new.links ≡ drop gone s.links ++ more → slice_get s.links which ≡ Some link → which < gone
    → is_new link.block (map block_of more) ≡ true → is_unnamed link.block next ≡ true
left_unnamed blocks image d table stored at place gone which changes before next s new more link walk listed stores links here first others =
    let share = (table_loads blocks image before (table_at stored at table) walk.loads).share in
    let there = spot before.stores place s listed in
    let front = all_links there.front in
    let back = all_links there.back in
    let all : all_links before.stores ≡ front ++ (s.links ++ back) = ap all_links there.parted ∙ links_around there.front s there.back in
    let lone = alone front s.links back which gone link (ap (λ (l : List Link). are_distinct (named_by l)) (sym all) ∙ shares blocks before.stores share) here first in
    let after : all_links next.stores ≡ front ++ ((drop gone s.links ++ more) ++ back) =
    ap all_links (stores ∙ sym (set_in before.stores there.front s new there.back place there.parted there.long))
    ∙ links_around there.front new there.back
    ∙ ap (λ (l : List Link). front ++ (l ++ back)) links in
    ap (λ (l : List Link). is_new link.block (named_by l)) after
    ∙ new_joined link.block front ((drop gone s.links ++ more) ++ back) lone.ahead
    (new_joined link.block (drop gone s.links ++ more) back (new_joined link.block (drop gone s.links) more lone.rest others) lone.behind)
