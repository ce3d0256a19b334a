-- Which blocks links name.
use Rattle.std.proofs.Common.{◌≡◌, ℕ, zero, suc, ◌<◌, ◌≤◌, ◌&&◌, ◌||◌, ◌==◌, not, nat_le, nat_lt, Bool, true, false, List, [], ◌∷◌, ◌++◌, All, length, map, get_or, set, slice_index_or, take, eqb-true, eq-eqb, Some, refl, sym, ◌∙◌, ap, subst, arith}
use Rattle.std.specs.Prelude.{slice_get}
use Rattle.std.proofs.lemmas.Bool.{false≢true}
use Rattle.std.proofs.lemmas.Bool.Decides.{nat_tests}
use Rattle.std.proofs.lemmas.List.{get_or-set_other, get_or-set_same}
use Rattle.std.proofs.lemmas.List.Elements.{All-tail}
use Rattle.std.proofs.lemmas.Option.{none-some, same_Some}
use Rattle.record_view.specs.declared.link.Link.{Link}
use Rattle.store_directory.specs.Directory.{Listed, is_new}
use Rattle.store_load.specs.Claims.{all_links, block_of}
use Rattle.store_put.specs.Pools.{is_named, is_unlinked}

-- links in front of others
pub named_both : (block : ℕ) (xs ys : List Link) → is_named block (xs ++ ys) ≡ (is_named block xs || is_named block ys)
named_both block [] ys = refl
named_both block (x ∷ xs) ys = with_one (block == x.block) (is_new block (map block_of (xs ++ ys))) (is_new block (map block_of xs)) (is_named block ys) (named_both block xs ys)
  where
    with_one : (a n m c : Bool) → not n ≡ (not m || c) → not (not a && n) ≡ (not (not a && m) || c)
    with_one true n m c h = refl
    with_one false n m c h = h

-- the blocks of one link more
pub named_more : (block : ℕ) (links : List Link) (at : ℕ) (link : Link) → slice_get links at ≡ Some link
    → is_named block (take (suc at) links) ≡ (is_named block (take at links) || (block == link.block))
named_more block [] at link is = absurd (none-some link is)
named_more block (x ∷ links) zero link is =
    one (block == x.block) ∙ ap (λ (l : Link). block == l.block) (same_Some x link is)
  where
    one : (a : Bool) → not (not a && true) ≡ a
    one true = refl
    one false = refl
named_more block (x ∷ links) (suc at) link is =
    with_one (block == x.block) (is_new block (map block_of (take (suc at) links))) (is_new block (map block_of (take at links))) (block == link.block)
    (named_more block links at link is)
  where
    with_one : (a n m c : Bool) → not n ≡ (not m || c) → not (not a && n) ≡ (not (not a && m) || c)
    with_one true n m c h = refl
    with_one false n m c h = h

-- the links of one store more
pub links_more : (stores : List Listed) (at : ℕ) (s : Listed) → slice_get stores at ≡ Some s
    → all_links (take (suc at) stores) ≡ all_links (take at stores) ++ s.links
links_more [] at s is = absurd (none-some s is)
links_more (x ∷ stores) zero s is = no_more x.links ∙ ap (λ (l : Listed). l.links) (same_Some x s is)
  where
    no_more : (xs : List Link) → xs ++ [] ≡ xs
    no_more [] = refl
    no_more (y ∷ ys) = ap (λ (l : List Link). y ∷ l) (no_more ys)
links_more (x ∷ stores) (suc at) s is =
    ap (λ (l : List Link). x.links ++ l) (links_more stores at s is) ∙ sym (regroup x.links (all_links (take at stores)) s.links)
  where
    regroup : (xs ys zs : List Link) → (xs ++ ys) ++ zs ≡ xs ++ (ys ++ zs)
    regroup [] ys zs = refl
    regroup (y ∷ xs) ys zs = ap (λ (l : List Link). y ∷ l) (regroup xs ys zs)

pub links_at : (P : Link → Type 0) (stores : List Listed) (at : ℕ) (s : Listed) → All P (all_links stores) → slice_get stores at ≡ Some s → All P s.links
links_at P [] at s all is = absurd (none-some s is)
links_at P (x ∷ stores) zero s all is = subst (λ (l : Listed). All P l.links) (same_Some x s is) (front P x.links (all_links stores) all)
  where
    front : (P : Link → Type 0) (xs ys : List Link) → All P (xs ++ ys) → All P xs
    front P xs ys all = λ k default within. subst P (first xs ys k default within) (all k default (longer xs ys k within))
      where
        first : (xs ys : List Link) (k : ℕ) (default : Link) → k < length xs → slice_index_or (xs ++ ys) k default ≡ slice_index_or xs k default
        first [] ys k default within = absurd (omega (arith, within))
        first (x ∷ xs) ys zero default within = refl
        first (x ∷ xs) ys (suc k) default within = first xs ys k default (omega (arith, within))

        longer : (xs ys : List Link) (k : ℕ) → k < length xs → k < length (xs ++ ys)
        longer [] ys k within = absurd (omega (arith, within))
        longer (x ∷ xs) ys zero within = omega arith
        longer (x ∷ xs) ys (suc k) within = let rest = longer xs ys k (omega (arith, within)) in omega (arith, rest)
links_at P (x ∷ stores) (suc at) s all is = links_at P stores at s (back P x.links (all_links stores) all) is
  where
    back : (P : Link → Type 0) (xs ys : List Link) → All P (xs ++ ys) → All P ys
    back P [] ys all = all
    back P (x ∷ xs) ys all = back P xs ys (All-tail P x (xs ++ ys) all)

-- a data block is unlinked exactly if it is not named
pub data_unlinked : (blocks : ℕ) (stores : List Listed) (block : ℕ) → 7 ≤ block → block < blocks
    → is_unlinked blocks stores block ≡ not (is_named block (all_links stores))
data_unlinked blocks stores block low high = pick (nat_le 7 block) (nat_lt block blocks) (is_new block (map block_of (all_links stores))) (from block low) (to block blocks high)
  where
    from : (b : ℕ) → 7 ≤ b → nat_le 7 b ≡ true
    from b h = grind (arith, nat_tests)

    to : (b n : ℕ) → b < n → nat_lt b n ≡ true
    to b n h = grind (arith, nat_tests)

    pick : (a b c : Bool) → a ≡ true → b ≡ true → (a && b && c) ≡ not (not c)
    pick true true true h k = refl
    pick true true false h k = refl
    pick true false c h k = absurd (false≢true k)
    pick false b c h k = absurd (false≢true h)

-- no other block is
pub low_linked : (blocks : ℕ) (stores : List Listed) (block : ℕ) → block < 7 → is_unlinked blocks stores block ≡ false
low_linked blocks stores block low = pick (nat_le 7 block) (nat_lt block blocks) (is_new block (map block_of (all_links stores))) (test block low)
  where
    test : (b : ℕ) → b < 7 → nat_le 7 b ≡ false
    test b h = grind (arith, nat_tests)

    pick : (a b c : Bool) → a ≡ false → (a && b && c) ≡ false
    pick false b c h = refl
    pick true b c h = absurd (false≢true (sym h))

pub high_linked : (blocks : ℕ) (stores : List Listed) (block : ℕ) → blocks ≤ block → is_unlinked blocks stores block ≡ false
high_linked blocks stores block high = pick (nat_le 7 block) (nat_lt block blocks) (is_new block (map block_of (all_links stores))) (test block blocks high)
  where
    test : (b n : ℕ) → n ≤ b → nat_lt b n ≡ false
    test b n h = grind (arith, nat_tests)

    pick : (a b c : Bool) → b ≡ false → (a && b && c) ≡ false
    pick true false c h = refl
    pick false b c h = refl
    pick true true c h = absurd (false≢true (sym h))

-- the block of one link more is marked
pub marked_more : (named : List Bool) (old : Bool) (links : List Link) (at : ℕ) (link : Link) (block : ℕ) → slice_get links at ≡ Some link
    → link.block < length named → get_or named block true ≡ (old || is_named block (take at links))
    → get_or (set named link.block true) block true ≡ (old || is_named block (take (suc at) links))
marked_more named old links at link block is within was = pick (block == link.block) refl
  where
    always : (a b : Bool) → (a || (b || true)) ≡ true
    always true b = refl
    always false true = refl
    always false false = refl

    no_more : (b : Bool) → (b || false) ≡ b
    no_more true = refl
    no_more false = refl

    pick : (b : Bool) → (block == link.block) ≡ b → get_or (set named link.block true) block true ≡ (old || is_named block (take (suc at) links))
    pick true same =
        ap (λ (n : ℕ). get_or (set named link.block true) n true) (eqb-true block link.block same)
        ∙ get_or-set_same named link.block true true within
        ∙ sym (always old (is_named block (take at links)))
        ∙ ap (λ (b : Bool). old || (is_named block (take at links) || b)) (sym same)
        ∙ ap (λ (b : Bool). old || b) (sym (named_more block links at link is))
    pick false other =
        get_or-set_other named link.block block true true (λ equal. false≢true (sym other ∙ eq-eqb block link.block equal))
        ∙ was
        ∙ ap (λ (b : Bool). old || b) (sym (no_more (is_named block (take at links))))
        ∙ ap (λ (b : Bool). old || (is_named block (take at links) || b)) (sym other)
        ∙ ap (λ (b : Bool). old || b) (sym (named_more block links at link is))
