-- The blocks that links name, where links go or one more comes.
use Rattle.std.proofs.Common.{◌≡◌, ℕ, zero, suc, Bool, true, false, not, ◌==◌, List, [], ◌∷◌, ◌++◌, append_assoc, length, map, drop, refl, sym, ◌∙◌, ap, arith}
use Rattle.std.specs.List.{list_all}
use Rattle.std.proofs.lemmas.Bool.{and_from, and_parts, not-true, not_from_false}
use Rattle.std.proofs.lemmas.List.{drop_all}
use Rattle.record_view.specs.declared.link.Link.{Link}
use Rattle.store_directory.specs.Directory.{Listed, are_distinct, is_new, trimmed}
use Rattle.store_directory.proofs.Puts.{swapped}
use Rattle.store_directory.proofs.Trims.{passed, trimmed-drops}
use Rattle.store_load.specs.Claims.{all_links, are_apart, block_of, is_data}

abbrev pub named_by : List Link → List ℕ
named_by links = map block_of links

-- one link goes

new_less : (n : ℕ) (front : List Link) (link : Link) (back : List Link) → is_new n (named_by (front ++ link ∷ back)) ≡ true → is_new n (named_by (front ++ back)) ≡ true
new_less n [] link back new = (and_parts (not (n == link.block)) (is_new n (named_by back)) new).1
new_less n (x ∷ front) link back new =
    let parts = and_parts (not (n == x.block)) (is_new n (named_by (front ++ link ∷ back))) new in
    and_from (not (n == x.block)) (is_new n (named_by (front ++ back))) parts.0 (new_less n front link back parts.1)

distinct_less : (front : List Link) (link : Link) (back : List Link) → are_distinct (named_by (front ++ link ∷ back)) ≡ true → are_distinct (named_by (front ++ back)) ≡ true
distinct_less [] link back distinct = (and_parts (is_new link.block (named_by back)) (are_distinct (named_by back)) distinct).1
distinct_less (x ∷ front) link back distinct =
    let parts = and_parts (is_new x.block (named_by (front ++ link ∷ back))) (are_distinct (named_by (front ++ link ∷ back))) distinct in
    and_from (is_new x.block (named_by (front ++ back))) (are_distinct (named_by (front ++ back))) (new_less x.block front link back parts.0) (distinct_less front link back parts.1)

data_less : (test : Link → Bool) (front : List Link) (link : Link) (back : List Link) → list_all test (front ++ link ∷ back) ≡ true → list_all test (front ++ back) ≡ true
data_less test [] link back all = (and_parts (test link) (list_all test back) all).1
data_less test (x ∷ front) link back all =
    let parts = and_parts (test x) (list_all test (front ++ link ∷ back)) all in
    and_from (test x) (list_all test (front ++ back)) parts.0 (data_less test front link back parts.1)

apart_one_less : (blocks : ℕ) (front : List Link) (link : Link) (back : List Link) → are_apart blocks (front ++ link ∷ back) ≡ true → are_apart blocks (front ++ back) ≡ true
apart_one_less blocks front link back apart =
    let parts = and_parts (list_all (is_data blocks) (front ++ link ∷ back)) (are_distinct (named_by (front ++ link ∷ back))) apart in
    and_from (list_all (is_data blocks) (front ++ back)) (are_distinct (named_by (front ++ back)))
    (data_less (is_data blocks) front link back parts.0) (distinct_less front link back parts.1)

-- so many of those in the middle go

pub new_fewer : (n : ℕ) (front : List Link) (k : ℕ) (links back : List Link) → is_new n (named_by (front ++ (links ++ back))) ≡ true → is_new n (named_by (front ++ (drop k links ++ back))) ≡ true
new_fewer n front zero links back new = new
new_fewer n front (suc k) [] back new = new
new_fewer n front (suc k) (link ∷ links) back new = new_fewer n front k links back (new_less n front link (links ++ back) new)

pub apart_fewer : (blocks : ℕ) (front : List Link) (k : ℕ) (links back : List Link) → are_apart blocks (front ++ (links ++ back)) ≡ true → are_apart blocks (front ++ (drop k links ++ back)) ≡ true
apart_fewer blocks front zero links back apart = apart
apart_fewer blocks front (suc k) [] back apart = apart
apart_fewer blocks front (suc k) (link ∷ links) back apart = apart_fewer blocks front k links back (apart_one_less blocks front link (links ++ back) apart)

-- one link more

new_more : (n : ℕ) (front : List Link) (link : Link) (back : List Link) → is_new n (named_by (front ++ back)) ≡ true → (n == link.block) ≡ false
    → is_new n (named_by (front ++ link ∷ back)) ≡ true
new_more n [] link back new other = and_from (not (n == link.block)) (is_new n (named_by back)) (not_from_false (n == link.block) other) new
new_more n (x ∷ front) link back new other =
    let parts = and_parts (not (n == x.block)) (is_new n (named_by (front ++ back))) new in
    and_from (not (n == x.block)) (is_new n (named_by (front ++ link ∷ back))) parts.0 (new_more n front link back parts.1 other)

distinct_more : (front : List Link) (link : Link) (back : List Link) → is_new link.block (named_by (front ++ back)) ≡ true
    → are_distinct (named_by (front ++ back)) ≡ true → are_distinct (named_by (front ++ link ∷ back)) ≡ true
distinct_more [] link back new distinct = and_from (is_new link.block (named_by back)) (are_distinct (named_by back)) new distinct
distinct_more (x ∷ front) link back new distinct =
    let here = and_parts (not (link.block == x.block)) (is_new link.block (named_by (front ++ back))) new in
    let parts = and_parts (is_new x.block (named_by (front ++ back))) (are_distinct (named_by (front ++ back))) distinct in
    and_from (is_new x.block (named_by (front ++ link ∷ back))) (are_distinct (named_by (front ++ link ∷ back)))
    (new_more x.block front link back parts.0 (swapped link.block x.block (not-true (link.block == x.block) here.0))) (distinct_more front link back here.1 parts.1)

data_more : (test : Link → Bool) (front : List Link) (link : Link) (back : List Link) → test link ≡ true → list_all test (front ++ back) ≡ true
    → list_all test (front ++ link ∷ back) ≡ true
data_more test [] link back is all = and_from (test link) (list_all test back) is all
data_more test (x ∷ front) link back is all =
    let parts = and_parts (test x) (list_all test (front ++ back)) all in
    and_from (test x) (list_all test (front ++ link ∷ back)) parts.0 (data_more test front link back is parts.1)

-- the new one stands behind those in the middle

moved_on : (front links : List Link) (link : Link) (back : List Link) → (front ++ links) ++ link ∷ back ≡ front ++ ((links ++ link ∷ []) ++ back)
moved_on front links link back =
    append_assoc front links (link ∷ back) ∙ ap (λ (l : List Link). front ++ l) (sym (append_assoc links (link ∷ []) back))

pub new_behind : (n : ℕ) (front links : List Link) (link : Link) (back : List Link) → is_new n (named_by (front ++ (links ++ back))) ≡ true
    → is_new n (link.block ∷ []) ≡ true → is_new n (named_by (front ++ ((links ++ link ∷ []) ++ back))) ≡ true
new_behind n front links link back new other =
    ap (λ (l : List Link). is_new n (named_by l)) (sym (moved_on front links link back))
    ∙ new_more n (front ++ links) link back (ap (λ (l : List Link). is_new n (named_by l)) (append_assoc front links back) ∙ new)
    (not-true (n == link.block) (and_parts (not (n == link.block)) true other).0)

pub apart_behind : (blocks : ℕ) (front links : List Link) (link : Link) (back : List Link) → is_data blocks link ≡ true
    → is_new link.block (named_by (front ++ (links ++ back))) ≡ true → are_apart blocks (front ++ (links ++ back)) ≡ true
    → are_apart blocks (front ++ ((links ++ link ∷ []) ++ back)) ≡ true
apart_behind blocks front links link back own new apart =
    let same = append_assoc front links back in
    let parts = and_parts (list_all (is_data blocks) (front ++ (links ++ back))) (are_distinct (named_by (front ++ (links ++ back)))) apart in
    ap (are_apart blocks) (sym (moved_on front links link back))
    ∙ and_from (list_all (is_data blocks) ((front ++ links) ++ link ∷ back)) (are_distinct (named_by ((front ++ links) ++ link ∷ back)))
    (data_more (is_data blocks) (front ++ links) link back own (ap (list_all (is_data blocks)) same ∙ parts.0))
    (distinct_more (front ++ links) link back (ap (λ (l : List Link). is_new link.block (named_by l)) same ∙ new)
    (ap (λ (l : List Link). are_distinct (named_by l)) same ∙ parts.1))

-- the links of stores around one of them
pub links_around : (front : List Listed) (s : Listed) (back : List Listed) → all_links (front ++ s ∷ back) ≡ all_links front ++ (s.links ++ all_links back)
links_around [] s back = refl
links_around (x ∷ front) s back =
    ap (λ (l : List Link). x.links ++ l) (links_around front s back)
    ∙ sym (append_assoc x.links (all_links front) (s.links ++ all_links back))

-- a trim takes links from the front
pub trims : (first count : ℕ) (links : List Link) → (k : ℕ) × (trimmed first count links ≡ drop k links)
trims first zero links = (length links, sym (drop_all (length links) links (omega arith)))
trims first (suc count) links = (passed first (drop 1 links), trimmed-drops first (suc count) links (omega arith))
