-- A directory with another store in the place of one of them.
use Rattle.std.proofs.Common.{◌≡◌, ℕ, ◌+◌, ◌≤◌, Bool, true, ◌&&◌, nat_le, List, [], ◌∷◌, ◌++◌, length, map, length-append, refl, sym, ◌∙◌, ap, subst, arith}
use Rattle.std.specs.List.{All, list_all}
use Rattle.std.proofs.lemmas.Bool.{and_from, and_parts, le-leb}
use Rattle.std.proofs.lemmas.List.Elements.{All-cons, All-head, All-tail}
use Rattle.block_pool.specs.Sizes.{blocks_for_size}
use Rattle.record_view.specs.declared.link.Link.{Link}
use Rattle.store_directory.specs.Directory.{Directory, IsDirectory, IsListed, Listed, are_distinct, identifiers, is_new, reserved_by, with_stores}
use Rattle.store_directory.proofs.Reserved.{reserved-append}
use Rattle.store_load.specs.Claims.{all_links, are_apart, block_of, is_within, may_share, reserved_at}
use Rattle.put_laws.specs.Puts.{is_unnamed}
use Rattle.put_laws.proofs.Named.{links_around}

all_middle : {X : Type 0} (P : X → Type 0) (front : List X) (x : X) (back : List X) → All P (front ++ x ∷ back) → P x
all_middle P [] x back all = All-head P x back all
all_middle P (y ∷ front) x back all = all_middle P front x back (All-tail P y (front ++ x ∷ back) all)

all_replaced : {X : Type 0} (P : X → Type 0) (front : List X) (x new : X) (back : List X) → All P (front ++ x ∷ back) → P new → All P (front ++ new ∷ back)
all_replaced P [] x new back all here = All-cons P new back here (All-tail P x back all)
all_replaced P (y ∷ front) x new back all here =
    All-cons P y (front ++ new ∷ back) (All-head P y (front ++ x ∷ back) all) (all_replaced P front x new back (All-tail P y (front ++ x ∷ back) all) here)

test_replaced : {X : Type 0} (test : X → Bool) (front : List X) (x new : X) (back : List X) → list_all test (front ++ x ∷ back) ≡ true → test new ≡ true
    → list_all test (front ++ new ∷ back) ≡ true
test_replaced test [] x new back all here = and_from (test new) (list_all test back) here (and_parts (test x) (list_all test back) all).1
test_replaced test (y ∷ front) x new back all here =
    let parts = and_parts (test y) (list_all test (front ++ x ∷ back)) all in
    and_from (test y) (list_all test (front ++ new ∷ back)) parts.0 (test_replaced test front x new back parts.1 here)

identifiers_same : (front : List Listed) (s new : Listed) (back : List Listed) → new.identifier ≡ s.identifier
    → identifiers (front ++ new ∷ back) ≡ identifiers (front ++ s ∷ back)
identifiers_same [] s new back same = ap (λ (n : ℕ). n ∷ identifiers back) same
identifiers_same (x ∷ front) s new back same = ap (λ (l : List ℕ). x.identifier ∷ l) (identifiers_same front s new back same)

reserved_same : (stores : List Listed) → reserved_at 240 stores ≡ reserved_by stores
reserved_same [] = refl
reserved_same (s ∷ stores) = ap (λ (n : ℕ). blocks_for_size s.size + n) (reserved_same stores)

module _ (d : Directory) (directory : IsDirectory d) (front : List Listed) (s : Listed) (back : List Listed) (parted : d.stores ≡ front ++ s ∷ back) where
  pub distinct_in : are_distinct (identifiers (front ++ s ∷ back)) ≡ true
  distinct_in = ap (λ (l : List Listed). are_distinct (identifiers l)) (sym parted) ∙ directory.stores.distinct

  all_listed : All IsListed (front ++ s ∷ back)
  all_listed = subst (All IsListed) parted directory.stores.each

  pub listed_in : IsListed s
  listed_in = all_middle IsListed front s back all_listed

  module _ (new : Listed) (same : new.identifier ≡ s.identifier) (sized : new.size ≡ s.size) (listed : IsListed new) where
    reserved_here : reserved_by (front ++ new ∷ back) ≡ reserved_by (front ++ s ∷ back)
    reserved_here =
        reserved-append front (new ∷ back) ∙ ap (λ (n : ℕ). reserved_by front + (blocks_for_size n + reserved_by back)) sized
        ∙ sym (reserved-append front (s ∷ back))

    pub few_in : length (front ++ new ∷ back) ≤ 32
    few_in = omega (arith, length-append front (new ∷ back), length-append front (s ∷ back), ap length parted, directory.stores.few)

    pub reserved_in : reserved_by (front ++ new ∷ back) ≤ 504
    reserved_in = omega (arith, reserved_here, ap reserved_by parted, directory.stores.reserved)

    pub kept_in : IsDirectory (with_stores d (front ++ new ∷ back))
    kept_in = record {
      now = directory.now;
      reports = directory.reports;
      forward = directory.forward;
      stores = record {
        few = few_in;
        reserved = reserved_in;
        distinct = ap are_distinct (identifiers_same front s new back same) ∙ distinct_in;
        each = all_replaced IsListed front s new back all_listed listed;
      };
    }

    -- they may share the device, if the links do
    pub shared_in : (blocks : ℕ) → may_share 240 blocks d.stores ≡ true
        → (are_apart blocks (all_links front ++ (s.links ++ all_links back)) ≡ true → are_apart blocks (all_links front ++ (new.links ++ all_links back)) ≡ true)
        → may_share 240 blocks (front ++ new ∷ back) ≡ true
    shared_in blocks share apart =
        let share_here : may_share 240 blocks (front ++ s ∷ back) ≡ true = ap (may_share 240 blocks) (sym parted) ∙ share in
        let parts = and_parts (nat_le (reserved_at 240 (front ++ s ∷ back) + 8) blocks && list_all (is_within 240) (front ++ s ∷ back)) (are_apart blocks (all_links (front ++ s ∷ back))) share_here in
        let front_parts = and_parts (nat_le (reserved_at 240 (front ++ s ∷ back) + 8) blocks) (list_all (is_within 240) (front ++ s ∷ back)) parts.0 in
        let reserves : reserved_at 240 (front ++ new ∷ back) ≡ reserved_at 240 (front ++ s ∷ back) =
        reserved_same (front ++ new ∷ back) ∙ reserved_here ∙ sym (reserved_same (front ++ s ∷ back)) in
        and_from (nat_le (reserved_at 240 (front ++ new ∷ back) + 8) blocks && list_all (is_within 240) (front ++ new ∷ back)) (are_apart blocks (all_links (front ++ new ∷ back)))
        (and_from (nat_le (reserved_at 240 (front ++ new ∷ back) + 8) blocks) (list_all (is_within 240) (front ++ new ∷ back))
        (ap (λ (n : ℕ). nat_le (n + 8) blocks) reserves ∙ front_parts.0)
        (test_replaced (is_within 240) front s new back front_parts.1 (le-leb (length new.links) (blocks_for_size new.size) listed.links)))
        (ap (are_apart blocks) (links_around front new back) ∙ apart (ap (are_apart blocks) (sym (links_around front s back)) ∙ parts.1))

    -- a block that no link named before, and none of the new store does
    pub unnamed_in : (block : ℕ) → is_unnamed block d ≡ true
        → (is_new block (map block_of (all_links front ++ (s.links ++ all_links back))) ≡ true → is_new block (map block_of (all_links front ++ (new.links ++ all_links back))) ≡ true)
        → is_unnamed block (with_stores d (front ++ new ∷ back)) ≡ true
    unnamed_in block new_before more =
        ap (λ (l : List Link). is_new block (map block_of l)) (links_around front new back)
        ∙ more (ap (λ (l : List Link). is_new block (map block_of l)) (sym (ap all_links parted ∙ links_around front s back)) ∙ new_before)
