-- A store goes, with its packets.
use Rattle.std.proofs.Common.{◌≡◌, ℕ, ◌+◌, ◌≤◌, ◌==◌, Bool, true, false, not, true≢false, List, [], ◌∷◌, ◌++◌, append_assoc, drop, length, Option, Some, Ok, refl, sym, ◌∙◌, ap, subst, arith}
use Rattle.std.specs.Prelude.{All, nat_le, ◌&&◌}
use Rattle.std.specs.List.{list_all}
use Rattle.std.proofs.lemmas.Bool.{and_from, and_parts, cond-false, cond-true, eqb-true, le-leb, leb-true, not-true}
use Rattle.std.proofs.lemmas.List.{drop_all}
use Rattle.std.proofs.lemmas.List.Elements.{All-cons, All-head, All-tail}
use Rattle.image_table.specs.Table.{store_of}
use Rattle.image_table.proofs.Frames.{loads_table, table_loads}
use Rattle.pst_model.specs.Changes.{is_named}
use Rattle.pst_model.specs.Stores as model
use Rattle.pst_model.specs.Stores.{remove}
use Rattle.pst_model.specs.Table.{Store, Table}
use Rattle.put_laws.proofs.Named.{apart_fewer, links_around}
use Rattle.record_view.specs.declared.link.Link.{Link}
use Rattle.store_directory.specs.Changes.{Gone, apply, remove_store}
use Rattle.store_directory.specs.Directory.{Directory, IsDirectory, IsListed, Listed, are_distinct, find_store, identifiers, is_new, reserved_by, with_stores, without_store}
use Rattle.store_directory.specs.Options.{◌>>=◌}
use Rattle.store_directory.proofs.Applied.{with-some}
use Rattle.store_directory.proofs.Lawful.{lawful-from_kept}
use Rattle.store_load.specs.Claims.{all_links, are_apart, is_within, may_share, reserved_at}
use Rattle.store_load.specs.Each.{each}
use Rattle.store_load.proofs.Eachs.{each_cons, each_more}
use Rattle.store_policy.specs.Shown.{AreAllIndexed, AreAllTogether}
use Rattle.time_index.specs.TimeIndex.{TimeIndex}
use Rattle.request_laws.specs.Changing.{AreListedAs, Goes, HasIndexes, IsTableOf, without_for}
use Rattle.request_laws.proofs.Deleting.{around}
use Rattle.request_laws.proofs.Finding.{found_as, found_has, named_as}
use Rattle.request_laws.proofs.Holding.{whole_is}
use Rattle.request_laws.proofs.Moves.{Moves}
use Rattle.request_laws.proofs.Outcomes.{was_removed}

-- what the others are without the one in the middle

new_without : (n : ℕ) (front back : List Listed) (s : Listed) → is_new n (identifiers (front ++ s ∷ back)) ≡ true → is_new n (identifiers (front ++ back)) ≡ true
new_without n [] back s new = (and_parts (not (n == s.identifier)) (is_new n (identifiers back)) new).1
new_without n (x ∷ front) back s new =
    let parts = and_parts (not (n == x.identifier)) (is_new n (identifiers (front ++ s ∷ back))) new in
    and_from (not (n == x.identifier)) (is_new n (identifiers (front ++ back))) parts.0 (new_without n front back s parts.1)

distinct_without : (front back : List Listed) (s : Listed) → are_distinct (identifiers (front ++ s ∷ back)) ≡ true → are_distinct (identifiers (front ++ back)) ≡ true
distinct_without [] back s distinct = (and_parts (is_new s.identifier (identifiers back)) (are_distinct (identifiers back)) distinct).1
distinct_without (x ∷ front) back s distinct =
    let parts = and_parts (is_new x.identifier (identifiers (front ++ s ∷ back))) (are_distinct (identifiers (front ++ s ∷ back))) distinct in
    and_from (is_new x.identifier (identifiers (front ++ back))) (are_distinct (identifiers (front ++ back)))
    (new_without x.identifier front back s parts.0) (distinct_without front back s parts.1)

length_without : (front back : List Listed) (s : Listed) → length (front ++ back) ≤ length (front ++ s ∷ back)
length_without [] back s = omega arith
length_without (x ∷ front) back s = omega (arith, length_without front back s)

reserved_without : (front back : List Listed) (s : Listed) → reserved_by (front ++ back) ≤ reserved_by (front ++ s ∷ back)
reserved_without [] back s = omega arith
reserved_without (x ∷ front) back s = omega (arith, reserved_without front back s)

all_without : (P : Listed → Type 0) (front back : List Listed) (s : Listed) → All P (front ++ s ∷ back) → All P (front ++ back)
all_without P [] back s all = All-tail P s back all
all_without P (x ∷ front) back s all =
    All-cons P x (front ++ back) (All-head P x (front ++ s ∷ back) all) (all_without P front back s (All-tail P x (front ++ s ∷ back) all))

reserved_at_without : (least : ℕ) (front back : List Listed) (s : Listed) → reserved_at least (front ++ back) ≤ reserved_at least (front ++ s ∷ back)
reserved_at_without least [] back s = omega arith
reserved_at_without least (x ∷ front) back s = omega (arith, reserved_at_without least front back s)

within_without : (test : Listed → Bool) (front back : List Listed) (s : Listed) → list_all test (front ++ s ∷ back) ≡ true → list_all test (front ++ back) ≡ true
within_without test [] back s all = (and_parts (test s) (list_all test back) all).1
within_without test (x ∷ front) back s all =
    let parts = and_parts (test x) (list_all test (front ++ s ∷ back)) all in
    and_from (test x) (list_all test (front ++ back)) parts.0 (within_without test front back s parts.1)

pub links_both : (front back : List Listed) → all_links (front ++ back) ≡ all_links front ++ all_links back
links_both [] back = refl
links_both (x ∷ front) back = ap (λ (l : List Link). x.links ++ l) (links_both front back) ∙ sym (append_assoc x.links (all_links front) (all_links back))

shared_without : (blocks : ℕ) (front back : List Listed) (s : Listed) → may_share 240 blocks (front ++ s ∷ back) ≡ true → may_share 240 blocks (front ++ back) ≡ true
shared_without blocks front back s share =
    let parts = and_parts (nat_le (reserved_at 240 (front ++ s ∷ back) + 8) blocks && list_all (is_within 240) (front ++ s ∷ back)) (are_apart blocks (all_links (front ++ s ∷ back))) share in
    let both = and_parts (nat_le (reserved_at 240 (front ++ s ∷ back) + 8) blocks) (list_all (is_within 240) (front ++ s ∷ back)) parts.0 in
    let few : reserved_at 240 (front ++ s ∷ back) + 8 ≤ blocks = leb-true (reserved_at 240 (front ++ s ∷ back) + 8) blocks both.0 in
    let apart : are_apart blocks (all_links front ++ (drop (length s.links) s.links ++ all_links back)) ≡ true =
    apart_fewer blocks (all_links front) (length s.links) s.links (all_links back) (ap (are_apart blocks) (sym (links_around front s back)) ∙ parts.1) in
    let none : drop (length s.links) s.links ≡ [] = drop_all (length s.links) s.links (omega arith) in
    and_from (nat_le (reserved_at 240 (front ++ back) + 8) blocks && list_all (is_within 240) (front ++ back)) (are_apart blocks (all_links (front ++ back)))
    (and_from (nat_le (reserved_at 240 (front ++ back) + 8) blocks) (list_all (is_within 240) (front ++ back))
    (le-leb (reserved_at 240 (front ++ back) + 8) blocks (omega (arith, few, reserved_at_without 240 front back s))) (within_without (is_within 240) front back s both.1))
    (ap (are_apart blocks) (links_both front back) ∙ ap (λ (l : List Link). are_apart blocks (all_links front ++ (l ++ all_links back))) (sym none) ∙ apart)

-- the table, of which each store with the identifier goes: there is one

abbrev pub others : (identifier : ℕ) → List Store → List Store
others identifier stores = model.without_store identifier stores

none_named : (identifier : ℕ) (stores : List Store) (listed : List Listed) → AreListedAs stores listed → is_new identifier (identifiers listed) ≡ true → others identifier stores ≡ stores
none_named identifier [] [] are new = refl
none_named identifier (x ∷ stores) (l ∷ listed) are new =
    let parts = and_parts (not (identifier == l.identifier)) (is_new identifier (identifiers listed)) new in
    let other : is_named identifier x ≡ false = unlike (is_named identifier x) refl (not-true (identifier == l.identifier) parts.0) in
    cond-true (not (is_named identifier x)) (x ∷ others identifier stores) (others identifier stores) (ap not other)
    ∙ ap (λ (rest : List Store). x ∷ rest) (none_named identifier stores listed are.1 parts.1)
  where
    unlike : (test : Bool) → is_named identifier x ≡ test → (identifier == l.identifier) ≡ false → is_named identifier x ≡ false
    unlike true named differs = absurd (true≢false (sym (named_as identifier x l true are.0 named) ∙ differs))
    unlike false named differs = named
none_named identifier [] (l ∷ listed) are new = absurd are
none_named identifier (x ∷ stores) [] are new = absurd are

-- The first store of lists is the one that goes, or it stays.

module _ (identifier : ℕ) (x : Store) (stores : List Store) (l : Listed) (listed : List Listed) (is : AreListedAs (x ∷ stores) (l ∷ listed))
    (distinct : are_distinct (identifiers (l ∷ listed)) ≡ true) where
  abbrev parts : (is_new l.identifier (identifiers listed) ≡ true) × (are_distinct (identifiers listed) ≡ true)
  parts = and_parts (is_new l.identifier (identifiers listed)) (are_distinct (identifiers listed)) distinct

  goes_first : is_named identifier x ≡ true → (others identifier (x ∷ stores) ≡ stores) × (without_store identifier (l ∷ listed) ≡ listed)
  goes_first named =
      let same = named_as identifier x l true is.0 named in (
        cond-false (not (is_named identifier x)) (x ∷ others identifier stores) (others identifier stores) (ap not named)
            ∙ none_named identifier stores listed is.1 (ap (λ (n : ℕ). is_new n (identifiers listed)) (eqb-true identifier l.identifier same) ∙ parts.0),
        cond-true (identifier == l.identifier) listed (l ∷ without_store identifier listed) same,
      )

  stays_first : is_named identifier x ≡ false → (others identifier (x ∷ stores) ≡ x ∷ others identifier stores) × (without_store identifier (l ∷ listed) ≡ l ∷ without_store identifier listed)
  stays_first named = (
    cond-true (not (is_named identifier x)) (x ∷ others identifier stores) (others identifier stores) (ap not named),
    cond-false (identifier == l.identifier) listed (l ∷ without_store identifier listed) (named_as identifier x l false is.0 named),
  )

without_as : (identifier : ℕ) (stores : List Store) (listed : List Listed) → AreListedAs stores listed → are_distinct (identifiers listed) ≡ true
    → AreListedAs (others identifier stores) (without_store identifier listed)
without_as identifier [] [] are distinct = tt
without_as identifier (x ∷ stores) (l ∷ listed) are distinct =
    by (is_named identifier x) refl (without_as identifier stores listed are.1 (parts identifier x stores l listed are distinct).1)
  where
    by : (test : Bool) → is_named identifier x ≡ test → AreListedAs (others identifier stores) (without_store identifier listed)
        → AreListedAs (others identifier (x ∷ stores)) (without_store identifier (l ∷ listed))
    by true named rest =
        let both = goes_first identifier x stores l listed are distinct named in
        subst (λ (a : List Store). AreListedAs a (without_store identifier (l ∷ listed))) (sym both.0) (subst (AreListedAs stores) (sym both.1) are.1)
    by false named rest =
        let both = stays_first identifier x stores l listed are distinct named in
        subst (λ (a : List Store). AreListedAs a (without_store identifier (l ∷ listed))) (sym both.0)
        (subst (AreListedAs (x ∷ others identifier stores)) (sym both.1) (are.0, rest))
without_as identifier [] (l ∷ listed) are distinct = absurd are
without_as identifier (x ∷ stores) [] are distinct = absurd are

without_indexed : (identifier : ℕ) (stores : List Store) (listed : List Listed) (indexes : List TimeIndex) → AreListedAs stores listed → are_distinct (identifiers listed) ≡ true
    → AreAllIndexed stores indexes → AreAllIndexed (others identifier stores) (without_for identifier listed indexes)
without_indexed identifier [] [] indexes are distinct all = all
without_indexed identifier (x ∷ stores) (l ∷ listed) (index ∷ indexes) are distinct all =
    by (is_named identifier x) refl (without_indexed identifier stores listed indexes are.1 (parts identifier x stores l listed are distinct).1 all.1)
  where
    by : (test : Bool) → is_named identifier x ≡ test → AreAllIndexed (others identifier stores) (without_for identifier listed indexes)
        → AreAllIndexed (others identifier (x ∷ stores)) (without_for identifier (l ∷ listed) (index ∷ indexes))
    by true named rest =
        let both = goes_first identifier x stores l listed are distinct named in
        subst (λ (a : List Store). AreAllIndexed a (without_for identifier (l ∷ listed) (index ∷ indexes))) (sym both.0)
        (subst (AreAllIndexed stores)
        (sym (cond-true (identifier == l.identifier) indexes (index ∷ without_for identifier listed indexes) (named_as identifier x l true are.0 named))) all.1)
    by false named rest =
        let both = stays_first identifier x stores l listed are distinct named in
        subst (λ (a : List Store). AreAllIndexed a (without_for identifier (l ∷ listed) (index ∷ indexes))) (sym both.0)
        (subst (AreAllIndexed (x ∷ others identifier stores))
        (sym (cond-false (identifier == l.identifier) indexes (index ∷ without_for identifier listed indexes) (named_as identifier x l false are.0 named))) (all.0, rest))
without_indexed identifier [] (l ∷ listed) indexes are distinct all = absurd are
without_indexed identifier (x ∷ stores) [] indexes are distinct all = absurd are
without_indexed identifier (x ∷ stores) (l ∷ listed) [] are distinct all = absurd all

without_together : (identifier : ℕ) (listed : List Listed) (indexes : List TimeIndex) → AreAllTogether listed indexes
    → AreAllTogether (without_store identifier listed) (without_for identifier listed indexes)
without_together identifier [] indexes all = all
without_together identifier (l ∷ listed) [] all = absurd all
without_together identifier (l ∷ listed) (index ∷ indexes) all =
    by (identifier == l.identifier) refl (without_together identifier listed indexes all.1)
  where
    by : (test : Bool) → (identifier == l.identifier) ≡ test → AreAllTogether (without_store identifier listed) (without_for identifier listed indexes)
        → AreAllTogether (without_store identifier (l ∷ listed)) (without_for identifier (l ∷ listed) (index ∷ indexes))
    by true same rest = rw same all.1
    by false other rest = rw other (all.0, rest)

-- what an image holds of the others
without_held : (image : ℕ → List ℕ) (now identifier : ℕ) (stores : List Store) (listed : List Listed) → AreListedAs stores listed → are_distinct (identifiers listed) ≡ true
    → each (store_of image now) listed ≡ Some stores → each (store_of image now) (without_store identifier listed) ≡ Some (others identifier stores)
without_held image now identifier [] [] are distinct held = held
without_held image now identifier (x ∷ stores) (l ∷ listed) are distinct held =
    let (store, rest, here, behind, whole) = each_cons (store_of image now) l listed (x ∷ stores) held in
    let first : store_of image now l ≡ Some x = here ∙ ap Some (head_same whole) in
    let later : each (store_of image now) listed ≡ Some stores = behind ∙ ap Some (tail_same whole) in
    by first later (is_named identifier x) refl (without_held image now identifier stores listed are.1 (parts identifier x stores l listed are distinct).1 later)
  where
    head_same : {a b : Store} {xs ys : List Store} → a ∷ xs ≡ b ∷ ys → a ≡ b
    head_same is = cc

    tail_same : {a b : Store} {xs ys : List Store} → a ∷ xs ≡ b ∷ ys → xs ≡ ys
    tail_same is = cc

    by : store_of image now l ≡ Some x → each (store_of image now) listed ≡ Some stores → (test : Bool) → is_named identifier x ≡ test
        → each (store_of image now) (without_store identifier listed) ≡ Some (others identifier stores)
        → each (store_of image now) (without_store identifier (l ∷ listed)) ≡ Some (others identifier (x ∷ stores))
    by first later true named rest =
        let both = goes_first identifier x stores l listed are distinct named in
        ap (each (store_of image now)) both.1 ∙ later ∙ ap Some (sym both.0)
    by first later false named rest =
        let both = stays_first identifier x stores l listed are distinct named in
        ap (each (store_of image now)) both.1
        ∙ each_more (store_of image now) l (without_store identifier listed) x (others identifier stores) first rest
        ∙ ap Some (sym both.0)
without_held image now identifier [] (l ∷ listed) are distinct held = absurd are
without_held image now identifier (x ∷ stores) [] are distinct held = absurd are

pub gone : (blocks : ℕ) (d : Directory) (table : Table) (indexes : List TimeIndex) (identifier : ℕ) (s : Listed) → IsDirectory d → may_share 240 blocks d.stores ≡ true
    → IsTableOf table d → HasIndexes table d indexes → find_store identifier d.stores ≡ Some s
    → s.identifier ≡ identifier
    → Moves blocks d table (record table { stores = others identifier table.stores }) (λ (next : Directory). Goes identifier d next) (Gone identifier) (without_for identifier d.stores indexes)
unfolding apply
gone blocks d table indexes identifier s directory share is_of has found own =
    let place = around identifier d.stores s found in
    let after : Directory = with_stores d (without_store identifier d.stores) in
    let parted = place.parted in
    let left : place.front ++ place.back ≡ without_store identifier d.stores = sym place.gone in
    let kept : IsDirectory after = record {
      now = directory.now;
      reports = directory.reports;
      forward = directory.forward;
      stores = record {
        few = omega (arith, directory.stores.few, ap length parted, ap length left, length_without place.front place.back s);
        reserved = omega (arith, directory.stores.reserved, ap reserved_by parted, ap reserved_by left, reserved_without place.front place.back s);
        distinct =
            ap (λ (l : List Listed). are_distinct (identifiers l)) (sym left)
            ∙ distinct_without place.front place.back s (ap (λ (l : List Listed). are_distinct (identifiers l)) (sym parted) ∙ directory.stores.distinct);
        each = subst (All IsListed) left (all_without IsListed place.front place.back s (subst (All IsListed) parted directory.stores.each));
      };
    } in
    let shared : may_share 240 blocks after.stores ≡ true =
    ap (may_share 240 blocks) (sym left) ∙ shared_without blocks place.front place.back s (ap (may_share 240 blocks) (sym parted) ∙ share) in
    let of_it : IsTableOf (record table { stores = others identifier table.stores }) after = record {
      now = is_of.now;
      reports = is_of.reports;
      forward = is_of.forward;
      stores = without_as identifier table.stores d.stores is_of.stores directory.stores.distinct;
    } in
    record {
      next = after;
      applied =
          with-some d (remove_store identifier d.stores) (without_store identifier d.stores)
          (ap (λ (o : Option Listed). o >>= λ (_ : Listed). Some (without_store identifier d.stores)) found);
      fits = let listed = found_has IsListed identifier d.stores s directory.stores.each found in omega (arith, own, listed.fits.identifier);
      can_be_written = tt;
      in_range = tt;
      short = omega arith;
      directory = kept;
      share = shared;
      step = record { s = s; found = found; stores = refl };
      is_of = of_it;
      now = refl;
      reports = refl;
      has = record {
        packets = without_indexed identifier table.stores d.stores indexes is_of.stores directory.stores.distinct has.packets;
        together = without_together identifier d.stores indexes has.together;
      };
      held = λ image pages held.
          let loads = table_loads blocks image d table held in
          loads_table blocks image after (record table { stores = others identifier table.stores })
          (record {
            lawful = lawful-from_kept after kept;
            share = shared;
            stores = without_held image d.now identifier table.stores d.stores is_of.stores directory.stores.distinct loads.stores;
            whole = whole_is after (record table { stores = others identifier table.stores }) of_it;
          });
    }

-- A store goes with its packets, by one change.
pub record Removes (blocks : ℕ) (d : Directory) (table made : Table) (indexes : List TimeIndex) (identifier : ℕ) : Type 0 where
  pub s : Listed
  pub found : find_store identifier d.stores ≡ Some s
  pub moves : Moves blocks d table made (λ (next : Directory). Goes identifier d next) (Gone identifier) (without_for identifier d.stores indexes)

pub removes : (blocks : ℕ) (d : Directory) (table made : Table) (indexes : List TimeIndex) (identifier : ℕ) → IsDirectory d → may_share 240 blocks d.stores ≡ true
    → IsTableOf table d → HasIndexes table d indexes → remove identifier table ≡ Ok made → Removes blocks d table made indexes identifier
removes blocks d table made indexes identifier directory share is_of has ok =
    let went = was_removed identifier table made ok in
    let there = found_as identifier table.stores d.stores went.store is_of.stores went.found in
    record {
      s = there.s;
      found = there.found;
      moves =
          subst (λ (x : Table). Moves blocks d table x (λ (next : Directory). Goes identifier d next) (Gone identifier) (without_for identifier d.stores indexes)) went.checked.made_is
          (gone blocks d table indexes identifier there.s directory share is_of has there.found there.own);
    }
