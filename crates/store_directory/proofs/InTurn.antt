-- Stores that fit in turn may stand together.
use Rattle.std.proofs.Common.{◌≡◌, ◌+◌, ◌<◌, ◌≤◌, Bool, true, false, ◌&&◌, List, [], ◌∷◌, ◌++◌, length, map, nat_eq, refl, sym, ap, subst, ⊎_elim, ◌∙◌, append_assoc, append-nil, arith, length-append}
use Rattle.std.specs.Prelude.{None, Option, Some, is_some, nat_le}
use Rattle.std.specs.List.{list_all}
use Rattle.std.specs.Option.{option_and_then}
use Rattle.std.proofs.lemmas.Bool.{and_from, and_parts, cases_lt, false≢true, le-leb, lt-leb, lt-ltb}
use Rattle.std.proofs.lemmas.List.{map-append}
use Rattle.block_pool.specs.Sizes.{blocks_for_size}
use Rattle.control_defs.specs.Lists.{is_pattern_list}
use Rattle.record_view.specs.declared.link.Link.{Link}
use Rattle.store_directory.specs.Changes.{Put, apply, change_store, put_row, with_links}
use Rattle.store_directory.specs.Checkpoints.{apply_links, apply_stores, bare, is_lawful, is_lawful_listed}
use Rattle.store_directory.specs.Directory.{Directory, Listed, are_distinct, identifiers, place_of, put_store, reserved_by, with_stores}
use Rattle.store_directory.specs.Options.{◌>>=◌, given}
use Rattle.store_directory.specs.Rows.{is_lawful_row}
use Rattle.store_directory.specs.Views.{listed_as}
use Rattle.store_directory.proofs.Applied.{with-none}
use Rattle.store_directory.proofs.Lawful.{length-bare, others_in_front, put-last, put_links, reserved-bare}
use Rattle.store_directory.proofs.Places.{IsAbsent, find-last, position-absent}
use Rattle.store_directory.proofs.Puts.{no-place, unlawful}
use Rattle.store_directory.proofs.Reserved.{reserved-append}

-- rows and numbers of links that may stand
abbrev pub AreFit : List Listed → Type 0
AreFit [] = Unit {0}
AreFit (s ∷ stores) = (is_lawful_row s.row ≡ true) × (length s.links ≤ blocks_for_size s.size) × AreFit stores

-- what is known of stores that fit behind others
pub record FitBehind (front back : List Listed) : Type 0 where
  pub few : length (front ++ back) ≤ 32
  pub reserved : reserved_by (front ++ back) ≤ 504
  pub fit : AreFit back

-- a step that was made, and one that was not
then : {A : Type 0} (found : Option A) (a : A) (f : A → Option Directory) (e : Directory) → option_and_then f found ≡ Some e → found ≡ Some a → f a ≡ Some e
then found a f e made is = sym (ap (option_and_then f) is) ∙ made

never : {A : Type 0} (found : Option A) (f : A → Option Directory) (e : Directory) (P : Type 0) → option_and_then f found ≡ Some e → found ≡ None → P
never found f e P made none = absurd (false≢true (ap is_some (sym (ap (option_and_then f) none) ∙ made)))

-- more links than blocks do not fit
many-links : (d : Directory) (stores : List Listed) (s : Listed) → IsAbsent (nat_eq s.identifier) (identifiers stores) → blocks_for_size s.size < length s.links
    → apply_links (with_stores d (stores ++ listed_as s.row [] [] ∷ [])) s.identifier s.links ≡ None
unfolding apply
many-links d stores s absent many = by s.links many
  where
    old : Listed
    old = listed_as s.row [] []

    by : (links : List Link) → blocks_for_size s.size < length links → apply_links (with_stores d (stores ++ listed_as s.row [] [] ∷ [])) s.identifier links ≡ None
    by [] many = absurd (omega arith)
    by (link ∷ links) many =
        let all = stores ++ listed_as s.row [] [] ∷ [] in
        let past : nat_le (length (link ∷ links)) (blocks_for_size s.size) ≡ false = lt-leb (length (link ∷ links)) (blocks_for_size s.size) many in
        let some : nat_le 1 (length (link ∷ links)) ≡ true = le-leb 1 (length (link ∷ links)) (omega arith) in
        with-none (with_stores d all) (change_store s.identifier (with_links (link ∷ links)) all)
        (ap (λ (o : Option Listed). o >>= λ t. with_links (link ∷ links) t >>= λ u. Some (put_store u all)) (find-last (listed_as s.row [] []) stores absent)
        ∙ (λ i. (given (some i && past i) >>= λ _. Some (listed_as s.row [] (link ∷ links))) >>= λ u. Some (put_store u all)))

-- one store that was put, before those behind it
module _ (d e : Directory) (front : List Listed) (s : Listed) (back : List Listed) (absent : IsAbsent (nat_eq s.identifier) (identifiers (map bare front)))
    (rest : length (front ++ s ∷ []) ≤ 32 → reserved_by (front ++ s ∷ []) ≤ 504 → apply_stores (with_stores d (map bare (front ++ s ∷ []))) back ≡ Some e → FitBehind (front ++ s ∷ []) back)
  where
    before : List Listed
    before = map bare front

    abbrev links_next : Directory → Option Directory
    links_next put = apply_links put s.identifier s.links >>= λ linked. apply_stores linked back

    abbrev stores_next : Directory → Option Directory
    stores_next linked = apply_stores linked back

    here : map bare (front ++ s ∷ []) ≡ before ++ bare s ∷ []
    unfolding before
    here = map-append bare front (s ∷ [])

    fits : is_lawful_row s.row ≡ true → length before < 32 → reserved_by before + blocks_for_size s.size ≤ 504 → apply_stores (with_stores d before) (s ∷ back) ≡ Some e → FitBehind front (s ∷ back)
    unfolding before
    fits lawful few reserved made = ⊎_elim
        (λ many. never (apply_links (with_stores d (before ++ listed_as s.row [] [] ∷ [])) s.identifier s.links) stores_next e (FitBehind front (s ∷ back)) put (many-links d before s absent many))
        (λ links.
        let linked = then (apply_links (with_stores d (before ++ listed_as s.row [] [] ∷ [])) s.identifier s.links) (with_stores d (before ++ bare s ∷ [])) stores_next e put
        (put_links d before s.row s.links absent links) in
        let regrouped : (front ++ s ∷ []) ++ back ≡ front ++ s ∷ back = append_assoc front (s ∷ []) back in
        let one = reserved-append front (s ∷ []) in
        let behind = rest (omega (arith, few, length-bare front, length-append front (s ∷ []))) (omega (arith, reserved, reserved-bare front, one))
        (subst (λ (l : List Listed). apply_stores (with_stores d l) back ≡ Some e) (sym here) linked) in
        record {
          few = omega (arith, behind.few, ap length regrouped);
          reserved = omega (arith, behind.reserved, ap reserved_by regrouped);
          fit = (lawful, links, behind.fit);
        })
        (cases_lt (blocks_for_size s.size) (length s.links))
      where
        put : links_next (with_stores d (before ++ listed_as s.row [] [] ∷ [])) ≡ Some e
        put = then (apply (with_stores d before) (Put s.row)) (with_stores d (before ++ listed_as s.row [] [] ∷ [])) links_next e made
            (put-last d before s.row lawful absent (omega (arith, few)) reserved)

    fails : put_row s.row before ≡ None → apply_stores (with_stores d before) (s ∷ back) ≡ Some e → FitBehind front (s ∷ back)
    unfolding apply
    fails none made = never (apply (with_stores d before) (Put s.row)) links_next e (FitBehind front (s ∷ back)) made (with-none (with_stores d before) (put_row s.row before) none)

    pub one-fits : apply_stores (with_stores d (map bare front)) (s ∷ back) ≡ Some e → FitBehind front (s ∷ back)
    unfolding before
    one-fits made = by (is_lawful_row s.row) refl
      where
        none : place_of s.identifier before ≡ None
        none = position-absent (nat_eq s.identifier) (identifiers before) absent

        by : (test : Bool) → is_lawful_row s.row ≡ test → FitBehind front (s ∷ back)
        by false is = fails (unlawful s.row before is) made
        by true is = ⊎_elim
            (λ few. ⊎_elim
            (λ many. fails (no-place s.row before none (λ room. let within = room.1 in absurd (omega (arith, many, within)))) made)
            (λ within. fits is few within made)
            (cases_lt 504 (reserved_by before + blocks_for_size s.size)))
            (λ many. fails (no-place s.row before none (λ room. let few = room.0 in absurd (omega (arith, many, few)))) made)
            (cases_lt (length before) 32)

in-turn : (d e : Directory) (front back : List Listed) → length front ≤ 32 → reserved_by front ≤ 504 → are_distinct (identifiers (front ++ back)) ≡ true
    → apply_stores (with_stores d (map bare front)) back ≡ Some e → FitBehind front back
in-turn d e front [] few reserved distinct made = record {
  few = omega (arith, few, ap length (append-nil front));
  reserved = omega (arith, reserved, ap reserved_by (append-nil front));
  fit = tt;
}
in-turn d e front (s ∷ back) few reserved distinct made =
    let regrouped : (front ++ s ∷ []) ++ back ≡ front ++ s ∷ back = append_assoc front (s ∷ []) back in
    one-fits d e front s back (others_in_front front s back distinct)
    (λ few more. in-turn d e (front ++ s ∷ []) back few more (ap (λ (l : List Listed). are_distinct (identifiers l)) regrouped ∙ distinct))
    made

-- A directory whose stores fit in turn is lawful.

each-lawful : (stores : List Listed) → AreFit stores → list_all (λ s. is_pattern_list s.patterns) stores ≡ true → list_all is_lawful_listed stores ≡ true
each-lawful [] fit patterns = refl
each-lawful (s ∷ stores) fit patterns =
    let parts = and_parts (is_pattern_list s.patterns) (list_all (λ s. is_pattern_list s.patterns) stores) patterns in
    let here : is_lawful_listed s ≡ true = rw (fit.0, parts.0, le-leb (length s.links) (blocks_for_size s.size) fit.1) refl in
    and_from (is_lawful_listed s) (list_all is_lawful_listed stores) here (each-lawful stores fit.2 parts.1)

pub lawful-in-turn : (d e : Directory) → d.reports < 16384 → is_pattern_list d.forward ≡ true → list_all (λ s. is_pattern_list s.patterns) d.stores ≡ true
    → are_distinct (identifiers d.stores) ≡ true → apply_stores (with_stores d []) d.stores ≡ Some e → is_lawful d ≡ true
unfolding is_lawful
lawful-in-turn d e reports forward patterns distinct made =
    let fit = in-turn d e [] d.stores (omega arith) (omega arith) distinct made in
    rw (lt-ltb d.reports 16384 reports, forward, each-lawful d.stores fit.fit patterns, distinct, le-leb (length d.stores) 32 fit.few, le-leb (reserved_by d.stores) 504 fit.reserved) refl
