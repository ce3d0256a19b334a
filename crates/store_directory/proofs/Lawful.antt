-- What is kept of a directory makes its checkpoint lawful.
use Rattle.std.proofs.Common.{◌≡◌, ℕ, ◌+◌, ◌≤◌, ◌==◌, ◌&&◌, true, false, not, nat_le, List, [], ◌∷◌, ◌++◌, length, map, Option, Some, refl, sym, ap, ◌∙◌, arith, append_assoc, append-nil, length-append, nat_eq}
use Rattle.std.specs.Prelude.{All}
use Rattle.std.specs.List.{list_all}
use Rattle.std.proofs.lemmas.Bool.{and_parts, le-leb, lt-ltb, not-true}
use Rattle.std.proofs.lemmas.List.{map-append}
use Rattle.std.proofs.lemmas.List.Elements.{All-head, All-tail}
use Rattle.std.proofs.lemmas.List.Sums.{list_all-from_AllPass}
use Rattle.block_pool.specs.Sizes.{blocks_for_size}
use Rattle.control_defs.proofs.Tested.{tested-from}
use Rattle.record_view.specs.declared.link.Link.{Link}
use Rattle.store_directory.specs.Changes.{Put, apply, change_store, listed_by, put_row, with_links}
use Rattle.store_directory.specs.Checkpoints.{apply_links, apply_stores, bare, is_lawful, is_lawful_listed}
use Rattle.store_directory.specs.Directory.{AreListed, Directory, IsDirectory, IsListed, Listed, are_distinct, find_store, identifiers, is_new, put_store, reserved_by, with_stores}
use Rattle.store_directory.specs.Options.{◌>>=◌, given}
use Rattle.store_directory.specs.Rows.{is_lawful_row}
use Rattle.store_directory.specs.Views.{listed_as}
use Rattle.store_directory.specs.declared.row.Row.{Row}
use Rattle.store_directory.proofs.Applied.{with-some}
use Rattle.store_directory.proofs.Places.{IsAbsent, find-absent, find-last, put-absent, put-again}
use Rattle.store_directory.proofs.Puts.{put-is, swapped, trimmed-none}
use Rattle.store_directory.proofs.Reserved.{reserved-append, reserved-pushed}

new_beside : (number : ℕ) (front : List Listed) (s : Listed) (back : List Listed) → is_new number (identifiers (front ++ s ∷ back)) ≡ true → (number == s.identifier) ≡ false
new_beside number [] s back new = not-true (number == s.identifier) (and_parts (not (number == s.identifier)) (is_new number (identifiers back)) new).0
new_beside number (x ∷ front) s back new =
    new_beside number front s back (and_parts (not (number == x.identifier)) (is_new number (identifiers (front ++ s ∷ back))) new).1

pub others_in_front : (front : List Listed) (s : Listed) (back : List Listed) → are_distinct (identifiers (front ++ s ∷ back)) ≡ true → IsAbsent (nat_eq s.identifier) (identifiers (map bare front))
others_in_front [] s back distinct = tt
others_in_front (x ∷ front) s back distinct =
    let both = and_parts (is_new x.identifier (identifiers (front ++ s ∷ back))) (are_distinct (identifiers (front ++ s ∷ back))) distinct in
    (swapped x.identifier s.identifier (new_beside x.identifier front s back both.0), others_in_front front s back both.1)

-- what stores reserve

pub reserved-bare : (stores : List Listed) → reserved_by (map bare stores) ≡ reserved_by stores
reserved-bare [] = refl
reserved-bare (s ∷ stores) = ap (λ (n : ℕ). blocks_for_size s.size + n) (reserved-bare stores)

pub length-bare : (stores : List Listed) → length (map bare stores) ≡ length stores
length-bare [] = refl
length-bare (s ∷ stores) = omega (arith, length-bare stores)

-- a row is put behind the others
pub put-last : (d : Directory) (stores : List Listed) (row : Row) → is_lawful_row row ≡ true → IsAbsent (nat_eq row.identifier) (identifiers stores)
    → length stores + 1 ≤ 32 → reserved_by stores + blocks_for_size row.size ≤ 504
    → apply (with_stores d stores) (Put row) ≡ Some (with_stores d (stores ++ listed_as row [] [] ∷ []))
unfolding apply
put-last d stores row lawful absent few reserved =
    let new = listed_as row [] [] in
    let listed : listed_by row (find_store row.identifier stores) ≡ new =
    ap (listed_by row) (find-absent row.identifier stores absent) ∙ ap (listed_as row []) (trimmed-none row.first row.count) in
    with-some (with_stores d stores) (put_row row stores) (stores ++ new ∷ [])
    (put-is row stores new (stores ++ new ∷ []) listed (put-absent new stores absent)
    (record {
      lawful = lawful;
      few = omega (arith, few, length-append stores (new ∷ []));
      reserved = omega (arith, reserved, reserved-pushed stores new);
      links = omega arith;
    }))

-- and its links with it
pub put_links : (d : Directory) (stores : List Listed) (row : Row) (links : List Link) → IsAbsent (nat_eq row.identifier) (identifiers stores) → length links ≤ blocks_for_size row.size
    → apply_links (with_stores d (stores ++ listed_as row [] [] ∷ [])) row.identifier links ≡ Some (with_stores d (stores ++ listed_as row [] links ∷ []))
unfolding apply
put_links d stores row [] absent few = refl
put_links d stores row (link ∷ links) absent few =
    let old = listed_as row [] [] in
    let new = listed_as row [] (link ∷ links) in
    let all = stores ++ old ∷ [] in
    let some : nat_le 1 (length (link ∷ links)) ≡ true = le-leb 1 (length (link ∷ links)) (omega arith) in
    let fits : nat_le (length (link ∷ links)) (blocks_for_size row.size) ≡ true = le-leb (length (link ∷ links)) (blocks_for_size row.size) few in
    let changed : with_links (link ∷ links) old ≡ Some new = λ i. given (some i && fits i) >>= λ _. Some new in
    with-some (with_stores d all) (change_store row.identifier (with_links (link ∷ links)) all) (stores ++ new ∷ [])
    (ap (λ (o : Option Listed). o >>= λ s. with_links (link ∷ links) s >>= λ t. Some (put_store t all)) (find-last old stores absent)
    ∙ ap (λ (o : Option Listed). o >>= λ t. Some (put_store t all)) changed
    ∙ ap Some (put-again old new stores refl absent))

-- all of them, one after another

put_stores : (d : Directory) (front back : List Listed) → All IsListed back → are_distinct (identifiers (front ++ back)) ≡ true
    → length (front ++ back) ≤ 32 → reserved_by (front ++ back) ≤ 504
    → apply_stores (with_stores d (map bare front)) back ≡ Some (with_stores d (map bare (front ++ back)))
put_stores d front [] each distinct few reserved = ap (λ (l : List Listed). Some (with_stores d (map bare l))) (sym (append-nil front))
put_stores d front (s ∷ back) each distinct few reserved =
    let listed = All-head IsListed s back each in
    let others = others_in_front front s back distinct in
    let all = length-append front (s ∷ back) in
    let blocks = reserved-append front (s ∷ back) in
    let before = map bare front in
    let regrouped : (front ++ s ∷ []) ++ back ≡ front ++ s ∷ back = append_assoc front (s ∷ []) back in
    let here : map bare (front ++ s ∷ []) ≡ before ++ bare s ∷ [] = map-append bare front (s ∷ []) in
    let rest = put_stores d (front ++ s ∷ []) back (All-tail IsListed s back each)
    (ap (λ (l : List Listed). are_distinct (identifiers l)) regrouped ∙ distinct)
    (omega (arith, ap length regrouped, few)) (omega (arith, ap reserved_by regrouped, reserved)) in
    ap (λ (o : Option Directory). o >>= λ put. apply_links put s.identifier s.links >>= λ linked. apply_stores linked back)
    (put-last d before s.row listed.lawful others (omega (arith, all, few, length-bare front)) (omega (arith, blocks, reserved, reserved-bare front)))
    ∙ ap (λ (o : Option Directory). o >>= λ linked. apply_stores linked back) (put_links d before s.row s.links others listed.links)
    ∙ ap (λ (l : List Listed). apply_stores (with_stores d l) back) (sym here)
    ∙ rest ∙ ap (λ (l : List Listed). Some (with_stores d (map bare l))) regrouped

-- its rows fit as Puts in turn, and its links as Links
pub steps-fit : (d : Directory) → AreListed d.stores → apply_stores (with_stores d []) d.stores ≡ Some (with_stores d (map bare d.stores))
steps-fit d kept = put_stores d [] d.stores kept.each kept.distinct kept.few kept.reserved

pub lawful-from_kept : (d : Directory) → IsDirectory d → is_lawful d ≡ true
unfolding is_lawful
lawful-from_kept d kept =
    let reports = lt-ltb d.reports 16384 kept.reports in
    let forward = tested-from d.forward kept.forward in
    let each : list_all is_lawful_listed d.stores ≡ true = list_all-from_AllPass is_lawful_listed d.stores (λ k s lt. listed (kept.stores.each k s lt)) in
    rw (reports, forward, each, kept.stores.distinct, le-leb (length d.stores) 32 kept.stores.few, le-leb (reserved_by d.stores) 504 kept.stores.reserved) refl
  where
    listed : {s : Listed} → IsListed s → is_lawful_listed s ≡ true
    listed {s} is = rw (is.lawful, tested-from s.patterns is.patterns, le-leb (length s.links) (blocks_for_size s.size) is.links) refl
