-- A store of a table and of its directory, found by its identifier, and another one in its place.
use Rattle.std.proofs.Common.{◌≡◌, ℕ, Bool, true, false, ◌==◌, List, [], ◌∷◌, map, Some, refl, sym, ◌∙◌, ap, subst}
use Rattle.std.specs.Prelude.{All, find, if◌then◌else◌}
use Rattle.std.proofs.lemmas.Bool.{cond-false, cond-true, eq-eqb, eqb-true}
use Rattle.std.proofs.lemmas.List.Elements.{All-cons, All-head, All-nil, All-tail}
use Rattle.std.proofs.lemmas.Option.{none-some, same_Some}
use Rattle.pst_model.specs.Changes.{is_named, with_store}
use Rattle.pst_model.specs.Table.{Store, Stored}
use Rattle.store_directory.specs.Directory.{Listed, find_store, put_store}
use Rattle.store_directory.proofs.Puts.{swapped}
use Rattle.request_laws.specs.Changing.{AllKeepRecords, AreListedAs, IsListedAs, KeepsRecords}
use Rattle.request_laws.proofs.Stays.{kept_same}

abbrev pub packets_of : Store → List Stored
packets_of store = store.packets

swapped_by : (a b : ℕ) (test : Bool) → (a == b) ≡ test → (b == a) ≡ test
swapped_by a b true is = ap (λ (n : ℕ). n == a) (sym (eqb-true a b is)) ∙ same a
  where
    same : (n : ℕ) → (n == n) ≡ true
    same n = eq-eqb n n refl
swapped_by a b false is = swapped a b is

-- a store of the table bears the name of the listed one
pub named_as : (identifier : ℕ) (store : Store) (s : Listed) (test : Bool) → IsListedAs store s → is_named identifier store ≡ test → (identifier == s.identifier) ≡ test
named_as identifier store s test is named =
    ap (λ (n : ℕ). identifier == n) (sym is.identifier) ∙ swapped_by store.identifier identifier test named

-- what the directory lists of a store that the table has
pub record FoundAs (identifier : ℕ) (listed : List Listed) (store : Store) : Type 0 where
  pub s : Listed
  pub found : find_store identifier listed ≡ Some s
  pub is : IsListedAs store s
  pub own : s.identifier ≡ identifier

pub found_as : (identifier : ℕ) (stores : List Store) (listed : List Listed) (store : Store) → AreListedAs stores listed
    → find (is_named identifier) stores ≡ Some store → FoundAs identifier listed store
found_as identifier [] [] store are is = absurd (none-some store is)
found_as identifier (x ∷ stores) (l ∷ listed) store are is =
    by (is_named identifier x) refl (found_as identifier stores listed store are.1)
  where
    by : (test : Bool) → is_named identifier x ≡ test → (find (is_named identifier) stores ≡ Some store → FoundAs identifier listed store) → FoundAs identifier (l ∷ listed) store
    by true named rest =
        let this : x ≡ store = same_Some x store (sym (cond-true (is_named identifier x) (Some x) (find (is_named identifier) stores) named) ∙ is) in
        record {
          s = l;
          found = cond-true (identifier == l.identifier) (Some l) (find_store identifier listed) (named_as identifier x l true are.0 named);
          is = subst (λ (y : Store). IsListedAs y l) this are.0;
          own = sym are.0.identifier ∙ eqb-true x.identifier identifier named;
        }
    by false named rest =
        let behind = rest (sym (cond-false (is_named identifier x) (Some x) (find (is_named identifier) stores) named) ∙ is) in
        record {
          s = behind.s;
          found = cond-false (identifier == l.identifier) (Some l) (find_store identifier listed) (named_as identifier x l false are.0 named) ∙ behind.found;
          is = behind.is;
          own = behind.own;
        }
found_as identifier [] (l ∷ listed) store are is = absurd are
found_as identifier (x ∷ stores) [] store are is = absurd are

-- what is so of each store is so of the one that is found
pub found_has : (P : Listed → Type 0) (identifier : ℕ) (listed : List Listed) (s : Listed) → All P listed → find_store identifier listed ≡ Some s → P s
found_has P identifier [] s all is = absurd (none-some s is)
found_has P identifier (l ∷ listed) s all is =
    by (identifier == l.identifier) (found_has P identifier listed s (All-tail P l listed all)) is
  where
    by : (test : Bool) → (find_store identifier listed ≡ Some s → P s) → (if test then Some l else find_store identifier listed) ≡ Some s → P s
    by true rest is = subst P (same_Some l s is) (All-head P l listed all)
    by false rest is = rest is

-- Another store in the place of the one that is found.

pub put_all : (P : Listed → Type 0) (new : Listed) (listed : List Listed) → All P listed → P new → All P (put_store new listed)
put_all P new [] all here = All-cons P new [] here (All-nil P)
put_all P new (l ∷ listed) all here =
    by (new.identifier == l.identifier) (put_all P new listed (All-tail P l listed all) here)
  where
    by : (test : Bool) → All P (put_store new listed) → All P (if test then new ∷ listed else l ∷ put_store new listed)
    by true rest = All-cons P new listed here (All-tail P l listed all)
    by false rest = All-cons P l (put_store new listed) (All-head P l listed all) rest

pub put_keeps : (s new : Listed) (listed : List Listed) → find_store new.identifier listed ≡ Some s → KeepsRecords s new → AllKeepRecords listed (put_store new listed)
put_keeps s new [] is keeps = absurd (none-some s is)
put_keeps s new (l ∷ listed) is keeps =
    by (new.identifier == l.identifier) (λ found. put_keeps s new listed found keeps) is
  where
    by : (test : Bool) → (find_store new.identifier listed ≡ Some s → AllKeepRecords listed (put_store new listed))
        → (if test then Some l else find_store new.identifier listed) ≡ Some s → AllKeepRecords (l ∷ listed) (if test then new ∷ listed else l ∷ put_store new listed)
    by true rest is = (subst (λ (x : Listed). KeepsRecords x new) (sym (same_Some l s is)) keeps, kept_same listed)
    by false rest is = (record { identifier = refl; size = refl; first = refl; count = refl; links = refl }, rest is)

pub put_as : (made : Store) (new : Listed) (stores : List Store) (listed : List Listed) (s : Listed) → AreListedAs stores listed → find_store new.identifier listed ≡ Some s
    → IsListedAs made new → AreListedAs (with_store new.identifier made stores) (put_store new listed)
put_as made new [] [] s are found is = absurd (none-some s found)
put_as made new (x ∷ stores) (l ∷ listed) s are found is =
    by (is_named new.identifier x) refl (λ found. put_as made new stores listed s are.1 found is)
  where
    by : (test : Bool) → is_named new.identifier x ≡ test → (find_store new.identifier listed ≡ Some s → AreListedAs (with_store new.identifier made stores) (put_store new listed))
        → AreListedAs (with_store new.identifier made (x ∷ stores)) (put_store new (l ∷ listed))
    by true named rest = rw (named, named_as new.identifier x l true are.0 named) (is, are.1)
    by false named rest =
        let other = named_as new.identifier x l false are.0 named in
        rw (named, other) (are.0, rest (sym (cond-false (new.identifier == l.identifier) (Some l) (find_store new.identifier listed) other) ∙ found))
put_as made new [] (l ∷ listed) s are found is = absurd are
put_as made new (x ∷ stores) [] s are found is = absurd are

pub put_packets : (identifier : ℕ) (made store : Store) (stores : List Store) → find (is_named identifier) stores ≡ Some store → made.packets ≡ store.packets
    → map packets_of (with_store identifier made stores) ≡ map packets_of stores
put_packets identifier made store [] is same = absurd (none-some store is)
put_packets identifier made store (x ∷ stores) is same =
    by (is_named identifier x) (λ found. put_packets identifier made store stores found same) is
  where
    by : (test : Bool) → (find (is_named identifier) stores ≡ Some store → map packets_of (with_store identifier made stores) ≡ map packets_of stores)
        → (if test then Some x else find (is_named identifier) stores) ≡ Some store
        → map packets_of (if test then made ∷ stores else x ∷ with_store identifier made stores) ≡ map packets_of (x ∷ stores)
    by true rest is = ap (λ (p : List Stored). p ∷ map packets_of stores) (same ∙ ap packets_of (sym (same_Some x store is)))
    by false rest is = ap (λ (l : List (List Stored)). x.packets ∷ l) (rest is)
