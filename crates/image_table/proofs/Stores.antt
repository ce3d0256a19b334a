-- A store of a directory, and its place in the table.
use Rattle.std.proofs.Common.{◌≡◌, ℕ, ◌+◌, ◌==◌, Bool, true, false, List, [], ◌∷◌, All, length, map, Some, refl, sym, ◌∙◌, ap, subst, arith}
use Rattle.std.specs.Prelude.{find, if◌then◌else◌}
use Rattle.std.proofs.lemmas.Bool.Decides.{nat_tests}
use Rattle.std.proofs.lemmas.List.Elements.{All-head, All-tail}
use Rattle.std.proofs.lemmas.Option.{none-some, same_Some}
use Rattle.space_packet.specs.Charge.{charge_of}
use Rattle.board.specs.Flash.{IsContent}
use Rattle.pst_model.specs.Changes.{is_named}
use Rattle.pst_model.specs.Rules.{at_first}
use Rattle.pst_model.specs.Table.{Store, content_in}
use Rattle.record_view.specs.Records.{Meaning}
use Rattle.store_directory.specs.Directory.{Directory, IsDirectory, IsListed, Listed, find_store, put_store}
use Rattle.std.specs.List.{list_all}
use Rattle.store_load.specs.Claims.{is_data, may_share}
use Rattle.store_load.specs.Each.{each}
use Rattle.store_load.specs.Extents.{pages_in}
use Rattle.store_load.specs.Keeping.{Keeps}
use Rattle.store_load.specs.Kept.{kept_of}
use Rattle.store_load.proofs.Rows.{row_numbers}
use Rattle.store_load.proofs.Eachs.{EachIs, each_cons, each_more}
use Rattle.image_table.specs.Table.{store_of, stored_of, table_rule}
use Rattle.image_table.proofs.Frames.{data_links, own_links, shared_links, store_kept}

flipped : (a b : ℕ) (t : Bool) → (a == b) ≡ t → (b == a) ≡ t
flipped a b true h = grind (arith, nat_tests)
flipped a b false h = grind (arith, nat_tests)

-- the store of the table that a store of the directory is
named : (image : ℕ → List ℕ) (now : ℕ) (s : Listed) (store : Store) → store_of image now s ≡ Some store
    → store.identifier ≡ s.identifier
named image now s store is =
    let (records, kept, whole) = store_kept image now s store is in ap (λ (x : Store). x.identifier) (sym whole)

-- a store of the directory, found in the table
pub record FoundIn (image : ℕ → List ℕ) (now identifier : ℕ) (s : Listed) (stores : List Store) : Type 0 where
  pub store : Store
  pub is : store_of image now s ≡ Some store
  pub found : find (is_named identifier) stores ≡ Some store

-- the first store of a table has this identifier, or another one
first_found : (identifier : ℕ) (store : Store) (rest : List Store) → is_named identifier store ≡ true → find (is_named identifier) (store ∷ rest) ≡ Some store
first_found identifier store rest is = rw is refl

others_found : (identifier : ℕ) (store : Store) (rest : List Store) → is_named identifier store ≡ false → find (is_named identifier) (store ∷ rest) ≡ find (is_named identifier) rest
others_found identifier store rest is = rw is refl

pub found_in : (image : ℕ → List ℕ) (now identifier : ℕ) (listed : List Listed) (stores : List Store) (s : Listed)
    → each (store_of image now) listed ≡ Some stores → find_store identifier listed ≡ Some s → FoundIn image now identifier s stores
found_in image now identifier [] stores s h is = absurd (none-some s is)
found_in image now identifier (x ∷ listed) stores s h is =
    let (store, rest, here, behind, whole) = each_cons (store_of image now) x listed stores h in
    subst (FoundIn image now identifier s) whole
    (pick store rest here (λ found. found_in image now identifier listed rest s behind found) (identifier == x.identifier) refl is)
  where
    pick : (store : Store) (rest : List Store) → store_of image now x ≡ Some store
        → (find_store identifier listed ≡ Some s → FoundIn image now identifier s rest) → (t : Bool) → (identifier == x.identifier) ≡ t
        → (if t then Some x else find_store identifier listed) ≡ Some s → FoundIn image now identifier s (store ∷ rest)
    pick store rest here deeper true same is =
        let this : x ≡ s = same_Some x s is in
        record {
          store = store;
          is = ap (store_of image now) (sym this) ∙ here;
          found = first_found identifier store rest (ap (λ (n : ℕ). n == identifier) (named image now x store here) ∙ flipped identifier x.identifier true same);
        }
    pick store rest here deeper false same is =
        let inner = deeper is in
        record {
          store = inner.store;
          is = inner.is;
          found =
              others_found identifier store rest (ap (λ (n : ℕ). n == identifier) (named image now x store here) ∙ flipped identifier x.identifier false same)
              ∙ inner.found;
        }

-- the stores of the table where another one is put among those of the directory
pub put_in : (image : ℕ → List ℕ) (now : ℕ) (new : Listed) (made : Store) (listed : List Listed) (stores : List Store) (s : Listed)
    → each (store_of image now) listed ≡ Some stores → find_store new.identifier listed ≡ Some s → store_of image now new ≡ Some made
    → each (store_of image now) (put_store new listed) ≡ Some (at_first (is_named new.identifier) (λ _. made) stores)
put_in image now new made [] stores s h is new_is = absurd (none-some s is)
put_in image now new made (x ∷ listed) stores s h is new_is =
    let (store, rest, here, behind, whole) = each_cons (store_of image now) x listed stores h in
    pick store rest here behind (λ found. put_in image now new made listed rest s behind found new_is) (new.identifier == x.identifier) refl is
    ∙ ap (λ (l : List Store). Some (at_first (is_named new.identifier) (λ _. made) l)) whole
  where
    pick : (store : Store) (rest : List Store) → store_of image now x ≡ Some store → each (store_of image now) listed ≡ Some rest
        → (find_store new.identifier listed ≡ Some s → each (store_of image now) (put_store new listed) ≡ Some (at_first (is_named new.identifier) (λ _. made) rest))
        → (t : Bool) → (new.identifier == x.identifier) ≡ t
        → (if t then Some x else find_store new.identifier listed) ≡ Some s
        → each (store_of image now) (if t then new ∷ listed else x ∷ put_store new listed) ≡ Some (at_first (is_named new.identifier) (λ _. made) (store ∷ rest))
    pick store rest here behind deeper true same is =
        let test : is_named new.identifier store ≡ true = ap (λ (n : ℕ). n == new.identifier) (named image now x store here) ∙ flipped new.identifier x.identifier true same in
        each_more (store_of image now) new listed made rest new_is behind ∙ rw test refl
    pick store rest here behind deeper false same is =
        let test : is_named new.identifier store ≡ false = ap (λ (n : ℕ). n == new.identifier) (named image now x store here) ∙ flipped new.identifier x.identifier false same in
        each_more (store_of image now) x (put_store new listed) store (at_first (is_named new.identifier) (λ _. made) rest) here (deeper is) ∙ rw test refl

-- a change of the store that is found
pub changed_first : (test : Store → Bool) (change : Store → Store) (store : Store) (stores : List Store) → find test stores ≡ Some store
    → at_first test (λ _. change store) stores ≡ at_first test change stores
changed_first test change store [] is = absurd (none-some store is)
changed_first test change store (x ∷ stores) is =
    pick (λ found. changed_first test change store stores found) (test x) is
  where
    pick : (find test stores ≡ Some store → at_first test (λ _. change store) stores ≡ at_first test change stores) → (t : Bool)
        → (if t then Some x else find test stores) ≡ Some store
        → (if t then change store ∷ stores else x ∷ at_first test (λ _. change store) stores) ≡ (if t then change x ∷ stores else x ∷ at_first test change stores)
    pick deeper true is = ap (λ (y : Store). change y ∷ stores) (sym (same_Some x store is))
    pick deeper false is = ap (λ (l : List Store). x ∷ l) (deeper is)

-- the pages of records are the content of the packets
pub content_stored : (records : List Meaning) → content_in (map stored_of records) ≡ pages_in records
content_stored [] = refl
content_stored (meaning ∷ records) = ap (λ (n : ℕ). charge_of (length meaning.packet) + n) (content_stored records)

-- what is kept of a store that is found
pub listed_found : (identifier : ℕ) (stores : List Listed) (s : Listed) → All IsListed stores → find_store identifier stores ≡ Some s → IsListed s
listed_found identifier [] s all is = absurd (none-some s is)
listed_found identifier (x ∷ stores) s all is =
    pick (listed_found identifier stores s (All-tail IsListed x stores all)) (identifier == x.identifier) is
  where
    pick : (find_store identifier stores ≡ Some s → IsListed s) → (t : Bool) → (if t then Some x else find_store identifier stores) ≡ Some s → IsListed s
    pick deeper true is = subst IsListed (same_Some x s is) (All-head IsListed x stores all)
    pick deeper false is = deeper is

pub data_found : (blocks identifier : ℕ) (stores : List Listed) (s : Listed) → EachIs (λ (x : Listed). list_all (is_data blocks) x.links ≡ true) stores
    → find_store identifier stores ≡ Some s → list_all (is_data blocks) s.links ≡ true
data_found blocks identifier [] s all is = absurd (none-some s is)
data_found blocks identifier (x ∷ stores) s all is =
    pick (data_found blocks identifier stores s all.1) (identifier == x.identifier) is
  where
    pick : (find_store identifier stores ≡ Some s → list_all (is_data blocks) s.links ≡ true) → (t : Bool) → (if t then Some x else find_store identifier stores) ≡ Some s
        → list_all (is_data blocks) s.links ≡ true
    pick deeper true is = subst (λ (y : Listed). list_all (is_data blocks) y.links ≡ true) (same_Some x s is) all.0
    pick deeper false is = deeper is

-- a store of the directory keeps its records
pub listed_keeps : (blocks : ℕ) (image : ℕ → List ℕ) (now : ℕ) (s : Listed) (records : List Meaning)
    → IsContent blocks image → IsListed s → list_all (is_data blocks) s.links ≡ true
    → kept_of table_rule image now s.row s.links ≡ Some records → Keeps table_rule blocks image now s.row s.links records
listed_keeps blocks image now s records pages listed in_data kept =
    let own = own_links blocks s.links in_data in
    let numbers = row_numbers s.row listed.lawful in
    record {
      pages = pages;
      count = omega (arith, numbers.0, numbers.1);
      first = listed.fits.first;
      few = omega (arith, listed.links, numbers.0);
      each_link = λ k default lt. record { block = own k default lt; first = (listed.fitting k default lt).1 };
      kept = kept;
    }

pub store_keeps : (blocks : ℕ) (image : ℕ → List ℕ) (d : Directory) (identifier now : ℕ) (s : Listed) (records : List Meaning)
    → IsContent blocks image → IsDirectory d → may_share 240 blocks d.stores ≡ true → find_store identifier d.stores ≡ Some s
    → kept_of table_rule image now s.row s.links ≡ Some records → Keeps table_rule blocks image now s.row s.links records
store_keeps blocks image d identifier now s records pages directory share is kept =
    listed_keeps blocks image now s records pages (listed_found identifier d.stores s directory.stores.each is)
    (data_found blocks identifier d.stores s (data_links blocks d.stores (shared_links blocks d.stores share)) is) kept
