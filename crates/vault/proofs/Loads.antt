-- Stores that are loaded from an image, and the table that they are of.
use Rattle.std.proofs.Common.{◌≡◌, ℕ, zero, suc, ◌+◌, ◌<◌, ◌≤◌, true, List, [], ◌∷◌, All, length, take, Option, Some, None, Err, refl, sym, ◌∙◌, ap, subst, arith}
use Rattle.std.specs.Prelude.{IfSome, slice_get}
use Rattle.std.specs.List.{list_all}
use Rattle.std.specs.Option.{option_map}
use Rattle.std.proofs.lemmas.List.{length-append}
use Rattle.std.proofs.lemmas.List.Elements.{All-head, All-tail}
use Rattle.std.proofs.lemmas.Option.{none-some, same_Some}
use Rattle.image_table.proofs.Frames.{data_links, own_links, shared_links}
use Rattle.image_table.specs.Table.{store_of, store_with, table_rule}
use Rattle.record_view.specs.declared.link.Link.{Link}
use Rattle.store_directory.specs.Directory.{IsListed, Listed}
use Rattle.store_directory.specs.Options.{◌>>=◌}
use Rattle.store_directory.specs.declared.row.Row.{Row}
use Rattle.store_load.specs.Claims.{all_links, is_data, may_share}
use Rattle.store_load.specs.Each.{each}
use Rattle.store_load.specs.Held.{IsHeld}
use Rattle.store_load.specs.Keeping.{IsInDevice}
use Rattle.store_load.specs.Loaded.{index_of, used_in}
use Rattle.store_put.proofs.Held.{held_in_place}
use Rattle.store_load.proofs.Indexed.{no_index}
use Rattle.store_load.proofs.Rows.{row_numbers}
use Rattle.time_index.specs.TimeIndex.{TimeIndex}
use Rattle.vault.proofs.Places.{each_at, of_some, some_at}
use Rattle.vault.specs.Answers.{OnNotHeld}
use Rattle.vault.specs.Loading.{IsLoadedStore, IsUnlawful, links_at}
use Rattle.vault.specs.Memory.{has_link}
use Rattle.vault.specs.declared.fault.OpenFault.{OpenFault}
use Rattle.vault.specs.declared.fault.OpenFault.TheVariants.{Flash, NoMemory, NotHeld}
use Rattle.vault.specs.declared.last_block.LastBlock.{LastBlock}

pub all_at : {X : Type 0} (P : X → Type 0) (xs : List X) (at : ℕ) (x : X) → All P xs → slice_get xs at ≡ Some x → P x
all_at P [] at x each is = absurd (none-some x is)
all_at P (y ∷ ys) zero x each is = subst P (same_Some y x is) (All-head P y ys each)
all_at P (y ∷ ys) (suc at) x each is = all_at P ys at x (All-tail P y ys each) is

-- the blocks of a store at a place are those of the device
pub own_at : (blocks : ℕ) (stores : List Listed) (at : ℕ) (s : Listed) → may_share 240 blocks stores ≡ true
    → slice_get stores at ≡ Some s → All (IsInDevice blocks) s.links
own_at blocks stores at s share is =
    own_links blocks s.links
    (each_at (λ (s : Listed). list_all (is_data blocks) s.links ≡ true) stores at s (data_links blocks stores (shared_links blocks stores share)) is)

-- a store is loaded, by its row and its links
pub loaded_store : (blocks now read : ℕ) (told : Type 0) (image : ℕ → List ℕ) (s : Listed) (row : Row) (links : List Link) (index : TimeIndex) (used : ℕ)
    → read ≡ now → row ≡ s.row → links ≡ s.links → IsListed s → All (IsInDevice blocks) s.links
    → (told → index_of table_rule image read row links ≡ Some index) → (told → used ≡ used_in image row links)
    → IsHeld table_rule read row links index used
    → IsLoadedStore told image now s index (record { used = used; stale = has_link s.links })
loaded_store blocks now read told image s row links index used n r l listed own index_is used_is held =
    let numbers = row_numbers s.row listed.lawful in
    let here : IsHeld table_rule now s.row s.links index used =
    subst (λ n. IsHeld table_rule n s.row s.links index used) n
    (subst (λ r. IsHeld table_rule read r s.links index used) r
    (subst (λ l. IsHeld table_rule read row l index used) l held)) in
    record {
      index_is = λ yes. sym (λ i. index_of table_rule image (n i) (r i) (l i)) ∙ index_is yes;
      used_is = λ yes. used_is yes ∙ (λ i. used_in image (r i) (l i));
      stale_is = refl;
      in_place =
          held_in_place blocks now s.row s.links index used here
          (λ k default lt. record { block = own k default lt; first = (listed.fitting k default lt).1 })
          (omega (arith, listed.links, numbers.0)) listed.lawful listed.fits.first;
    }

-- a store is loaded from a board that still is as it was
pub loaded_since : (old new : Type 0) (before after : ℕ → List ℕ) (now : ℕ) (s : Listed) (index : TimeIndex) (last : LastBlock)
    → (old → new) → (old → after ≡ before) → IsLoadedStore new after now s index last → IsLoadedStore old before now s index last
loaded_since old new before after now s index last tells same loaded = record {
  index_is = λ told. sym (ap (λ image. index_of table_rule image now s.row s.links) (same told)) ∙ loaded.index_is (tells told);
  used_is = λ told. loaded.used_is (tells told) ∙ ap (λ image. used_in image s.row s.links) (same told);
  stale_is = loaded.stale_is;
  in_place = loaded.in_place;
}

-- how many of them it has
pub links_here : (stores : List Listed) (at : ℕ) (links : List Link) → at < length stores → IfSome (slice_get stores at) (λ s. links ≡ s.links)
    → length links ≡ links_at (slice_get stores at)
links_here stores at links within is =
    let (s, here) = some_at stores at within in
    ap length (of_some (λ (s : Listed). links ≡ s.links) (slice_get stores at) s is here) ∙ ap links_at (sym here)

-- how many links the stores up to a place have
pub links_more : (stores : List Listed) (at : ℕ) (s : Listed) → slice_get stores at ≡ Some s
    → length (all_links (take (suc at) stores)) ≡ length (all_links (take at stores)) + length s.links
links_more [] at s is = absurd (none-some s is)
links_more (x ∷ stores) zero s is = length-append x.links [] ∙ ap (λ (s : Listed). length s.links + 0) (same_Some x s is) ∙ omega arith
links_more (x ∷ stores) (suc at) s is =
    let rest = links_more stores at s is in
    let long = length-append x.links (all_links (take (suc at) stores)) in
    let short = length-append x.links (all_links (take at stores)) in
    omega (arith, rest, long, short)

pub links_within : (stores : List Listed) (n : ℕ) → length (all_links (take n stores)) ≤ length (all_links stores)
links_within [] zero = omega arith
links_within [] (suc n) = omega arith
links_within (x ∷ stores) zero = omega arith
links_within (x ∷ stores) (suc n) =
    let rest = links_within stores n in
    let long = length-append x.links (all_links stores) in
    let short = length-append x.links (all_links (take n stores)) in
    omega (arith, rest, long, short)

-- where one element has no answer, the list has none
pub none_at : {A B : Type 0} (f : A → Option B) (xs : List A) (at : ℕ) (x : A) → slice_get xs at ≡ Some x → f x ≡ None → each f xs ≡ None
none_at f [] at x is none = absurd (none-some x is)
none_at f (y ∷ ys) zero x is none = rw (ap f (same_Some y x is) ∙ none) refl
none_at f (y ∷ ys) (suc at) x is none = pick (f y) (none_at f ys at x is none)
  where
    pick : {B : Type 0} {found : Option (List B)} → (o : Option B) → found ≡ None → (o >>= λ (z : B). found >>= λ (zs : List B). Some (z ∷ zs)) ≡ None
    pick None rest = refl
    pick (Some z) rest = rw rest refl

-- a store that keeps no records is none of the table
pub no_store : (image : ℕ → List ℕ) (now : ℕ) (stores : List Listed) (at : ℕ) (s : Listed) → slice_get stores at ≡ Some s
    → IsUnlawful image now s → each (store_of image now) stores ≡ None
no_store image now stores at s is none =
    none_at (store_of image now) stores at s is (ap (option_map (store_with s)) (no_index table_rule image now s.row s.links none))

-- what holds where there is no table, by a fault alone
pub not_held : {P Q : Type 0} (fault : OpenFault) → (P → Q) → OnNotHeld {A = ℕ} (Err fault) P → OnNotHeld {A = ℕ} (Err fault) Q
not_held NotHeld f h = f h
not_held Flash f h = tt
not_held NoMemory f h = tt
