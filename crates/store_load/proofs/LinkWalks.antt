-- The extents of links, one after another.
use Rattle.std.proofs.Common.{◌≡◌, ℕ, zero, suc, ◌≤◌, ◌||◌, nat_le, true, false, List, [], ◌∷◌, length, drop, Option, Some, None, Result, Ok, Err, subst, refl, sym, ◌∙◌, ap, arith}
use Rattle.std.specs.Prelude.{IfSome, MatchOption, slice_get}
use Rattle.std.specs.List.{All}
use Rattle.std.proofs.lemmas.Bool.{le-leb}
use Rattle.std.proofs.lemmas.Bool.Decides.{nat_tests}
use Rattle.std.proofs.lemmas.List.Elements.{All-head, All-tail}
use Rattle.std.proofs.lemmas.Option.{same_Some}
use Rattle.record_view.specs.Records.{Meaning}
use Rattle.record_view.specs.declared.link.Link.{Link}
use Rattle.store_directory.specs.Options.{◌>>=◌, given}
use Rattle.store_directory.specs.declared.row.Row.{Row}
use Rattle.store_load.specs.Extents.{Extent, end_of, extent_to, extents_from, extents_of, extents_to, last_of, pages_in, read_extent}
use Rattle.store_load.specs.Frame.{pages_read}
use Rattle.store_load.specs.Loaded.{used_in}
use Rattle.store_load.specs.Loading.{OnUnlawful, Progress, UsedBefore, is_last, load_extents, take_records}
use Rattle.store_load.specs.declared.stop.LoadStop.{LoadStop}
use Rattle.store_load.specs.declared.stop.LoadStop.TheVariants.{Flash, Unlawful, NoMemory}
use Rattle.store_load.specs.declared.loading.Limits.{Limits}

from_at : (end : ℕ) (link : Link) (links : List Link) (at : ℕ) (here : Link) (stop : ℕ)
    → slice_get (link ∷ links) at ≡ Some here
    → MatchOption (slice_get (link ∷ links) (suc at)) (stop ≡ end) (λ next. stop ≡ next.first)
    → slice_get (extents_from end link links) at ≡ Some (extent_to stop here)
from_at end link [] zero here stop is ends = λ i. Some (extent_to (sym ends i) (same_Some link here is i))
from_at end link [] (suc at) here stop is ends = absurd (cc)
from_at end link (next ∷ links) zero here stop is ends = λ i. Some (extent_to (sym ends i) (same_Some link here is i))
from_at end link (next ∷ links) (suc at) here stop is ends = from_at end next links at here stop is ends

pub extent_is : (end : ℕ) (links : List Link) (at : ℕ) (here : Link) (stop : ℕ)
    → slice_get links at ≡ Some here
    → MatchOption (slice_get links (suc at)) (stop ≡ end) (λ next. stop ≡ next.first)
    → slice_get (extents_to end links) at ≡ Some (extent_to stop here)
extent_is end [] at here stop is ends = absurd (cc)
extent_is end (link ∷ links) at here stop is ends = from_at end link links at here stop is ends

from_many : (end : ℕ) (link : Link) (links : List Link) → length (extents_from end link links) ≡ suc (length links)
from_many end link [] = refl
from_many end link (next ∷ links) = ap suc (from_many end next links)

pub as_many : (end : ℕ) (links : List Link) → length (extents_to end links) ≡ length links
as_many end [] = refl
as_many end (link ∷ links) = from_many end link links

-- the extent at a place, before those behind it
pub extents_at : (extents : List Extent) (at : ℕ) (here : Extent) → slice_get extents at ≡ Some here
    → drop at extents ≡ here ∷ drop (suc at) extents
extents_at [] at here is = absurd (cc)
extents_at (extent ∷ extents) zero here is = ap (λ (e : Extent). e ∷ extents) (same_Some extent here is)
extents_at (extent ∷ extents) (suc at) here is = extents_at extents at here is

pub last_at : (extents : List Extent) (at : ℕ) → is_last (drop at extents) ≡ nat_le (length extents) at
last_at [] zero = refl
last_at [] (suc at) = sym (le-leb 0 (suc at) (omega arith))
last_at (extent ∷ extents) zero = none_by (length extents)
  where
    none_by : (a : ℕ) → false ≡ nat_le (suc a) 0
    none_by a = grind (arith, nat_tests)
last_at (extent ∷ extents) (suc at) = last_at extents at ∙ one_more (length extents) at
  where
    one_more : (a b : ℕ) → nat_le a b ≡ nat_le (suc a) (suc b)
    one_more a b = grind (arith, nat_tests)

pub all_at : (P : Link → Type 0) (links : List Link) (at : ℕ) (here : Link) → All P links
    → slice_get links at ≡ Some here → P here
all_at P [] at here each is = absurd (cc)
all_at P (link ∷ links) zero here each is = subst P (same_Some link here is) (All-head P link links each)
all_at P (link ∷ links) (suc at) here each is = all_at P links at here (All-tail P link links each) is

pub on_unlawful : {A : Type 0} {P Q : Type 0} (result : Result A LoadStop) → (P → Q) → OnUnlawful result P
    → OnUnlawful result Q
on_unlawful (Ok answer) more is = tt
on_unlawful (Err Flash) more is = tt
on_unlawful (Err NoMemory) more is = tt
on_unlawful (Err Unlawful) more is = more is

-- one extent before those behind it
module _ (limits : Limits) (least : ℕ) (image : ℕ → List ℕ) (extent : Extent) (extents all : List Extent)
    (progress : Progress) (are : all ≡ extent ∷ extents) where
  pub next_loaded : (records : List Meaning) (next : Progress) → read_extent image extent ≡ Some records
      → take_records limits extent.block 0 records progress ≡ Some next
      → (is_last extents || nat_le least (pages_in records)) ≡ true
      → load_extents limits least image all progress ≡ load_extents limits least image extents next
  unfolding load_extents
  next_loaded records next read taken filled = rw (are, read, taken, filled) refl

  pub not_filled : (records : List Meaning) (next : Progress) → read_extent image extent ≡ Some records
      → take_records limits extent.block 0 records progress ≡ Some next
      → (is_last extents || nat_le least (pages_in records)) ≡ false
      → load_extents limits least image all progress ≡ None
  unfolding load_extents
  not_filled records next read taken filled = rw (are, read, taken, filled) refl

  pub not_loaded : ((records : List Meaning) → read_extent image extent ≡ Some records
      → take_records limits extent.block 0 records progress ≡ None)
      → load_extents limits least image all progress ≡ None
  unfolding load_extents
  not_loaded none = rw are (by_read (read_extent image extent) refl)
    where
      by_read : (found : Option (List Meaning)) → read_extent image extent ≡ found
          → (found >>= λ records. take_records limits extent.block 0 records progress >>= λ next.
          given (is_last extents || nat_le least (pages_in records)) >>= λ _. load_extents limits least image extents next)
          ≡ None
      by_read None is = refl
      by_read (Some records) is = rw (none records is) refl

pub nothing_left : (limits : Limits) (least : ℕ) (image : ℕ → List ℕ) (extents : List Extent) (at : ℕ) (progress : Progress)
    → length extents ≤ at → load_extents limits least image (drop at extents) progress ≡ Some progress
unfolding load_extents
nothing_left limits least image [] zero progress h = refl
nothing_left limits least image [] (suc at) progress h = refl
nothing_left limits least image (extent ∷ extents) zero progress h = absurd (omega arith)
nothing_left limits least image (extent ∷ extents) (suc at) progress h =
    nothing_left limits least image extents at progress (omega arith)

-- the pages of the extent in front of the next place
pub used_here : (image : ℕ → List ℕ) (extents : List Extent) (at : ℕ) (extent : Extent) (records : List Meaning) (used : ℕ)
    → slice_get extents at ≡ Some extent → read_extent image extent ≡ Some records → used ≡ pages_in records
    → UsedBefore image extents (suc at) used
used_here image extents at extent records used there read is =
    subst (λ (o : Option Extent). IfSome o (λ (e : Extent). used ≡ pages_read (read_extent image e))) (sym there)
    (is ∙ ap pages_read (sym read))

-- the extent of the last link
last_there : (end : ℕ) (link : Link) (links : List Link) → slice_get (extents_from end link links) (length links) ≡ Some (extent_to end (last_of link links))
last_there end link [] = refl
last_there end link (next ∷ links) = last_there end next links

-- of all of them
pub used_last : (image : ℕ → List ℕ) (row : Row) (links : List Link) (used : ℕ)
    → UsedBefore image (extents_of row links) (length links) used → used ≡ used_in image row links
used_last image row [] used is = is
used_last image row (link ∷ links) used is =
    subst (λ (o : Option Extent). IfSome o (λ (e : Extent). used ≡ pages_read (read_extent image e)))
    (last_there (end_of row) link links) is
