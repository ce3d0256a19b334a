-- A store is read from the pages of its records alone.
use Rattle.std.proofs.Common.{◌≡◌, ℕ, ◌*◌, ◌<◌, ◌||◌, Bool, true, List, [], ◌∷◌, All, Option, Some, refl, sym, ◌∙◌, ap, ap₂}
use Rattle.std.specs.List.{list_any}
use Rattle.std.proofs.lemmas.List.Elements.{All-head, All-tail}
use Rattle.board.specs.Flash.{IsContent, pages_from}
use Rattle.record_view.specs.Records.{Meaning}
use Rattle.record_view.specs.declared.link.Link.{Link}
use Rattle.store_directory.specs.declared.row.Row.{Row}
use Rattle.store_load.specs.Each.{each}
use Rattle.store_load.specs.Extents.{Extent, end_of, extents_from, extents_of, read_extent}
use Rattle.store_load.specs.Frame.{in_extent, in_store, pages_read}
use Rattle.store_load.specs.Keeping.{IsInDevice}
use Rattle.store_load.specs.Kept.{kept_of}
use Rattle.store_load.specs.declared.rule.Rule.{Rule}
use Rattle.store_load.proofs.Counting.{KeptAre, kept_parts, parts_kept}
use Rattle.store_load.proofs.Eachs.{EachIs, all_of_any, each_both, each_cons, each_same}
use Rattle.store_load.proofs.Records.{extent_stays}

-- the blocks of extents are those of their links
pub extents_own : (blocks end : ℕ) (link : Link) (links : List Link) → All (IsInDevice blocks) (link ∷ links)
    → EachIs (λ (e : Extent). e.block < blocks) (extents_from end link links)
extents_own blocks end link [] own = ((All-head (IsInDevice blocks) link [] own), tt)
extents_own blocks end link (next ∷ links) own =
    ((All-head (IsInDevice blocks) link (next ∷ links) own), extents_own blocks end next links (All-tail (IsInDevice blocks) link (next ∷ links) own))

pub all_own : (blocks : ℕ) (row : Row) (links : List Link) → All (IsInDevice blocks) links
    → EachIs (λ (e : Extent). e.block < blocks) (extents_of row links)
all_own blocks row [] own = tt
all_own blocks row (link ∷ links) own = extents_own blocks (end_of row) link links own

-- an extent in a block of the device, whose pages are the same
abbrev Stays : (blocks : ℕ) → (image other : ℕ → List ℕ) → Extent → Type 0
Stays blocks image other extent =
    (extent.block < blocks) × ((p : ℕ) → in_extent image p extent ≡ true → other p ≡ image p)

pub any_same : {X : Type 0} (test other : X → Bool) (xs : List X) → EachIs (λ x. other x ≡ test x) xs → list_any other xs ≡ list_any test xs
any_same test other [] h = refl
any_same test other (x ∷ xs) h = ap₂ ◌||◌ h.0 (any_same test other xs h.1)

-- each element has an answer
pub answered : {A B : Type 0} (f : A → Option B) (xs : List A) (ys : List B) → each f xs ≡ Some ys → EachIs (λ x. (y : B) × (f x ≡ Some y)) xs
answered f [] ys h = tt
answered f (x ∷ xs) ys h = let (y, zs, fx, fxs, whole) = each_cons f x xs ys h in ((y, fx), answered f xs zs fxs)

module _ (blocks : ℕ) (image other : ℕ → List ℕ) (content : IsContent blocks image) (others : IsContent blocks other) where
  read_stays : (extent : Extent) (records : List Meaning) → Stays blocks image other extent
      → read_extent image extent ≡ Some records → read_extent other extent ≡ Some records
  read_stays extent records (within, same) is =
      extent_stays blocks image other content others extent records within is
      (λ p h. same p (ap (λ (o : Option (List Meaning)). pages_from (256 * extent.block) (pages_read o) p) is ∙ h))

  module _ (row : Row) (links : List Link) (own : All (IsInDevice blocks) links)
      (same : (p : ℕ) → in_store image p row links ≡ true → other p ≡ image p) where
    stay : EachIs (Stays blocks image other) (extents_of row links)
    stay = each_both (λ (e : Extent). e.block < blocks) (λ (e : Extent). (p : ℕ) → in_extent image p e ≡ true → other p ≡ image p)
        (Stays blocks image other) (λ e a b. (a, b)) (extents_of row links) (all_own blocks row links own)
        (all_of_any (in_extent image) (λ p. other p ≡ image p) (extents_of row links) same)

    -- a store keeps its records wherever their pages are the same
    pub stay_are : (rule : Rule) (now : ℕ) (records : List Meaning) (are : KeptAre rule image now row links records)
        → (stays : KeptAre rule other now row links records) × (stays.reads ≡ are.reads)
    stay_are rule now records are = (
      record {
        begins = are.begins;
        reads = are.reads;
        read = each_same (Stays blocks image other) (read_extent image) (read_extent other) read_stays (extents_of row links) are.reads stay are.read;
        live = are.live;
        filled = are.filled;
        short = are.short;
        rise = are.rise;
        fits = are.fits;
      },
      refl,
    )

    pub kept_stays : (rule : Rule) (now : ℕ) (records : List Meaning)
        → kept_of rule image now row links ≡ Some records → kept_of rule other now row links ≡ Some records
    kept_stays rule now records is =
        parts_kept rule other now row links records
        (stay_are rule now records (kept_parts rule image now row links records is)).0

    -- and then these pages are the same ones
    pub pages_stay : (rule : Rule) (now : ℕ) (records : List Meaning) (p : ℕ)
        → kept_of rule image now row links ≡ Some records → in_store other p row links ≡ in_store image p row links
    pages_stay rule now records p is =
        let are = kept_parts rule image now row links records is in
        any_same (in_extent image p) (in_extent other p) (extents_of row links)
        (each_both (Stays blocks image other) (λ e. (records : List Meaning) × (read_extent image e ≡ Some records)) (λ e. in_extent other p e ≡ in_extent image p e)
        (λ e near (records, is). ap (λ (o : Option (List Meaning)). pages_from (256 * e.block) (pages_read o) p) (read_stays e records near is ∙ sym is))
        (extents_of row links) stay (answered (read_extent image) (extents_of row links) are.reads are.read))
