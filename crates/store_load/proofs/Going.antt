-- The laws as they are stated.
use Rattle.std.proofs.Common.{◌≡◌, ℕ, zero, suc, ◌+◌, ◌≤◌, List, [], ◌∷◌, ◌++◌, length, drop, Some, refl, sym, ◌∙◌, ap, subst, arith, eqb-true}
use Rattle.std.proofs.lemmas.Bool.{eq-eqb, le-leb}
use Rattle.std.proofs.lemmas.List.{drop_all}
use Rattle.space_packet.specs.Charge.{charge_of}
use Rattle.record_view.specs.Records.{Meaning, record_at}
use Rattle.record_view.specs.declared.link.Link.{Link}
use Rattle.store_directory.specs.Directory.{swap_last, trimmed}
use Rattle.store_directory.specs.declared.row.Row.{Row}
use Rattle.chain_log.specs.Pages.{block_octets}
use Rattle.store_load.specs.Extents.{end_of, extent_to, last_of, last_read, pages_in, read_extent}
use Rattle.store_load.specs.Frame.{pages_read}
use Rattle.store_load.specs.Keeping.{Keeps}
use Rattle.store_load.specs.Kept.{begins_well, kept_of}
use Rattle.store_load.specs.Moving.{GoesOn, IsNext, last_extent, used_by}
use Rattle.store_load.specs.declared.rule.Rule.{Rule}
use Rattle.store_load.proofs.Blocks.{followed, swapped_behind}
use Rattle.store_load.proofs.Counting.{KeptAre, counts_records, kept_parts, parts_kept}
use Rattle.store_load.proofs.More.{last_spelled}
use Rattle.store_load.proofs.Moved.{one_more, some_left}

none_left : (n : ℕ) (none : List Meaning) → length none ≡ 0 → drop n none ≡ []
none_left n none is = drop_all n none (omega (arith, is))

-- a row without records keeps none
pub none_are : (rule : Rule) (image : ℕ → List ℕ) (later : ℕ) (next : Row) → next.count ≡ 0
    → (are : KeptAre rule image later next [] []) × (are.reads ≡ [])
none_are rule image later next none = (
  record {
    begins = eq-eqb next.count 0 none;
    reads = [];
    read = refl;
    live = none_left 0 [] refl;
    filled = refl;
    short = refl;
    rise = refl;
    fits = le-leb 0 next.size (omega arith);
  },
  refl,
)

none_kept : (rule : Rule) (image : ℕ → List ℕ) (later : ℕ) (next : Row) → next.count ≡ 0
    → kept_of rule image later next [] ≡ Some []
none_kept rule image later next none = parts_kept rule image later next [] [] (none_are rule image later next none).0

pub front_gone : (rule : Rule) (blocks : ℕ) (image : ℕ → List ℕ) (now later : ℕ) (row : Row)
    (links : List Link) (records : List Meaning) (gone : ℕ) (next : Row)
    → Keeps rule blocks image now row links records → now ≤ later → GoesOn gone 0 row next
    → pages_in (drop gone records) ≤ next.size
    → kept_of rule image later next (trimmed next.first next.count links) ≡ Some (drop gone records)
front_gone rule blocks image now later row links records gone next keeps le goes fits =
    by_count next.count refl links refl
  where
    many : length records ≡ row.count
    many = counts_records rule blocks image now row links records keeps

    by_count : (count : ℕ) → next.count ≡ count → (others : List Link) → links ≡ others
        → kept_of rule image later next (trimmed next.first next.count links) ≡ Some (drop gone records)
    by_count zero is others same =
        ap (λ (n : ℕ). kept_of rule image later next (trimmed next.first n links)) is
        ∙ none_kept rule image later next is
        ∙ ap Some (sym (drop_all gone records (omega (arith, many, is, goes.count, goes.few))))
    by_count (suc n) is [] same =
        let none : row.count ≡ 0 = eqb-true row.count 0 (sym (ap (begins_well row) same) ∙ (kept_parts rule image now row links records keeps.kept).begins) in
        absurd (omega (arith, none, is, goes.count, goes.few))
    by_count (suc n) is (link ∷ rest) same =
        some_left rule blocks image now later row links records keeps le gone goes.few next goes.first link rest same n is
        (omega (arith, goes.count))
        (le-leb (pages_in (drop gone records)) next.size fits)

-- what the last block uses
pub used_is : (rule : Rule) (blocks : ℕ) (image : ℕ → List ℕ) (now : ℕ) (row : Row) (link : Link) (links : List Link) (records : List Meaning)
    (keeps : Keeps rule blocks image now row (link ∷ links) records)
    → used_by image row link links ≡ pages_in (last_read (kept_parts rule image now row (link ∷ links) records keeps.kept).reads)
used_is rule blocks image now row link links records keeps =
    let old = kept_parts rule image now row (link ∷ links) records keeps.kept in
    ap pages_read (last_spelled image (end_of row) link links old.reads old.read)

pub appended : (rule : Rule) (blocks : ℕ) (image : ℕ → List ℕ) (now later : ℕ) (row : Row)
    (link : Link) (links : List Link) (records : List Meaning) (gone : ℕ) (next : Row) (meaning : Meaning)
    → Keeps rule blocks image now row (link ∷ links) records → now ≤ later → GoesOn gone 1 row next
    → record_at (block_octets image (last_of link links).block) (end_of row) (used_by image row link links) ≡ Some meaning
    → IsNext rule now later meaning
    → pages_in (drop gone records) + charge_of (length meaning.packet) ≤ next.size
    → kept_of rule image later next (trimmed next.first next.count (link ∷ links)) ≡ Some (drop gone records ++ meaning ∷ [])
appended rule blocks image now later row link links records gone next meaning keeps le goes spelled is fits =
    one_more rule blocks image now later row (link ∷ links) records keeps le gone goes.few next goes.first link links refl meaning
    (ap (record_at (block_octets image (last_of link links).block) (end_of row)) (sym (used_is rule blocks image now row link links records keeps)) ∙ spelled)
    is.since is.by is.short goes.count fits

pub block_followed : (rule : Rule) (blocks : ℕ) (image : ℕ → List ℕ) (now : ℕ) (row : Row) (link : Link) (links : List Link)
    (records : List Meaning) (new : Link) → Keeps rule blocks image now row (link ∷ links) records → new.first ≡ end_of row
    → rule.least ≤ used_by image row link links
    → kept_of rule image now row (link ∷ links ++ new ∷ []) ≡ Some records
block_followed rule blocks image now row link links records new keeps same filled =
    followed rule blocks image now row link links records keeps new same
    (subst (λ (n : ℕ). rule.least ≤ n) (used_is rule blocks image now row link links records keeps) filled)

pub block_swapped : (rule : Rule) (blocks : ℕ) (image : ℕ → List ℕ) (now : ℕ) (row : Row) (link next : Link) (links : List Link)
    (records : List Meaning) (new : Link) (swapped : List Link)
    → Keeps rule blocks image now row (link ∷ next ∷ links) records
    → swap_last new (link ∷ next ∷ links) ≡ Some swapped → new.first ≡ (last_of next links).first
    → read_extent image (extent_to (end_of row) new) ≡ read_extent image (last_extent row link (next ∷ links))
    → kept_of rule image now row swapped ≡ Some records
block_swapped rule blocks image now row link next links records new swapped keeps is same spelled =
    let old = kept_parts rule image now row (link ∷ next ∷ links) records keeps.kept in
    swapped_behind rule blocks image now row link next links records keeps new swapped is same
    (spelled ∙ last_spelled image (end_of row) link (next ∷ links) old.reads old.read)
