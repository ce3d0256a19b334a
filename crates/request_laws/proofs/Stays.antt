-- Stores that keep their records.
use Rattle.std.proofs.Common.{◌≡◌, ℕ, suc, ◌+◌, ◌&&◌, ◌||◌, Bool, false, nat_le, List, [], ◌∷◌, ◌++◌, length, None, refl, sym, ◌∙◌, ap, subst, arith}
use Rattle.std.specs.Prelude.{All}
use Rattle.std.specs.List.{list_all, list_any}
use Rattle.block_pool.specs.Sizes.{blocks_for_size}
use Rattle.image_table.specs.Table.{in_records}
use Rattle.record_view.specs.declared.link.Link.{Link}
use Rattle.store_directory.specs.Directory.{Directory, IsDirectory, IsListed, Listed, are_distinct, identifiers, reserved_by, with_stores}
use Rattle.store_directory.specs.declared.row.Row.{Row}
use Rattle.control_defs.specs.declared.instructions.StoreKind.TheVariants.{Circular}
use Rattle.store_load.specs.Claims.{all_links, are_apart, blocks_at, is_within, may_share, reserved_at}
use Rattle.store_load.specs.Frame.{in_store}
use Rattle.store_load.specs.InRange.{AreFilled, AreInLinks, AreInOrder, IsInRange}
use Rattle.store_load.specs.Kept.{begins_well, kept_of}
use Rattle.store_load.specs.Loaded.{index_of, used_in}
use Rattle.store_load.specs.Extents.{end_of}
use Rattle.store_load.specs.declared.rule.Rule.{Rule}
use Rattle.store_policy.specs.Shown.{AreAllTogether}
use Rattle.time_index.specs.TimeIndex.{TimeIndex}
use Rattle.request_laws.specs.Changing.{AllKeepRecords, BeginsWell, KeepsRecords}

-- The row of a first number, a count and a size: no more of a row is read for its records.
abbrev plain : (first count size : ℕ) → Row
plain first count size = record {
  identifier = 0;
  kind = Circular;
  size = size;
  channel = 0;
  storage = false;
  open_on = false;
  told = false;
  first = first;
  count = count;
  behind = 0;
  range = None;
}

abbrev plain_of : Row → Row
plain_of row = plain row.first row.count row.size

-- what is read by a row that says the same of records
same_plain : (old new : Listed) → KeepsRecords old new → plain_of new.row ≡ plain_of old.row
same_plain old new keeps = λ i. plain (keeps.first i) (keeps.count i) (keeps.size i)

module _ {X : Type 0} (read : Row → List Link → X) (plainly : (row : Row) (links : List Link) → read row links ≡ read (plain_of row) links) where
  same_read : (old new : Listed) → KeepsRecords old new → read new.row new.links ≡ read old.row old.links
  same_read old new keeps =
      plainly new.row new.links ∙ (λ i. read (same_plain old new keeps i) (keeps.links i)) ∙ sym (plainly old.row old.links)

pub begins_kept : (old new : Listed) → KeepsRecords old new → BeginsWell old → BeginsWell new
begins_kept old new keeps begins = same_read begins_well plainly old new keeps ∙ begins
  where
    plainly : (row : Row) (links : List Link) → begins_well row links ≡ begins_well (plain_of row) links
    plainly row [] = refl
    plainly row (link ∷ []) = refl
    plainly row (link ∷ next ∷ links) = refl

pub index_kept : (rule : Rule) (image : ℕ → List ℕ) (now : ℕ) (old new : Listed) → KeepsRecords old new
    → index_of rule image now new.row new.links ≡ index_of rule image now old.row old.links
unfolding index_of
index_kept rule image now = same_read (index_of rule image now) (plainly rule image now)
  where
    plainly : (rule : Rule) (image : ℕ → List ℕ) (now : ℕ) (row : Row) (links : List Link) → index_of rule image now row links ≡ index_of rule image now (plain_of row) links
    plainly rule image now row [] = refl
    plainly rule image now row (link ∷ []) = refl
    plainly rule image now row (link ∷ next ∷ links) = refl

pub kept_kept : (rule : Rule) (image : ℕ → List ℕ) (now : ℕ) (old new : Listed) → KeepsRecords old new
    → kept_of rule image now new.row new.links ≡ kept_of rule image now old.row old.links
unfolding kept_of
kept_kept rule image now = same_read (kept_of rule image now) (plainly rule image now)
  where
    plainly : (rule : Rule) (image : ℕ → List ℕ) (now : ℕ) (row : Row) (links : List Link) → kept_of rule image now row links ≡ kept_of rule image now (plain_of row) links
    plainly rule image now row [] = refl
    plainly rule image now row (link ∷ []) = refl
    plainly rule image now row (link ∷ next ∷ links) = refl

pub used_kept : (image : ℕ → List ℕ) (old new : Listed) → KeepsRecords old new → used_in image new.row new.links ≡ used_in image old.row old.links
used_kept image = same_read (used_in image) (plainly image)
  where
    plainly : (image : ℕ → List ℕ) (row : Row) (links : List Link) → used_in image row links ≡ used_in image (plain_of row) links
    plainly image row [] = refl
    plainly image row (link ∷ links) = refl

pages_kept : (image : ℕ → List ℕ) (p : ℕ) (old new : Listed) → KeepsRecords old new → in_store image p new.row new.links ≡ in_store image p old.row old.links
pages_kept image p = same_read (in_store image p) (plainly image p)
  where
    plainly : (image : ℕ → List ℕ) (p : ℕ) (row : Row) (links : List Link) → in_store image p row links ≡ in_store image p (plain_of row) links
    plainly image p row links = refl

pub range_kept : (rule : Rule) (now : ℕ) (old new : Listed) (index : TimeIndex) (used : ℕ) → KeepsRecords old new
    → IsInRange rule now old.row old.links index used → IsInRange rule now new.row new.links index used
range_kept rule now old new index used keeps range = record {
  begins = begins_kept old new keeps range.begins;
  first = range.first ∙ sym keeps.first;
  count = range.count ∙ sym keeps.count;
  size = range.size ∙ sym keeps.size;
  pages = omega (arith, range.pages, keeps.size);
  placed = range.placed;
  blocks = subst (λ (n : ℕ). AreInLinks n new.links index.entries) (sym keeps.first) (subst (λ (l : List Link). AreInLinks old.first l index.entries) (sym keeps.links) range.blocks);
  order =
      subst (AreInOrder (end_of new.row)) (sym keeps.links)
      (subst (λ (n : ℕ). AreInOrder n old.links) (sym (λ i. end_of (same_plain old new keeps i))) range.order);
  filled =
      subst (λ (n : ℕ). AreFilled rule.least n used new.links index.entries) (sym keeps.first)
      (subst (λ (l : List Link). AreFilled rule.least old.first used l index.entries) (sym keeps.links) range.filled);
  used_within = range.used_within;
}

-- Stores in their places.

pub length_kept : (old new : List Listed) → AllKeepRecords old new → length new ≡ length old
length_kept [] [] keeps = refl
length_kept (o ∷ old) (n ∷ new) keeps = ap suc (length_kept old new keeps.1)
length_kept _ _ keeps = absurd keeps

pub identifiers_kept : (old new : List Listed) → AllKeepRecords old new → identifiers new ≡ identifiers old
identifiers_kept [] [] keeps = refl
identifiers_kept (o ∷ old) (n ∷ new) keeps = λ i. keeps.0.identifier i ∷ identifiers_kept old new keeps.1 i
identifiers_kept _ _ keeps = absurd keeps

pub reserved_kept : (old new : List Listed) → AllKeepRecords old new → reserved_by new ≡ reserved_by old
reserved_kept [] [] keeps = refl
reserved_kept (o ∷ old) (n ∷ new) keeps = λ i. blocks_for_size (keeps.0.size i) + reserved_kept old new keeps.1 i
reserved_kept _ _ keeps = absurd keeps

pub links_kept : (old new : List Listed) → AllKeepRecords old new → all_links new ≡ all_links old
links_kept [] [] keeps = refl
links_kept (o ∷ old) (n ∷ new) keeps = λ i. keeps.0.links i ++ links_kept old new keeps.1 i
links_kept _ _ keeps = absurd keeps

pub share_kept : (least blocks : ℕ) (old new : List Listed) → AllKeepRecords old new → may_share least blocks new ≡ may_share least blocks old
share_kept least blocks old new keeps =
    λ i. nat_le (at_least old new keeps i + 8) blocks && within old new keeps i && are_apart blocks (links_kept old new keeps i)
  where
    at_least : (old new : List Listed) → AllKeepRecords old new → reserved_at least new ≡ reserved_at least old
    at_least [] [] keeps = refl
    at_least (o ∷ old) (n ∷ new) keeps = λ i. blocks_at least (keeps.0.size i) + at_least old new keeps.1 i
    at_least _ _ keeps = absurd keeps

    within : (old new : List Listed) → AllKeepRecords old new → list_all (is_within least) new ≡ list_all (is_within least) old
    within [] [] keeps = refl
    within (o ∷ old) (n ∷ new) keeps = λ i. nat_le (length (keeps.0.links i)) (blocks_at least (keeps.0.size i)) && within old new keeps.1 i
    within _ _ keeps = absurd keeps

pub together_kept : (old new : List Listed) (indexes : List TimeIndex) → AllKeepRecords old new → AreAllTogether old indexes → AreAllTogether new indexes
together_kept [] [] [] keeps together = tt
together_kept (o ∷ old) (n ∷ new) (index ∷ indexes) keeps together = (
  record {
    first = together.0.first ∙ sym keeps.0.first;
    count = together.0.count ∙ sym keeps.0.count;
    size = together.0.size ∙ sym keeps.0.size;
  },
  together_kept old new indexes keeps.1 together.1,
)
together_kept [] (n ∷ new) indexes keeps together = absurd keeps
together_kept (o ∷ old) [] indexes keeps together = absurd keeps
together_kept [] [] (index ∷ indexes) keeps together = absurd together
together_kept (o ∷ old) (n ∷ new) [] keeps together = absurd together

pub records_kept : (image : ℕ → List ℕ) (p : ℕ) (d next : Directory) → AllKeepRecords d.stores next.stores → in_records image p next ≡ in_records image p d
records_kept image p d next = by d.stores next.stores
  where
    here : Listed → Bool
    here s = in_store image p s.row s.links

    by : (old new : List Listed) → AllKeepRecords old new → list_any here new ≡ list_any here old
    by [] [] keeps = refl
    by (o ∷ old) (n ∷ new) keeps = λ i. pages_kept image p o n keeps.0 i || by old new keeps.1 i
    by _ _ keeps = absurd keeps

-- One behind another, and none.

pub kept_same : (stores : List Listed) → AllKeepRecords stores stores
kept_same [] = tt
kept_same (s ∷ stores) = (record { identifier = refl; size = refl; first = refl; count = refl; links = refl }, kept_same stores)

pub kept_on : (a b c : List Listed) → AllKeepRecords a b → AllKeepRecords b c → AllKeepRecords a c
kept_on [] [] [] first second = tt
kept_on (x ∷ a) (y ∷ b) (z ∷ c) first second = (
  record {
    identifier = second.0.identifier ∙ first.0.identifier;
    size = second.0.size ∙ first.0.size;
    first = second.0.first ∙ first.0.first;
    count = second.0.count ∙ first.0.count;
    links = second.0.links ∙ first.0.links;
  },
  kept_on a b c first.1 second.1,
)
kept_on [] (y ∷ b) c first second = absurd first
kept_on (x ∷ a) [] c first second = absurd first
kept_on [] [] (z ∷ c) first second = absurd second
kept_on (x ∷ a) (y ∷ b) [] first second = absurd second

-- a directory whose stores keep their records is kept, if each of them is
pub directory_kept : (d : Directory) (stores : List Listed) → IsDirectory d → AllKeepRecords d.stores stores → All IsListed stores → IsDirectory (with_stores d stores)
directory_kept d stores directory keeps each = record {
  now = directory.now;
  reports = directory.reports;
  forward = directory.forward;
  stores = record {
    few = omega (arith, length_kept d.stores stores keeps, directory.stores.few);
    reserved = omega (arith, reserved_kept d.stores stores keeps, directory.stores.reserved);
    distinct = ap are_distinct (identifiers_kept d.stores stores keeps) ∙ directory.stores.distinct;
    each = each;
  };
}
