-- One change of a directory with its table and its indexes, and what they are behind it.
use Rattle.std.proofs.Common.{◌≡◌, ℕ, ◌≤◌, true, List, [], ◌∷◌, length, map, Some, sym, ◌∙◌, subst}
use Rattle.board.specs.Flash.{IsContent}
use Rattle.image_table.specs.Table.{table_by}
use Rattle.pst_model.specs.Table.{Store, Stored, Table}
use Rattle.store_directory.specs.Changes.{Change, apply}
use Rattle.store_directory.specs.Directory.{Directory, IsDirectory}
use Rattle.store_directory.specs.Entries.{CanBeWritten, FitsChange, change_octets}
use Rattle.store_directory.specs.Kept.{IsChange}
use Rattle.store_directory.proofs.Lawful.{lawful-from_kept}
use Rattle.store_load.specs.Claims.{may_share}
use Rattle.store_policy.specs.Shown.{AreAllIndexed, AreIndexed}
use Rattle.time_index.specs.TimeIndex.{TimeIndex}
use Rattle.request_laws.specs.Changing.{AllKeepRecords, HasIndexes, IsTableOf}
use Rattle.request_laws.proofs.Applying.{Makes}
use Rattle.request_laws.proofs.Finding.{packets_of}
use Rattle.request_laws.proofs.Holding.{first_same, held_by, rest_same}
use Rattle.request_laws.proofs.Stays.{share_kept, together_kept}

-- A change that was made of a directory, and the table that belongs to it then, with these indexes. The
-- stores took this step.
pub record Moves (blocks : ℕ) (before : Directory) (table made : Table) (steps : Directory → Type 0) (change : Change) (indexes : List TimeIndex) : Type 0 where
  pub next : Directory
  pub applied : apply before change ≡ Some next
  pub fits : FitsChange change
  pub can_be_written : CanBeWritten change
  pub in_range : IsChange change
  pub short : length (change_octets change) ≤ 30
  pub directory : IsDirectory next
  pub share : may_share 240 blocks next.stores ≡ true
  pub step : steps next
  pub is_of : IsTableOf made next
  pub now : next.now ≡ before.now
  pub reports : next.reports ≡ before.reports
  pub has : HasIndexes made next indexes
  pub held : (image : ℕ → List ℕ) → IsContent blocks image → table_by blocks image before ≡ Some table
      → table_by blocks image next ≡ Some made

-- stores with the same packets have the same indexes
indexed_same : (stores others : List Store) (indexes : List TimeIndex) → map packets_of others ≡ map packets_of stores → AreAllIndexed stores indexes → AreAllIndexed others indexes
indexed_same [] [] indexes same all = all
indexed_same [] (y ∷ others) indexes same all = absurd cc
indexed_same (x ∷ stores) [] indexes same all = absurd cc
indexed_same (x ∷ stores) (y ∷ others) [] same all = absurd all
indexed_same (x ∷ stores) (y ∷ others) (index ∷ indexes) same all = (
  subst (λ (packets : List Stored). AreIndexed packets index.entries) (sym (first_same same)) all.0,
  indexed_same stores others indexes (rest_same same) all.1,
)

-- one by which each store keeps its records and its packets
pub stays : (blocks : ℕ) (before : Directory) (table made : Table) (change : Change) (indexes : List TimeIndex) → may_share 240 blocks before.stores ≡ true → HasIndexes table before indexes
    → Makes before table made change → Moves blocks before table made (λ (next : Directory). AllKeepRecords before.stores next.stores) change indexes
stays blocks before table made change indexes share has makes = record {
  next = makes.next;
  applied = makes.applied;
  fits = makes.fits;
  can_be_written = makes.can_be_written;
  in_range = makes.in_range;
  short = makes.short;
  directory = makes.directory;
  share = share_kept 240 blocks before.stores makes.next.stores makes.records ∙ share;
  step = makes.records;
  is_of = makes.is_of;
  now = makes.now;
  reports = makes.reports;
  has = record {
    packets = indexed_same table.stores made.stores indexes makes.packets has.packets;
    together = together_kept before.stores makes.next.stores indexes makes.records has.together;
  };
  held = λ image pages held.
      held_by blocks image before makes.next table made held makes.is_of makes.now makes.records makes.packets (lawful-from_kept makes.next makes.directory);
}
