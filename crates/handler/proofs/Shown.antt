-- What a vault shows.
use Rattle.std.proofs.Common.{◌≡◌, ◌<◌, ◌^◌, ℕ, List, [], ◌∷◌, refl, sym, ◌∙◌, ap, subst, arith}
use Rattle.std.proofs.lemmas.List.Elements.{All-cons, All-nil, All-weaker}
use Rattle.std.specs.Prelude.{All}
use Rattle.board.specs.Flash.{Flash}
use Rattle.image_table.specs.Table.{table_rule}
use Rattle.pst_model.specs.Table.{Table}
use Rattle.report_lines.specs.Times.{AllHaveTimes, HaveTimes}
use Rattle.request_laws.proofs.Tables.{one_shown}
use Rattle.store_directory.specs.Directory.{Listed}
use Rattle.store_directory.specs.Kept.{Kept}
use Rattle.store_load.specs.InRange.{IsPlaced}
use Rattle.store_policy.specs.Shown.{AreShown, IsTableShown}
use Rattle.store_policy.specs.declared.view.View.{View}
use Rattle.time_index.specs.TimeIndex.{TimeIndex}
use Rattle.time_index.specs.declared.entry.Entry.{Entry}
use Rattle.vault.proofs.Keeping.{all_together}
use Rattle.vault.specs.Memory.{EachStore, InMemory, IsSound, IsSoundStore, IsViewOf}
use Rattle.vault.specs.Standing.{StandsFor}
use Rattle.vault.specs.declared.last_block.LastBlock.{LastBlock}
use Rattle.handler.specs.Carrying.{IsShownBy}

abbrev pub view_of : InMemory → View
view_of vault = record {
  directory = record { ref_ptr = (0, 0); now = vault.directory };
  indexes = record { ref_ptr = (0, 0); now = vault.indexes };
  blocks = vault.blocks;
}

pub is_view : (vault : InMemory) → IsViewOf (view_of vault) vault
is_view vault = record { directory = refl; indexes = refl; blocks = refl }

-- the table for which a vault stands counts the reports that its directory counts
pub reports_of : (vault : InMemory) (flash : Flash) (table : Table) → StandsFor vault flash table → table.reports ≡ vault.directory.reports
reports_of vault flash table stands =
    (stands.shows (view_of vault) (is_view vault)).reports

shown_too : (vault : InMemory) (table : Table) (view : View) → IsViewOf view vault → IsTableShown table (view_of vault) → IsTableShown table view
shown_too vault table view is shown = record {
  now = shown.now ∙ sym (ap (λ (d : Kept). d.now) is.directory);
  reports = shown.reports ∙ sym (ap (λ (d : Kept). d.reports) is.directory);
  forward = shown.forward ∙ sym (ap (λ (d : Kept). d.forward) is.directory);
  stores = subst (λ (l : List TimeIndex). AreShown table.stores view.directory.now.stores l) (sym is.indexes)
      (subst (λ (d : Kept). AreShown table.stores d.stores vault.indexes) (sym is.directory) shown.stores);
}

-- a vault shows one table at least, whatever the flash holds
pub some_shown : (vault : InMemory) → IsSound vault → (table : Table) × IsShownBy vault table
some_shown vault sound =
    let (table, shown) = one_shown (view_of vault) (all_together vault.directory.now vault.directory.stores vault.indexes vault.lasts sound.stores) in
    (table, λ view is. shown_too vault table view is shown)

-- the times of its packets have six octets

timed_entries : (now : ℕ) (entries : List Entry) → now < 2 ^ 48 → All (IsPlaced table_rule now) entries → HaveTimes entries
timed_entries now entries below placed =
    All-weaker (IsPlaced table_rule now) (λ (entry : Entry). entry.stamp < 2 ^ 48) (λ entry is. omega (arith, is.stamp, below)) entries placed

timed_each : (now : ℕ) (stores : List Listed) (indexes : List TimeIndex) (lasts : List LastBlock) → now < 2 ^ 48
    → EachStore (IsSoundStore now) stores indexes lasts → AllHaveTimes indexes
timed_each now [] [] [] below each = All-nil (λ (index : TimeIndex). HaveTimes index.entries)
timed_each now [] [] (l ∷ lasts) below each = absurd each
timed_each now [] (i ∷ indexes) lasts below each = absurd each
timed_each now (s ∷ stores) [] lasts below each = absurd each
timed_each now (s ∷ stores) (i ∷ indexes) [] below each = absurd each
timed_each now (s ∷ stores) (i ∷ indexes) (l ∷ lasts) below each =
    All-cons (λ (index : TimeIndex). HaveTimes index.entries) i indexes (timed_entries now i.entries below each.0.in_place.in_range.placed)
    (timed_each now stores indexes lasts below each.1)

pub all_timed : (vault : InMemory) → IsSound vault → AllHaveTimes vault.indexes
all_timed vault sound =
    timed_each vault.directory.now vault.directory.stores vault.indexes vault.lasts sound.kept.now sound.stores
