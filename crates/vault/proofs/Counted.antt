-- What a report makes of a directory and its table.
use Rattle.std.proofs.Common.{◌≡◌, ℕ, ◌<◌, List, Some, refl, sym, ◌∙◌, ap, subst, arith}
use Rattle.std.proofs.lemmas.Bool.{lt-ltb}
use Rattle.std.proofs.lemmas.Option.{same_Some}
use Rattle.board.specs.Flash.{Flash}
use Rattle.image_table.proofs.Frames.{table_loads}
use Rattle.image_table.proofs.Puts.{clock_goes}
use Rattle.image_table.specs.Table.{table_by}
use Rattle.pst_model.specs.Reports.{count_behind}
use Rattle.pst_model.specs.Table.{Table}
use Rattle.store_directory.specs.Changes.{Clock, apply}
use Rattle.store_directory.specs.Directory.{Directory}
use Rattle.vault.proofs.Entered.{here}
use Rattle.vault.proofs.SameRecords.{keep_same}
use Rattle.vault.specs.Changing.{Becomes, CanBeEntered, with_report}
use Rattle.vault.specs.Memory.{InMemory, IsSound}
use Rattle.vault.specs.Standing.{StandsFor}

-- the table after a change of the count alone
pub report_goes : (blocks : ℕ) (image : ℕ → List ℕ) (d next : Directory) (table : Table) → table_by blocks image d ≡ Some table
    → apply d (Clock d.now (count_behind d.reports 1)) ≡ Some next → table_by blocks image next ≡ Some (with_report table)
report_goes blocks image d next table held applied =
    let loads = table_loads blocks image d table held in
    let same_now : d.now ≡ table.now = ap (λ (t : Table). t.now) loads.whole in
    let same_count : d.reports ≡ table.reports = ap (λ (t : Table). t.reports) loads.whole in
    clock_goes blocks image d table d.now (count_behind d.reports 1) next held applied (omega arith)
    ∙ (λ i. Some (record table { now = same_now i; reports = count_behind (same_count i) 1 }))

-- a directory with one report more
abbrev pub counted : Directory → Directory
counted d = record d { reports = count_behind d.reports 1 }

clock_applied : (d : Directory) (now reports : ℕ) → reports < 16384 → apply d (Clock now reports) ≡ Some (record d { now = now; reports = reports })
unfolding apply
clock_applied d now reports few = rw (lt-ltb reports 16384 few) refl

pub count_applied : (d : Directory) → apply d (Clock d.now (count_behind d.reports 1)) ≡ Some (counted d)
count_applied d = clock_applied d d.now (count_behind d.reports 1) (omega arith)

-- the change of a report, by its numbers
module _ (d : Directory) (now reports : ℕ) (now_is : now ≡ d.now) (reports_is : reports ≡ count_behind d.reports 1) where
  change_is : Clock d.now (count_behind d.reports 1) ≡ Clock now reports
  change_is = λ i. Clock (sym now_is i) (sym reports_is i)

  -- it can be entered
  pub count_entered : CanBeEntered d (Clock now reports)
  count_entered =
      subst (CanBeEntered d) change_is (counted d, count_applied d, record { later = omega arith; stores = keep_same d.stores })

  -- and makes this directory
  pub count_is : (next : Directory) → apply d (Clock now reports) ≡ Some next → next ≡ counted d
  count_is next applied = sym (same_Some (counted d) next (sym (count_applied d) ∙ ap (apply d) change_is ∙ applied))

-- the table behind it is that with one report more
pub report_becomes : (vault : InMemory) (flash : Flash) (table : Table) (now reports : ℕ) → IsSound vault → StandsFor vault flash table
    → now ≡ vault.directory.now → reports ≡ count_behind vault.directory.reports 1 → Becomes vault (Clock now reports) flash (with_report table)
report_becomes vault flash table now reports sound stands now_is reports_is next applied =
    let d = vault.directory.directory in
    report_goes vault.blocks flash.content d next table (here vault flash table sound stands)
    (ap (apply d) (change_is d now reports now_is reports_is) ∙ applied)
