-- The directory, its table and the memory behind counted reports.
use Rattle.std.proofs.Common.{◌≡◌, ℕ, ◌<◌, nat_lt, List, length, Some, refl, sym, ◌∙◌, ap, subst, arith}
use Rattle.std.specs.Prelude.{⊤}
use Rattle.std.proofs.lemmas.Bool.{lt-ltb}
use Rattle.std.proofs.lemmas.Option.{same_Some}
use Rattle.pst_model.specs.Replies.{replied}
use Rattle.pst_model.specs.Reports.{Report, count_behind}
use Rattle.pst_model.specs.Table.{Table}
use Rattle.store_directory.specs.Changes.{Clock, apply}
use Rattle.store_directory.specs.Directory.{Directory}
use Rattle.store_load.proofs.Eachs.{given_then}
use Rattle.store_policy.specs.Shown.{AreAllTogether, IsTableShown}
use Rattle.store_policy.specs.declared.view.View.{View}
use Rattle.image_table.specs.Granting.{Renews, counted}
use Rattle.image_table.specs.Table.{table_by}
use Rattle.image_table.proofs.Frames.{table_loads}
use Rattle.image_table.proofs.Showing.{together_of, view_of}
use Rattle.image_table.proofs.Puts.{clock_goes}

-- a directory with another time and another count
abbrev at_clock : (now reports : ℕ) → Directory → Directory
at_clock now reports d = record d { now = now; reports = reports }

clock_applied : (d : Directory) (now reports : ℕ) → reports < 16384 → apply d (Clock now reports) ≡ Some (at_clock now reports d)
unfolding apply
clock_applied d now reports few = rw (lt-ltb reports 16384 few) refl

pub clock_fits : (d : Directory) (now reports : ℕ) → reports < 16384 → (next : Directory) × (apply d (Clock now reports) ≡ Some next)
clock_fits d now reports few = (at_clock now reports d, clock_applied d now reports few)

pub count_fits : (d : Directory) (reports : ℕ) → (next : Directory) × (apply d (counted reports d) ≡ Some next)
count_fits d reports = clock_fits d d.now (count_behind d.reports reports) (omega arith)

pub count_goes : (blocks : ℕ) (image : ℕ → List ℕ) (d next : Directory) (table : Table) (number moment : ℕ) (reports : List Report)
    → table_by blocks image d ≡ Some table → apply d (counted (length reports) d) ≡ Some next
    → table_by blocks image next ≡ Some (replied number moment table reports).table
count_goes blocks image d next table number moment reports held applied =
    let loads = table_loads blocks image d table held in
    let same_now : d.now ≡ table.now = ap (λ (t : Table). t.now) loads.whole in
    let same_count : d.reports ≡ table.reports = ap (λ (t : Table). t.reports) loads.whole in
    clock_goes blocks image d table d.now (count_behind d.reports (length reports)) next held applied (omega arith)
    ∙ (λ i. Some (record table { now = same_now i; reports = count_behind (same_count i) (length reports) }))

module _ (view after : View) (now reports : ℕ) (renews : Renews (Clock now reports) view after) where
  next_is : at_clock now reports view.directory.now.directory ≡ after.directory.now.directory
  unfolding apply
  next_is =
      let d = view.directory.now.directory in
      same_Some (at_clock now reports d) after.directory.now.directory
      (given_then (nat_lt reports 16384) (λ (_ : ⊤). Some (at_clock now reports d)) after.directory.now.directory renews.applied).1

  pub clock_shown : (table : Table) → IsTableShown table view → IsTableShown (record table { now = now; reports = reports }) after
  clock_shown table shown =
      view_of view after (Clock now reports) renews (at_clock now reports view.directory.now.directory) next_is table (record table { now = now; reports = reports }) shown
      refl refl shown.forward shown.stores

  pub clock_together : AreAllTogether view.directory.now.stores view.indexes.now → AreAllTogether after.directory.now.stores after.indexes.now
  clock_together = together_of view after (Clock now reports) renews (at_clock now reports view.directory.now.directory) next_is

pub count_shown : (view after : View) (table : Table) (number moment : ℕ) (reports : List Report)
    → Renews (counted (length reports) view.directory.now.directory) view after → IsTableShown table view
    → IsTableShown (replied number moment table reports).table after
count_shown view after table number moment reports renews shown =
    let d = view.directory.now.directory in
    subst (λ (t : Table). IsTableShown t after)
    (λ i. record table { now = sym shown.now i; reports = count_behind (sym shown.reports i) (length reports) })
    (clock_shown view after d.now (count_behind d.reports (length reports)) renews table shown)
