-- A walk begins with the clock.
use Rattle.std.proofs.Common.{◌≡◌, ℕ, ◌<◌, ◌≤◌, ◌^◌, List, [], ◌∷◌, Some, refl, arith}
use Rattle.std.proofs.lemmas.Bool.{lt-ltb}
use Rattle.std.proofs.lemmas.List.Elements.{All-cons, All-nil}
use Rattle.board.specs.Flash.{IsContent}
use Rattle.pst_model.specs.Table.{Stored, Table}
use Rattle.store_directory.specs.Changes.{Clock, apply}
use Rattle.store_directory.specs.Directory.{Directory, IsDirectory}
use Rattle.store_directory.specs.Entries.{FitsChange}
use Rattle.image_table.specs.Table.{table_by}
use Rattle.image_table.proofs.Puts.{clock_goes}
use Rattle.put_laws.specs.Walks.{HasOffered, clock_of, reports_behind}

pub clock_applies : (d : Directory) (now reports : ℕ) → reports < 16384 → apply d (Clock now reports) ≡ Some (record d { now = now; reports = reports })
unfolding apply
clock_applies d now reports low = rw (lt-ltb reports 16384 low) refl

pub counted_low : (stored : Stored) (table : Table) → reports_behind stored table < 16384
counted_low stored table = omega arith

pub begins : (blocks : ℕ) (image : ℕ → List ℕ) (d : Directory) (table : Table) (stored : Stored)
    → IsContent blocks image → IsDirectory d → table_by blocks image d ≡ Some table
    → d.now ≤ stored.time → stored.time < 2 ^ 48
    → (next : Directory) × (apply d (clock_of stored table) ≡ Some next)
    × HasOffered blocks image d table stored 0 (clock_of stored table ∷ []) next
begins blocks image d table stored pages directory loads le low =
    let reports = reports_behind stored table in
    let next : Directory = record d { now = stored.time; reports = reports } in
    let count = counted_low stored table in
    let applied = clock_applies d stored.time reports count in
    let kept : IsDirectory next = record { now = low; reports = count; forward = directory.forward; stores = directory.stores } in
    let change = clock_of stored table in (
      next,
      applied,
      record {
        pages = pages;
        made = rw applied refl;
        written = All-cons FitsChange change [] (low, omega (arith, count)) (All-nil FitsChange);
        short = omega arith;
        directory = kept;
        loads =
            clock_goes blocks image d table stored.time reports next loads applied le;
        left = refl;
      },
    )
