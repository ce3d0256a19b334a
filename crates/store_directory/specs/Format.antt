-- The directory that a format writes.
use Rattle.std.specs.Prelude.{true, false, [], ◌∷◌, None}
use Rattle.control_defs.specs.declared.instructions.StoreKind.TheVariants.{Circular}
use Rattle.control_defs.specs.declared.patterns.Pattern.TheVariants.{Every}
use Rattle.store_directory.specs.Directory.{Directory, Listed}
use Rattle.store_directory.specs.declared.row.Row.{Row}

abbrev pub first_row : Row
first_row = record {
  identifier = 1;
  kind = Circular;
  size = 64;
  channel = 1;
  storage = true;
  open_on = true;
  told = false;
  first = 0;
  count = 0;
  behind = 0;
  range = None;
}

-- one store, which takes every packet and holds none
abbrev pub first_store : Listed
first_store = record { row = first_row; patterns = Every ∷ []; links = [] }

abbrev pub first_directory : Directory
first_directory = record { now = 0; reports = 0; forward = []; stores = first_store ∷ [] }
