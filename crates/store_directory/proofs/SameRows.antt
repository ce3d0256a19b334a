-- What the test of two directories says of some.
use Rattle.std.proofs.Common.{◌≡◌, true, false, [], ◌∷◌, Some, refl}
use Rattle.control_defs.specs.declared.instructions.StoreKind.TheVariants.{Bounded}
use Rattle.control_defs.specs.declared.patterns.Pattern.TheVariants.{App}
use Rattle.store_directory.specs.Directory.{Directory, Listed}
use Rattle.store_directory.specs.Format.{first_directory, first_row, first_store}
use Rattle.store_directory.specs.Same.{same_directory}

abbrev with_store : Listed → Directory
with_store s = record first_directory { stores = s ∷ [] }

itself : same_directory first_directory first_directory ≡ true
unfolding same_directory
itself = refl

later : same_directory first_directory (record first_directory { now = 1 }) ≡ false
unfolding same_directory
later = refl

forwarding : same_directory first_directory (record first_directory { forward = App 5 ∷ [] }) ≡ false
unfolding same_directory
forwarding = refl

no_store : same_directory first_directory (record first_directory { stores = [] }) ≡ false
unfolding same_directory
no_store = refl

bounded : same_directory first_directory (with_store (record first_store { row = record first_row { kind = Bounded } })) ≡ false
unfolding same_directory
bounded = refl

ranged : same_directory first_directory (with_store (record first_store { row = record first_row { range = Some (0, 1) } })) ≡ false
unfolding same_directory
ranged = refl

other_pattern : same_directory first_directory (with_store (record first_store { patterns = App 5 ∷ [] })) ≡ false
unfolding same_directory
other_pattern = refl

one_link : same_directory first_directory (with_store (record first_store { links = record { block = 7; first = 0 } ∷ [] })) ≡ false
unfolding same_directory
one_link = refl
