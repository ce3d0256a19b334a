-- What views of a text show: the lists that are read from it.
use Rattle.std.specs.Prelude.{ℕ, List, [], Option, Some, None, unwrap_or}
use Rattle.control_defs.specs.declared.patterns.Pattern.{Pattern}
use Rattle.record_view.specs.declared.link.Link.{Link}
use Rattle.store_directory.specs.Checkpoints.{patterns_in, stores_in}
use Rattle.store_directory.specs.Directory.{Listed}
use Rattle.store_directory.specs.declared.row.Row.{Row}

-- so many patterns from the front, where they are spelled
abbrev pub patterns_read : (count : ℕ) → List ℕ → List Pattern
patterns_read count text = unwrap_or (patterns_in count text) []

abbrev pub stores_of_read : Option (List Listed × List ℕ) → List Listed
stores_of_read None = []
stores_of_read (Some (stores, rest)) = stores

-- so many stores from the front, where they are spelled
abbrev pub stores_read : (count : ℕ) → List ℕ → List Listed
stores_read count text = stores_of_read (stores_in count text)

-- a store of these parts
abbrev pub listed_as : Row → List Pattern → List Link → Listed
listed_as row patterns links = record { row = row; patterns = patterns; links = links }
