-- When a directory can be written.
use Rattle.std.specs.Prelude.{◌<◌, ◌≤◌, ◌^◌, List, length}
use Rattle.std.specs.List.{All}
use Rattle.control_defs.specs.Patterns.{IsPattern}
use Rattle.control_defs.specs.declared.patterns.Pattern.{Pattern}
use Rattle.store_directory.specs.Directory.{Directory, Listed, FitsLink}
use Rattle.store_directory.specs.Rows.{FitsRow}

-- patterns, few enough to be counted in one octet
pub record FitPatterns (patterns : List Pattern) : Type 0 where
  pub few : length patterns ≤ 255
  pub each : All IsPattern patterns

pub record FitsListed (s : Listed) : Type 0 where
  pub row : FitsRow s.row
  pub patterns : FitPatterns s.patterns
  -- few enough to be counted in two octets
  pub few : length s.links < 2 ^ 16
  pub links : All FitsLink s.links

pub record FitsDirectory (d : Directory) : Type 0 where
  pub now : d.now < 2 ^ 48
  pub reports : d.reports < 2 ^ 16
  pub forward : FitPatterns d.forward
  pub few : length d.stores ≤ 255
  pub stores : All FitsListed d.stores
