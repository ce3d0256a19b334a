-- Whether two directories are the same, as a test that computes.
use Rattle.std.specs.Prelude.{ℕ, Bool, true, false, not, ◌&&◌, ◌==◌, Option, Some, None}
use Rattle.std.specs.Cmp.Lexicographic.{pointwise}
use Rattle.control_defs.specs.declared.instructions.StoreKind.{StoreKind}
use Rattle.control_defs.specs.declared.instructions.StoreKind.TheVariants.{Bounded, Circular}
use Rattle.control_defs.specs.declared.patterns.Pattern.{Pattern}
use Rattle.control_defs.specs.declared.patterns.Pattern.TheVariants.{App, Every, Kind, Service}
use Rattle.record_view.specs.declared.link.Link.{Link}
use Rattle.store_directory.specs.Directory.{Directory, Listed}
use Rattle.store_directory.specs.declared.row.Row.{Row}

abbrev pub same_flag : Bool → Bool → Bool
same_flag true other = other
same_flag false other = not other

abbrev pub same_kind : StoreKind → StoreKind → Bool
same_kind Circular Circular = true
same_kind Bounded Bounded = true
same_kind _ _ = false

abbrev pub same_range : Option (ℕ × ℕ) → Option (ℕ × ℕ) → Bool
same_range None None = true
same_range (Some range) (Some other) = range.0 == other.0 && range.1 == other.1
same_range _ _ = false

abbrev pub same_pattern : Pattern → Pattern → Bool
same_pattern Every Every = true
same_pattern (App apid) (App other) = apid == other
same_pattern (Service apid service) (Service other other_service) =
    apid == other && service == other_service
same_pattern (Kind apid service subtype) (Kind other other_service other_subtype) =
    apid == other && service == other_service && subtype == other_subtype
same_pattern _ _ = false

abbrev pub same_link : Link → Link → Bool
same_link link other = link.block == other.block && link.first == other.first

-- what a row says of its store
abbrev pub same_kept : Row → Row → Bool
same_kept row other =
    row.identifier == other.identifier && same_kind row.kind other.kind && row.size == other.size
    && row.channel == other.channel

-- the flags of a row
abbrev pub same_flags : Row → Row → Bool
same_flags row other =
    same_flag row.storage other.storage && same_flag row.open_on other.open_on
    && same_flag row.told other.told

-- which records a row says that its store has, and its positions among them
abbrev pub same_records : Row → Row → Bool
same_records row other =
    row.first == other.first && row.count == other.count && row.behind == other.behind
    && same_range row.range other.range

abbrev pub same_row : Row → Row → Bool
same_row row other = same_kept row other && same_flags row other && same_records row other

abbrev pub same_listed : Listed → Listed → Bool
same_listed s other =
    same_row s.row other.row && pointwise same_pattern s.patterns other.patterns
    && pointwise same_link s.links other.links

unfoldable pub same_directory : Directory → Directory → Bool
same_directory d other =
    d.now == other.now && d.reports == other.reports
    && pointwise same_pattern d.forward other.forward && pointwise same_listed d.stores other.stores
