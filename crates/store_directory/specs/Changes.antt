-- Changes of a directory, and when they fit.
use Rattle.std.specs.Prelude.{ℕ, Bool, true, false, ◌&&◌, nat_le, nat_lt, List, [], ◌∷◌, ◌++◌, length, Option, Some, None}
use Rattle.std.specs.Option.{option_map}
use Rattle.block_pool.specs.Sizes.{blocks_for_size}
use Rattle.control_defs.specs.Lists.{is_standing, with_pattern, without_pattern}
use Rattle.control_defs.specs.declared.patterns.Pattern.{Pattern}
use Rattle.record_view.specs.declared.link.Link.{Link}
use Rattle.store_directory.specs.Directory.{Directory, Listed, find_store, put_store, reserved_by, swap_last, trimmed, with_stores, without_store}
use Rattle.store_directory.specs.Options.{◌>>=◌, given}
use Rattle.store_directory.specs.Rows.{is_lawful_row}
use Rattle.store_directory.specs.declared.row.Row.{Row}

pub data Change : Type 0 where
  Clock : (now reports : ℕ) → Change
  Put : Row → Change
  Gone : (store : ℕ) → Change
  -- a pattern is added, or else removed
  Forward : (add : Bool) → Pattern → Change
  Types : (store : ℕ) → (add : Bool) → Pattern → Change
  Links : (store : ℕ) → List Link → Change
  Swap : (store : ℕ) → Link → Change

-- a list with a pattern added or removed, where it may be
abbrev pub change_patterns : (add : Bool) → Pattern → List Pattern → Option (List Pattern)
change_patterns true pattern patterns = do
  _ ← given (nat_le (length (with_pattern pattern patterns)) 64)
  Some (with_pattern pattern patterns)
change_patterns false pattern patterns = do
  _ ← given (is_standing pattern patterns)
  Some (without_pattern pattern patterns)

abbrev pub patterns_of : Option Listed → List Pattern
patterns_of None = []
patterns_of (Some s) = s.patterns

abbrev pub links_of : Option Listed → List Link
links_of None = []
links_of (Some s) = s.links

-- The store that a row makes of the one that stood under its identifier: its patterns stay, and the
-- links that hold no record of the row any more go from the front. A new store has neither.
abbrev pub listed_by : Row → Option Listed → Listed
listed_by row old = record {
  row = row;
  patterns = patterns_of old;
  links = trimmed row.first row.count (links_of old);
}

-- whether these stores may stand with this one among them
abbrev pub may_stand : Listed → List Listed → Bool
may_stand new stores =
    is_lawful_row new.row && nat_le (length stores) 32 && nat_le (reserved_by stores) 504
    && nat_le (length new.links) (blocks_for_size new.size)

-- these stores, where this one may stand among them
abbrev pub allowed : Listed → List Listed → Option (List Listed)
allowed new stores = do
  _ ← given (may_stand new stores)
  Some stores

-- stores with a row put among them
abbrev pub put_row : Row → List Listed → Option (List Listed)
put_row row stores =
    let new = listed_by row (find_store row.identifier stores) in allowed new (put_store new stores)

-- stores without the one of an identifier
abbrev pub remove_store : (identifier : ℕ) → List Listed → Option (List Listed)
remove_store identifier stores = do
  _ ← find_store identifier stores
  Some (without_store identifier stores)

-- stores with a change of the one of an identifier
abbrev pub change_store : (identifier : ℕ) → (Listed → Option Listed) → List Listed → Option (List Listed)
change_store identifier change stores = do
  old ← find_store identifier stores
  new ← change old
  Some (put_store new stores)

-- a store with a pattern more or less
abbrev pub with_types : (add : Bool) → Pattern → Listed → Option Listed
with_types add pattern s = do
  patterns ← change_patterns add pattern s.patterns
  Some (record s { patterns = patterns })

-- a store with more links, as many as it reserves blocks at most
abbrev pub with_links : List Link → Listed → Option Listed
with_links links s = do
  _ ← given (nat_le 1 (length links) && nat_le (length (s.links ++ links)) (blocks_for_size s.size))
  Some (record s { links = s.links ++ links })

-- a store with another last link
abbrev pub with_last : Link → Listed → Option Listed
with_last link s = do
  links ← swap_last link s.links
  Some (record s { links = links })

-- the directory after a change, where it fits
unfoldable pub apply : Directory → Change → Option Directory
apply d (Clock now reports) = do
  _ ← given (nat_lt reports 16384)
  Some (record d { now = now; reports = reports })
apply d (Put row) = option_map (with_stores d) (put_row row d.stores)
apply d (Gone store) = option_map (with_stores d) (remove_store store d.stores)
apply d (Forward add pattern) = do
  forward ← change_patterns add pattern d.forward
  Some (record d { forward = forward })
apply d (Types store add pattern) =
    option_map (with_stores d) (change_store store (with_types add pattern) d.stores)
apply d (Links store links) = option_map (with_stores d) (change_store store (with_links links) d.stores)
apply d (Swap store link) = option_map (with_stores d) (change_store store (with_last link) d.stores)

-- the directory after changes, where each fits in its turn
abbrev pub apply_all : Directory → List Change → Option Directory
apply_all d [] = Some d
apply_all d (change ∷ changes) = do
  next ← apply d change
  apply_all next changes
