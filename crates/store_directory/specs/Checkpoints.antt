-- A directory as the text of a checkpoint, with the erase counts of the device's blocks.
use Rattle.std.specs.Prelude.{ℕ, zero, suc, ◌*◌, Bool, ◌&&◌, ◌==◌, nat_le, nat_lt, List, [], ◌∷◌, ◌++◌, length, drop, Option, Some, None}
use Rattle.std.specs.List.{flat_map, list_all}
use Rattle.octet_fields.specs.Fields.{big_bytes, field}
use Rattle.block_pool.specs.Sizes.{blocks_for_size}
use Rattle.control_defs.specs.Lists.{is_pattern_list}
use Rattle.control_defs.specs.PatternOctets.{pattern_octets, spelled_pattern}
use Rattle.control_defs.specs.declared.patterns.Pattern.{Pattern}
use Rattle.record_view.specs.declared.link.Link.{Link}
use Rattle.store_directory.specs.Changes.{Links, Put, apply}
use Rattle.store_directory.specs.Directory.{Directory, Listed, are_distinct, identifiers, reserved_by}
use Rattle.store_directory.specs.Entries.{links_in, links_octets}
use Rattle.store_directory.specs.Options.{◌>>=◌, given}
use Rattle.store_directory.specs.Rows.{is_lawful_row, row_in, row_octets}

abbrev pub patterns_octets : List Pattern → List ℕ
patterns_octets patterns = flat_map pattern_octets patterns

-- a store: its row (29), the number of its patterns (1) and these (5 each), the number of its links
-- (2) and these (6 each)
abbrev pub listed_octets : Listed → List ℕ
listed_octets s =
    row_octets s.row ++ length s.patterns ∷ patterns_octets s.patterns
    ++ big_bytes 2 (length s.links) ++ links_octets s.links

abbrev pub stores_octets : List Listed → List ℕ
stores_octets stores = flat_map listed_octets stores

abbrev pub counts_octets : List ℕ → List ℕ
counts_octets counts = flat_map (big_bytes 4) counts

-- A checkpoint: now (6), reports (2), the number of the forward patterns (1) and these (5 each), the
-- number of stores (1) and these, and the erase count of each block (4).
unfoldable pub checkpoint_octets : Directory → (wear : List ℕ) → List ℕ
checkpoint_octets d wear =
    big_bytes 6 d.now ++ big_bytes 2 d.reports ++ length d.forward ∷ patterns_octets d.forward
    ++ length d.stores ∷ stores_octets d.stores ++ counts_octets wear

-- an octet at the front, and what is behind it
abbrev pub octet_of : List ℕ → Option (ℕ × List ℕ)
octet_of [] = None
octet_of (octet ∷ text) = Some (octet, text)

-- a number in so many octets at the front, and what is behind them
abbrev pub number_of : (width : ℕ) → List ℕ → Option (ℕ × List ℕ)
number_of width text = do
  _ ← given (nat_le width (length text))
  Some (field width 0 text, drop width text)

-- so many patterns from the front
abbrev pub patterns_in : (count : ℕ) → List ℕ → Option (List Pattern)
patterns_in zero text = Some []
patterns_in (suc count) text = do
  pattern ← spelled_pattern text
  patterns ← patterns_in count (drop 5 text)
  Some (pattern ∷ patterns)

-- a list of patterns with its number in front, and what is behind it
abbrev pub pattern_list_in : List ℕ → Option (List Pattern × List ℕ)
pattern_list_in text = do
  (count, text) ← octet_of text
  patterns ← patterns_in count text
  Some (patterns, drop (5 * count) text)

-- a list of links with its number in front, and what is behind it
abbrev pub link_list_in : List ℕ → Option (List Link × List ℕ)
link_list_in text = do
  (count, text) ← number_of 2 text
  _ ← given (nat_le (6 * count) (length text))
  Some (links_in count text, drop (6 * count) text)

-- a store, and what is behind it
abbrev pub listed_in : List ℕ → Option (Listed × List ℕ)
listed_in text = do
  row ← row_in text
  (patterns, text) ← pattern_list_in (drop 29 text)
  (links, text) ← link_list_in text
  Some (record { row = row; patterns = patterns; links = links }, text)

-- so many stores, and what is behind them
abbrev pub stores_in : (count : ℕ) → List ℕ → Option (List Listed × List ℕ)
stores_in zero text = Some ([], text)
stores_in (suc count) text = do
  (s, text) ← listed_in text
  (stores, text) ← stores_in count text
  Some (s ∷ stores, text)

-- so many counts from the front
abbrev pub counts_in : (count : ℕ) → List ℕ → List ℕ
counts_in zero text = []
counts_in (suc count) text = field 4 0 text ∷ counts_in count (drop 4 text)

-- a directory with erase counts
pub record Checkpoint : Type 0 where
  pub directory : Directory
  pub wear : List ℕ

abbrev pub whole : (now reports : ℕ) → List Pattern → List Listed → (wear : List ℕ) → Checkpoint
whole now reports forward stores wear = record {
  directory = record { now = now; reports = reports; forward = forward; stores = stores };
  wear = wear;
}

-- what a text spells on a device of so many blocks, lawful or not
unfoldable pub checkpoint_in : (blocks : ℕ) → List ℕ → Option Checkpoint
checkpoint_in blocks text = do
  (now, text) ← number_of 6 text
  (reports, text) ← number_of 2 text
  (forward, text) ← pattern_list_in text
  (count, text) ← octet_of text
  (stores, text) ← stores_in count text
  _ ← given (length text == 4 * blocks)
  Some (whole now reports forward stores (counts_in blocks text))

-- whether a store may stand: its row and its patterns are lawful, and it has no more blocks than it
-- reserves
abbrev pub is_lawful_listed : Listed → Bool
is_lawful_listed s =
    is_lawful_row s.row && is_pattern_list s.patterns
    && nat_le (length s.links) (blocks_for_size s.size)

-- whether stores may stand together
abbrev pub are_lawful : List Listed → Bool
are_lawful stores =
    list_all is_lawful_listed stores && are_distinct (identifiers stores)
    && nat_le (length stores) 32 && nat_le (reserved_by stores) 504

-- Whether a directory that a text spells may stand. Where its identifiers differ and its lists of
-- patterns are lawful, this is so if and only if in turn each row fits as a Put, and its links as Links.
unfoldable pub is_lawful : Directory → Bool
is_lawful d = nat_lt d.reports 16384 && is_pattern_list d.forward && are_lawful d.stores

-- the lawful checkpoint that a text spells
unfoldable pub read_checkpoint : (blocks : ℕ) → List ℕ → Option Checkpoint
read_checkpoint blocks text = do
  checkpoint ← checkpoint_in blocks text
  _ ← given (is_lawful checkpoint.directory)
  Some checkpoint

-- the links of a store, where it has any
abbrev pub apply_links : Directory → (store : ℕ) → List Link → Option Directory
apply_links d store [] = Some d
apply_links d store (link ∷ links) = apply d (Links store (link ∷ links))

-- stores without their patterns
abbrev pub bare : Listed → Listed
bare s = record s { patterns = [] }

-- Stores one after another: a row fits as a Put, and its links as Links.
abbrev pub apply_stores : Directory → List Listed → Option Directory
apply_stores d [] = Some d
apply_stores d (s ∷ stores) = do
  put ← apply d (Put s.row)
  linked ← apply_links put s.identifier s.links
  apply_stores linked stores
