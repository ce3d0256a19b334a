-- A directory: what is known of a table without its packets, and where these lie.
use Rattle.std.specs.Prelude.{◌≡◌, ◌<◌, ◌≤◌, ◌^◌, ℕ, zero, suc, ◌+◌, Bool, true, not, ◌&&◌, ◌==◌, if◌then◌else◌, List, [], ◌∷◌, length, nat_eq, position, Option, Some, None}
use Rattle.std.specs.List.{All}
use Rattle.block_pool.specs.Sizes.{blocks_for_size}
use Rattle.control_defs.specs.Lists.{IsPatternList}
use Rattle.control_defs.specs.declared.patterns.Pattern.{Pattern}
use Rattle.record_view.specs.declared.link.Link.{Link}
use Rattle.store_directory.specs.Options.{◌>>=◌}
use Rattle.store_directory.specs.Rows.{FitsRow, is_by, is_lawful_row}
use Rattle.store_directory.specs.declared.row.Row.{Row}

-- a store: its row, the patterns of what it stores, and the blocks of its records
pub record Listed : Type 0 where
  pub row : Row
  pub open row use *
  pub patterns : List Pattern
  pub links : List Link

pub record Directory : Type 0 where
  -- the last storage time that was given
  pub now : ℕ
  -- the reports made so far, modulo 16,384
  pub reports : ℕ
  -- the patterns of the packets that are forwarded
  pub forward : List Pattern
  -- in the order of creation
  pub stores : List Listed

-- the directory of no store
abbrev pub empty_directory : Directory
empty_directory = record { now = 0; reports = 0; forward = []; stores = [] }

abbrev pub with_stores : Directory → List Listed → Directory
with_stores d stores = record d { stores = stores }

-- the blocks that all stores reserve
abbrev pub reserved_by : List Listed → ℕ
reserved_by [] = 0
reserved_by (s ∷ stores) = blocks_for_size s.size + reserved_by stores

abbrev pub identifiers : List Listed → List ℕ
identifiers [] = []
identifiers (s ∷ stores) = s.identifier ∷ identifiers stores

-- the store of an identifier
abbrev pub find_store : (identifier : ℕ) → List Listed → Option Listed
find_store identifier [] = None
find_store identifier (s ∷ stores) =
    if identifier == s.identifier then Some s else find_store identifier stores

-- the place of the store of an identifier
abbrev pub place_of : (identifier : ℕ) → List Listed → Option ℕ
place_of identifier stores = position (nat_eq identifier) (identifiers stores)

-- a store in the place of the one of its identifier, and last where none stands
abbrev pub put_store : Listed → List Listed → List Listed
put_store new [] = new ∷ []
put_store new (s ∷ stores) =
    if new.identifier == s.identifier then new ∷ stores else s ∷ put_store new stores

-- without the store of an identifier; the others keep their order
abbrev pub without_store : (identifier : ℕ) → List Listed → List Listed
without_store identifier [] = []
without_store identifier (s ∷ stores) =
    if identifier == s.identifier then stores else s ∷ without_store identifier stores

-- The front link goes as long as there is a next one whose first record is at this one or before
-- it.
abbrev pub trim_front : (first : ℕ) → Link → List Link → List Link
trim_front first link [] = link ∷ []
trim_front first link (next ∷ links) =
    if is_by next.first first then trim_front first next links else link ∷ next ∷ links

-- the links that are left where these are the records of a store: none where it has no record
abbrev pub trimmed : (first count : ℕ) → List Link → List Link
trimmed first zero links = []
trimmed first (suc count) [] = []
trimmed first (suc count) (link ∷ links) = trim_front first link links

-- this one in the place of the last link
abbrev pub swap_last : Link → List Link → Option (List Link)
swap_last new [] = None
swap_last new (link ∷ []) = Some (new ∷ [])
swap_last new (link ∷ next ∷ links) = do
  swapped ← swap_last new (next ∷ links)
  Some (link ∷ swapped)

-- a number is none of these
abbrev pub is_new : ℕ → List ℕ → Bool
is_new number [] = true
is_new number (other ∷ others) = not (number == other) && is_new number others

abbrev pub are_distinct : List ℕ → Bool
are_distinct [] = true
are_distinct (number ∷ numbers) = is_new number numbers && are_distinct numbers

-- the numbers of a link fit their octets
abbrev pub FitsLink : Link → Type 0
FitsLink link = (link.block < 2 ^ 16) × (link.first < 2 ^ 32)

-- What is kept of each store.
pub record IsListed (s : Listed) : Type 0 where
  pub lawful : is_lawful_row s.row ≡ true
  pub fits : FitsRow s.row
  pub patterns : IsPatternList s.patterns
  -- no more blocks than it reserves
  pub links : length s.links ≤ blocks_for_size s.size
  pub fitting : All FitsLink s.links

-- What is kept of the stores. 504 blocks are those of the largest device without the eight that no
-- store may reserve.
pub record AreListed (stores : List Listed) : Type 0 where
  pub few : length stores ≤ 32
  pub reserved : reserved_by stores ≤ 504
  pub distinct : are_distinct (identifiers stores) ≡ true
  pub each : All IsListed stores

-- What is kept of a directory.
pub record IsDirectory (d : Directory) : Type 0 where
  pub now : d.now < 2 ^ 48
  pub reports : d.reports < 16384
  pub forward : IsPatternList d.forward
  pub stores : AreListed d.stores
