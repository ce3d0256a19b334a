-- What a look-up of a store in memory says of each table that is shown.
use Rattle.std.specs.Prelude.{◌≡◌, ℕ, IsSomeAnd, find, List, None, slice_get}
use Rattle.control_defs.specs.declared.patterns.Pattern.{Pattern}
use Rattle.pst_model.specs.Changes.{is_named}
use Rattle.pst_model.specs.Table.{Store, Table}
use Rattle.store_directory.specs.declared.row.Row.{Row}
use Rattle.store_policy.specs.Shown.{IsShown, IsStoreShown, IsTableShown}
use Rattle.store_policy.specs.declared.refusal.Refusal.{Refusal}
use Rattle.store_policy.specs.declared.refusal.Refusal.TheVariants.{UnknownStore}
use Rattle.store_policy.specs.declared.view.View.{View}
use Rattle.time_index.specs.TimeIndex.{TimeIndex}

-- a store is shown by what lies at a place
abbrev pub IsShownAt : View → (at : ℕ) → Store → Type 0
IsShownAt view at store =
    IsSomeAnd (slice_get view.directory.now.stores at) (λ listed.
    IsSomeAnd (slice_get view.indexes.now at) (λ index. IsStoreShown store listed index))

-- The store of an identifier lies at a place.
pub record IsAt (view : View) (identifier at : ℕ) : Type 0 where
  pub found : (table : Table) → IsTableShown table view
      → IsSomeAnd (find (is_named identifier) table.stores) (IsShownAt view at)

-- a store is shown by a row and some index
abbrev pub IsShownBy : Row → Store → Type 0
IsShownBy row store = (index : TimeIndex) × IsShown store row index

-- The store of an identifier has this row.
pub record IsRowOf (view : View) (identifier : ℕ) (row : Row) : Type 0 where
  pub found : (table : Table) → IsTableShown table view
      → IsSomeAnd (find (is_named identifier) table.stores) (IsShownBy row)

-- The store of an identifier has this row and this index.
pub record IsPairOf (view : View) (identifier : ℕ) (row : Row) (index : TimeIndex) : Type 0 where
  pub found : (table : Table) → IsTableShown table view
      → IsSomeAnd (find (is_named identifier) table.stores) (λ store. IsShown store row index)

-- The store of an identifier takes what these patterns cover.
pub record TakesPatterns (view : View) (identifier : ℕ) (patterns : List Pattern) : Type 0 where
  pub found : (table : Table) → IsTableShown table view
      → IsSomeAnd (find (is_named identifier) table.stores) (λ store. store.patterns ≡ patterns)

-- No store has this identifier, and the refusal says so.
pub record IsUnknown (view : View) (identifier : ℕ) (told : Refusal) : Type 0 where
  pub refusal : told ≡ UnknownStore
  pub absent : (table : Table) → IsTableShown table view
      → find (is_named identifier) table.stores ≡ None
