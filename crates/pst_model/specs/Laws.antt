-- What holds of each store of a table, and of reports.
use Rattle.std.specs.Prelude.{◌≡◌, ◌≤◌, ◌<◌, ◌+◌, ◌≢◌, ◌==◌, ⊤, ℕ, Bool, true, false, not, All, AllPairs, count_by, filter, find, List, [], ◌∷◌, ◌++◌, length, map, Option, Some, None}
use Rattle.std.specs.List.Sorted.{IsNonDecreasingBy}
use Rattle.pst_model.specs.Changes.{is_named}
use Rattle.pst_model.specs.Ranges.{window_of}
use Rattle.pst_model.specs.Rules.{Output, OutputKind, Forwarded, Reply, Retrieved}
use Rattle.pst_model.specs.Stores.{reserved_by}
use Rattle.pst_model.specs.Table.{Store, Stored, Table, content_of}

-- open retrieval has passed no more packets than there are
abbrev pub IsWithin : Store → Type 0
IsWithin store = store.behind ≤ length store.packets

-- a range has a position, and ends within so many packets
abbrev pub IsRangeIn : (count : ℕ) → Option (ℕ × ℕ) → Type 0
IsRangeIn count None = ⊤
IsRangeIn count (Some (next, end)) = (next < end) × (end ≤ count)

abbrev pub IsRanged : Store → Type 0
IsRanged store = IsRangeIn (length store.packets) store.range

-- its packets take no more pages than it has
abbrev pub IsFilled : Store → Type 0
IsFilled store = content_of store ≤ store.size

-- its size and its channel are such as a store is created with
pub record IsConfigured (store : Store) : Type 0 where
  pub size : (1 ≤ store.size) × (store.size ≤ 100000)
  pub channel : (1 ≤ store.channel) × (store.channel ≤ 7)

abbrev pub time_of : Stored → ℕ
time_of stored = stored.time

-- The times of packets never fall from one to the next, and none is above the last storage time.
pub record AreTimed (now : ℕ) (packets : List Stored) : Type 0 where
  pub order : IsNonDecreasingBy time_of packets
  pub latest : All (λ (stored : Stored). stored.time ≤ now) packets

abbrev pub IsTimed : (now : ℕ) → Store → Type 0
IsTimed now store = AreTimed now store.packets

-- the identifiers of stores, in their order
abbrev pub identifiers : List Store → List ℕ
identifiers stores = map (λ (store : Store). store.identifier) stores

-- no two of them are the same
abbrev pub AreDistinct : List ℕ → Type 0
AreDistinct numbers = AllPairs (λ a b. a ≢ b) numbers

-- Identifiers in their order, some of which went, one after the other, and behind which others came,
-- each as the last one and not among those there.
pub data InOrder (before : List ℕ) : List ℕ → Type 0 where
  Same : InOrder before before
  OneLast : (after : List ℕ) (identifier : ℕ) → InOrder before after
      → All (λ other. other ≢ identifier) after
      → InOrder before (after ++ identifier ∷ [])
  Without : (after : List ℕ) (identifier : ℕ) → InOrder before after
      → InOrder before (filter (λ other. not (other == identifier)) after)

-- stores reserve no more blocks than a device of so many has for them
abbrev pub IsReserved : (blocks : ℕ) → List Store → Type 0
IsReserved blocks stores = reserved_by stores + 8 ≤ blocks

-- A window of one store was copied into another: there it is the list of packets, and the source and
-- each other store are as they were.
pub record HasCopied (from to t1 t2 : ℕ) (table next : Table) : Type 0 where
  pub source : Store
  pub destination : Store
  pub found : find (is_named from) table.stores ≡ Some source
  pub into : find (is_named to) table.stores ≡ Some destination
  pub taken : find (is_named to) next.stores
      ≡ Some (record destination { packets = window_of t1 t2 source.packets; told = false })
  pub kept : find (is_named from) next.stores ≡ Some source
  pub others : (identifier : ℕ) → identifier ≢ to
      → find (is_named identifier) next.stores ≡ find (is_named identifier) table.stores

abbrev pub is_reply : OutputKind → Bool
is_reply Forwarded = false
is_reply Reply = true
is_reply Retrieved = false

-- how many reports are among outputs
abbrev pub replies_in : List Output → ℕ
replies_in outputs = count_by (λ (output : Output). is_reply output.kind) outputs
