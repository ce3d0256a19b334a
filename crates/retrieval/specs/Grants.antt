-- What a grant does to a table, by the rows of its stores (ECSS-E-ST-70-41C, 6.15.3).
use Rattle.std.specs.Prelude.{◌≡◌, ◌<◌, ⊤, ℕ, IfSome, IsSomeAnd, List, [], ◌∷◌, Some, length, slice_get, slice_set}
use Rattle.pst_model.specs.Rules.{Retrieved, Step, packet_at}
use Rattle.pst_model.specs.Table.{Store, Table}
use Rattle.store_directory.specs.Directory.{Listed}
use Rattle.store_directory.specs.declared.row.Row.{Row}
use Rattle.retrieval.specs.Picks.{IsPickOf}
use Rattle.retrieval.specs.declared.pick.Pick.{Pick}

-- a pick is the next packet of the store at its place, which has that packet
abbrev pub IsHeld : List Listed → Pick → Type 0
IsHeld stores pick =
    IsSomeAnd (slice_get stores pick.at) (λ s. IsPickOf s.row pick × (pick.position < s.row.count))

-- a row is that of the store at a place, where one stands there
abbrev pub IsRowAt : List Listed → (at : ℕ) → Row → Type 0
IsRowAt stores at row = IfSome (slice_get stores at) (λ s. row ≡ s.row)

-- What a grant reads of a store stands in a row.
pub record IsByRow (store : Store) (row : Row) : Type 0 where
  pub channel : store.channel ≡ row.channel
  pub open_on : store.open_on ≡ row.open_on
  pub count : length store.packets ≡ row.count
  pub behind : store.behind ≡ row.behind
  pub range : store.range ≡ row.range

-- each store by the row in its place
abbrev pub AreByRows : List Store → List Listed → Type 0
AreByRows [] [] = ⊤
AreByRows (store ∷ stores) (listed ∷ rest) = IsByRow store listed.row × AreByRows stores rest
AreByRows _ _ = ⊥

-- a store with the positions of a row
abbrev pub with_positions : Row → Store → Store
with_positions row store = record store { behind = row.behind; range = row.range }

-- the step that sends nothing
abbrev pub sends_nothing : Table → Step
sends_nothing table = record { table = table; outputs = [] }

-- A step sends the packet that was picked. Its store has the positions of this row from then on, and
-- all else is as it was.
pub record Sends (number : ℕ) (table : Table) (pick : Pick) (next : Row) (step : Step) : Type 0 where
  pub store : Store
  pub there : slice_get table.stores pick.at ≡ Some store
  pub outputs : step.outputs
      ≡ record {
        command = number;
        kind = Retrieved;
        channel = pick.channel;
        packet = packet_at store pick.position;
      } ∷ []
  pub moved : step.table
      ≡ record table { stores = slice_set table.stores pick.at (with_positions next store) }
