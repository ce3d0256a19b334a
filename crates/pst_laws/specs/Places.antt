-- The packets of a store and where its retrievals stand, and what its moves make of them.
use Rattle.std.specs.Prelude.{◌≡◌, ◌≤◌, ℕ, ◌+◌, ◌-◌, List, [], ◌∷◌, ◌++◌, drop, length, Option, Some, None}
use Rattle.pst_model.specs.Ranges.{range_between}
use Rattle.pst_model.specs.Rules.{range_sent}
use Rattle.pst_model.specs.Table.{Store, Stored, Table, range_behind}
use Rattle.pst_laws.specs.Moves.{Appears, Aborts, Goes, GoesOn, Leaves, Move, OpenSends, RangeSends, Starts, Takes, store_named}

pub record Place : Type 0 where
  pub packets : List Stored
  -- how many packets at the front open retrieval has passed
  pub behind : ℕ
  -- the positions of a range retrieval, from the first one up to, and not including, the second
  pub range : Option (ℕ × ℕ)

abbrev pub place_in : Option Store → Option Place
place_in None = None
place_in (Some store) =
    Some (record { packets = store.packets; behind = store.behind; range = store.range })

-- where the retrievals of the store of an identifier stand, if there is one
abbrev pub place_of : (identifier : ℕ) → Table → Option Place
place_of identifier table = place_in (store_named identifier table)

-- A move, and the places before and behind it. No more packets leave than there are, a range starts
-- where none stands, a store goes where none stands, and what is sent is the packet whose turn it
-- is.
pub data Moved : Move → Option Place → Option Place → Type 0 where
  Appearing : Moved Appears None (Some (record { packets = []; behind = 0; range = None }))
  Going : (place : Place) → place.range ≡ None → Moved Goes (Some place) None
  Leaving : (count : ℕ) (place : Place) → count ≤ length place.packets
      → Moved (Leaves count) (Some place) (Some (record {
        packets = drop count place.packets;
        behind = place.behind - count;
        range = range_behind count place.range;
      }))
  Taking : (more : List Stored) (place : Place)
      → Moved (Takes more) (Some place) (Some (record place { packets = place.packets ++ more }))
  Starting : (next end : ℕ) (place : Place) → place.range ≡ None
      → Moved (Starts next end) (Some place) (Some (record place { range = range_between next end }))
  Aborting : (place : Place) → Moved Aborts (Some place) (Some (record place { range = None }))
  GoingOn : (position : ℕ) (place : Place)
      → Moved (GoesOn position) (Some place) (Some (record place { behind = position }))
  RangeSending : (next end : ℕ) (place : Place) → place.range ≡ Some (next, end)
      → Moved (RangeSends next) (Some place) (Some (record place { range = range_sent place.range }))
  OpenSending : (place : Place)
      → Moved (OpenSends place.behind) (Some place)
      (Some (record place { behind = place.behind + 1 }))

-- moves one behind another, from a place to another one
pub data MovedBy : List Move → Option Place → Option Place → Type 0 where
  Still : (place : Option Place) → MovedBy [] place place
  Then : (move : Move) (moves : List Move) (before between behind : Option Place)
      → Moved move before between → MovedBy moves between behind
      → MovedBy (move ∷ moves) before behind

-- the moves of commands one behind another
pub data MovedAlong : List (List Move) → Option Place → Option Place → Type 0 where
  Halted : (place : Option Place) → MovedAlong [] place place
  Onward : (moves : List Move) (others : List (List Move)) (before between behind : Option Place)
      → MovedBy moves before between → MovedAlong others between behind
      → MovedAlong (moves ∷ others) before behind
