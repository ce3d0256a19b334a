-- The packets that the retrievals of a store sent, by their numbers: a packet's number is its
-- position and the packets that left the front before.
use Rattle.std.specs.Prelude.{ℕ, ◌+◌, Bool, true, false, List, [], ◌∷◌, ◌++◌, Option, Some, None}
use Rattle.pst_model.specs.Table.{Stored}
use Rattle.pst_laws.specs.Moves.{Appears, Aborts, Goes, GoesOn, Leaves, Move, OpenSends, RangeSends, Starts, Takes}
use Rattle.pst_laws.specs.Places.{Place}

-- The last range retrieval of a store: the numbers that were selected at its start, from the first
-- one up to, and not including, the end; those that it sent; and whether it was aborted.
pub record RangeTrail : Type 0 where
  pub first : ℕ
  pub end : ℕ
  pub sent : List ℕ
  pub aborted : Bool

-- Open retrieval, since it last was set to a time: the number from which it went on, and those that
-- it sent.
pub record OpenTrail : Type 0 where
  pub first : ℕ
  pub sent : List ℕ

-- What there was since the begin, or since the store was created where that is later.
pub record Trail : Type 0 where
  -- the packets of the store, in the order of their numbers: those of the begin, and those that came
  pub numbered : List Stored
  -- how many of them left the front
  pub gone : ℕ
  pub range : RangeTrail
  pub ahead : OpenTrail

abbrev pub range_trail : Option (ℕ × ℕ) → RangeTrail
range_trail None = record { first = 0; end = 0; sent = []; aborted = false }
range_trail (Some (next, end)) = record { first = next; end = end; sent = []; aborted = false }

-- at the begin: nothing left, and a range that stands is one of all its positions
abbrev pub trail_at : Option Place → Trail
trail_at None =
    record { numbered = []; gone = 0; range = range_trail None; ahead = record { first = 0; sent = [] } }
trail_at (Some place) = record {
  numbered = place.packets;
  gone = 0;
  range = range_trail place.range;
  ahead = record { first = place.behind; sent = [] };
}

abbrev pub with_sent : (number : ℕ) → RangeTrail → RangeTrail
with_sent number range = record range { sent = range.sent ++ number ∷ [] }

abbrev pub with_passed : (number : ℕ) → OpenTrail → OpenTrail
with_passed number ahead = record ahead { sent = ahead.sent ++ number ∷ [] }

abbrev pub followed : Move → Trail → Trail
followed Appears trail = trail_at None
followed Goes trail = trail
followed (Leaves count) trail = record trail { gone = trail.gone + count }
followed (Takes packets) trail = record trail { numbered = trail.numbered ++ packets }
followed (Starts next end) trail = record trail {
  range = record { first = trail.gone + next; end = trail.gone + end; sent = []; aborted = false };
}
followed Aborts trail = record trail { range = record trail.range { aborted = true } }
followed (GoesOn position) trail =
    record trail { ahead = record { first = trail.gone + position; sent = [] } }
followed (RangeSends position) trail =
    record trail { range = with_sent (trail.gone + position) trail.range }
followed (OpenSends position) trail =
    record trail { ahead = with_passed (trail.gone + position) trail.ahead }

-- the trail behind moves, and behind those of commands
abbrev pub follow : List Move → Trail → Trail
follow [] trail = trail
follow (move ∷ moves) trail = follow moves (followed move trail)

abbrev pub follow_all : List (List Move) → Trail → Trail
follow_all [] trail = trail
follow_all (moves ∷ others) trail = follow_all others (follow moves trail)
