-- What the retrievals of a session send (ECSS-E-ST-70-41C, 6.15.3), by the laws of the model.
use Rattle.std.specs.Prelude.{◌≡◌, ◌+◌, ◌++◌, ◌∷◌, ℕ, List, length, Option}
use Rattle.pst_laws.specs.Grants.{IsGranted}
use Rattle.pst_laws.specs.Kept.{IsNumberedAt, IsOpenKept, IsRangeKept}
use Rattle.pst_laws.specs.Moves.{moves_along, moves_of}
use Rattle.pst_laws.specs.Places.{Place, place_of}
use Rattle.pst_laws.specs.Trails.{Trail, follow_all, trail_at}
use Rattle.pst_model.specs.Answers.{refusal_of}
use Rattle.pst_model.specs.Command.{Command, Grant}
use Rattle.pst_model.specs.Run.{run, step}
use Rattle.pst_model.specs.Table.{Table}

-- what the retrievals of the store of an identifier sent, from a table on, while these commands were
-- carried out
abbrev pub trail_of : (blocks identifier : ℕ) → Table → List Command → Trail
trail_of blocks identifier table commands =
    follow_all (moves_along refusal_of blocks 1 identifier table commands)
    (trail_at (place_of identifier table))

-- and where they stand then
abbrev pub place_behind : (blocks identifier : ℕ) → Table → List Command → Option Place
place_behind blocks identifier table commands =
    place_of identifier (run blocks table commands).table

-- The retrievals of each store send its packets in order, each at most once, while these commands are
-- carried out on a table. A store is known by its identifier, and a packet by its number in the store.
pub record RetrievesInOrder (blocks : ℕ) (table : Table) (commands : List Command) : Type 0 where
  -- a packet keeps its number as long as it is in the store
  pub numbers : (identifier : ℕ)
      → IsNumberedAt (trail_of blocks identifier table commands)
      (place_behind blocks identifier table commands)
  -- The packets that a range sends have rising numbers, all among those selected at its start. As long
  -- as it is not aborted, each of these was sent, or left the front before its turn, or is still ahead.
  pub ranges : (identifier : ℕ)
      → IsRangeKept (trail_of blocks identifier table commands)
      (place_behind blocks identifier table commands)
  -- The packets that open retrieval sends have rising numbers, since it last was set to a time. Each
  -- number that it passed over belongs to a packet that left the front before its turn.
  pub opens : (identifier : ℕ)
      → IsOpenKept (trail_of blocks identifier table commands)
      (place_behind blocks identifier table commands)
  -- what goes out on a grant is the packet whose turn it is in one store, or nothing
  pub grants : (front others : List Command) (moment : ℕ)
      → commands ≡ front ++ Grant moment ∷ others
      → IsGranted (length front + 1) (run blocks table front).table
      (λ identifier. moves_of refusal_of blocks identifier (Grant moment)
      (run blocks table front).table)
      (step blocks (length front + 1) (Grant moment) (run blocks table front).table).outputs
