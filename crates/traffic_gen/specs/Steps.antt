-- The traffic line by line: what is still to come, and which commands are written next.
use Rattle.std.specs.Prelude.{ℕ, zero, suc, ◌-◌, ◌*◌, ◌==◌, if◌then◌else◌, nat_le, List, [], ◌∷◌, ◌++◌}
use Rattle.pst_model.specs.Command.{Command, Grant}
use Rattle.traffic_gen.specs.Traffic.{after_draws, grants, pass, passes, setup, time_of, traffic_of}

-- The commands that are still to come, where lines were made so often: for the requests, for each arrival, and for each
-- of the last grants.
abbrev pub behind : (total state : ℕ) → (made : ℕ) → List Command
behind total state zero = traffic_of state total
behind total state (suc number) =
    passes total number state (total - number) ++ grants total (total - (number - total))

-- the commands whose lines are written together next
abbrev pub next_of : (total state made : ℕ) → List Command
next_of total state made =
    if made == 0 then setup
    else if nat_le made total then pass total (made - 1) state
    else if nat_le made (2 * total) then Grant (time_of total) ∷ []
    else []

-- the state behind them
abbrev pub state_behind : (total state made : ℕ) → ℕ
state_behind total state made =
    if made == 0 then state else if nat_le made total then after_draws state else state
