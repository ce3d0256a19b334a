-- What is kept of the calls of each kind.
use Rattle.std.specs.Prelude.{ℕ, List}
use Rattle.board.specs.declared.calls.Calls.{Calls}
use Rattle.board.specs.Kinds.{PerKind}

-- how many there were
abbrev pub made_in : Calls → PerKind ℕ
made_in calls = record { reads = calls.reads.made; programs = calls.programs.made; erases = calls.erases.made; barriers = calls.barriers.made; sends = calls.sends.made }

-- the numbers of those that are to fail
abbrev pub planned_in : Calls → PerKind (List ℕ)
planned_in calls = record { reads = calls.reads.planned.items; programs = calls.programs.planned.items; erases = calls.erases.planned.items; barriers = calls.barriers.planned.items; sends = calls.sends.planned.items }
