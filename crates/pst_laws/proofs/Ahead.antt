-- Open retrieval sends its packets in order.
use Rattle.std.proofs.Common.{◌≤◌, ◌<◌, ℕ, ◌+◌, ◌-◌, List, [], Option, Some, None, arith}
use Rattle.std.proofs.lemmas.List.Elements.{All-contains, All-nil, All-push, All-weaker}
use Rattle.std.specs.Prelude.{All, Contains}
use Rattle.pst_model.specs.Command.{Command}
use Rattle.pst_model.specs.Table.{Table}
use Rattle.pst_laws.specs.Kept.{ArePassed, AreRising, IsOpenKept}
use Rattle.pst_laws.specs.Moves.{Judge, Move, moves_along, run_by}
use Rattle.pst_laws.specs.Places.{Aborting, Appearing, Going, GoingOn, Leaving, Moved, OpenSending, Place, RangeSending, Starting, Taking, place_of}
use Rattle.pst_laws.specs.Trails.{OpenTrail, Trail, follow_all, followed, trail_at, with_passed}
use Rattle.pst_laws.proofs.Followed.{along}
use Rattle.pst_laws.proofs.Numbers.{none_passed, none_rising, passed_more, passed_one, rising_push}
use Rattle.pst_laws.proofs.Placed.{run_leads}

-- where open retrieval stands
record IsAt (gone : ℕ) (trail : OpenTrail) (behind : ℕ) : Type 0 where
  rising : AreRising trail.sent
  since : All (λ n. trail.first ≤ n) trail.sent
  from : trail.first ≤ gone + behind
  before : All (λ n. n < gone + behind) trail.sent
  passed : ArePassed gone trail.first (gone + behind) trail.sent

-- where the store is gone
record HasEnded (gone : ℕ) (trail : OpenTrail) : Type 0 where
  rising : AreRising trail.sent
  since : All (λ n. trail.first ≤ n) trail.sent
  passed : (later : ℕ) → Contains trail.sent later → ArePassed gone trail.first later trail.sent

abbrev Holds : Trail → Option Place → Type 0
Holds trail None = HasEnded trail.gone trail.ahead
Holds trail (Some place) = IsAt trail.gone trail.ahead place.behind

-- open retrieval goes on from a number
goes_on : (gone behind first : ℕ) → first ≤ gone + behind → gone + behind ≤ first → IsAt gone (record { first = first; sent = [] }) behind
goes_on gone behind first low high = record {
  rising = none_rising;
  since = All-nil (λ n. first ≤ n);
  from = low;
  before = All-nil (λ n. n < gone + behind);
  passed = none_passed gone first (gone + behind) [] high;
}

-- packets leave the front
left : (gone count behind : ℕ) (trail : OpenTrail) → IsAt gone trail behind → IsAt (gone + count) trail (behind - count)
left gone count behind trail at = record {
  rising = at.rising;
  since = at.since;
  from = omega (arith, at.from);
  before = All-weaker (λ n. n < gone + behind) (λ n. n < gone + count + (behind - count)) (λ n lt. omega (arith, lt)) trail.sent at.before;
  passed = passed_more gone (gone + count) trail.first (gone + behind) (gone + count + (behind - count)) trail.sent (omega arith) (λ number above below. omega (arith, above, below)) at.passed;
}

sent_one : (gone behind : ℕ) (trail : OpenTrail) → IsAt gone trail behind → IsAt gone (with_passed (gone + behind) trail) (behind + 1)
sent_one gone behind trail at = record {
  rising = rising_push trail.sent (gone + behind) at.rising at.before;
  since = All-push (λ n. trail.first ≤ n) trail.sent (gone + behind) at.since at.from;
  from = omega (arith, at.from);
  before = All-push (λ n. n < gone + (behind + 1)) trail.sent (gone + behind) (All-weaker (λ n. n < gone + behind) (λ n. n < gone + (behind + 1)) (λ n lt. omega (arith, lt)) trail.sent at.before) (omega arith);
  passed = passed_one gone trail.first (gone + behind) (gone + (behind + 1)) trail.sent (omega arith) at.passed;
}

-- what was sent is before the one at which it stands
ended : (gone behind : ℕ) (trail : OpenTrail) → IsAt gone trail behind → HasEnded gone trail
ended gone behind trail at = record {
  rising = at.rising;
  since = at.since;
  passed = λ later was number from.
      let before = All-contains (λ n. n < gone + behind) trail.sent later at.before was in
      at.passed number (from.0, omega (arith, from.1, before));
}

moved : (move : Move) (before behind : Option Place) (trail : Trail) → Moved move before behind → Holds trail before → Holds (followed move trail) behind
moved _ _ _ trail Appearing holds = goes_on 0 0 0 (omega arith) (omega arith)
moved _ _ _ trail (Going place none) holds = ended trail.gone place.behind trail.ahead holds
moved _ _ _ trail (Leaving count place le) holds = left trail.gone count place.behind trail.ahead holds
moved _ _ _ trail (Taking more place) holds = holds
moved _ _ _ trail (Starting next end place none) holds = holds
moved _ _ _ trail (Aborting place) holds = holds
moved _ _ _ trail (GoingOn position place) holds = goes_on trail.gone position (trail.gone + position) (omega arith) (omega arith)
moved _ _ _ trail (RangeSending next end place here) holds = holds
moved _ _ _ trail (OpenSending place) holds = sent_one trail.gone place.behind trail.ahead holds

begun : (place : Option Place) → Holds (trail_at place) place
begun None = ended 0 0 _ (goes_on 0 0 0 (omega arith) (omega arith))
begun (Some place) = goes_on 0 place.behind place.behind (omega arith) (omega arith)

kept : (trail : Trail) (place : Option Place) → Holds trail place → IsOpenKept trail place
kept trail None holds = record { rising = holds.rising; from = holds.since; passed = holds.passed; present = tt }
kept trail (Some place) holds = record { rising = holds.rising; from = holds.since; passed = (ended trail.gone place.behind trail.ahead holds).passed; present = holds.passed }

pub open_kept : (judge : Judge) (blocks number identifier : ℕ) (table : Table) (commands : List Command)
    → IsOpenKept (follow_all (moves_along judge blocks number identifier table commands) (trail_at (place_of identifier table))) (place_of identifier (run_by judge blocks number table commands).table)
open_kept judge blocks number identifier table commands =
    kept _ _ (along Holds moved (moves_along judge blocks number identifier table commands) (place_of identifier table) _ (trail_at (place_of identifier table))
    (run_leads judge blocks identifier number table commands) (begun (place_of identifier table)))
