-- Packets keep their numbers.
use Rattle.std.proofs.Common.{◌≡◌, ◌≤◌, ℕ, ◌+◌, ◌-◌, List, ◌++◌, Option, Some, None, length, drop, refl, sym, ◌∙◌, ap, arith, length-append, length-drop}
use Rattle.std.proofs.lemmas.List.{drop-append-le, drop-drop}
use Rattle.pst_model.specs.Command.{Command}
use Rattle.pst_model.specs.Table.{Stored, Table}
use Rattle.pst_laws.specs.Kept.{AreNumbered, IsNumberedAt}
use Rattle.pst_laws.specs.Moves.{Judge, Move, moves_along, run_by}
use Rattle.pst_laws.specs.Places.{Aborting, Appearing, Going, GoingOn, Leaving, Moved, OpenSending, Place, RangeSending, Starting, Taking, place_of}
use Rattle.pst_laws.specs.Trails.{Trail, follow_all, followed, trail_at}
use Rattle.pst_laws.proofs.Followed.{along}
use Rattle.pst_laws.proofs.Placed.{run_leads}

left : (trail : Trail) (packets : List Stored) (count : ℕ) → count ≤ length packets → AreNumbered trail packets → AreNumbered (record trail { gone = trail.gone + count }) (drop count packets)
left trail packets count le at =
    let long : length packets ≡ length trail.numbered - trail.gone = ap length at.rest ∙ length-drop trail.gone trail.numbered in
    record {
      within = omega (arith, le, at.within, long);
      rest = ap (drop count) at.rest ∙ drop-drop count trail.gone trail.numbered;
    }

taken : (trail : Trail) (packets more : List Stored) → AreNumbered trail packets → AreNumbered (record trail { numbered = trail.numbered ++ more }) (packets ++ more)
taken trail packets more at = record {
  within = omega (arith, at.within, length-append trail.numbered more);
  rest = ap (λ (l : List Stored). l ++ more) at.rest ∙ sym (drop-append-le trail.gone trail.numbered more at.within);
}

moved : (move : Move) (before behind : Option Place) (trail : Trail) → Moved move before behind → IsNumberedAt trail before → IsNumberedAt (followed move trail) behind
moved _ _ _ trail Appearing at = record { within = omega arith; rest = refl }
moved _ _ _ trail (Going place none) at = tt
moved _ _ _ trail (Leaving count place le) at = left trail place.packets count le at
moved _ _ _ trail (Taking more place) at = taken trail place.packets more at
moved _ _ _ trail (Starting next end place none) at = record { within = at.within; rest = at.rest }
moved _ _ _ trail (Aborting place) at = record { within = at.within; rest = at.rest }
moved _ _ _ trail (GoingOn position place) at = record { within = at.within; rest = at.rest }
moved _ _ _ trail (RangeSending next end place here) at = record { within = at.within; rest = at.rest }
moved _ _ _ trail (OpenSending place) at = record { within = at.within; rest = at.rest }

begun : (place : Option Place) → IsNumberedAt (trail_at place) place
begun None = tt
begun (Some place) = record { within = omega arith; rest = refl }

pub numbers_kept : (judge : Judge) (blocks number identifier : ℕ) (table : Table) (commands : List Command)
    → IsNumberedAt (follow_all (moves_along judge blocks number identifier table commands) (trail_at (place_of identifier table))) (place_of identifier (run_by judge blocks number table commands).table)
numbers_kept judge blocks number identifier table commands =
    along IsNumberedAt moved (moves_along judge blocks number identifier table commands) (place_of identifier table) _ (trail_at (place_of identifier table))
    (run_leads judge blocks identifier number table commands) (begun (place_of identifier table))
