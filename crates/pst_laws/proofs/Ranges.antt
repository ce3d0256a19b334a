-- A range retrieval sends its packets in order.
use Rattle.std.proofs.Common.{◌≡◌, ◌≤◌, ◌<◌, ℕ, ◌+◌, ◌-◌, true, false, List, [], Option, Some, None, inl, inr, ⊎_elim, length, refl, sym, subst, arith}
use Rattle.std.proofs.lemmas.Bool.{cases_lt, cond_both, ltb-false, ltb-true}
use Rattle.std.proofs.lemmas.List.Elements.{All-nil, All-push, All-weaker}
use Rattle.std.specs.Prelude.{◌⊎◌, All, Contains, find, nat_lt}
use Rattle.pst_model.specs.Changes.{is_named}
use Rattle.pst_model.specs.Command.{Command}
use Rattle.pst_model.specs.Laws.{IsRangeIn, IsRanged}
use Rattle.pst_model.specs.Ranges.{range_between}
use Rattle.pst_model.specs.Rules.{range_sent}
use Rattle.pst_model.specs.Table.{Store, Table, range_behind}
use Rattle.pst_model.proofs.Carried.{found_has}
use Rattle.pst_laws.specs.Kept.{ArePassed, AreRising, IsAhead, IsFrom, IsRangeKept, range_at}
use Rattle.pst_laws.specs.Moves.{Judge, Move, moves_along, run_by}
use Rattle.pst_laws.specs.Places.{Aborting, Appearing, Going, GoingOn, Leaving, Moved, OpenSending, Place, RangeSending, Starting, Taking, place_in, place_of}
use Rattle.pst_laws.specs.Trails.{RangeTrail, Trail, follow_all, followed, range_trail, trail_at, with_sent}
use Rattle.pst_laws.proofs.Followed.{along}
use Rattle.pst_laws.proofs.Numbers.{none_passed, none_rising, passed_more, passed_one, rising_push}
use Rattle.pst_laws.proofs.Placed.{run_leads}

-- where a range stands
record IsStanding (gone : ℕ) (trail : RangeTrail) (next end : ℕ) : Type 0 where
  some : next < end
  last : trail.end ≡ gone + end
  from : trail.first ≤ gone + next
  before : All (λ n. n < gone + next) trail.sent
  passed : ArePassed gone trail.first (gone + next) trail.sent

abbrev Waits : (gone : ℕ) → RangeTrail → Option (ℕ × ℕ) → Type 0
Waits gone trail None = trail.aborted ≡ false → ArePassed gone trail.first trail.end trail.sent
Waits gone trail (Some (next, end)) = IsStanding gone trail next end

record HasSent (gone : ℕ) (trail : RangeTrail) (range : Option (ℕ × ℕ)) : Type 0 where
  rising : AreRising trail.sent
  selected : All (IsFrom trail.first trail.end) trail.sent
  waits : Waits gone trail range

-- packets leave the front
left : (gone count : ℕ) (trail : RangeTrail) (range : Option (ℕ × ℕ)) → HasSent gone trail range → HasSent (gone + count) trail (range_behind count range)
left gone count trail None has = record {
  rising = has.rising;
  selected = has.selected;
  waits = λ standing. passed_more gone (gone + count) trail.first trail.end trail.end trail.sent (omega arith) (λ number above below. absurd (omega (arith, above, below))) (has.waits standing);
}
left gone count trail (Some (next, end)) has = record {
  rising = has.rising;
  selected = has.selected;
  waits = cond_both (nat_lt (next - count) (end - count)) (Some (next - count, end - count)) None (Waits (gone + count) trail)
      (λ some. let rest : next - count < end - count = ltb-true (next - count) (end - count) some in record {
        some = rest;
        last = omega (arith, has.waits.last, rest);
        from = omega (arith, has.waits.from);
        before = All-weaker (λ n. n < gone + next) (λ n. n < gone + count + (next - count)) (λ n lt. omega (arith, lt)) trail.sent has.waits.before;
        passed = passed_more gone (gone + count) trail.first (gone + next) (gone + count + (next - count)) trail.sent (omega arith) (λ number above below. omega (arith, above, below)) has.waits.passed;
      })
      (λ none standing. let over : end - count ≤ next - count = ltb-false (next - count) (end - count) none in
      passed_more gone (gone + count) trail.first (gone + next) trail.end trail.sent (omega arith) (λ number above below. omega (arith, above, below, has.waits.last, has.waits.some, over)) has.waits.passed);
}

started : (gone next end : ℕ) → HasSent gone (record { first = gone + next; end = gone + end; sent = []; aborted = false }) (range_between next end)
started gone next end =
    let trail : RangeTrail = record { first = gone + next; end = gone + end; sent = []; aborted = false } in
    record {
      rising = none_rising;
      selected = All-nil (IsFrom (gone + next) (gone + end));
      waits = cond_both (nat_lt next end) (Some (next, end)) None (Waits gone trail)
          (λ some. record { some = ltb-true next end some; last = refl; from = omega arith; before = All-nil (λ n. n < gone + next); passed = none_passed gone (gone + next) (gone + next) [] (omega arith) })
          (λ none standing. none_passed gone (gone + next) (gone + end) [] (omega (arith, ltb-false next end none)));
    }

aborted : (gone : ℕ) (trail : RangeTrail) (range : Option (ℕ × ℕ)) → HasSent gone trail range → HasSent gone (record trail { aborted = true }) None
aborted gone trail range has = record { rising = has.rising; selected = has.selected; waits = λ standing. absurd cc }

sent_one : (gone next end : ℕ) (trail : RangeTrail) → HasSent gone trail (Some (next, end)) → HasSent gone (with_sent (gone + next) trail) (range_sent (Some (next, end)))
sent_one gone next end trail has = record {
  rising = rising_push trail.sent (gone + next) has.rising has.waits.before;
  selected = All-push (IsFrom trail.first trail.end) trail.sent (gone + next) has.selected (has.waits.from, omega (arith, has.waits.last, has.waits.some));
  waits = cond_both (nat_lt (next + 1) end) (Some (next + 1, end)) None (Waits gone (with_sent (gone + next) trail))
      (λ some. record {
        some = ltb-true (next + 1) end some;
        last = has.waits.last;
        from = omega (arith, has.waits.from);
        before = All-push (λ n. n < gone + (next + 1)) trail.sent (gone + next) (All-weaker (λ n. n < gone + next) (λ n. n < gone + (next + 1)) (λ n lt. omega (arith, lt)) trail.sent has.waits.before) (omega arith);
        passed = passed_one gone trail.first (gone + next) (gone + (next + 1)) trail.sent (omega arith) has.waits.passed;
      })
      (λ none standing. passed_one gone trail.first (gone + next) trail.end trail.sent (omega (arith, has.waits.last, ltb-false (next + 1) end none)) has.waits.passed);
}

abbrev Holds : Trail → Option Place → Type 0
Holds trail place = HasSent trail.gone trail.range (range_at place)

nothing_yet : HasSent 0 (range_trail None) None
nothing_yet = record { rising = none_rising; selected = All-nil (IsFrom 0 0); waits = λ standing. none_passed 0 0 0 [] (omega arith) }

moved : (move : Move) (before behind : Option Place) (trail : Trail) → Moved move before behind → Holds trail before → Holds (followed move trail) behind
moved _ _ _ trail Appearing holds = nothing_yet
moved _ _ _ trail (Going place none) holds = subst (HasSent trail.gone trail.range) none holds
moved _ _ _ trail (Leaving count place le) holds = left trail.gone count trail.range place.range holds
moved _ _ _ trail (Taking more place) holds = holds
moved _ _ _ trail (Starting next end place none) holds = started trail.gone next end
moved _ _ _ trail (Aborting place) holds = aborted trail.gone trail.range place.range holds
moved _ _ _ trail (GoingOn position place) holds = holds
moved _ _ _ trail (RangeSending next end place here) holds =
    subst (λ (range : Option (ℕ × ℕ)). HasSent trail.gone (with_sent (trail.gone + next) trail.range) (range_sent range)) (sym here)
    (sent_one trail.gone next end trail.range (subst (HasSent trail.gone trail.range) here holds))
moved _ _ _ trail (OpenSending place) holds = holds

begun : (store : Option Store) → ((found : Store) → store ≡ Some found → IsRanged found) → Holds (trail_at (place_in store)) (place_in store)
begun None ranged = nothing_yet
begun (Some store) ranged = by store.range (ranged store refl)
  where
    by : (range : Option (ℕ × ℕ)) → IsRangeIn (length store.packets) range → HasSent 0 (range_trail range) range
    by None within = nothing_yet
    by (Some (next, end)) within = record {
      rising = none_rising;
      selected = All-nil (IsFrom next end);
      waits = record { some = within.0; last = omega arith; from = omega arith; before = All-nil (λ n. n < 0 + next); passed = none_passed 0 next (0 + next) [] (omega arith) };
    }

kept : (trail : Trail) (place : Option Place) → Holds trail place → IsRangeKept trail place
kept trail place holds = record { rising = holds.rising; selected = holds.selected; each = by (range_at place) holds.waits }
  where
    by : (range : Option (ℕ × ℕ)) → Waits trail.gone trail.range range → trail.range.aborted ≡ false → (number : ℕ) → IsFrom trail.range.first trail.range.end number
        → Contains trail.range.sent number ⊎ (number < trail.gone) ⊎ IsAhead trail.gone number range
    by None waits standing number from = ⊎_elim (λ was. inl was) (λ went. inr (inl went)) (waits standing number from)
    by (Some (next, end)) waits standing number from =
        ⊎_elim
        (λ below. ⊎_elim (λ was. inl was) (λ went. inr (inl went)) (waits.passed number (from.0, below)))
        (λ above. inr (inr (above, omega (arith, from.1, waits.last))))
        (cases_lt number (trail.gone + next))

pub ranges_kept : (judge : Judge) (blocks number identifier : ℕ) (table : Table) (commands : List Command) → All IsRanged table.stores
    → IsRangeKept (follow_all (moves_along judge blocks number identifier table commands) (trail_at (place_of identifier table))) (place_of identifier (run_by judge blocks number table commands).table)
ranges_kept judge blocks number identifier table commands ranged =
    kept _ _ (along Holds moved (moves_along judge blocks number identifier table commands) (place_of identifier table) _ (trail_at (place_of identifier table))
    (run_leads judge blocks identifier number table commands)
    (begun (find (is_named identifier) table.stores) (λ store found. found_has IsRanged (is_named identifier) table.stores store ranged found)))
