-- The times of a store never fall, and none is above the last storage time.
use Rattle.std.proofs.Common.{◌≤◌, ℕ, ◌-◌, List, [], ◌∷◌, ◌++◌, length, drop, arith}
use Rattle.std.proofs.lemmas.List.Elements.{All-drop, All-filter, All-nil, All-push, All-weaker}
use Rattle.std.proofs.lemmas.List.Kept.{IsNonDecreasingBy-filter}
use Rattle.std.proofs.lemmas.List.Sorted.{IsNonDecreasingBy-drop, IsNonDecreasingBy-push, IsNonDecreasingBy-short}
use Rattle.std.specs.Prelude.{All, ◌&&◌, nat_le}
use Rattle.space_packet.specs.Charge.{charge_of}
use Rattle.pst_model.specs.Changes.{is_named}
use Rattle.pst_model.specs.Command.{Command}
use Rattle.pst_model.specs.Laws.{AreTimed, IsTimed, time_of}
use Rattle.pst_model.specs.Ranges.{count_up_to, window_of}
use Rattle.pst_model.specs.Rules.{to_drop}
use Rattle.pst_model.specs.Run.{step}
use Rattle.pst_model.specs.Table.{Store, Stored, Table}
use Rattle.pst_model.proofs.Carried.{found_has}
use Rattle.pst_model.proofs.Effects.{IsChange, SetsStorage, SetsOpen, SetsTypes, StartsRange, EndsRange, Deletes, MovesOpen, Resizes, SetsKind, SetsChannel, TakesWindow}
use Rattle.pst_model.proofs.StoresKept.{IsKept, step_keeps}

dropped : (now gone : ℕ) (packets : List Stored) → AreTimed now packets → AreTimed now (drop gone packets)
dropped now gone packets timed = record {
  order = IsNonDecreasingBy-drop time_of gone packets timed.order;
  latest = All-drop (λ (stored : Stored). stored.time ≤ now) gone packets timed.latest;
}

-- one more at the last storage time
pushed : (stored : Stored) (packets : List Stored) → AreTimed stored.time packets → AreTimed stored.time (packets ++ stored ∷ [])
pushed stored packets timed = record {
  order = IsNonDecreasingBy-push time_of packets stored timed.order (λ d some. timed.latest (length packets - 1) d (omega arith));
  latest = All-push (λ (other : Stored). other.time ≤ stored.time) packets stored timed.latest (omega arith);
}

window : (now t1 t2 : ℕ) (packets : List Stored) → AreTimed now packets → AreTimed now (window_of t1 t2 packets)
window now t1 t2 packets timed = record {
  order = IsNonDecreasingBy-filter time_of (λ (stored : Stored). nat_le t1 stored.time && nat_le stored.time t2) packets timed.order;
  latest = All-filter (λ (stored : Stored). nat_le t1 stored.time && nat_le stored.time t2) (λ (stored : Stored). stored.time ≤ now) packets timed.latest;
}

change_timed : (blocks : ℕ) (table : Table) (store next : Store) → All (IsTimed table.now) table.stores → IsTimed table.now store → IsChange blocks table store next → IsTimed table.now next
change_timed blocks table store next all timed (SetsStorage flag) = timed
change_timed blocks table store next all timed (SetsOpen flag) = timed
change_timed blocks table store next all timed (SetsTypes patterns) = timed
change_timed blocks table store next all timed (StartsRange t1 t2) = timed
change_timed blocks table store next all timed EndsRange = timed
change_timed blocks table store next all timed (Deletes t) = dropped table.now (count_up_to t store.packets) store.packets timed
change_timed blocks table store next all timed (MovesOpen t) = timed
change_timed blocks table store next all timed (Resizes size sized holds fits) = timed
change_timed blocks table store next all timed (SetsKind kind) = timed
change_timed blocks table store next all timed (SetsChannel channel on) = timed
change_timed blocks table store next all timed (TakesWindow from t1 t2 source is none fits) =
    window table.now t1 t2 source.packets (found_has (IsTimed table.now) (is_named from) table.stores source all is)

timed_kept : IsKept IsTimed
timed_kept = record {
  rises = λ now later store le timed. record { order = timed.order; latest = All-weaker (λ (stored : Stored). stored.time ≤ now) (λ (stored : Stored). stored.time ≤ later) (λ stored before. omega arith) store.packets timed.latest };
  takes = λ stored store taken timed.
      let gone = to_drop store (charge_of (length stored.octets)) in pushed stored (drop gone store.packets) (dropped stored.time gone store.packets timed);
  tells = λ now store timed. timed;
  passes = λ now store ahead timed. timed;
  sends = λ now store timed. timed;
  changes = change_timed;
  creates = λ now identifier kind size channel sized on. record { order = IsNonDecreasingBy-short time_of [] (omega arith); latest = All-nil (λ (stored : Stored). stored.time ≤ now) };
}

pub step_timed : (blocks number : ℕ) (command : Command) (table : Table) → All (IsTimed table.now) table.stores
    → All (IsTimed (step blocks number command table).table.now) (step blocks number command table).table.stores
step_timed = step_keeps IsTimed timed_kept
