-- Open retrieval never passes more packets than there are.
use Rattle.std.proofs.Common.{◌≡◌, ◌<◌, ◌≤◌, ℕ, false, List, [], ◌∷◌, length, drop, arith, length-append, length-drop}
use Rattle.std.proofs.lemmas.Bool.{and_parts, ltb-true}
use Rattle.std.proofs.lemmas.List.Sums.{count_by-le-length}
use Rattle.std.specs.Prelude.{All, nat_lt, not}
use Rattle.space_packet.specs.Charge.{charge_of}
use Rattle.pst_model.specs.Command.{Command}
use Rattle.pst_model.specs.Copies.{is_empty}
use Rattle.pst_model.specs.Laws.{IsWithin}
use Rattle.pst_model.specs.Ranges.{count_up_to, window_of}
use Rattle.pst_model.specs.Rules.{to_drop}
use Rattle.pst_model.specs.Run.{step}
use Rattle.pst_model.specs.Table.{Store, Stored, Table}
use Rattle.pst_model.proofs.Effects.{IsChange, SetsStorage, SetsOpen, SetsTypes, StartsRange, EndsRange, Deletes, MovesOpen, Resizes, SetsKind, SetsChannel, TakesWindow}
use Rattle.pst_model.proofs.StoresKept.{IsKept, step_keeps}

-- no packets are left where there are none
empty_within : (behind : ℕ) (packets others : List Stored) → not (is_empty packets) ≡ false → behind ≤ length packets → behind ≤ length others
empty_within behind [] others none le = omega arith
empty_within behind (stored ∷ packets) others none le = absurd cc

change_within : (blocks : ℕ) (table : Table) (store next : Store) → IsWithin store → IsChange blocks table store next → IsWithin next
change_within blocks table store next le (SetsStorage flag) = le
change_within blocks table store next le (SetsOpen flag) = le
change_within blocks table store next le (SetsTypes patterns) = le
change_within blocks table store next le (StartsRange t1 t2) = le
change_within blocks table store next le EndsRange = le
change_within blocks table store next le (Deletes t) = omega (arith, length-drop (count_up_to t store.packets) store.packets)
change_within blocks table store next le (MovesOpen t) = count_by-le-length _ store.packets
change_within blocks table store next le (Resizes size sized holds fits) = le
change_within blocks table store next le (SetsKind kind) = le
change_within blocks table store next le (SetsChannel channel on) = le
change_within blocks table store next le (TakesWindow from t1 t2 source is none fits) = empty_within store.behind store.packets (window_of t1 t2 source.packets) none le

within_kept : IsKept (λ now. IsWithin)
within_kept = record {
  rises = λ now later store le within. within;
  takes = λ stored store taken within.
      let gone = to_drop store (charge_of (length stored.octets)) in omega (arith, length-append (drop gone store.packets) (stored ∷ []), length-drop gone store.packets);
  tells = λ now store within. within;
  passes = λ now store ahead within.
      let more : store.behind < length store.packets = ltb-true store.behind (length store.packets) (and_parts store.open_on (nat_lt store.behind (length store.packets)) ahead).1 in omega arith;
  sends = λ now store within. within;
  changes = λ blocks table store next all within change. change_within blocks table store next within change;
  creates = λ now identifier kind size channel sized on. omega arith;
}

pub step_within : (blocks number : ℕ) (command : Command) (table : Table) → All IsWithin table.stores → All IsWithin (step blocks number command table).table.stores
step_within = step_keeps (λ now. IsWithin) within_kept
