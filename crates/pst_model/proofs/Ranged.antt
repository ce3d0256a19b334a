-- Ranges lie within the packets.
use Rattle.std.proofs.Common.{◌≡◌, ◌≤◌, ℕ, ◌+◌, ◌-◌, false, List, [], ◌∷◌, ◌++◌, Option, Some, None, length, drop, arith, length-append, length-drop}
use Rattle.std.proofs.lemmas.Bool.{cond_both, ltb-true}
use Rattle.std.proofs.lemmas.List.Sums.{count_by-le-length}
use Rattle.std.specs.Prelude.{All, nat_le, nat_lt, not}
use Rattle.space_packet.specs.Charge.{charge_of}
use Rattle.pst_model.specs.Command.{Command}
use Rattle.pst_model.specs.Copies.{is_empty}
use Rattle.pst_model.specs.Laws.{IsRangeIn, IsRanged}
use Rattle.pst_model.specs.Ranges.{count_below, count_up_to, range_between, window_of}
use Rattle.pst_model.specs.Rules.{range_sent, to_drop}
use Rattle.pst_model.specs.Run.{step}
use Rattle.pst_model.specs.Table.{Store, Stored, Table, range_behind}
use Rattle.pst_model.proofs.Effects.{IsChange, SetsStorage, SetsOpen, SetsTypes, StartsRange, EndsRange, Deletes, MovesOpen, Resizes, SetsKind, SetsChannel, TakesWindow}
use Rattle.pst_model.proofs.StoresKept.{IsKept, step_keeps}

-- a range within more packets
more_within : (range : Option (ℕ × ℕ)) (count more : ℕ) → count ≤ more → IsRangeIn count range → IsRangeIn more range
more_within None count more le within = tt
more_within (Some (next, end)) count more le within = (within.0, omega (arith, within.1))

-- behind packets that left
behind_within : (range : Option (ℕ × ℕ)) (count gone : ℕ) → IsRangeIn count range → IsRangeIn (count - gone) (range_behind gone range)
behind_within None count gone within = tt
behind_within (Some (next, end)) count gone within =
    cond_both (nat_lt (next - gone) (end - gone)) (Some (next - gone, end - gone)) None (IsRangeIn (count - gone))
    (λ some. (ltb-true (next - gone) (end - gone) some, omega (arith, within.1))) (λ none. tt)

sent_within : (range : Option (ℕ × ℕ)) (count : ℕ) → IsRangeIn count range → IsRangeIn count (range_sent range)
sent_within None count within = tt
sent_within (Some (next, end)) count within =
    cond_both (nat_lt (next + 1) end) (Some (next + 1, end)) None (IsRangeIn count) (λ some. (ltb-true (next + 1) end some, within.1)) (λ none. tt)

between_within : (next end count : ℕ) → end ≤ count → IsRangeIn count (range_between next end)
between_within next end count le = cond_both (nat_lt next end) (Some (next, end)) None (IsRangeIn count) (λ some. (ltb-true next end some, le)) (λ none. tt)

-- there is no range where there are no packets
empty_within : (range : Option (ℕ × ℕ)) (packets others : List Stored) → not (is_empty packets) ≡ false → IsRangeIn (length packets) range → IsRangeIn (length others) range
empty_within None packets others none within = tt
empty_within (Some (next, end)) [] others none within = absurd (omega (arith, within.0, within.1))
empty_within (Some (next, end)) (stored ∷ packets) others none within = absurd cc

dropped_within : (store : Store) (gone more : ℕ) → length store.packets - gone ≤ more → IsRanged store → IsRangeIn more (range_behind gone store.range)
dropped_within store gone more le within =
    more_within (range_behind gone store.range) (length store.packets - gone) more le (behind_within store.range (length store.packets) gone within)

change_ranged : (blocks : ℕ) (table : Table) (store next : Store) → IsRanged store → IsChange blocks table store next → IsRanged next
change_ranged blocks table store next within (SetsStorage flag) = within
change_ranged blocks table store next within (SetsOpen flag) = within
change_ranged blocks table store next within (SetsTypes patterns) = within
change_ranged blocks table store next within (StartsRange t1 t2) =
    between_within (count_below t1 store.packets) (count_up_to t2 store.packets) (length store.packets) (count_by-le-length (λ (stored : Stored). nat_le stored.time t2) store.packets)
change_ranged blocks table store next within EndsRange = tt
change_ranged blocks table store next within (Deletes t) =
    dropped_within store (count_up_to t store.packets) (length (drop (count_up_to t store.packets) store.packets)) (omega (arith, length-drop (count_up_to t store.packets) store.packets)) within
change_ranged blocks table store next within (MovesOpen t) = within
change_ranged blocks table store next within (Resizes size sized holds fits) = within
change_ranged blocks table store next within (SetsKind kind) = within
change_ranged blocks table store next within (SetsChannel channel on) = within
change_ranged blocks table store next within (TakesWindow from t1 t2 source is none fits) = empty_within store.range store.packets (window_of t1 t2 source.packets) none within

put_ranged : (stored : Stored) (store : Store) → IsRanged store
    → let gone = to_drop store (charge_of (length stored.octets)) in IsRangeIn (length (drop gone store.packets ++ stored ∷ [])) (range_behind gone store.range)
put_ranged stored store within =
    let gone = to_drop store (charge_of (length stored.octets)) in
    dropped_within store gone (length (drop gone store.packets ++ stored ∷ [])) (omega (arith, length-append (drop gone store.packets) (stored ∷ []), length-drop gone store.packets)) within

ranged_kept : IsKept (λ now. IsRanged)
ranged_kept = record {
  rises = λ now later store le within. within;
  takes = λ stored store taken within. put_ranged stored store within;
  tells = λ now store within. within;
  passes = λ now store ahead within. within;
  sends = λ now store within. sent_within store.range (length store.packets) within;
  changes = λ blocks table store next all within change. change_ranged blocks table store next within change;
  creates = λ now identifier kind size channel sized on. tt;
}

pub step_ranged : (blocks number : ℕ) (command : Command) (table : Table) → All IsRanged table.stores → All IsRanged (step blocks number command table).table.stores
step_ranged = step_keeps (λ now. IsRanged) ranged_kept
