-- The contents stay within the sizes, sizes and channels stay lawful, and a bounded store gives no
-- packet up.
use Rattle.std.proofs.Common.{◌≡◌, ◌≤◌, ℕ, zero, suc, ◌+◌, false, List, [], ◌∷◌, length, drop, sym, ◌∙◌, ap, arith}
use Rattle.std.proofs.lemmas.Bool.{and_parts, le-leb, leb-true, ltb-false, not-false, or_parts}
use Rattle.std.specs.Prelude.{All, ◌&&◌, nat_le, nat_lt, not}
use Rattle.space_packet.specs.Charge.{charge_of}
use Rattle.control_defs.specs.declared.instructions.StoreKind.{StoreKind}
use Rattle.control_defs.specs.declared.instructions.StoreKind.TheVariants.{Bounded}
use Rattle.pst_model.specs.Command.{Command}
use Rattle.pst_model.specs.Laws.{IsConfigured, IsFilled}
use Rattle.pst_model.specs.Ranges.{count_up_to}
use Rattle.pst_model.specs.Rules.{free_of, has_room, is_bounded, is_refused, to_drop}
use Rattle.pst_model.specs.Run.{step}
use Rattle.pst_model.specs.Stores.{is_channel, is_size}
use Rattle.pst_model.specs.Table.{Store, Stored, Table, content_in, content_of}
use Rattle.pst_model.proofs.Effects.{IsChange, SetsStorage, SetsOpen, SetsTypes, StartsRange, EndsRange, Deletes, MovesOpen, Resizes, SetsKind, SetsChannel, TakesWindow}
use Rattle.pst_model.proofs.Leasts.{least-is}
use Rattle.pst_model.proofs.Puts.{to_drop-least}
use Rattle.pst_model.proofs.StoredPages.{content_in-append}
use Rattle.pst_model.proofs.StoresKept.{IsKept, behind_packet, step_keeps}

-- without packets at the front there is no more content
content_in-drop : (count : ℕ) (packets : List Stored) → content_in (drop count packets) ≤ content_in packets
content_in-drop zero packets = omega arith
content_in-drop (suc count) [] = omega arith
content_in-drop (suc count) (stored ∷ packets) = omega (arith, content_in-drop count packets)

put_filled : (stored : Stored) (store : Store) → is_refused store (charge_of (length stored.octets)) ≡ false → IsFilled (behind_packet store stored)
put_filled stored store taken =
    let need = charge_of (length stored.octets) in
    let gone = to_drop store need in
    let fits : need ≤ store.size = ltb-false store.size need (or_parts (nat_lt store.size need) (is_bounded store.kind && nat_lt (free_of store) need) taken).0 in
    let room : content_in (drop gone store.packets) + need ≤ store.size = leb-true (content_in (drop gone store.packets) + need) store.size (to_drop-least store need fits).passes in
    omega (arith, content_in-append (drop gone store.packets) (stored ∷ []))

change_filled : (blocks : ℕ) (table : Table) (store next : Store) → IsFilled store → IsChange blocks table store next → IsFilled next
change_filled blocks table store next filled (SetsStorage flag) = filled
change_filled blocks table store next filled (SetsOpen flag) = filled
change_filled blocks table store next filled (SetsTypes patterns) = filled
change_filled blocks table store next filled (StartsRange t1 t2) = filled
change_filled blocks table store next filled EndsRange = filled
change_filled blocks table store next filled (Deletes t) = omega (arith, content_in-drop (count_up_to t store.packets) store.packets)
change_filled blocks table store next filled (MovesOpen t) = filled
change_filled blocks table store next filled (Resizes size sized holds fits) = ltb-false size (content_of store) holds
change_filled blocks table store next filled (SetsKind kind) = filled
change_filled blocks table store next filled (SetsChannel channel on) = filled
change_filled blocks table store next filled (TakesWindow from t1 t2 source is none fits) = ltb-false store.size (content_in _) fits

filled_kept : IsKept (λ now. IsFilled)
filled_kept = record {
  rises = λ now later store le filled. filled;
  takes = λ stored store taken filled. put_filled stored store taken;
  tells = λ now store filled. filled;
  passes = λ now store ahead filled. filled;
  sends = λ now store filled. filled;
  changes = λ blocks table store next all filled change. change_filled blocks table store next filled change;
  creates = λ now identifier kind size channel sized on. omega arith;
}

pub step_filled : (blocks number : ℕ) (command : Command) (table : Table) → All IsFilled table.stores → All IsFilled (step blocks number command table).table.stores
step_filled = step_keeps (λ now. IsFilled) filled_kept

-- sizes and channels, of which a test says that they are lawful
size_within : (size : ℕ) → not (is_size size) ≡ false → (1 ≤ size) × (size ≤ 100000)
size_within size sized =
    let parts = and_parts (nat_le 1 size) (nat_le size 100000) (not-false (is_size size) sized) in (leb-true 1 size parts.0, leb-true size 100000 parts.1)

channel_within : (channel : ℕ) → not (is_channel channel) ≡ false → (1 ≤ channel) × (channel ≤ 7)
channel_within channel on =
    let parts = and_parts (nat_le 1 channel) (nat_le channel 7) (not-false (is_channel channel) on) in (leb-true 1 channel parts.0, leb-true channel 7 parts.1)

change_configured : (blocks : ℕ) (table : Table) (store next : Store) → IsConfigured store → IsChange blocks table store next → IsConfigured next
change_configured blocks table store next lawful (SetsStorage flag) = record { size = lawful.size; channel = lawful.channel }
change_configured blocks table store next lawful (SetsOpen flag) = record { size = lawful.size; channel = lawful.channel }
change_configured blocks table store next lawful (SetsTypes patterns) = record { size = lawful.size; channel = lawful.channel }
change_configured blocks table store next lawful (StartsRange t1 t2) = record { size = lawful.size; channel = lawful.channel }
change_configured blocks table store next lawful EndsRange = record { size = lawful.size; channel = lawful.channel }
change_configured blocks table store next lawful (Deletes t) = record { size = lawful.size; channel = lawful.channel }
change_configured blocks table store next lawful (MovesOpen t) = record { size = lawful.size; channel = lawful.channel }
change_configured blocks table store next lawful (Resizes size sized holds fits) = record { size = size_within size sized; channel = lawful.channel }
change_configured blocks table store next lawful (SetsKind kind) = record { size = lawful.size; channel = lawful.channel }
change_configured blocks table store next lawful (SetsChannel channel on) = record { size = lawful.size; channel = channel_within channel on }
change_configured blocks table store next lawful (TakesWindow from t1 t2 source is none fits) = record { size = lawful.size; channel = lawful.channel }

configured_kept : IsKept (λ now. IsConfigured)
configured_kept = record {
  rises = λ now later store le lawful. lawful;
  takes = λ stored store taken lawful. record { size = lawful.size; channel = lawful.channel };
  tells = λ now store lawful. record { size = lawful.size; channel = lawful.channel };
  passes = λ now store ahead lawful. record { size = lawful.size; channel = lawful.channel };
  sends = λ now store lawful. record { size = lawful.size; channel = lawful.channel };
  changes = λ blocks table store next all lawful change. change_configured blocks table store next lawful change;
  creates = λ now identifier kind size channel sized on. record { size = size_within size sized; channel = channel_within channel on };
}

pub step_configured : (blocks number : ℕ) (command : Command) (table : Table) → All IsConfigured table.stores → All IsConfigured (step blocks number command table).table.stores
step_configured = step_keeps (λ now. IsConfigured) configured_kept

-- where a bounded store does not refuse, all of its packets have room beside the new one
pub bounded-keeps : (store : Store) (need : ℕ) → store.kind ≡ Bounded → IsFilled store → is_refused store need ≡ false → to_drop store need ≡ 0
bounded-keeps store need bounded filled taken =
    let parts = or_parts (nat_lt store.size need) (is_bounded store.kind && nat_lt (free_of store) need) taken in
    let free : nat_lt (free_of store) need ≡ false = sym (ap (λ (kind : StoreKind). is_bounded kind && nat_lt (free_of store) need) bounded) ∙ parts.1 in
    let room : need ≤ free_of store = ltb-false (free_of store) need free in
    least-is (has_room store need) (length store.packets) 0 (omega arith) (le-leb (content_of store + need) store.size (omega arith)) (λ n lt. absurd (omega arith))
