-- The pages that a grant reads are those of the packet that it sends.
use Rattle.std.proofs.Common.{◌≡◌, ◌≤◌, ℕ, ◌+◌, List, [], length, Option, Some, None, refl, sym, ◌∙◌, ap, arith}
use Rattle.std.specs.Prelude.{slice_get}
use Rattle.std.specs.Option.{option_map}
use Rattle.std.proofs.lemmas.Option.{get_or_from_slice_get, none-some, same_Some, slice_get-map}
use Rattle.board.specs.Flash.{Flash}
use Rattle.image_table.proofs.ByRows.{held_by_rows}
use Rattle.pst_model.specs.Rules.{grant, packet_at}
use Rattle.pst_model.specs.Table.{Store, Stored, Table}
use Rattle.retrieval.proofs.Granted.{sent_by}
use Rattle.retrieval.specs.Grants.{AreByRows}
use Rattle.retrieval.specs.Picks.{pick_of}
use Rattle.retrieval.specs.declared.pick.Pick.{Pick}
use Rattle.space_packet.specs.Charge.{charge_of}
use Rattle.store_policy.specs.Shown.{AreIndexed, length_of, octets_in}
use Rattle.store_put.proofs.Refused.{shown_at}
use Rattle.time_index.specs.TimeIndex.{TimeIndex}
use Rattle.time_index.specs.declared.entry.Entry.{Entry}
use Rattle.vault.proofs.Entered.{here}
use Rattle.vault.proofs.Passed.{picked_store}
use Rattle.vault.specs.Fetching.{charge_by, charge_in}
use Rattle.vault.specs.Granting.{charge_next, charge_of_pick}
use Rattle.vault.specs.Memory.{InMemory, IsSound}
use Rattle.vault.specs.Standing.{StandsFor}
use Rattle.handler.proofs.Shown.{is_view, view_of}
use Rattle.handler.specs.Working.{pages_retrieved}

-- an entry has the length of the packet in its position
entry_length : (packets : List Stored) (entries : List Entry) (position : ℕ) (entry : Entry) → AreIndexed packets entries
    → slice_get entries position ≡ Some entry → (stored : Stored) × (slice_get packets position ≡ Some stored) × (entry.length ≡ length stored.octets)
entry_length packets entries position entry are is = by (slice_get packets position) refl
  where
    lengths : option_map octets_in (slice_get packets position) ≡ Some entry.length
    lengths =
        sym (slice_get-map octets_in packets position) ∙ ap (λ (l : List ℕ). slice_get l position) are.lengths
        ∙ slice_get-map length_of entries position ∙ ap (option_map length_of) is

    by : (found : Option Stored) → slice_get packets position ≡ found
        → (stored : Stored) × (slice_get packets position ≡ Some stored) × (entry.length ≡ length stored.octets)
    by None none = absurd (none-some entry.length (sym (ap (option_map octets_in) none) ∙ lengths))
    by (Some stored) there =
        (stored, there, sym (same_Some (octets_in stored) entry.length (sym (ap (option_map octets_in) there) ∙ lengths)))

charge_there : (store : Store) (index : TimeIndex) (position : ℕ) → AreIndexed store.packets index.entries
    → charge_in (slice_get index.entries position) ≤ charge_of (length (packet_at store position))
charge_there store index position are = by (slice_get index.entries position) refl
  where
    by : (found : Option Entry) → slice_get index.entries position ≡ found → charge_in found ≤ charge_of (length (packet_at store position))
    by None none = omega arith
    by (Some entry) is =
        let (stored, there, long) = entry_length store.packets index.entries position entry are is in
        let packet : packet_at store position ≡ stored.octets =
        ap (λ (s : Stored). s.octets) (get_or_from_slice_get store.packets position stored (record { time = 0; octets = [] }) there) in
        let same : charge_of entry.length ≡ charge_of (length (packet_at store position)) =
        ap charge_of long ∙ ap (λ (octets : List ℕ). charge_of (length octets)) (sym packet) in
        omega (arith, same)

module _ (vault : InMemory) (flash : Flash) (table : Table) (number : ℕ) (sound : IsSound vault) (stands : StandsFor vault flash table) where
  by_rows : AreByRows table.stores vault.directory.stores
  by_rows = held_by_rows vault.blocks flash.content vault.directory.directory table stands.pages sound.kept (here vault flash table sound stands)

  pub reads_retrieved : charge_next vault ≤ pages_retrieved (grant number table).outputs
  reads_retrieved = by (pick_of vault.directory.stores) refl
    where
      by : (picked : Option Pick) → pick_of vault.directory.stores ≡ picked → charge_of_pick vault picked ≤ pages_retrieved (grant number table).outputs
      by None none = omega arith
      by (Some pick) is =
          let store = picked_store vault pick sound is in
          let sends = sent_by number table vault.directory.stores by_rows pick store.s is store.there in
          let shown = stands.shows (view_of vault) (is_view vault) in
          let (found, there, is_shown) = shown_at table.stores vault.directory.stores vault.indexes pick.at store.s store.index shown.stores store.there store.has in
          let same : found ≡ sends.store = same_Some found sends.store (sym there ∙ sends.there) in
          let few = charge_there found store.index pick.position is_shown.shown.packets in
          let read : charge_by (slice_get vault.indexes pick.at) pick.position ≡ charge_in (slice_get store.index.entries pick.position) =
          ap (λ (i : Option TimeIndex). charge_by i pick.position) store.has in
          let packet : charge_of (length (packet_at found pick.position)) ≡ charge_of (length (packet_at sends.store pick.position)) =
          ap (λ (s : Store). charge_of (length (packet_at s pick.position))) same in
          let pages : pages_retrieved (grant number table).outputs ≡ charge_of (length (packet_at sends.store pick.position)) + 0 =
          ap pages_retrieved sends.outputs in
          omega (arith, few, read, packet, pages)
