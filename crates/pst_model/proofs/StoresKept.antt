-- What every command keeps of each store.
use Rattle.std.proofs.Common.{◌≡◌, ◌≤◌, ℕ, ◌+◌, Bool, true, false, List, [], ◌∷◌, Option, Some, None, length, arith}
use Rattle.std.proofs.lemmas.Bool.{cond_both}
use Rattle.std.proofs.lemmas.List.Elements.{All-cons, All-filter, All-head, All-map, All-push, All-tail, All-weaker}
use Rattle.std.specs.Prelude.{All, ◌==◌, IfOk, find, max, not}
use Rattle.space_packet.specs.Charge.{charge_of}
use Rattle.space_packet.specs.Packet.{apid_of}
use Rattle.control_defs.specs.declared.instructions.Instruction.{Instruction}
use Rattle.control_defs.specs.declared.instructions.StoreKind.{StoreKind}
use Rattle.pus_header.specs.Commands.{service_of, subtype_of}
use Rattle.pst_model.specs.declared.verdicts.Verdict.{Verdict}
use Rattle.pst_model.specs.Answers.{answer_by, data_in, refusal_of}
use Rattle.pst_model.specs.Arrivals.{arrive, is_offered, offered}
use Rattle.pst_model.specs.Changes.{is_named}
use Rattle.pst_model.specs.Command.{Command, Arrival, Request, Grant, Idle}
use Rattle.pst_model.specs.Instructions.{instruct}
use Rattle.pst_model.specs.Requests.{items_in}
use Rattle.pst_model.specs.Rules.{Refused, Step, Taken, at_first, behind_put, free_of, grant_open, grant_range, has_ahead, has_range, is_refused, put, range_sent, to_drop, with_last}
use Rattle.pst_model.specs.Run.{step}
use Rattle.pst_model.specs.Stores.{is_channel, is_size, new_store}
use Rattle.pst_model.specs.Table.{Store, Stored, Table, drop_front}
use Rattle.pst_model.proofs.Carried.{carry_keeps, effect_keeps, found_has}
use Rattle.pst_model.proofs.Effects.{Effect, Stays, Forwards, Changes, Creates, Removes, IsChange}

-- the store behind a packet that it takes
abbrev pub behind_packet : Store → Stored → Store
behind_packet store stored = with_last (drop_front store (to_drop store (charge_of (length stored.octets)))) stored

-- Each change that a command can make of a store keeps this of it, which may speak of the last
-- storage time.
pub record IsKept (Q : (now : ℕ) → Store → Type 0) : Type 0 where
  pub rises : (now later : ℕ) (store : Store) → now ≤ later → Q now store → Q later store
  pub takes : (stored : Stored) (store : Store) → is_refused store (charge_of (length stored.octets)) ≡ false → Q stored.time store → Q stored.time (behind_packet store stored)
  pub tells : (now : ℕ) (store : Store) → Q now store → Q now (record store { told = true })
  pub passes : (now : ℕ) (store : Store) → has_ahead store ≡ true → Q now store → Q now (record store { behind = store.behind + 1 })
  pub sends : (now : ℕ) (store : Store) → Q now store → Q now (record store { range = range_sent store.range })
  pub changes : (blocks : ℕ) (table : Table) (store next : Store) → All (Q table.now) table.stores → Q table.now store → IsChange blocks table store next → Q table.now next
  pub creates : (now identifier : ℕ) (kind : StoreKind) (size channel : ℕ) → not (is_size size) ≡ false → not (is_channel channel) ≡ false → Q now (new_store identifier kind size channel)

-- a change of the first store that passes a test
first_keeps : (R : Store → Type 0) (test : Store → Bool) (change : Store → Store) → ((store : Store) → test store ≡ true → R store → R (change store))
    → (stores : List Store) → All R stores → All R (at_first test change stores)
first_keeps R test change keeps [] all = all
first_keeps R test change keeps (store ∷ stores) all =
    let head = All-head R store stores all in
    let tail = All-tail R store stores all in
    cond_both (test store) (change store ∷ stores) (store ∷ at_first test change stores) (All R)
    (λ passes. All-cons R (change store) stores (keeps store passes head) tail)
    (λ fails. All-cons R store (at_first test change stores) head (first_keeps R test change keeps stores tail))

module _ (Q : (now : ℕ) → Store → Type 0) (kept : IsKept Q) where
  -- each store of a table
  abbrev HasAll : Table → Type 0
  HasAll table = All (Q table.now) table.stores

  put_keeps : (stored : Stored) (store : Store) → Q stored.time store → Q stored.time (behind_put store (put store stored))
  put_keeps stored store has =
      let need = charge_of (length stored.octets) in
      cond_both (is_refused store need) (Refused need (free_of store)) (Taken (behind_packet store stored)) (λ result. Q stored.time (behind_put store result))
      (λ refused. kept.tells stored.time store has) (λ taken. kept.takes stored store taken has)

  offered_keeps : (stored : Stored) (store : Store) → Q stored.time store → Q stored.time (offered stored store)
  offered_keeps stored store has =
      cond_both (is_offered stored.octets store) (behind_put store (put store stored)) store (Q stored.time) (λ taken. put_keeps stored store has) (λ other. has)

  arrive_keeps : (number moment : ℕ) (packet : List ℕ) (table : Table) → HasAll table → HasAll (arrive number moment packet table).table
  arrive_keeps number moment packet table all =
      let now = max table.now moment in
      let stored : Stored = record { time = now; octets = packet } in
      let later : All (Q now) table.stores = All-weaker (Q table.now) (Q now) (λ store. kept.rises table.now now store (omega arith)) table.stores all in
      cond_both (apid_of packet == 2047) _ _ (λ (step : Step). HasAll step.table) (λ idle. later)
      (λ other. All-map (Q now) (offered stored) table.stores (All-weaker (Q now) (λ store. Q now (offered stored store)) (offered_keeps stored) table.stores later))

  open_keeps : (number : ℕ) (table : Table) (store : Option Store) → HasAll table → HasAll (grant_open number table store).table
  open_keeps number table None all = all
  open_keeps number table (Some first) all =
      first_keeps (Q table.now) has_ahead (λ store. record store { behind = store.behind + 1 }) (λ store ahead. kept.passes table.now store ahead) table.stores all

  range_keeps : (number : ℕ) (table : Table) (store : Option Store) → HasAll table → HasAll (grant_range number table store).table
  range_keeps number table None all = open_keeps number table (find has_ahead table.stores) all
  range_keeps number table (Some first) all =
      first_keeps (Q table.now) has_range (λ store. record store { range = range_sent store.range }) (λ store ranged. kept.sends table.now store) table.stores all

  effect_all : (blocks : ℕ) (table next : Table) → HasAll table → Effect blocks table next → HasAll next
  effect_all blocks table next all Stays = all
  effect_all blocks table next all (Forwards patterns) = all
  effect_all blocks table next all (Changes identifier store other found change) =
      let has = found_has (Q table.now) (is_named identifier) table.stores store all found in
      first_keeps (Q table.now) (is_named identifier) (λ _. other) (λ store named old. kept.changes blocks table _ other all has change) table.stores all
  effect_all blocks table next all (Creates identifier kind size channel new few sized on fits) =
      All-push (Q table.now) table.stores (new_store identifier kind size channel) all (kept.creates table.now identifier kind size channel sized on)
  effect_all blocks table next all (Removes identifier) = All-filter (λ store. not (is_named identifier store)) (Q table.now) table.stores all

  instruct_keeps : (blocks : ℕ) (item : Instruction) (table : Table) → HasAll table → IfOk (instruct blocks item table) HasAll
  instruct_keeps blocks item table all = effect_keeps HasAll blocks item table (λ next. effect_all blocks table next all)

  answer_keeps : (blocks number moment : ℕ) (packet : List ℕ) (table : Table) (refusal : Option Verdict) → HasAll table → HasAll (answer_by blocks number moment packet table refusal).table
  answer_keeps blocks number moment packet table (Some verdict) all = all
  answer_keeps blocks number moment packet table None all =
      carry_keeps blocks HasAll (instruct_keeps blocks) 1 (items_in (service_of packet) (subtype_of packet) (data_in packet)) table all

  pub step_keeps : (blocks number : ℕ) (command : Command) (table : Table) → HasAll table → HasAll (step blocks number command table).table
  step_keeps blocks number (Arrival moment packet) table all = arrive_keeps number moment packet table all
  step_keeps blocks number (Request moment packet) table all = answer_keeps blocks number moment packet table (refusal_of packet) all
  step_keeps blocks number (Grant moment) table all = range_keeps number table (find has_range table.stores) all
  step_keeps blocks number (Idle moment) table all = all
