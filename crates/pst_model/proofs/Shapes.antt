-- What no arrival and no grant changes of the stores, and what every command keeps of them.
use Rattle.std.proofs.Common.{◌≡◌, ℕ, ◌+◌, Bool, true, false, List, [], ◌∷◌, Option, Some, None, length, refl, sym, ◌∙◌, ap, subst}
use Rattle.std.proofs.lemmas.Bool.{cond_both, cond-false, cond-true}
use Rattle.std.specs.Prelude.{◌==◌, IfOk, find, map, max}
use Rattle.space_packet.specs.Charge.{charge_of}
use Rattle.space_packet.specs.Packet.{apid_of}
use Rattle.control_defs.specs.declared.instructions.Instruction.{Instruction}
use Rattle.pus_header.specs.Commands.{service_of, subtype_of}
use Rattle.pst_model.specs.declared.verdicts.Verdict.{Verdict}
use Rattle.pst_model.specs.Answers.{answer_by, data_in, refusal_of}
use Rattle.pst_model.specs.Arrivals.{arrive, is_offered, offered}
use Rattle.pst_model.specs.Command.{Command, Arrival, Request, Grant, Idle}
use Rattle.pst_model.specs.Instructions.{instruct}
use Rattle.pst_model.specs.Requests.{items_in}
use Rattle.pst_model.specs.Rules.{Refused, Step, Taken, at_first, behind_put, free_of, grant, grant_open, grant_range, has_ahead, has_range, is_refused, put, range_sent}
use Rattle.pst_model.specs.Run.{step}
use Rattle.pst_model.specs.Table.{Store, Stored, Table}
use Rattle.pst_model.proofs.Carried.{carry_keeps, effect_keeps}
use Rattle.pst_model.proofs.Effects.{Effect}
use Rattle.pst_model.proofs.StoresKept.{behind_packet}

-- a change of the first store that passes, which keeps this of it
first_same : {X : Type 0} (f : Store → X) (test : Store → Bool) (change : Store → Store) → ((store : Store) → f (change store) ≡ f store)
    → (stores : List Store) → map f (at_first test change stores) ≡ map f stores
first_same f test change same [] = refl
first_same {X} f test change same (store ∷ stores) =
    cond_both (test store) (change store ∷ stores) (store ∷ at_first test change stores) (λ (l : List Store). map f l ≡ map f (store ∷ stores))
    (λ passes. ap (λ (x : X). x ∷ map f stores) (same store))
    (λ fails. ap (λ (l : List X). f store ∷ l) (first_same f test change same stores))

-- another store in place of the one that is found
pub found_same : {X : Type 0} (f : Store → X) (test : Store → Bool) (store next : Store) → f next ≡ f store
    → (stores : List Store) → find test stores ≡ Some store → map f (at_first test (λ _. next) stores) ≡ map f stores
found_same f test store next same [] is = absurd cc
found_same {X} f test store next same (other ∷ stores) is = by (test other) refl (found_same f test store next same stores)
  where
    by : (passes : Bool) → test other ≡ passes → (find test stores ≡ Some store → map f (at_first test (λ _. next) stores) ≡ map f stores)
        → map f (at_first test (λ _. next) (other ∷ stores)) ≡ map f (other ∷ stores)
    by true passes behind =
        let first : Some other ≡ Some store = sym (cond-true (test other) (Some other) (find test stores) passes) ∙ is in
        let here : other ≡ store = cc in
        ap (map f) (cond-true (test other) (next ∷ stores) (other ∷ at_first test (λ _. next) stores) passes)
        ∙ ap (λ (x : X). x ∷ map f stores) (same ∙ sym (ap f here))
    by false fails behind =
        let rest = sym (cond-false (test other) (Some other) (find test stores) fails) ∙ is in
        ap (map f) (cond-false (test other) (next ∷ stores) (other ∷ at_first test (λ _. next) stores) fails)
        ∙ ap (λ (l : List X). f other ∷ l) (behind rest)

-- the one that is found passes
pub found_passes : (test : Store → Bool) (stores : List Store) (store : Store) → find test stores ≡ Some store → test store ≡ true
found_passes test [] store is = absurd cc
found_passes test (other ∷ stores) store is = by (test other) refl (found_passes test stores store)
  where
    by : (passes : Bool) → test other ≡ passes → (find test stores ≡ Some store → test store ≡ true) → test store ≡ true
    by true passes behind =
        let first : Some other ≡ Some store = sym (cond-true (test other) (Some other) (find test stores) passes) ∙ is in
        let here : other ≡ store = cc in subst (λ (s : Store). test s ≡ true) here passes
    by false fails behind = behind (sym (cond-false (test other) (Some other) (find test stores) fails) ∙ is)

-- What does not depend on packets, positions and the mark of a refusal.
module _ {X : Type 0} (f : Store → X)
    (steady : (store : Store) (packets : List Stored) (behind : ℕ) (range : Option (ℕ × ℕ)) (told : Bool) → f (record store { packets = packets; behind = behind; range = range; told = told }) ≡ f store) where
  put_same : (stored : Stored) (store : Store) → f (behind_put store (put store stored)) ≡ f store
  put_same stored store =
      let need = charge_of (length stored.octets) in
      let next = behind_packet store stored in
      cond_both (is_refused store need) (Refused need (free_of store)) (Taken next) (λ result. f (behind_put store result) ≡ f store)
      (λ refused. steady store store.packets store.behind store.range true) (λ taken. steady store next.packets next.behind next.range false)

  offered_same : (stored : Stored) (store : Store) → f (offered stored store) ≡ f store
  offered_same stored store =
      cond_both (is_offered stored.octets store) (behind_put store (put store stored)) store (λ (s : Store). f s ≡ f store) (λ taken. put_same stored store) (λ other. refl)

  all_same : (stored : Stored) (stores : List Store) → map f (map (offered stored) stores) ≡ map f stores
  all_same stored [] = refl
  all_same stored (store ∷ stores) =
      ap (λ (x : X). x ∷ map f (map (offered stored) stores)) (offered_same stored store) ∙ ap (λ (l : List X). f store ∷ l) (all_same stored stores)

  pub arrive_same : (number moment : ℕ) (packet : List ℕ) (table : Table) → map f (arrive number moment packet table).table.stores ≡ map f table.stores
  arrive_same number moment packet table =
      cond_both (apid_of packet == 2047) _ _ (λ (step : Step). map f step.table.stores ≡ map f table.stores) (λ idle. refl)
      (λ other. all_same (record { time = max table.now moment; octets = packet }) table.stores)

  open_same : (number : ℕ) (table : Table) (store : Option Store) → map f (grant_open number table store).table.stores ≡ map f table.stores
  open_same number table None = refl
  open_same number table (Some first) =
      first_same f has_ahead (λ store. record store { behind = store.behind + 1 }) (λ store. steady store store.packets (store.behind + 1) store.range store.told) table.stores

  range_same : (number : ℕ) (table : Table) (store : Option Store) → map f (grant_range number table store).table.stores ≡ map f table.stores
  range_same number table None = open_same number table (find has_ahead table.stores)
  range_same number table (Some first) =
      first_same f has_range (λ store. record store { range = range_sent store.range }) (λ store. steady store store.packets store.behind (range_sent store.range) store.told) table.stores

  pub grant_same : (number : ℕ) (table : Table) → map f (grant number table).table.stores ≡ map f table.stores
  grant_same number table = range_same number table (find has_range table.stores)

  -- what each effect of an instruction keeps of it, each command keeps
  module _ (R : List X → Type 0) (blocks : ℕ) (keeps : (table next : Table) → R (map f table.stores) → Effect blocks table next → R (map f next.stores)) where
    pub instruct_shape : (item : Instruction) (table : Table) → R (map f table.stores) → IfOk (instruct blocks item table) (λ (next : Table). R (map f next.stores))
    instruct_shape item table holds = effect_keeps (λ (next : Table). R (map f next.stores)) blocks item table (λ next. keeps table next holds)

    answer_shape : (number moment : ℕ) (packet : List ℕ) (table : Table) (refusal : Option Verdict) → R (map f table.stores) → R (map f (answer_by blocks number moment packet table refusal).table.stores)
    answer_shape number moment packet table (Some verdict) holds = holds
    answer_shape number moment packet table None holds =
        carry_keeps blocks (λ (next : Table). R (map f next.stores)) instruct_shape 1 (items_in (service_of packet) (subtype_of packet) (data_in packet)) table holds

    pub step_shape : (number : ℕ) (command : Command) (table : Table) → R (map f table.stores) → R (map f (step blocks number command table).table.stores)
    step_shape number (Arrival moment packet) table holds = subst R (sym (arrive_same number moment packet table)) holds
    step_shape number (Request moment packet) table holds = answer_shape number moment packet table (refusal_of packet) holds
    step_shape number (Grant moment) table holds = subst R (sym (grant_same number table)) holds
    step_shape number (Idle moment) table holds = holds
