-- The moves of a command lead from the place before it to the one behind it.
use Rattle.std.proofs.Common.{◌≡◌, ◌≤◌, ℕ, zero, suc, ◌+◌, arith, Bool, true, false, List, [], ◌∷◌, ◌++◌, Option, Some, None, Result, Ok, Err, length, refl, sym, ◌∙◌, ap, subst}
use Rattle.std.proofs.lemmas.Bool.{cond_both, cond-false, cond-true}
use Rattle.std.specs.Option.{option_map}
use Rattle.std.specs.Prelude.{◌==◌, IfOk, find, is_some, map, max, if◌then◌else◌}
use Rattle.space_packet.specs.Charge.{charge_of}
use Rattle.space_packet.specs.Packet.{apid_of}
use Rattle.control_defs.specs.declared.instructions.Instruction.{Instruction}
use Rattle.pus_header.specs.Commands.{service_of, subtype_of}
use Rattle.pst_model.specs.declared.verdicts.Verdict.{Verdict}
use Rattle.pst_model.specs.Answers.{answer_by, carried_by, carry_out_from, data_in}
use Rattle.pst_model.specs.Arrivals.{arrive, forwarded_on, is_offered, offer, offered}
use Rattle.pst_model.specs.Changes.{is_named}
use Rattle.pst_model.specs.Command.{Command, Arrival, Request, Grant, Idle}
use Rattle.pst_model.specs.Instructions.{instruct}
use Rattle.pst_model.specs.Least.{least}
use Rattle.pst_model.specs.Replies.{behind_outputs}
use Rattle.pst_model.specs.Requests.{items_in}
use Rattle.pst_model.specs.Rules.{Refused, Taken, at_first, behind_put, free_of, grant_open, grant_range, has_ahead, has_range, has_room, is_refused, put, range_next, range_sent, to_drop}
use Rattle.pst_model.specs.Table.{Store, Stored, Table, drop_front}
use Rattle.pst_model.proofs.Shapes.{found_passes}
use Rattle.pst_model.proofs.StoresKept.{behind_packet}
use Rattle.pst_laws.specs.Moves.{Judge, Leaves, Move, OpenSends, RangeSends, Takes, arrival_moves, is_first, item_moves, items_moves, moves_along, moves_by, moves_of, offer_moves, open_moves, put_moves, range_moves, request_moves, run_by, step_by, store_named}
use Rattle.pst_laws.specs.Places.{Halted, Leaving, Moved, MovedAlong, MovedBy, Onward, OpenSending, Place, RangeSending, Still, Taking, Then, place_in, place_of}
use Rattle.pst_laws.proofs.Found.{IsHit, hit, missed}
use Rattle.pst_laws.proofs.Items.{at, at_rest, item_leads, once}

-- moves one behind another
moved-append : (xs ys : List Move) (before between behind : Option Place) → MovedBy xs before between → MovedBy ys between behind → MovedBy (xs ++ ys) before behind
moved-append [] ys before _ behind (Still _) others = others
moved-append (move ∷ xs) ys before between behind (Then _ _ _ next _ moved rest) others =
    Then move (xs ++ ys) before next behind moved (moved-append xs ys next between behind rest others)

-- the store of an identifier, where all stores are changed
mapped : (identifier : ℕ) (change : Store → Store) → ((store : Store) → (change store).identifier ≡ store.identifier) → (stores : List Store) (store : Option Store)
    → find (is_named identifier) stores ≡ store → find (is_named identifier) (map change stores) ≡ option_map change store
mapped identifier change same [] store is = ap (option_map change) is
mapped identifier change same (first ∷ stores) store is = by (is_named identifier first) refl (mapped identifier change same stores store)
  where
    by : (named : Bool) → is_named identifier first ≡ named → (find (is_named identifier) stores ≡ store → find (is_named identifier) (map change stores) ≡ option_map change store)
        → find (is_named identifier) (map change (first ∷ stores)) ≡ option_map change store
    by true named rest =
        cond-true (is_named identifier (change first)) _ _ (ap (λ (n : ℕ). n == identifier) (same first) ∙ named)
        ∙ ap (option_map change) (sym (cond-true (is_named identifier first) (Some first) (find (is_named identifier) stores) named) ∙ is)
    by false named rest =
        cond-false (is_named identifier (change first)) _ _ (ap (λ (n : ℕ). n == identifier) (same first) ∙ named)
        ∙ rest (sym (cond-false (is_named identifier first) (Some first) (find (is_named identifier) stores) named) ∙ is)

least-le : (test : ℕ → Bool) (bound : ℕ) → least test bound ≤ bound
least-le test zero = omega arith
least-le test (suc bound) =
    cond_both (test zero) zero (suc (least (λ n. test (suc n)) bound)) (λ n. n ≤ suc bound) (λ passes. omega arith)
    (λ fails. let rest = least-le (λ n. test (suc n)) bound in omega (arith, rest))

-- an arriving packet
put_named : (stored : Stored) (store : Store) → (behind_put store (put store stored)).identifier ≡ store.identifier
put_named stored store =
    let need = charge_of (length stored.octets) in
    cond_both (is_refused store need) (Refused need (free_of store)) (Taken (behind_packet store stored)) (λ result. (behind_put store result).identifier ≡ store.identifier) (λ refused. refl) (λ taken. refl)

offered_named : (stored : Stored) (store : Store) → (offered stored store).identifier ≡ store.identifier
offered_named stored store =
    cond_both (is_offered stored.octets store) (behind_put store (put store stored)) store (λ (s : Store). s.identifier ≡ store.identifier) (λ taken. put_named stored store) (λ other. refl)

put_leads : (stored : Stored) (store : Store)
    → MovedBy (put_moves stored (to_drop store (charge_of (length stored.octets))) (put store stored)) (place_in (Some store)) (place_in (Some (behind_put store (put store stored))))
put_leads stored store =
    let need = charge_of (length stored.octets) in
    let leaving = to_drop store need in
    cond_both (is_refused store need) (Refused need (free_of store)) (Taken (behind_packet store stored))
    (λ result. MovedBy (put_moves stored leaving result) (place_in (Some store)) (place_in (Some (behind_put store result))))
    (λ refused. Still (place_in (Some store)))
    (λ taken. Then (Leaves leaving) _ _ _ _ (Leaving leaving (at store) (least-le (has_room store need) (length store.packets))) (once (Takes (stored ∷ [])) _ _ (Taking (stored ∷ []) (at (drop_front store leaving)))))

offer_leads : (stored : Stored) (store : Option Store) → MovedBy (offer_moves stored store) (place_in store) (place_in (option_map (offered stored) store))
offer_leads stored None = Still None
offer_leads stored (Some store) = by (is_offered stored.octets store)
  where
    by : (taken : Bool) → MovedBy (if taken then put_moves stored (to_drop store (charge_of (length stored.octets))) (put store stored) else []) (place_in (Some store))
        (place_in (Some (if taken then behind_put store (put store stored) else store)))
    by true = put_leads stored store
    by false = Still (place_in (Some store))

module _ (blocks number identifier : ℕ) where
  abbrev Leads : List Move → Table → Table → Type 0
  Leads moves table next = MovedBy moves (place_of identifier table) (place_of identifier next)

  arrival_leads : (moment : ℕ) (packet : List ℕ) (table : Table) → Leads (arrival_moves identifier moment packet table) table (arrive number moment packet table).table
  arrival_leads moment packet table = by (apid_of packet == 2047)
    where
      stored : Stored
      stored = record { time = max table.now moment; octets = packet }

      taken : MovedBy (offer_moves stored (store_named identifier table)) (place_of identifier table) (place_in (find (is_named identifier) (map (offered stored) table.stores)))
      taken = subst (λ (s : Option Store). MovedBy (offer_moves stored (store_named identifier table)) (place_of identifier table) (place_in s))
          (sym (mapped identifier (offered stored) (offered_named stored) table.stores (store_named identifier table) refl)) (offer_leads stored (store_named identifier table))

      by : (idle : Bool) → Leads (if idle then [] else offer_moves stored (store_named identifier table)) table
          (if idle then record { table = record table { now = max table.now moment }; outputs = [] } else behind_outputs (forwarded_on number packet table) (offer number moment stored table)).table
      by true = Still (place_of identifier table)
      by false = taken

  -- a request
  items_lead : (first : ℕ) (items : List Instruction) (table : Table) → Leads (items_moves blocks identifier items table) table (carry_out_from blocks first items table).table
  items_lead first [] table = Still (place_of identifier table)
  items_lead first (item ∷ items) table = by (instruct blocks item table) (item_leads blocks identifier table item) (items_lead (first + 1) items)
    where
      moves : List Move
      moves = item_moves identifier item table

      by : (outcome : Result Table ℕ) → IfOk outcome (Leads moves table) → ((next : Table) → Leads (items_moves blocks identifier items next) next (carry_out_from blocks (first + 1) items next).table)
          → Leads (moves_by moves table outcome (items_moves blocks identifier items)) table (carried_by first table outcome (carry_out_from blocks (first + 1) items)).table
      by (Ok next) here rest = moved-append moves (items_moves blocks identifier items next) _ (place_of identifier next) _ here (rest next)
      by (Err code) here rest = rest table

  request_leads : (moment : ℕ) (packet : List ℕ) (table : Table) (refusal : Option Verdict)
      → Leads (request_moves blocks identifier packet table refusal) table (answer_by blocks number moment packet table refusal).table
  request_leads moment packet table (Some verdict) = Still (place_of identifier table)
  request_leads moment packet table None = items_lead 1 (items_in (service_of packet) (subtype_of packet) (data_in packet)) table

  -- a grant
  next_sent : (place : Place) → is_some place.range ≡ true → Moved (RangeSends (range_next place.range)) (Some place) (Some (record place { range = range_sent place.range }))
  next_sent place is = by place.range refl is
    where
      by : (range : Option (ℕ × ℕ)) → place.range ≡ range → is_some range ≡ true → Moved (RangeSends (range_next place.range)) (Some place) (Some (record place { range = range_sent place.range }))
      by None none is = absurd cc
      by (Some (next, end)) here is = subst (λ (n : ℕ). Moved (RangeSends n) (Some place) (Some (record place { range = range_sent place.range }))) (sym (ap range_next here)) (RangeSending next end place here)

  module _ (table : Table) where
    granted : (test : Store → Bool) (change : Store → Store) → ((store : Store) → test store ≡ true → (change store).identifier ≡ store.identifier) → (move : Store → Move)
        → ((store : Store) → test store ≡ true → Moved (move store) (place_in (Some store)) (place_in (Some (change store))))
        → (store : Store) → find test table.stores ≡ Some store
        → Leads (if is_first test identifier table.stores then move store ∷ [] else []) table (record table { stores = at_first test change table.stores })
    granted test change same move moved store found = by (is_first test identifier table.stores) refl
      where
        by : (first : Bool) → is_first test identifier table.stores ≡ first → Leads (if first then move store ∷ [] else []) table (record table { stores = at_first test change table.stores })
        by true first =
            let at : IsHit test change identifier table.stores = hit test change same identifier table.stores first in
            let is : Some at.store ≡ Some store = sym at.first ∙ found in
            let here : at.store ≡ store = cc in
            subst (λ (s : Option Store). MovedBy (move store ∷ []) (place_in s) (place_in (find (is_named identifier) (at_first test change table.stores)))) (sym (at.found ∙ is))
            (subst (λ (s : Option Store). MovedBy (move store ∷ []) (place_in (Some store)) (place_in s)) (sym (at.behind ∙ ap (λ (s : Store). Some (change s)) here))
            (once (move store) _ _ (moved store (found_passes test table.stores store found))))
        by false first = at_rest _ _ (sym (ap place_in (missed test change same identifier table.stores first)))

    open_leads : (found : Option Store) → find has_ahead table.stores ≡ found → Leads (open_moves identifier table found) table (grant_open number table found).table
    open_leads None is = Still (place_of identifier table)
    open_leads (Some store) is = granted has_ahead (λ store. record store { behind = store.behind + 1 }) (λ store ahead. refl) (λ store. OpenSends store.behind) (λ store ahead. OpenSending (at store)) store is

    range_leads : (found : Option Store) → find has_range table.stores ≡ found → Leads (range_moves identifier table found) table (grant_range number table found).table
    range_leads None is = open_leads (find has_ahead table.stores) refl
    range_leads (Some store) is =
        granted has_range (λ store. record store { range = range_sent store.range }) (λ store ranged. refl) (λ store. RangeSends (range_next store.range)) (λ store ranged. next_sent (at store) ranged) store is

module _ (judge : Judge) (blocks identifier : ℕ) where
  pub command_leads : (number : ℕ) (command : Command) (table : Table)
      → MovedBy (moves_of judge blocks identifier command table) (place_of identifier table) (place_of identifier (step_by judge blocks number command table).table)
  command_leads number (Arrival moment packet) table = arrival_leads blocks number identifier moment packet table
  command_leads number (Request moment packet) table = request_leads blocks number identifier moment packet table (judge packet)
  command_leads number (Grant moment) table = range_leads blocks number identifier table (find has_range table.stores) refl
  command_leads number (Idle moment) table = Still (place_of identifier table)

  pub run_leads : (number : ℕ) (table : Table) (commands : List Command)
      → MovedAlong (moves_along judge blocks number identifier table commands) (place_of identifier table) (place_of identifier (run_by judge blocks number table commands).table)
  run_leads number table [] = Halted (place_of identifier table)
  run_leads number table (command ∷ commands) =
      Onward _ _ _ (place_of identifier (step_by judge blocks number command table).table) _ (command_leads number command table)
      (run_leads (number + 1) (step_by judge blocks number command table).table commands)
