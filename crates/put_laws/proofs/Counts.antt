-- The reports of an arrival, store by store.
use Rattle.std.proofs.Common.{◌≡◌, ℕ, suc, ◌+◌, ◌≤◌, true, false, List, [], ◌∷◌, ◌++◌, length, take, length-append, Some, sym, ◌∙◌, ap, arith}
use Rattle.std.specs.Prelude.{flat_map, slice_get}
use Rattle.std.proofs.lemmas.Bool.{cond-false, cond-true}
use Rattle.std.proofs.lemmas.List.{take_all}
use Rattle.pst_model.specs.Arrivals.{is_offered, offer_report, put_report}
use Rattle.pst_model.specs.Reports.{Report, count_behind, event_report}
use Rattle.pst_model.specs.Rules.{Refused, Taken, free_of, is_refused, put, to_drop, with_last}
use Rattle.pst_model.specs.Table.{Store, Stored, Table, drop_front}
use Rattle.put_laws.specs.Puts.{Accepts, Refuses, need_of}
use Rattle.put_laws.specs.Walks.{reports_behind, reports_up_to}
use Rattle.put_laws.proofs.Spots.{spot, take_past, take_to}

one_more : (f : Store → List Report) (front : List Store) (store : Store)
    → length (flat_map f (front ++ store ∷ [])) ≡ length (flat_map f front) + length (f store)
one_more f [] store = omega (arith, length-append (f store) [])
one_more f (x ∷ front) store =
    omega (arith, length-append (f x) (flat_map f (front ++ store ∷ [])), length-append (f x) (flat_map f front), one_more f front store)

-- those of one store more
next_reports : (stored : Stored) (at : ℕ) (table : Table) (store : Store) → slice_get table.stores at ≡ Some store
    → reports_up_to stored (at + 1) table ≡ reports_up_to stored at table + length (offer_report stored store)
next_reports stored at table store shown =
    let there = spot table.stores at store shown in
    let more : at + 1 ≡ suc (length there.front) = omega (arith, there.long) in
    let reports : List Store → ℕ = λ stores. length (flat_map (offer_report stored) stores) in
    let after : reports_up_to stored (at + 1) table ≡ reports (there.front ++ store ∷ []) =
    ap (λ (n : ℕ). reports (take n table.stores)) more
    ∙ ap (λ (l : List Store). reports (take (suc (length there.front)) l)) there.parted
    ∙ ap reports (take_past there.front store there.back) in
    let before : reports_up_to stored at table ≡ reports there.front =
    ap (λ (n : ℕ). reports (take n table.stores)) (sym there.long)
    ∙ ap (λ (l : List Store). reports (take (length there.front) l)) there.parted
    ∙ ap reports (take_to there.front store there.back) in
    after ∙ one_more (offer_report stored) there.front store ∙ ap (λ (n : ℕ). n + length (offer_report stored store)) (sym before)

-- the report of a store that is offered the packet
offered_report : (stored : Stored) (store : Store) → is_offered stored.octets store ≡ true → offer_report stored store ≡ put_report store (put store stored)
offered_report stored store is = cond-true (is_offered stored.octets store) (put_report store (put store stored)) [] is

refused_report : (stored : Stored) (store : Store) → Refuses store stored → offer_report stored store ≡ put_report store (Refused (need_of stored) (free_of store))
refused_report stored store refuses =
    offered_report stored store refuses.offered
    ∙ ap (put_report store)
    (cond-true (is_refused store (need_of stored)) (Refused (need_of stored) (free_of store))
    (Taken (with_last (drop_front store (to_drop store (need_of stored))) stored)) refuses.refused)

taken_report : (stored : Stored) (store : Store) (gone : ℕ) → Accepts store stored gone → offer_report stored store ≡ []
taken_report stored store gone accepts =
    offered_report stored store accepts.offered
    ∙ ap (put_report store)
    (cond-false (is_refused store (need_of stored)) (Refused (need_of stored) (free_of store))
    (Taken (with_last (drop_front store (to_drop store (need_of stored))) stored)) accepts.room)

module _ (stored : Stored) (at : ℕ) (table : Table) (store : Store) (shown : slice_get table.stores at ≡ Some store) where
  no_report : offer_report stored store ≡ [] → reports_up_to stored (at + 1) table ≡ reports_up_to stored at table
  no_report none = next_reports stored at table store shown ∙ omega (arith, ap length none)

  pub unoffered : is_offered stored.octets store ≡ false → reports_up_to stored (at + 1) table ≡ reports_up_to stored at table
  unoffered is = no_report (cond-false (is_offered stored.octets store) (put_report store (put store stored)) [] is)

  pub taken : (gone : ℕ) → Accepts store stored gone → reports_up_to stored (at + 1) table ≡ reports_up_to stored at table
  taken gone accepts = no_report (taken_report stored store gone accepts)

  pub told : Refuses store stored → store.told ≡ true → reports_up_to stored (at + 1) table ≡ reports_up_to stored at table
  told refuses is =
      no_report
      (refused_report stored store refuses
      ∙ cond-true store.told [] (event_report store.identifier (need_of stored) (free_of store) ∷ []) is)

  pub tells : Refuses store stored → store.told ≡ false → reports_up_to stored (at + 1) table ≡ reports_up_to stored at table + 1
  tells refuses is =
      let report = event_report store.identifier (need_of stored) (free_of store) in
      next_reports stored at table store shown
      ∙ ap (λ (l : List Report). reports_up_to stored at table + length l)
      (refused_report stored store refuses ∙ cond-false store.told [] (report ∷ []) is)

pub all : (stored : Stored) (at : ℕ) (table : Table) → length table.stores ≤ at
    → reports_behind stored table ≡ count_behind table.reports (reports_up_to stored at table)
all stored at table few =
    ap (λ (l : List Store). count_behind table.reports (length (flat_map (offer_report stored) l))) (sym (take_all at table.stores few))
