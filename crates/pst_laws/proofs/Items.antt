-- What an instruction that takes effect does to the places of a store.
use Rattle.std.proofs.Common.{◌≡◌, ℕ, Bool, true, false, List, [], ◌∷◌, ◌++◌, Option, Some, None, Result, Ok, Err, refl, sym, ◌∙◌, ap, subst}
use Rattle.std.proofs.lemmas.Bool.{cond_both, cond-false, cond-true, eqb-true}
use Rattle.std.proofs.lemmas.List.Folds.{find-append}
use Rattle.std.proofs.lemmas.List.Sums.{count_by-le-length}
use Rattle.std.specs.Prelude.{◌==◌, IfOk, find, is_some, nat_le, not, if◌then◌else◌}
use Rattle.std.specs.Option.{option_or}
use Rattle.control_defs.specs.declared.instructions.Instruction.{Instruction}
use Rattle.control_defs.specs.declared.instructions.Instruction.TheVariants.{ForwardAdd, ForwardDelete, ForwardReport, Enable, Disable, AddTypes, DeleteTypes, ReportTypes, StartRange, DeleteUpTo, Summary, OpenFrom, Resume, Suspend, Abort, Status, Create, Remove, Configuration, Copy, Resize, ToCircular, ToBounded, Channel}
use Rattle.control_defs.specs.declared.instructions.StoreKind.{StoreKind}
use Rattle.control_defs.specs.declared.instructions.StoreKind.TheVariants.{Circular, Bounded}
use Rattle.control_defs.specs.declared.patterns.Pattern.{Pattern}
use Rattle.pst_model.specs.Changes.{change_store, is_named, of_store, where_found, with_changed, with_store}
use Rattle.pst_model.specs.Copies.{copy, copy_checks, is_empty, take_window}
use Rattle.pst_model.specs.Failures.{already_so, unless}
use Rattle.pst_model.specs.Instructions.{add_pattern, delete_pattern, instruct, set_open, set_storage, with_forward, with_types}
use Rattle.pst_model.specs.Ranges.{abort_checks, abort_range, count_below, count_up_to, delete_checks, delete_up_to, open_checks, open_from, start_checks, start_range, window_of}
use Rattle.pst_model.specs.Rules.{has_range}
use Rattle.pst_model.specs.Stores.{channel_checks, create, create_checks, kind_checks, new_store, remove, resize, resize_checks, rest_checks, set_channel, set_kind, without_store}
use Rattle.pst_model.specs.Table.{Store, Stored, Table}
use Rattle.pst_model.proofs.Effects.{Passed}
use Rattle.pst_laws.specs.Moves.{Aborts, Appears, Goes, GoesOn, Leaves, Move, Starts, Takes, if_named, item_moves, packets_in, packets_of}
use Rattle.pst_laws.specs.Places.{Aborting, Appearing, Going, GoingOn, Leaving, Moved, MovedBy, Place, Starting, Still, Taking, Then, place_in, place_of}
use Rattle.pst_laws.proofs.Found.{changed_other, changed_own}
use Rattle.pst_laws.proofs.Without.{without_other, without_own}

-- where no check fails, the outcome counts
behind_checks : {X : Type 0} (P : X → Type 0) (checks : List (Bool × ℕ)) (outcome : X) → (Passed checks → P outcome) → IfOk (unless checks outcome) P
behind_checks P [] outcome holds = holds tt
behind_checks P (check ∷ checks) outcome holds =
    cond_both check.0 (Err check.1) (unless checks outcome) (λ r. IfOk r P) (λ fails. tt)
    (λ passes. behind_checks P checks outcome (λ rest. holds (passes, rest)))

-- one move
pub once : (move : Move) (before behind : Option Place) → Moved move before behind → MovedBy (move ∷ []) before behind
once move before behind moved = Then move [] before behind behind moved (Still behind)

-- no move, where the place is the same
pub at_rest : (before behind : Option Place) → before ≡ behind → MovedBy [] before behind
at_rest before behind same = subst (λ (p : Option Place). MovedBy [] before p) same (Still before)

no_range : (range : Option (ℕ × ℕ)) → is_some range ≡ false → range ≡ None
no_range None is = refl
no_range (Some range) is = absurd cc

none_found : (found : Option Store) → is_some found ≡ false → found ≡ None
none_found None is = refl
none_found (Some store) is = absurd cc

or_none : (found : Option Store) → option_or found None ≡ found
or_none (Some store) = refl
or_none None = refl

no_packets : (packets : List Stored) → not (is_empty packets) ≡ false → packets ≡ []
no_packets [] is = refl
no_packets (stored ∷ packets) is = absurd cc

-- the place of a store
abbrev pub at : Store → Place
at store = record { packets = store.packets; behind = store.behind; range = store.range }

-- a change that leaves the places as they are
pub record IsQuiet (store next : Store) : Type 0 where
  pub named : next.identifier ≡ store.identifier
  pub placed : place_in (Some next) ≡ place_in (Some store)

-- a change that makes this move
pub record IsMoved (move : List Stored → Move) (store next : Store) : Type 0 where
  pub named : next.identifier ≡ store.identifier
  pub moved : Moved (move store.packets) (place_in (Some store)) (place_in (Some next))

module _ (blocks identifier : ℕ) (table : Table) where
  abbrev Leads : List Move → Table → Type 0
  Leads moves next = MovedBy moves (place_of identifier table) (place_of identifier next)

  abbrev with_next : (other : ℕ) → Store → Table
  with_next other next = record table { stores = with_store other next table.stores }

  on_found : (other : ℕ) (P : Table → Type 0) (outcome : Store → Result Table ℕ) → ((store : Store) → find (is_named other) table.stores ≡ Some store → IfOk (outcome store) P) → IfOk (of_store other table outcome) P
  on_found other P outcome holds = by (find (is_named other) table.stores) refl
    where
      by : (found : Option Store) → find (is_named other) table.stores ≡ found → IfOk (where_found outcome found) P
      by (Some store) is = holds store is
      by None is = tt

  on_changed : (other : ℕ) (P : Table → Type 0) (R : Store → Type 0) (outcome : Result Store ℕ) → ((next : Store) → R next → P (with_next other next)) → IfOk outcome R → IfOk (with_changed other table outcome) P
  on_changed other P R (Ok next) holds has = holds next has
  on_changed other P R (Err code) holds has = tt

  quiet_at : (other : ℕ) (store next : Store) → find (is_named other) table.stores ≡ Some store → IsQuiet store next → Leads [] (with_next other next)
  quiet_at other store next found quiet = at_rest _ _ (by (other == identifier) refl)
    where
      by : (named : Bool) → (other == identifier) ≡ named → place_of identifier table ≡ place_of identifier (with_next other next)
      by true named =
          let same = eqb-true other identifier named in
          subst (λ (n : ℕ). place_of n table ≡ place_of n (with_next other next)) same
          (ap place_in found ∙ sym quiet.placed ∙ sym (ap place_in (changed_own other store next quiet.named table.stores found)))
      by false named = sym (ap place_in (changed_other other store next quiet.named table.stores found identifier named))

  quiet_change : (other : ℕ) (change : Store → Result Store ℕ) → ((store : Store) → IfOk (change store) (IsQuiet store)) → IfOk (change_store other table change) (Leads [])
  quiet_change other change holds =
      on_found other (Leads []) (λ store. with_changed other table (change store)) (λ store is.
      on_changed other (Leads []) (IsQuiet store) (change store) (λ next quiet. quiet_at other store next is quiet) (holds store))

  abbrev named_moves : (other : ℕ) → (List Stored → Move) → List Move
  named_moves other move = if_named identifier other (move (packets_of identifier table))

  moved_at : (other : ℕ) (move : List Stored → Move) (store next : Store) → find (is_named other) table.stores ≡ Some store → IsMoved move store next → Leads (named_moves other move) (with_next other next)
  moved_at other move store next found moved = by (other == identifier) refl
    where
      by : (named : Bool) → (other == identifier) ≡ named → MovedBy (if named then move (packets_of identifier table) ∷ [] else []) (place_of identifier table) (place_of identifier (with_next other next))
      by true named =
          subst (λ (n : ℕ). MovedBy (move (packets_of n table) ∷ []) (place_of n table) (place_of n (with_next other next))) (eqb-true other identifier named)
          (subst (λ (s : Option Store). MovedBy (move (packets_in s) ∷ []) (place_in s) (place_of other (with_next other next))) (sym found)
          (subst (λ (s : Option Store). MovedBy (move store.packets ∷ []) (place_in (Some store)) (place_in s)) (sym (changed_own other store next moved.named table.stores found))
          (once (move store.packets) _ _ moved.moved)))
      by false named = at_rest _ _ (sym (ap place_in (changed_other other store next moved.named table.stores found identifier named)))

  moved_change : (other : ℕ) (move : List Stored → Move) (change : Store → Result Store ℕ) → ((store : Store) → IfOk (change store) (IsMoved move store)) → IfOk (change_store other table change) (Leads (named_moves other move))
  moved_change other move change holds =
      on_found other (Leads (named_moves other move)) (λ store. with_changed other table (change store)) (λ store is.
      on_changed other (Leads (named_moves other move)) (IsMoved move store) (change store) (λ next moved. moved_at other move store next is moved) (holds store))

  forwards : (outcome : Result (List Pattern) ℕ) → IfOk (with_forward table outcome) (Leads [])
  forwards (Ok patterns) = Still (place_of identifier table)
  forwards (Err code) = tt

  asked : (other : ℕ) → IfOk (of_store other table (λ _. Ok table)) (Leads [])
  asked other = on_found other (Leads []) (λ _. Ok table) (λ store is. Still (place_of identifier table))

  sets_storage : (flag : Bool) (store : Store) → IfOk (set_storage flag store) (IsQuiet store)
  sets_storage true store = cond_both store.storage (Err already_so) (Ok (record store { storage = true })) (λ (r : Result Store ℕ). IfOk r (IsQuiet store)) (λ is. tt) (λ is. record { named = refl; placed = refl })
  sets_storage false store = cond_both store.storage (Ok (record store { storage = false })) (Err already_so) (λ (r : Result Store ℕ). IfOk r (IsQuiet store)) (λ is. record { named = refl; placed = refl }) (λ is. tt)

  sets_open : (flag : Bool) (store : Store) → IfOk (set_open flag store) (IsQuiet store)
  sets_open true store = cond_both store.open_on (Err already_so) (Ok (record store { open_on = true })) (λ (r : Result Store ℕ). IfOk r (IsQuiet store)) (λ is. tt) (λ is. record { named = refl; placed = refl })
  sets_open false store = cond_both store.open_on (Ok (record store { open_on = false })) (Err already_so) (λ (r : Result Store ℕ). IfOk r (IsQuiet store)) (λ is. record { named = refl; placed = refl }) (λ is. tt)

  sets_types : (store : Store) (outcome : Result (List Pattern) ℕ) → IfOk (with_types store outcome) (IsQuiet store)
  sets_types store (Ok patterns) = record { named = refl; placed = refl }
  sets_types store (Err code) = tt

  resizes : (size : ℕ) (store : Store) → IfOk (resize blocks size table.stores store) (IsQuiet store)
  resizes size store = behind_checks (IsQuiet store) (resize_checks blocks size table.stores store) _ (λ passed. record { named = refl; placed = refl })

  sets_kind : (kind : StoreKind) (store : Store) → IfOk (set_kind kind store) (IsQuiet store)
  sets_kind kind store = behind_checks (IsQuiet store) (kind_checks kind store) _ (λ passed. record { named = refl; placed = refl })

  sets_channel : (channel : ℕ) (store : Store) → IfOk (set_channel channel store) (IsQuiet store)
  sets_channel channel store = behind_checks (IsQuiet store) (channel_checks channel store) _ (λ passed. record { named = refl; placed = refl })

  takes_window : (source : Store) (t1 t2 : ℕ) (store : Store) → IfOk (take_window source t1 t2 store) (IsMoved (λ packets. Takes (window_of t1 t2 source.packets)) store)
  takes_window source t1 t2 store = behind_checks (IsMoved (λ packets. Takes (window_of t1 t2 source.packets)) store) (copy_checks source t1 t2 store) _ (λ passed.
      let window = window_of t1 t2 source.packets in
      record {
        named = refl;
        moved = subst (λ (packets : List Stored). Moved (Takes window) (place_in (Some store)) (Some (record { packets = packets ++ window; behind = store.behind; range = store.range })))
            (no_packets store.packets passed.1.1.0) (Taking window (at store));
      })

  starts : (t1 t2 : ℕ) (store : Store) → IfOk (start_range t1 t2 store) (IsMoved (λ packets. Starts (count_below t1 packets) (count_up_to t2 packets)) store)
  starts t1 t2 store = behind_checks (IsMoved (λ packets. Starts (count_below t1 packets) (count_up_to t2 packets)) store) (start_checks t1 t2 store) _ (λ passed.
      record { named = refl; moved = Starting (count_below t1 store.packets) (count_up_to t2 store.packets) (at store) (no_range store.range passed.1.0) })

  aborts : (store : Store) → IfOk (abort_range store) (IsMoved (λ packets. Aborts) store)
  aborts store = behind_checks (IsMoved (λ packets. Aborts) store) (abort_checks store) _ (λ passed. record { named = refl; moved = Aborting (at store) })

  deletes : (t : ℕ) (store : Store) → IfOk (delete_up_to t store) (IsMoved (λ packets. Leaves (count_up_to t packets)) store)
  deletes t store = behind_checks (IsMoved (λ packets. Leaves (count_up_to t packets)) store) (delete_checks store) _ (λ passed.
      record { named = refl; moved = Leaving (count_up_to t store.packets) (at store) (count_by-le-length (λ (stored : Stored). nat_le stored.time t) store.packets) })

  goes_on : (t : ℕ) (store : Store) → IfOk (open_from t store) (IsMoved (λ packets. GoesOn (count_below t packets)) store)
  goes_on t store = behind_checks (IsMoved (λ packets. GoesOn (count_below t packets)) store) (open_checks store) _ (λ passed. record { named = refl; moved = GoingOn (count_below t store.packets) (at store) })

  copies : (from to t1 t2 : ℕ) → IfOk (copy from to t1 t2 table) (Leads (if_named identifier to (Takes (window_of t1 t2 (packets_of from table)))))
  copies from to t1 t2 = on_found from (Leads (if_named identifier to (Takes (window_of t1 t2 (packets_of from table))))) _ (λ source is.
      subst (λ (found : Option Store). IfOk (change_store to table (take_window source t1 t2)) (Leads (if_named identifier to (Takes (window_of t1 t2 (packets_in found)))))) (sym is)
      (moved_change to (λ packets. Takes (window_of t1 t2 source.packets)) (take_window source t1 t2) (takes_window source t1 t2)))

  abbrev with_one_more : Store → Table
  with_one_more store = record table { stores = table.stores ++ store ∷ [] }

  one_more : (store : Store) → at store ≡ record { packets = []; behind = 0; range = None } → is_some (find (is_named store.identifier) table.stores) ≡ false → Leads (if_named identifier store.identifier Appears) (with_one_more store)
  one_more store fresh new = by (store.identifier == identifier) refl
    where
      by : (named : Bool) → (store.identifier == identifier) ≡ named → MovedBy (if named then Appears ∷ [] else []) (place_of identifier table) (place_of identifier (with_one_more store))
      by true named =
          let none : find (is_named identifier) table.stores ≡ None = subst (λ (n : ℕ). find (is_named n) table.stores ≡ None) (eqb-true store.identifier identifier named) (none_found _ new) in
          let last : find (is_named identifier) (table.stores ++ store ∷ []) ≡ Some store =
          find-append (is_named identifier) table.stores (store ∷ []) ∙ ap (λ (found : Option Store). option_or found (find (is_named identifier) (store ∷ []))) none
          ∙ cond-true (is_named identifier store) (Some store) None named in
          subst (λ (p : Option Place). MovedBy (Appears ∷ []) p (place_of identifier (with_one_more store))) (sym (ap place_in none))
          (subst (λ (p : Option Place). MovedBy (Appears ∷ []) None p) (sym (ap place_in last ∙ ap (λ (p : Place). Some p) fresh)) (once Appears _ _ Appearing))
      by false named =
          let rest : find (is_named identifier) (table.stores ++ store ∷ []) ≡ find (is_named identifier) table.stores =
          find-append (is_named identifier) table.stores (store ∷ []) ∙ ap (option_or (find (is_named identifier) table.stores)) (cond-false (is_named identifier store) (Some store) None named)
          ∙ or_none (find (is_named identifier) table.stores) in
          at_rest _ _ (sym (ap place_in rest))

  creates : (other : ℕ) (kind : StoreKind) (size channel : ℕ) → IfOk (create blocks (new_store other kind size channel) table) (Leads (if_named identifier other Appears))
  creates other kind size channel =
      behind_checks (Leads (if_named identifier other Appears)) (create_checks blocks (new_store other kind size channel) table.stores) _ (λ passed. one_more (new_store other kind size channel) refl passed.0)

  abbrev without : (other : ℕ) → Table
  without other = record table { stores = without_store other table.stores }

  one_less : (other : ℕ) (store : Store) → find (is_named other) table.stores ≡ Some store → has_range store ≡ false → Leads (if_named identifier other Goes) (without other)
  one_less other store found rests = by (other == identifier) refl
    where
      by : (named : Bool) → (other == identifier) ≡ named → MovedBy (if named then Goes ∷ [] else []) (place_of identifier table) (place_of identifier (without other))
      by true named =
          subst (λ (n : ℕ). MovedBy (Goes ∷ []) (place_of n table) (place_of n (without other))) (eqb-true other identifier named)
          (subst (λ (p : Option Place). MovedBy (Goes ∷ []) p (place_of other (without other))) (sym (ap place_in found))
          (subst (λ (p : Option Place). MovedBy (Goes ∷ []) (Some (at store)) p) (sym (ap place_in (without_own other table.stores)))
          (once Goes _ _ (Going (at store) (no_range store.range rests)))))
      by false named = at_rest _ _ (sym (ap place_in (without_other identifier other named table.stores)))

  removes : (other : ℕ) → IfOk (remove other table) (Leads (if_named identifier other Goes))
  removes other = on_found other (Leads (if_named identifier other Goes)) _ (λ store is. behind_checks (Leads (if_named identifier other Goes)) (rest_checks store) _ (λ passed. one_less other store is passed.1.1.0))

  -- an instruction that takes effect leads from the place before to the one behind by its moves
  pub item_leads : (item : Instruction) → IfOk (instruct blocks item table) (λ (next : Table). MovedBy (item_moves identifier item table) (place_of identifier table) (place_of identifier next))
  item_leads (ForwardAdd pattern) = forwards (add_pattern pattern table.forward)
  item_leads (ForwardDelete pattern) = forwards (delete_pattern pattern table.forward)
  item_leads ForwardReport = Still (place_of identifier table)
  item_leads (Enable other) = quiet_change other (set_storage true) (sets_storage true)
  item_leads (Disable other) = quiet_change other (set_storage false) (sets_storage false)
  item_leads (AddTypes other pattern) = quiet_change other _ (λ store. sets_types store (add_pattern pattern store.patterns))
  item_leads (DeleteTypes other pattern) = quiet_change other _ (λ store. sets_types store (delete_pattern pattern store.patterns))
  item_leads (ReportTypes other) = asked other
  item_leads (StartRange other t1 t2) = moved_change other _ (start_range t1 t2) (starts t1 t2)
  item_leads (DeleteUpTo other t) = moved_change other _ (delete_up_to t) (deletes t)
  item_leads (Summary other) = asked other
  item_leads (OpenFrom other t) = moved_change other _ (open_from t) (goes_on t)
  item_leads (Resume other) = quiet_change other (set_open true) (sets_open true)
  item_leads (Suspend other) = quiet_change other (set_open false) (sets_open false)
  item_leads (Abort other) = moved_change other _ abort_range aborts
  item_leads Status = Still (place_of identifier table)
  item_leads (Create other kind size channel) = creates other kind size channel
  item_leads (Remove other) = removes other
  item_leads Configuration = Still (place_of identifier table)
  item_leads (Copy from to t1 t2) = copies from to t1 t2
  item_leads (Resize other size) = quiet_change other (resize blocks size table.stores) (resizes size)
  item_leads (ToCircular other) = quiet_change other (set_kind Circular) (sets_kind Circular)
  item_leads (ToBounded other) = quiet_change other (set_kind Bounded) (sets_kind Bounded)
  item_leads (Channel other channel) = quiet_change other (set_channel channel) (sets_channel channel)
