-- Each kind of instruction that is carried out: it asks, or it makes its change.
use Rattle.std.proofs.Common.{◌≡◌, ℕ, ◌<◌, ◌^◌, Bool, true, false, not, List, Option, Some, None, Result, Ok, refl, sym, ◌∙◌, ap, subst}
use Rattle.std.specs.Prelude.{All, find}
use Rattle.std.specs.Option.{option_map}
use Rattle.std.proofs.lemmas.Option.{none-some, same_Some}
use Rattle.control_defs.specs.Instructions.{IsInstruction}
use Rattle.control_defs.specs.Patterns.{HasPatternOctets, IsPattern}
use Rattle.control_defs.specs.declared.instructions.Instruction.{Instruction}
use Rattle.control_defs.specs.declared.instructions.Instruction.TheVariants.{ForwardAdd, ForwardDelete, ForwardReport, Enable, Disable, AddTypes, DeleteTypes, ReportTypes, StartRange, DeleteUpTo, Summary, OpenFrom, Resume, Suspend, Abort, Status, Create, Remove, Configuration, Copy, Resize, ToCircular, ToBounded, Channel}
use Rattle.control_defs.specs.declared.instructions.StoreKind.{StoreKind}
use Rattle.control_defs.specs.declared.instructions.StoreKind.TheVariants.{Circular, Bounded}
use Rattle.control_defs.specs.declared.patterns.Pattern.{Pattern}
use Rattle.pst_model.specs.Answers.{is_carried}
use Rattle.pst_model.specs.Changes as model
use Rattle.pst_model.specs.Instructions.{add_pattern, delete_pattern, instruct, set_open, set_storage, with_types}
use Rattle.pst_model.specs.Items.{HasOctets}
use Rattle.pst_model.specs.Ranges.{abort_checks, abort_range, count_below, count_up_to, delete_up_to, open_checks, open_from, range_between, start_checks, start_range}
use Rattle.pst_model.specs.Stores.{channel_checks, is_channel, kind_checks, remove, set_channel, set_kind}
use Rattle.pst_model.specs.Table.{Store, Table}
use Rattle.retrieval.specs.Picks.{opened_row, ranged_row}
use Rattle.store_directory.specs.Changes.{Change, Forward, Gone, Put, Types}
use Rattle.store_directory.specs.Directory.{Directory, IsDirectory, IsListed, Listed, find_store}
use Rattle.store_directory.specs.declared.row.Row.{Row}
use Rattle.store_load.specs.Claims.{may_share}
use Rattle.time_index.specs.TimeIndex.{TimeIndex}
use Rattle.request_laws.specs.Changing.{AllKeepRecords, BeginsWell, Goes, HasIndexes, IsListedAs, IsTableOf, LeavesFront, StepsBy, change_by, changed_for, deleted_index, deleted_row, index_for, indexes_by, put_by, with_channel, with_kind, with_open, with_storage, without_for, without_range}
use Rattle.request_laws.proofs.Applying.{Makes, forwards}
use Rattle.request_laws.proofs.Deleting.{deletes}
use Rattle.request_laws.proofs.Moves.{Moves, stays}
use Rattle.request_laws.proofs.PatternLists.{added_to, removed_from}
use Rattle.request_laws.proofs.Rerowed.{ends_range, opens_from, opens_on, sets_channel, sets_kind, starts_range, stores_on}
use Rattle.request_laws.proofs.Removing.{removes}
use Rattle.request_laws.proofs.Storing.{types}
use Rattle.request_laws.proofs.Finding.{FoundAs, found_as, found_has}
use Rattle.request_laws.proofs.Indexed.{IndexedAs, indexed_as}
use Rattle.request_laws.proofs.Outcomes as outcomes

-- the change by the store that is found
by_found : (change : Listed → Change) (found : Option Listed) (s : Listed) (made : Change) → found ≡ Some s → option_map change found ≡ Some made → change s ≡ made
by_found change found s made is by = same_Some (change s) made (sym (ap (option_map change) is) ∙ by)

none_found : (change : Listed → Change) (found : Option Listed) (s : Listed) → found ≡ Some s → option_map change found ≡ None → ⊥
none_found change found s is by = none-some (change s) (sym by ∙ ap (option_map change) is)

-- a check that asks for its contrary was passed
is_so : (test : Bool) → not test ≡ false → test ≡ true
is_so true is = refl
is_so false is = sym is

module _ (blocks : ℕ) (before : Directory) (table : Table) (indexes : List TimeIndex) (is_of : IsTableOf table before) where
  store_there : (identifier : ℕ) (made : Table) (change : Store → Result Store ℕ) (there : outcomes.Changed identifier table made change) → FoundAs identifier before.stores there.store
  store_there identifier made change there = found_as identifier table.stores before.stores there.store is_of.stores there.found

  -- an instruction on a store makes a change, which is a put of its row or another one
  store_changes : (identifier : ℕ) (made : Table) (change : Store → Result Store ℕ) (by : Listed → Change) → model.change_store identifier table change ≡ Ok made
      → option_map by (find_store identifier before.stores) ≡ None → ⊥
  store_changes identifier made change by ok none =
      let there = store_there identifier made change (outcomes.was_changed identifier table made change ok) in
      none_found by (find_store identifier before.stores) there.s there.found none

  row_changes : (identifier : ℕ) (made : Table) (change : Store → Result Store ℕ) (next : Row → Row) → model.change_store identifier table change ≡ Ok made
      → put_by next (find_store identifier before.stores) ≡ None → ⊥
  row_changes identifier made change next = store_changes identifier made change (λ (s : Listed). Put (next s.row))

  removed_changes : (identifier : ℕ) (made : Table) → remove identifier table ≡ Ok made → option_map (λ (_ : Listed). Gone identifier) (find_store identifier before.stores) ≡ None → ⊥
  removed_changes identifier made ok none =
      let went = outcomes.was_removed identifier table made ok in
      let there = found_as identifier table.stores before.stores went.store is_of.stores went.found in
      none_found (λ (_ : Listed). Gone identifier) (find_store identifier before.stores) there.s there.found none

  pub only_asks : (item : Instruction) (made : Table) → is_carried item ≡ true → instruct blocks item table ≡ Ok made → change_by before indexes item ≡ None → table ≡ made
  only_asks (ForwardAdd pattern) made carried ok none = absurd cc
  only_asks (ForwardDelete pattern) made carried ok none = absurd cc
  only_asks ForwardReport made carried ok none = outcomes.same_Ok ok
  only_asks (Enable store) made carried ok none = absurd (row_changes store made (set_storage true) (with_storage true) ok none)
  only_asks (Disable store) made carried ok none = absurd (row_changes store made (set_storage false) (with_storage false) ok none)
  only_asks (AddTypes store pattern) made carried ok none =
      absurd (store_changes store made (λ s. with_types s (add_pattern pattern s.patterns)) (λ (s : Listed). Types store true pattern) ok none)
  only_asks (DeleteTypes store pattern) made carried ok none =
      absurd (store_changes store made (λ s. with_types s (delete_pattern pattern s.patterns)) (λ (s : Listed). Types store false pattern) ok none)
  only_asks (ReportTypes store) made carried ok none = let asked = outcomes.was_asked store table made ok in asked.made_is
  only_asks (Summary store) made carried ok none = let asked = outcomes.was_asked store table made ok in asked.made_is
  only_asks (Resume store) made carried ok none = absurd (row_changes store made (set_open true) (with_open true) ok none)
  only_asks (Suspend store) made carried ok none = absurd (row_changes store made (set_open false) (with_open false) ok none)
  only_asks Status made carried ok none = outcomes.same_Ok ok
  only_asks Configuration made carried ok none = outcomes.same_Ok ok
  only_asks (StartRange store t1 t2) made carried ok none = absurd (row_changes store made (start_range t1 t2) (ranged_row t1 t2 (index_for store before.stores indexes)) ok none)
  only_asks (DeleteUpTo store t) made carried ok none = absurd (row_changes store made (delete_up_to t) (deleted_row t (index_for store before.stores indexes)) ok none)
  only_asks (OpenFrom store t) made carried ok none = absurd (row_changes store made (open_from t) (opened_row t (index_for store before.stores indexes)) ok none)
  only_asks (Abort store) made carried ok none = absurd (row_changes store made abort_range without_range ok none)
  only_asks (Create store kind size channel) made carried ok none = absurd cc
  only_asks (Remove store) made carried ok none = absurd (removed_changes store made ok none)
  only_asks (Copy from to t1 t2) made carried ok none = absurd cc
  only_asks (Resize store size) made carried ok none = absurd cc
  only_asks (ToCircular store) made carried ok none = absurd (row_changes store made (set_kind Circular) (with_kind Circular) ok none)
  only_asks (ToBounded store) made carried ok none = absurd (row_changes store made (set_kind Bounded) (with_kind Bounded) ok none)
  only_asks (Channel store channel) made carried ok none = absurd (row_changes store made (set_channel channel) (with_channel channel) ok none)

  module _ (directory : IsDirectory before) (begins : All BeginsWell before.stores) where
    -- patterns of what is forwarded

    forward_added : (pattern : Pattern) (made : Table) → IsPattern pattern → HasPatternOctets pattern → instruct blocks (ForwardAdd pattern) table ≡ Ok made
        → Makes before table made (Forward true pattern)
    forward_added pattern made lawful octets ok =
        let on = outcomes.were_forwarded table made (add_pattern pattern table.forward) ok in
        let lists = added_to pattern table.forward before.forward on.patterns is_of.forward lawful directory.forward (outcomes.was_added pattern table.forward on.patterns on.outcome_is) in
        subst (λ (t : Table). Makes before table t (Forward true pattern)) on.made_is
        (forwards before table directory begins is_of true pattern on.patterns lawful octets lists)

    forward_deleted : (pattern : Pattern) (made : Table) → IsPattern pattern → HasPatternOctets pattern → instruct blocks (ForwardDelete pattern) table ≡ Ok made
        → Makes before table made (Forward false pattern)
    forward_deleted pattern made lawful octets ok =
        let on = outcomes.were_forwarded table made (delete_pattern pattern table.forward) ok in
        let lists = removed_from pattern table.forward before.forward on.patterns is_of.forward directory.forward (outcomes.was_deleted pattern table.forward on.patterns on.outcome_is) in
        subst (λ (t : Table). Makes before table t (Forward false pattern)) on.made_is
        (forwards before table directory begins is_of false pattern on.patterns lawful octets lists)

    -- patterns of what a store takes

    type_added : (store : ℕ) (pattern : Pattern) (made : Table) → store < 2 ^ 16 → IsPattern pattern → HasPatternOctets pattern → instruct blocks (AddTypes store pattern) table ≡ Ok made
        → Makes before table made (Types store true pattern)
    type_added store pattern made low lawful octets ok =
        let change : Store → Result Store ℕ = λ s. with_types s (add_pattern pattern s.patterns) in
        let on = outcomes.was_changed store table made change ok in
        let there = store_there store made change on in
        let typed = outcomes.were_typed on.store on.next (add_pattern pattern on.store.patterns) on.changed in
        let kept = found_has IsListed store before.stores there.s directory.stores.each there.found in
        let lists = added_to pattern on.store.patterns there.s.patterns typed.patterns there.is.patterns lawful kept.patterns (outcomes.was_added pattern on.store.patterns typed.patterns typed.outcome_is) in
        subst (λ (t : Table). Makes before table t (Types store true pattern))
        (ap (λ (x : Store). record table { stores = model.with_store store x table.stores }) typed.made_is ∙ on.made_is)
        (types before table directory begins is_of store on.store there.s on.found there.found there.own there.is true pattern typed.patterns low lawful octets lists)

    type_deleted : (store : ℕ) (pattern : Pattern) (made : Table) → store < 2 ^ 16 → IsPattern pattern → HasPatternOctets pattern → instruct blocks (DeleteTypes store pattern) table ≡ Ok made
        → Makes before table made (Types store false pattern)
    type_deleted store pattern made low lawful octets ok =
        let change : Store → Result Store ℕ = λ s. with_types s (delete_pattern pattern s.patterns) in
        let on = outcomes.was_changed store table made change ok in
        let there = store_there store made change on in
        let typed = outcomes.were_typed on.store on.next (delete_pattern pattern on.store.patterns) on.changed in
        let kept = found_has IsListed store before.stores there.s directory.stores.each there.found in
        let lists = removed_from pattern on.store.patterns there.s.patterns typed.patterns there.is.patterns kept.patterns (outcomes.was_deleted pattern on.store.patterns typed.patterns typed.outcome_is) in
        subst (λ (t : Table). Makes before table t (Types store false pattern))
        (ap (λ (x : Store). record table { stores = model.with_store store x table.stores }) typed.made_is ∙ on.made_is)
        (types before table directory begins is_of store on.store there.s on.found there.found there.own there.is false pattern typed.patterns low lawful octets lists)

    -- A row that is made of that of the store that is found.

    module _ (store : ℕ) (next : Row → Row) (outcome : Store → Result Store ℕ) (made : Table) (change : Change) (ok : model.change_store store table outcome ≡ Ok made)
        (by : put_by next (find_store store before.stores) ≡ Some change) where
      rerowed : ((old new : Store) (s : Listed) → find (model.is_named store) table.stores ≡ Some old → find_store store before.stores ≡ Some s → s.identifier ≡ store → IsListedAs old s
          → outcome old ≡ Ok new → Makes before table (record table { stores = model.with_store store new table.stores }) (Put (next s.row))) → Makes before table made change
      rerowed makes =
          let went = outcomes.was_changed store table made outcome ok in
          let there = store_there store made outcome went in
          subst (λ (t : Table). Makes before table t change) went.made_is
          (subst (Makes before table (record table { stores = model.with_store store went.next table.stores }))
          (by_found (λ (s : Listed). Put (next s.row)) (find_store store before.stores) there.s change there.found by)
          (makes went.store went.next there.s went.found there.found there.own there.is went.changed))

    with_made : (store : ℕ) (change : Change) (x y : Store) → x ≡ y → Makes before table (record table { stores = model.with_store store x table.stores }) change
        → Makes before table (record table { stores = model.with_store store y table.stores }) change
    with_made store change x y same = subst (λ (z : Store). Makes before table (record table { stores = model.with_store store z table.stores }) change) same

    stored : (on : Bool) (store : ℕ) (made : Table) (change : Change) → model.change_store store table (set_storage on) ≡ Ok made
        → put_by (with_storage on) (find_store store before.stores) ≡ Some change → Makes before table made change
    stored on store made change ok by =
        rerowed store (with_storage on) (set_storage on) made change ok by
        (λ old new s there found own is changed.
        with_made store (Put (with_storage on s.row)) (record old { storage = on }) new (outcomes.was_stored on old new changed)
        (stores_on before table directory begins is_of store old s there found own is on))

    opened : (on : Bool) (store : ℕ) (made : Table) (change : Change) → model.change_store store table (set_open on) ≡ Ok made
        → put_by (with_open on) (find_store store before.stores) ≡ Some change → Makes before table made change
    opened on store made change ok by =
        rerowed store (with_open on) (set_open on) made change ok by
        (λ old new s there found own is changed.
        with_made store (Put (with_open on s.row)) (record old { open_on = on }) new (outcomes.was_opened on old new changed)
        (opens_on before table directory begins is_of store old s there found own is on))

    kind_set : (kind : StoreKind) (store : ℕ) (made : Table) (change : Change) → model.change_store store table (set_kind kind) ≡ Ok made
        → put_by (with_kind kind) (find_store store before.stores) ≡ Some change → Makes before table made change
    kind_set kind store made change ok by =
        rerowed store (with_kind kind) (set_kind kind) made change ok by
        (λ old new s there found own is changed.
        let after : Store = record old { kind = kind; told = false } in
        with_made store (Put (with_kind kind s.row)) after new (outcomes.was_checked (kind_checks kind old) after new changed).made_is
        (sets_kind before table directory begins is_of store old s there found own is kind))

    channel_set : (channel store : ℕ) (made : Table) (change : Change) → model.change_store store table (set_channel channel) ≡ Ok made
        → put_by (with_channel channel) (find_store store before.stores) ≡ Some change → Makes before table made change
    channel_set channel store made change ok by =
        rerowed store (with_channel channel) (set_channel channel) made change ok by
        (λ old new s there found own is changed.
        let after : Store = record old { channel = channel } in
        let checked = outcomes.was_checked (channel_checks channel old) after new changed in
        with_made store (Put (with_channel channel s.row)) after new checked.made_is
        (sets_channel before table directory begins is_of store old s there found own is channel (is_so (is_channel channel) checked.passed.0)))

    range_ended : (store : ℕ) (made : Table) (change : Change) → model.change_store store table abort_range ≡ Ok made
        → put_by without_range (find_store store before.stores) ≡ Some change → Makes before table made change
    range_ended store made change ok by =
        rerowed store without_range abort_range made change ok by
        (λ old new s there found own is changed.
        let after : Store = record old { range = None } in
        with_made store (Put (without_range s.row)) after new (outcomes.was_checked (abort_checks old) after new changed).made_is
        (ends_range before table directory begins is_of store old s there found own is))

    -- by the index of the store

    module _ (has : HasIndexes table before indexes) (store : ℕ) where
      abbrev index : TimeIndex
      index = index_for store before.stores indexes

      own_index : (old : Store) (s : Listed) → find (model.is_named store) table.stores ≡ Some old → find_store store before.stores ≡ Some s → IndexedAs index old s
      own_index old s = indexed_as store table.stores before.stores indexes old s is_of.stores has.packets has.together

      few : (s : Listed) → find_store store before.stores ≡ Some s → s.count < 2 ^ 32
      few s found = let listed = found_has IsListed store before.stores s directory.stores.each found in listed.fits.count

      range_started : (t1 t2 : ℕ) (made : Table) (change : Change) → model.change_store store table (start_range t1 t2) ≡ Ok made
          → put_by (ranged_row t1 t2 index) (find_store store before.stores) ≡ Some change → Makes before table made change
      range_started t1 t2 made change ok by =
          rerowed store (ranged_row t1 t2 index) (start_range t1 t2) made change ok by
          (λ old new s there found own is changed.
          let after : Store = record old { range = range_between (count_below t1 old.packets) (count_up_to t2 old.packets) } in
          with_made store (Put (ranged_row t1 t2 index s.row)) after new (outcomes.was_checked (start_checks t1 t2 old) after new changed).made_is
          (starts_range before table directory begins is_of store old s there found own is index (own_index old s there found) (few s found) t1 t2))

      open_moved : (t : ℕ) (made : Table) (change : Change) → model.change_store store table (open_from t) ≡ Ok made
          → put_by (opened_row t index) (find_store store before.stores) ≡ Some change → Makes before table made change
      open_moved t made change ok by =
          rerowed store (opened_row t index) (open_from t) made change ok by
          (λ old new s there found own is changed.
          let after : Store = record old { behind = count_below t old.packets } in
          with_made store (Put (opened_row t index s.row)) after new (outcomes.was_checked (open_checks old) after new changed).made_is
          (opens_from before table directory begins is_of store old s there found own is index (own_index old s there found) (few s found) t))

    -- patterns of a store that is found
    typed_change : (add : Bool) (store : ℕ) (pattern : Pattern) (made : Table) (change : Change) (outcome : Store → Result Store ℕ) → model.change_store store table outcome ≡ Ok made
        → option_map (λ (s : Listed). Types store add pattern) (find_store store before.stores) ≡ Some change → Types store add pattern ≡ change
    typed_change add store pattern made change outcome ok by =
        let there = store_there store made outcome (outcomes.was_changed store table made outcome ok) in
        by_found (λ (s : Listed). Types store add pattern) (find_store store before.stores) there.s change there.found by

    -- with the indexes

    module _ (share : may_share 240 blocks before.stores ≡ true) (has : HasIndexes table before indexes) where
      kept : (made : Table) (change : Change) → Makes before table made change → Moves blocks before table made (λ (next : Directory). AllKeepRecords before.stores next.stores) change indexes
      kept made change = stays blocks before table made change indexes share has

      front_left : (store t : ℕ) (made : Table) (change : Change) → model.change_store store table (delete_up_to t) ≡ Ok made
          → put_by (deleted_row t (index_for store before.stores indexes)) (find_store store before.stores) ≡ Some change
          → Moves blocks before table made (λ (next : Directory). LeavesFront store t before indexes next) change (changed_for store (deleted_index t) before.stores indexes)
      front_left store t made change ok by =
          let gone = deletes blocks before table made indexes store t directory share is_of has ok in
          subst
          (λ (c : Change). Moves blocks before table made (λ (next : Directory). LeavesFront store t before indexes next) c (changed_for store (deleted_index t) before.stores indexes))
          (by_found (λ (s : Listed). Put (deleted_row t (index_for store before.stores indexes) s.row)) (find_store store before.stores) gone.s change gone.found by) gone.moves

      store_gone : (store : ℕ) (made : Table) (change : Change) → remove store table ≡ Ok made → option_map (λ (_ : Listed). Gone store) (find_store store before.stores) ≡ Some change
          → Moves blocks before table made (λ (next : Directory). Goes store before next) change (without_for store before.stores indexes)
      store_gone store made change ok by =
          let gone = removes blocks before table made indexes store directory share is_of has ok in
          subst (λ (c : Change). Moves blocks before table made (λ (next : Directory). Goes store before next) c (without_for store before.stores indexes))
          (by_found (λ (_ : Listed). Gone store) (find_store store before.stores) gone.s change gone.found by) gone.moves

      pub takes_effect : (item : Instruction) (made : Table) (change : Change) → IsInstruction item → HasOctets item → instruct blocks item table ≡ Ok made → change_by before indexes item ≡ Some change
          → Moves blocks before table made (λ (next : Directory). StepsBy item before indexes next) change (indexes_by before indexes item)
      takes_effect (ForwardAdd pattern) made change lawful octets ok by =
          kept made change
          (subst (Makes before table made) (same_Some (Forward true pattern) change by) (forward_added pattern made lawful octets.0 ok))
      takes_effect (ForwardDelete pattern) made change lawful octets ok by =
          kept made change
          (subst (Makes before table made) (same_Some (Forward false pattern) change by) (forward_deleted pattern made lawful octets.0 ok))
      takes_effect (Enable store) made change lawful octets ok by =
          kept made change
          (stored true store made change ok by)
      takes_effect (Disable store) made change lawful octets ok by =
          kept made change
          (stored false store made change ok by)
      takes_effect (AddTypes store pattern) made change lawful octets ok by =
          kept made change
          (subst (Makes before table made) (typed_change true store pattern made change (λ s. with_types s (add_pattern pattern s.patterns)) ok by)
          (type_added store pattern made octets.0 lawful octets.1.0 ok))
      takes_effect (DeleteTypes store pattern) made change lawful octets ok by =
          kept made change
          (subst (Makes before table made) (typed_change false store pattern made change (λ s. with_types s (delete_pattern pattern s.patterns)) ok by)
          (type_deleted store pattern made octets.0 lawful octets.1.0 ok))
      takes_effect (Resume store) made change lawful octets ok by =
          kept made change
          (opened true store made change ok by)
      takes_effect (Suspend store) made change lawful octets ok by =
          kept made change
          (opened false store made change ok by)
      takes_effect ForwardReport made change lawful octets ok by = absurd (none-some change by)
      takes_effect (ReportTypes store) made change lawful octets ok by = absurd (none-some change by)
      takes_effect (StartRange store t1 t2) made change lawful octets ok by =
          kept made change
          (range_started has store t1 t2 made change ok by)
      takes_effect (DeleteUpTo store t) made change lawful octets ok by = front_left store t made change ok by
      takes_effect (Summary store) made change lawful octets ok by = absurd (none-some change by)
      takes_effect (OpenFrom store t) made change lawful octets ok by =
          kept made change
          (open_moved has store t made change ok by)
      takes_effect (Abort store) made change lawful octets ok by =
          kept made change
          (range_ended store made change ok by)
      takes_effect Status made change lawful octets ok by = absurd (none-some change by)
      takes_effect (Create store kind size channel) made change lawful octets ok by = absurd (none-some change by)
      takes_effect (Remove store) made change lawful octets ok by = store_gone store made change ok by
      takes_effect Configuration made change lawful octets ok by = absurd (none-some change by)
      takes_effect (Copy from to t1 t2) made change lawful octets ok by = absurd (none-some change by)
      takes_effect (Resize store size) made change lawful octets ok by = absurd (none-some change by)
      takes_effect (ToCircular store) made change lawful octets ok by =
          kept made change
          (kind_set Circular store made change ok by)
      takes_effect (ToBounded store) made change lawful octets ok by =
          kept made change
          (kind_set Bounded store made change ok by)
      takes_effect (Channel store channel) made change lawful octets ok by =
          kept made change
          (channel_set channel store made change ok by)
