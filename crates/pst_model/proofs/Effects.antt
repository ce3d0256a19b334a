-- What an instruction that takes effect does to the table, and to the store that it names.
use Rattle.std.proofs.Common.{◌≡◌, ℕ, Bool, true, false, List, [], ◌∷◌, ◌++◌, Option, Some, None, Result, Ok, Err, refl, length}
use Rattle.std.proofs.lemmas.Bool.{cond_both}
use Rattle.std.specs.Prelude.{IfOk, find, is_some, nat_le, nat_lt, not}
use Rattle.control_defs.specs.declared.instructions.Instruction.{Instruction}
use Rattle.control_defs.specs.declared.instructions.Instruction.TheVariants.{ForwardAdd, ForwardDelete, ForwardReport, Enable, Disable, AddTypes, DeleteTypes, ReportTypes, StartRange, DeleteUpTo, Summary, OpenFrom, Resume, Suspend, Abort, Status, Create, Remove, Configuration, Copy, Resize, ToCircular, ToBounded, Channel}
use Rattle.control_defs.specs.declared.instructions.StoreKind.{StoreKind}
use Rattle.control_defs.specs.declared.instructions.StoreKind.TheVariants.{Circular, Bounded}
use Rattle.control_defs.specs.declared.patterns.Pattern.{Pattern}
use Rattle.pst_model.specs.Changes.{change_store, is_named, of_store, where_found, with_changed, with_store}
use Rattle.pst_model.specs.Copies.{copy, copy_checks, is_empty, take_window}
use Rattle.pst_model.specs.Failures.{already_so, unless}
use Rattle.pst_model.specs.Instructions.{add_pattern, delete_pattern, instruct, set_open, set_storage, with_forward, with_types}
use Rattle.pst_model.specs.Ranges.{abort_checks, abort_range, count_below, count_up_to, delete_checks, delete_up_to, open_checks, open_from, range_between, start_checks, start_range, window_of}
use Rattle.pst_model.specs.Stores.{channel_checks, create, create_checks, exceeds, is_channel, is_size, kind_checks, new_store, remove, resize, resize_checks, rest_checks, set_channel, set_kind, with_size, without_store}
use Rattle.pst_model.specs.Table.{Store, Table, content_in, content_of, drop_front}

-- A change of one store. What its checks say is said where a law rests on it.
pub data IsChange (blocks : ℕ) (table : Table) (store : Store) : Store → Type 0 where
  SetsStorage : (flag : Bool) → IsChange blocks table store (record store { storage = flag })
  SetsOpen : (flag : Bool) → IsChange blocks table store (record store { open_on = flag })
  SetsTypes : (patterns : List Pattern) → IsChange blocks table store (record store { patterns = patterns })
  StartsRange : (t1 t2 : ℕ) → IsChange blocks table store (record store { range = range_between (count_below t1 store.packets) (count_up_to t2 store.packets) })
  EndsRange : IsChange blocks table store (record store { range = None })
  Deletes : (t : ℕ) → IsChange blocks table store (record (drop_front store (count_up_to t store.packets)) { told = false })
  MovesOpen : (t : ℕ) → IsChange blocks table store (record store { behind = count_below t store.packets })
  Resizes : (size : ℕ) → not (is_size size) ≡ false → nat_lt size (content_of store) ≡ false
      → exceeds blocks (with_store store.identifier (with_size size store) table.stores) ≡ false
      → IsChange blocks table store (with_size size store)
  SetsKind : (kind : StoreKind) → IsChange blocks table store (record store { kind = kind; told = false })
  SetsChannel : (channel : ℕ) → not (is_channel channel) ≡ false → IsChange blocks table store (record store { channel = channel })
  TakesWindow : (from t1 t2 : ℕ) (source : Store) → find (is_named from) table.stores ≡ Some source → not (is_empty store.packets) ≡ false
      → nat_lt store.size (content_in (window_of t1 t2 source.packets)) ≡ false
      → IsChange blocks table store (record store { packets = window_of t1 t2 source.packets; told = false })

-- What becomes of a table.
pub data Effect (blocks : ℕ) (table : Table) : Table → Type 0 where
  Stays : Effect blocks table table
  Forwards : (patterns : List Pattern) → Effect blocks table (record table { forward = patterns })
  Changes : (identifier : ℕ) (store next : Store) → find (is_named identifier) table.stores ≡ Some store → IsChange blocks table store next
      → Effect blocks table (record table { stores = with_store identifier next table.stores })
  Creates : (identifier : ℕ) (kind : StoreKind) (size channel : ℕ) → is_some (find (is_named identifier) table.stores) ≡ false
      → nat_le 32 (length table.stores) ≡ false → not (is_size size) ≡ false → not (is_channel channel) ≡ false
      → exceeds blocks (table.stores ++ new_store identifier kind size channel ∷ []) ≡ false
      → Effect blocks table (record table { stores = table.stores ++ new_store identifier kind size channel ∷ [] })
  Removes : (identifier : ℕ) → Effect blocks table (record table { stores = without_store identifier table.stores })

-- each of these checks was passed
abbrev pub Passed : List (Bool × ℕ) → Type 0
Passed [] = Unit {0}
Passed (check ∷ checks) = (check.0 ≡ false) × Passed checks

pub unless_ok : {X : Type 0} (P : X → Type 0) (checks : List (Bool × ℕ)) (outcome : X) → (Passed checks → P outcome) → IfOk (unless checks outcome) P
unless_ok P [] outcome holds = holds tt
unless_ok P (check ∷ checks) outcome holds =
    cond_both check.0 (Err check.1) (unless checks outcome) (λ r. IfOk r P) (λ fails. tt)
    (λ passes. unless_ok P checks outcome (λ rest. holds (passes, rest)))

module _ (blocks : ℕ) (table : Table) where
  by_forward : (outcome : Result (List Pattern) ℕ) → IfOk (with_forward table outcome) (Effect blocks table)
  by_forward (Ok patterns) = Forwards patterns
  by_forward (Err code) = tt

  by_store : (identifier : ℕ) (outcome : Store → Result Table ℕ) → ((store : Store) → find (is_named identifier) table.stores ≡ Some store → IfOk (outcome store) (Effect blocks table))
      → IfOk (of_store identifier table outcome) (Effect blocks table)
  by_store identifier outcome holds = by (find (is_named identifier) table.stores) refl
    where
      by : (found : Option Store) → find (is_named identifier) table.stores ≡ found → IfOk (where_found outcome found) (Effect blocks table)
      by (Some store) is = holds store is
      by None is = tt

  by_changed : (identifier : ℕ) (store : Store) → find (is_named identifier) table.stores ≡ Some store → (outcome : Result Store ℕ)
      → IfOk outcome (IsChange blocks table store) → IfOk (with_changed identifier table outcome) (Effect blocks table)
  by_changed identifier store is (Ok next) change = Changes identifier store next is change
  by_changed identifier store is (Err code) change = tt

  by_change : (identifier : ℕ) (change : Store → Result Store ℕ) → ((store : Store) → IfOk (change store) (IsChange blocks table store))
      → IfOk (change_store identifier table change) (Effect blocks table)
  by_change identifier change holds =
      by_store identifier (λ store. with_changed identifier table (change store)) (λ store is. by_changed identifier store is (change store) (holds store))

  module _ (store : Store) where
    sets_storage : (flag : Bool) → IfOk (set_storage flag store) (IsChange blocks table store)
    sets_storage true = cond_both store.storage (Err already_so) (Ok (record store { storage = true })) (λ (r : Result Store ℕ). IfOk r (IsChange blocks table store)) (λ is. tt) (λ is. SetsStorage true)
    sets_storage false = cond_both store.storage (Ok (record store { storage = false })) (Err already_so) (λ (r : Result Store ℕ). IfOk r (IsChange blocks table store)) (λ is. SetsStorage false) (λ is. tt)

    sets_open : (flag : Bool) → IfOk (set_open flag store) (IsChange blocks table store)
    sets_open true = cond_both store.open_on (Err already_so) (Ok (record store { open_on = true })) (λ (r : Result Store ℕ). IfOk r (IsChange blocks table store)) (λ is. tt) (λ is. SetsOpen true)
    sets_open false = cond_both store.open_on (Ok (record store { open_on = false })) (Err already_so) (λ (r : Result Store ℕ). IfOk r (IsChange blocks table store)) (λ is. SetsOpen false) (λ is. tt)

    sets_types : (outcome : Result (List Pattern) ℕ) → IfOk (with_types store outcome) (IsChange blocks table store)
    sets_types (Ok patterns) = SetsTypes patterns
    sets_types (Err code) = tt

    starts_range : (t1 t2 : ℕ) → IfOk (start_range t1 t2 store) (IsChange blocks table store)
    starts_range t1 t2 = unless_ok (IsChange blocks table store) (start_checks t1 t2 store) _ (λ passed. StartsRange t1 t2)

    ends_range : IfOk (abort_range store) (IsChange blocks table store)
    ends_range = unless_ok (IsChange blocks table store) (abort_checks store) _ (λ passed. EndsRange)

    deletes : (t : ℕ) → IfOk (delete_up_to t store) (IsChange blocks table store)
    deletes t = unless_ok (IsChange blocks table store) (delete_checks store) _ (λ passed. Deletes t)

    moves_open : (t : ℕ) → IfOk (open_from t store) (IsChange blocks table store)
    moves_open t = unless_ok (IsChange blocks table store) (open_checks store) _ (λ passed. MovesOpen t)

    resizes : (size : ℕ) → IfOk (resize blocks size table.stores store) (IsChange blocks table store)
    resizes size = unless_ok (IsChange blocks table store) (resize_checks blocks size table.stores store) _ (λ passed. Resizes size passed.0 passed.1.1.1.1.0 passed.1.1.1.1.1.0)

    sets_kind : (kind : StoreKind) → IfOk (set_kind kind store) (IsChange blocks table store)
    sets_kind kind = unless_ok (IsChange blocks table store) (kind_checks kind store) _ (λ passed. SetsKind kind)

    sets_channel : (channel : ℕ) → IfOk (set_channel channel store) (IsChange blocks table store)
    sets_channel channel = unless_ok (IsChange blocks table store) (channel_checks channel store) _ (λ passed. SetsChannel channel passed.0)

    takes_window : (from t1 t2 : ℕ) (source : Store) → find (is_named from) table.stores ≡ Some source → IfOk (take_window source t1 t2 store) (IsChange blocks table store)
    takes_window from t1 t2 source is = unless_ok (IsChange blocks table store) (copy_checks source t1 t2 store) _ (λ passed. TakesWindow from t1 t2 source is passed.1.1.0 passed.1.1.1.1.0)

  creates : (identifier : ℕ) (kind : StoreKind) (size channel : ℕ) → IfOk (create blocks (new_store identifier kind size channel) table) (Effect blocks table)
  creates identifier kind size channel =
      unless_ok (Effect blocks table) (create_checks blocks (new_store identifier kind size channel) table.stores) _ (λ passed. Creates identifier kind size channel passed.0 passed.1.0 passed.1.1.0 passed.1.1.1.0 passed.1.1.1.1.0)

  removes : (identifier : ℕ) → IfOk (remove identifier table) (Effect blocks table)
  removes identifier = by_store identifier _ (λ store is. unless_ok (Effect blocks table) (rest_checks store) _ (λ passed. Removes identifier))

  copies : (from to t1 t2 : ℕ) → IfOk (copy from to t1 t2 table) (Effect blocks table)
  copies from to t1 t2 = by_store from _ (λ source is. by_change to (take_window source t1 t2) (λ store. takes_window store from t1 t2 source is))

  -- an instruction takes effect in one of these ways
  pub instruct_effect : (item : Instruction) → IfOk (instruct blocks item table) (Effect blocks table)
  instruct_effect (ForwardAdd pattern) = by_forward (add_pattern pattern table.forward)
  instruct_effect (ForwardDelete pattern) = by_forward (delete_pattern pattern table.forward)
  instruct_effect ForwardReport = Stays
  instruct_effect (Enable store) = by_change store (set_storage true) (λ s. sets_storage s true)
  instruct_effect (Disable store) = by_change store (set_storage false) (λ s. sets_storage s false)
  instruct_effect (AddTypes store pattern) = by_change store (λ s. with_types s (add_pattern pattern s.patterns)) (λ s. sets_types s (add_pattern pattern s.patterns))
  instruct_effect (DeleteTypes store pattern) = by_change store (λ s. with_types s (delete_pattern pattern s.patterns)) (λ s. sets_types s (delete_pattern pattern s.patterns))
  instruct_effect (ReportTypes store) = by_store store (λ _. Ok table) (λ s is. Stays)
  instruct_effect (StartRange store t1 t2) = by_change store (start_range t1 t2) (λ s. starts_range s t1 t2)
  instruct_effect (DeleteUpTo store t) = by_change store (delete_up_to t) (λ s. deletes s t)
  instruct_effect (Summary store) = by_store store (λ _. Ok table) (λ s is. Stays)
  instruct_effect (OpenFrom store t) = by_change store (open_from t) (λ s. moves_open s t)
  instruct_effect (Resume store) = by_change store (set_open true) (λ s. sets_open s true)
  instruct_effect (Suspend store) = by_change store (set_open false) (λ s. sets_open s false)
  instruct_effect (Abort store) = by_change store abort_range ends_range
  instruct_effect Status = Stays
  instruct_effect (Create store kind size channel) = creates store kind size channel
  instruct_effect (Remove store) = removes store
  instruct_effect Configuration = Stays
  instruct_effect (Copy from to t1 t2) = copies from to t1 t2
  instruct_effect (Resize store size) = by_change store (resize blocks size table.stores) (λ s. resizes s size)
  instruct_effect (ToCircular store) = by_change store (set_kind Circular) (λ s. sets_kind s Circular)
  instruct_effect (ToBounded store) = by_change store (set_kind Bounded) (λ s. sets_kind s Bounded)
  instruct_effect (Channel store channel) = by_change store (set_channel channel) (λ s. sets_channel s channel)
