-- What one instruction does to the table (ECSS-E-ST-70-41C, 6.14.3 and 6.15.3).
use Rattle.std.specs.Prelude.{ℕ, nat_lt, Bool, true, false, if◌then◌else◌, List, length, Result, Ok, Err}
use Rattle.control_defs.specs.declared.instructions.Instruction.{Instruction}
use Rattle.control_defs.specs.declared.instructions.Instruction.TheVariants.{ForwardAdd, ForwardDelete, ForwardReport, Enable, Disable, AddTypes, DeleteTypes, ReportTypes, StartRange, DeleteUpTo, Summary, OpenFrom, Resume, Suspend, Abort, Status, Create, Remove, Configuration, Copy, Resize, ToCircular, ToBounded, Channel}
use Rattle.control_defs.specs.declared.instructions.StoreKind.TheVariants.{Circular, Bounded}
use Rattle.control_defs.specs.declared.patterns.Pattern.{Pattern}
use Rattle.control_defs.specs.Lists.{is_standing, with_pattern, without_pattern}
use Rattle.pst_model.specs.Changes.{asked_about, change_store}
use Rattle.pst_model.specs.Copies.{copy}
use Rattle.pst_model.specs.Failures.{already_so, no_such_pattern, too_many_patterns}
use Rattle.pst_model.specs.Ranges.{abort_range, delete_up_to, open_from, start_range}
use Rattle.pst_model.specs.Stores.{create, new_store, remove, resize, set_channel, set_kind}
use Rattle.pst_model.specs.Table.{Store, Table}

-- a flag of a store is set, where it is not so already
abbrev pub set_storage : Bool → Store → Result Store ℕ
set_storage true store =
    if store.storage then Err already_so else Ok (record store { storage = true })
set_storage false store =
    if store.storage then Ok (record store { storage = false }) else Err already_so

abbrev pub set_open : Bool → Store → Result Store ℕ
set_open true store = if store.open_on then Err already_so else Ok (record store { open_on = true })
set_open false store =
    if store.open_on then Ok (record store { open_on = false }) else Err already_so

-- a list of patterns with one more, of which at most 64 may stand, or without one that stands
abbrev pub add_pattern : Pattern → List Pattern → Result (List Pattern) ℕ
add_pattern pattern patterns =
    if nat_lt 64 (length (with_pattern pattern patterns)) then Err too_many_patterns
    else Ok (with_pattern pattern patterns)

abbrev pub delete_pattern : Pattern → List Pattern → Result (List Pattern) ℕ
delete_pattern pattern patterns =
    if is_standing pattern patterns then Ok (without_pattern pattern patterns)
    else Err no_such_pattern

-- the table with these patterns of packets that are forwarded
abbrev pub with_forward : Table → Result (List Pattern) ℕ → Result Table ℕ
with_forward table (Ok patterns) = Ok (record table { forward = patterns })
with_forward table (Err code) = Err code

-- a store with these patterns of packets that it takes
abbrev pub with_types : Store → Result (List Pattern) ℕ → Result Store ℕ
with_types store (Ok patterns) = Ok (record store { patterns = patterns })
with_types store (Err code) = Err code

-- The table after an instruction on a device of so many blocks, or the code with which it fails: of
-- the checks of its kind, in their order, that of the first one that fails.
abbrev pub instruct : (blocks : ℕ) → Instruction → Table → Result Table ℕ
instruct blocks (ForwardAdd pattern) table =
    with_forward table (add_pattern pattern table.forward)
instruct blocks (ForwardDelete pattern) table =
    with_forward table (delete_pattern pattern table.forward)
instruct blocks ForwardReport table = Ok table
instruct blocks (Enable store) table = change_store store table (set_storage true)
instruct blocks (Disable store) table = change_store store table (set_storage false)
instruct blocks (AddTypes store pattern) table =
    change_store store table (λ s. with_types s (add_pattern pattern s.patterns))
instruct blocks (DeleteTypes store pattern) table =
    change_store store table (λ s. with_types s (delete_pattern pattern s.patterns))
instruct blocks (ReportTypes store) table = asked_about store table
instruct blocks (StartRange store t1 t2) table = change_store store table (start_range t1 t2)
instruct blocks (DeleteUpTo store t) table = change_store store table (delete_up_to t)
instruct blocks (Summary store) table = asked_about store table
instruct blocks (OpenFrom store t) table = change_store store table (open_from t)
instruct blocks (Resume store) table = change_store store table (set_open true)
instruct blocks (Suspend store) table = change_store store table (set_open false)
instruct blocks (Abort store) table = change_store store table abort_range
instruct blocks Status table = Ok table
instruct blocks (Create store kind size channel) table =
    create blocks (new_store store kind size channel) table
instruct blocks (Remove store) table = remove store table
instruct blocks Configuration table = Ok table
instruct blocks (Copy from to t1 t2) table = copy from to t1 t2 table
instruct blocks (Resize store size) table =
    change_store store table (resize blocks size table.stores)
instruct blocks (ToCircular store) table = change_store store table (set_kind Circular)
instruct blocks (ToBounded store) table = change_store store table (set_kind Bounded)
instruct blocks (Channel store channel) table = change_store store table (set_channel channel)
