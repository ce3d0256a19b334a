-- The checks of each kind of instruction in their order, by computation: for each a table in which
-- it fails alone, and for each two neighbours one in which both fail.
use Rattle.std.proofs.Common.{◌≡◌, ℕ, true, false, List, [], ◌∷◌, ◌++◌, refl, Some, Result, Ok, Err}
use Rattle.std.specs.Prelude.{map}
use Rattle.std.specs.List.{range_with_len}
use Rattle.control_defs.specs.declared.instructions.Instruction.{Instruction}
use Rattle.control_defs.specs.declared.instructions.Instruction.TheVariants.{ForwardAdd, ForwardDelete, ForwardReport, Enable, Disable, AddTypes, DeleteTypes, ReportTypes, StartRange, DeleteUpTo, Summary, OpenFrom, Resume, Suspend, Abort, Status, Create, Remove, Configuration, Copy, Resize, ToCircular, ToBounded, Channel}
use Rattle.control_defs.specs.declared.instructions.StoreKind.TheVariants.{Bounded, Circular}
use Rattle.control_defs.specs.declared.patterns.Pattern.{Pattern}
use Rattle.control_defs.specs.declared.patterns.Pattern.TheVariants.{App, Every}
use Rattle.pst_model.specs.Instructions.{instruct}
use Rattle.pst_model.specs.Stores.{new_store}
use Rattle.pst_model.specs.Table.{Store, Stored, Table, after_format, boot_store}

-- the code of a failure, and 0 of success
abbrev code_of : Result Table ℕ → ℕ
code_of (Ok table) = 0
code_of (Err code) = code

abbrev codes : (blocks : ℕ) → List (Instruction × Table) → List ℕ
codes blocks rows = map (λ row. code_of (instruct blocks row.0 row.1)) rows

-- a store of 64 pages with two packets of a page each, and with nothing on
abbrev stored_at : ℕ → Stored
stored_at time = record { time = time; octets = 8 ∷ 0 ∷ 0 ∷ 0 ∷ 0 ∷ 0 ∷ 0 ∷ [] }

abbrev quiet : Store
quiet = record boot_store { storage = false; open_on = false; patterns = []; packets = stored_at 1 ∷ stored_at 2 ∷ [] }

abbrev on : Store
on = record quiet { storage = true }

abbrev opened : Store
opened = record quiet { open_on = true }

abbrev ranged : Store
ranged = record quiet { range = Some (0, 1) }

abbrev of_one : Store → Table
of_one store = record after_format { stores = store ∷ [] }

-- a destination of a copy
abbrev beside : Store → Table
beside store = record after_format { stores = quiet ∷ store ∷ [] }

-- 64 patterns, and 32 stores
abbrev many : List Pattern
many = map App (range_with_len 0 64)

abbrev all_stores : Table
all_stores = record after_format { stores = map (λ identifier. new_store identifier Circular 1 1) (range_with_len 1 32) }

forwarding : codes 64 ((ForwardAdd Every, after_format) ∷ (ForwardAdd (App 64), record after_format { forward = many }) ∷ (ForwardDelete Every, after_format)
    ∷ (ForwardDelete (App 63), record after_format { forward = many }) ∷ (ForwardReport, after_format) ∷ []) ≡ 0 ∷ 20 ∷ 21 ∷ 0 ∷ 0 ∷ []
forwarding = refl

storage : codes 64 ((Enable 1, of_one quiet) ∷ (Enable 2, of_one quiet) ∷ (Enable 1, of_one on) ∷ (Disable 1, of_one on) ∷ (Disable 2, of_one on) ∷ (Disable 1, of_one quiet) ∷ []) ≡ 0 ∷ 6 ∷ 22 ∷ 0 ∷ 6 ∷ 22 ∷ []
storage = refl

types : codes 64 ((AddTypes 1 Every, of_one quiet) ∷ (AddTypes 2 Every, of_one quiet) ∷ (AddTypes 1 (App 64), of_one (record quiet { patterns = many })) ∷ (DeleteTypes 1 (App 0), of_one (record quiet { patterns = many }))
    ∷ (DeleteTypes 2 Every, of_one quiet) ∷ (DeleteTypes 1 Every, of_one quiet) ∷ (ReportTypes 1, of_one quiet) ∷ (ReportTypes 2, of_one quiet) ∷ []) ≡ 0 ∷ 6 ∷ 20 ∷ 0 ∷ 6 ∷ 21 ∷ 0 ∷ 6 ∷ []
types = refl

start_range : codes 64 ((StartRange 1 1 2, of_one quiet) ∷ (StartRange 2 1 2, of_one quiet) ∷ (StartRange 1 2 1, of_one quiet) ∷ (StartRange 1 1 2, of_one ranged) ∷ []) ≡ 0 ∷ 6 ∷ 15 ∷ 14 ∷ []
start_range = refl

start_range_in_order : codes 64 ((StartRange 2 2 1, of_one ranged) ∷ (StartRange 1 2 1, of_one ranged) ∷ []) ≡ 6 ∷ 15 ∷ []
start_range_in_order = refl

delete_up_to : codes 64 ((DeleteUpTo 1 1, of_one quiet) ∷ (DeleteUpTo 1 1, of_one on) ∷ (DeleteUpTo 2 1, of_one quiet) ∷ (DeleteUpTo 1 1, of_one opened) ∷ (DeleteUpTo 1 1, of_one ranged) ∷ []) ≡ 0 ∷ 0 ∷ 6 ∷ 13 ∷ 14 ∷ []
delete_up_to = refl

delete_up_to_in_order : codes 64 ((DeleteUpTo 1 1, of_one (record opened { range = Some (0, 1) })) ∷ []) ≡ 13 ∷ []
delete_up_to_in_order = refl

questions : codes 64 ((Summary 1, of_one quiet) ∷ (Summary 2, of_one quiet) ∷ (Status, of_one quiet) ∷ (Configuration, of_one quiet) ∷ []) ≡ 0 ∷ 6 ∷ 0 ∷ 0 ∷ []
questions = refl

open_retrieval : codes 64 ((OpenFrom 1 2, of_one ranged) ∷ (OpenFrom 2 2, of_one quiet) ∷ (OpenFrom 1 2, of_one opened) ∷ (Resume 1, of_one quiet) ∷ (Resume 2, of_one quiet) ∷ (Resume 1, of_one opened)
    ∷ (Suspend 1, of_one opened) ∷ (Suspend 2, of_one opened) ∷ (Suspend 1, of_one quiet) ∷ (Abort 1, of_one ranged) ∷ (Abort 2, of_one ranged) ∷ (Abort 1, of_one opened) ∷ [])
    ≡ 0 ∷ 6 ∷ 13 ∷ 0 ∷ 6 ∷ 22 ∷ 0 ∷ 6 ∷ 22 ∷ 0 ∷ 6 ∷ 22 ∷ []
open_retrieval = refl

-- a size of 0 or above 100,000, and a channel of 0 or above 7
create : codes 512 ((Create 2 Circular 1 1, of_one quiet) ∷ (Create 2 Bounded 100000 7, of_one quiet) ∷ (Create 1 Circular 1 1, of_one quiet) ∷ (Create 33 Circular 1 1, all_stores)
    ∷ (Create 2 Circular 0 1, of_one quiet) ∷ (Create 2 Circular 100001 1, of_one quiet) ∷ (Create 2 Circular 1 0, of_one quiet) ∷ (Create 2 Circular 1 8, of_one quiet) ∷ [])
    ≡ 0 ∷ 0 ∷ 7 ∷ 8 ∷ 9 ∷ 9 ∷ 11 ∷ 11 ∷ []
create = refl

create_in_order : codes 13 ((Create 2 Circular 1 1, of_one quiet) ∷ (Create 32 Circular 1 1, all_stores) ∷ (Create 33 Circular 0 1, all_stores) ∷ (Create 2 Circular 0 0, of_one quiet) ∷ (Create 2 Circular 1 0, of_one quiet) ∷ [])
    ≡ 10 ∷ 7 ∷ 8 ∷ 9 ∷ 11 ∷ []
create_in_order = refl

remove : codes 64 ((Remove 1, of_one quiet) ∷ (Remove 2, of_one quiet) ∷ (Remove 1, of_one on) ∷ (Remove 1, of_one opened) ∷ (Remove 1, of_one ranged) ∷ []) ≡ 0 ∷ 6 ∷ 12 ∷ 13 ∷ 14 ∷ []
remove = refl

-- storage and open retrieval are on, and open retrieval and a range
abbrev on_opened : Store
on_opened = record on { open_on = true }

abbrev opened_ranged : Store
opened_ranged = record opened { range = Some (0, 1) }

remove_in_order : codes 64 ((Remove 1, of_one on_opened) ∷ (Remove 1, of_one opened_ranged) ∷ []) ≡ 12 ∷ 13 ∷ []
remove_in_order = refl

-- into an empty store of two pages, of one page, and into a store that holds a packet
abbrev empty : (size : ℕ) → Store
empty size = new_store 2 Circular size 1

abbrev holding : Store
holding = record (empty 64) { packets = stored_at 1 ∷ [] }

copy : codes 64 ((Copy 1 2 1 2, beside (empty 2)) ∷ (Copy 1 2 1 2, beside (record (empty 2) { storage = true; open_on = true; told = true })) ∷ (Copy 3 2 1 2, beside (empty 2)) ∷ (Copy 1 3 1 2, beside (empty 2)) ∷ (Copy 1 1 1 2, beside (empty 2))
    ∷ (Copy 1 2 2 1, beside (empty 2)) ∷ (Copy 1 2 1 2, beside holding) ∷ (Copy 1 2 3 9, beside (empty 2)) ∷ (Copy 1 2 1 2, beside (empty 1)) ∷ []) ≡ 0 ∷ 0 ∷ 6 ∷ 6 ∷ 24 ∷ 15 ∷ 16 ∷ 17 ∷ 18 ∷ []
copy = refl

copy_in_order : codes 64 ((Copy 3 3 1 2, beside (empty 2)) ∷ (Copy 1 1 2 1, beside (empty 2)) ∷ (Copy 1 2 2 1, beside holding) ∷ (Copy 1 2 3 9, beside holding) ∷ []) ≡ 6 ∷ 24 ∷ 15 ∷ 16 ∷ []
copy_in_order = refl

resize : codes 64 ((Resize 1 2, of_one quiet) ∷ (Resize 1 100000, of_one quiet) ∷ (Resize 2 2, of_one quiet) ∷ (Resize 1 0, of_one quiet) ∷ (Resize 1 100001, of_one quiet) ∷ (Resize 1 64, of_one on) ∷ (Resize 1 64, of_one opened)
    ∷ (Resize 1 64, of_one ranged) ∷ (Resize 1 1, of_one quiet) ∷ []) ≡ 0 ∷ 10 ∷ 6 ∷ 9 ∷ 9 ∷ 12 ∷ 13 ∷ 14 ∷ 19 ∷ []
resize = refl

-- on 11 blocks a store of 240 pages is too large, and on 10 each
resize_in_order : codes 11 ((Resize 1 239, of_one quiet) ∷ (Resize 1 240, of_one quiet) ∷ (Resize 2 0, of_one quiet) ∷ (Resize 1 0, of_one on) ∷ (Resize 1 64, of_one on_opened) ∷ (Resize 1 64, of_one opened_ranged) ∷ (Resize 1 1, of_one ranged) ∷ [])
    ++ codes 10 ((Resize 1 1, of_one quiet) ∷ (Resize 1 2, of_one quiet) ∷ []) ≡ 0 ∷ 10 ∷ 6 ∷ 9 ∷ 12 ∷ 13 ∷ 14 ∷ 19 ∷ 10 ∷ []
resize_in_order = refl

-- what the other stores reserve counts, and what the store itself has reserved does not
resize_among_others : codes 16 ((Resize 1 719, beside (empty 1)) ∷ (Resize 1 720, beside (empty 1)) ∷ (Resize 1 240, of_one (record quiet { size = 1200 })) ∷ []) ≡ 0 ∷ 10 ∷ 0 ∷ []
resize_among_others = refl

abbrev bounded : Store
bounded = record quiet { kind = Bounded }

kinds : codes 64 ((ToCircular 1, of_one bounded) ∷ (ToCircular 2, of_one bounded) ∷ (ToCircular 1, of_one (record bounded { storage = true })) ∷ (ToCircular 1, of_one (record bounded { open_on = true }))
    ∷ (ToCircular 1, of_one (record bounded { range = Some (0, 1) })) ∷ (ToCircular 1, of_one quiet)
    ∷ (ToBounded 1, of_one quiet) ∷ (ToBounded 2, of_one quiet) ∷ (ToBounded 1, of_one on) ∷ (ToBounded 1, of_one opened) ∷ (ToBounded 1, of_one ranged) ∷ (ToBounded 1, of_one bounded) ∷ [])
    ≡ 0 ∷ 6 ∷ 12 ∷ 13 ∷ 14 ∷ 22 ∷ 0 ∷ 6 ∷ 12 ∷ 13 ∷ 14 ∷ 22 ∷ []
kinds = refl

kinds_in_order : codes 64 ((ToCircular 1, of_one on_opened) ∷ (ToCircular 1, of_one opened_ranged) ∷ (ToCircular 1, of_one ranged)
    ∷ (ToBounded 1, of_one (record bounded { storage = true; open_on = true })) ∷ (ToBounded 1, of_one (record bounded { open_on = true; range = Some (0, 1) })) ∷ (ToBounded 1, of_one (record bounded { range = Some (0, 1) })) ∷ [])
    ≡ 12 ∷ 13 ∷ 14 ∷ 12 ∷ 13 ∷ 14 ∷ []
kinds_in_order = refl

channels : codes 64 ((Channel 1 7, of_one on) ∷ (Channel 1 1, of_one quiet) ∷ (Channel 2 1, of_one quiet) ∷ (Channel 1 0, of_one quiet) ∷ (Channel 1 8, of_one quiet) ∷ (Channel 1 1, of_one opened) ∷ (Channel 1 1, of_one ranged) ∷ [])
    ≡ 0 ∷ 0 ∷ 6 ∷ 11 ∷ 11 ∷ 13 ∷ 14 ∷ []
channels = refl

channels_in_order : codes 64 ((Channel 2 8, of_one quiet) ∷ (Channel 1 8, of_one opened) ∷ (Channel 1 1, of_one opened_ranged) ∷ []) ≡ 6 ∷ 11 ∷ 13 ∷ []
channels_in_order = refl

-- A change of the kind or of the size takes the mark of a refusal away, and one of the channel does
-- not.
abbrev told_behind : Instruction → Store → List (Result Table ℕ)
told_behind item store = instruct 64 item (of_one (record store { told = true })) ∷ []

told_off : told_behind (ToBounded 1) quiet ++ told_behind (ToCircular 1) bounded ++ told_behind (Resize 1 2) quiet ++ told_behind (Channel 1 3) quiet
    ≡ map Ok (of_one bounded ∷ of_one quiet ∷ of_one (record quiet { size = 2 }) ∷ of_one (record quiet { told = true; channel = 3 }) ∷ [])
told_off = refl
