-- Changes of the store that an instruction names.
use Rattle.std.specs.Prelude.{ℕ, ◌==◌, Bool, find, List, Option, Some, None, Result, Ok, Err}
use Rattle.pst_model.specs.Failures.{unknown_store}
use Rattle.pst_model.specs.Rules.{at_first}
use Rattle.pst_model.specs.Table.{Store, Table}

abbrev pub is_named : (identifier : ℕ) → Store → Bool
is_named identifier store = store.identifier == identifier

-- the stores with another one in place of that of this identifier
abbrev pub with_store : (identifier : ℕ) → Store → List Store → List Store
with_store identifier next stores = at_first (is_named identifier) (λ _. next) stores

-- the table with the store of this identifier as it was made
abbrev pub with_changed : (identifier : ℕ) → Table → Result Store ℕ → Result Table ℕ
with_changed identifier table (Ok store) =
    Ok (record table { stores = with_store identifier store table.stores })
with_changed identifier table (Err code) = Err code

abbrev pub where_found : (Store → Result Table ℕ) → Option Store → Result Table ℕ
where_found outcome (Some store) = outcome store
where_found outcome None = Err unknown_store

-- what becomes of the table by the store of this identifier, which has to stand
abbrev pub of_store : (identifier : ℕ) → Table → (Store → Result Table ℕ) → Result Table ℕ
of_store identifier table outcome = where_found outcome (find (is_named identifier) table.stores)

-- a change of the store of this identifier
abbrev pub change_store : (identifier : ℕ) → Table → (Store → Result Store ℕ) → Result Table ℕ
change_store identifier table change =
    of_store identifier table (λ store. with_changed identifier table (change store))

-- a store that is asked about, which stays as it is
abbrev pub asked_about : (identifier : ℕ) → Table → Result Table ℕ
asked_about identifier table = of_store identifier table (λ _. Ok table)
