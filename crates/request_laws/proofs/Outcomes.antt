-- What an instruction that does not fail makes of the table, read from the model.
use Rattle.std.proofs.Common.{◌≡◌, ℕ, ◌≤◌, Bool, true, false, List, length, Option, Some, None, Result, Ok, Err, refl, subst}
use Rattle.std.specs.Prelude.{IfOk, find, if◌then◌else◌, nat_lt}
use Rattle.std.proofs.lemmas.Bool.{ltb-false}
use Rattle.control_defs.specs.Lists.{is_standing, with_pattern, without_pattern}
use Rattle.control_defs.specs.declared.patterns.Pattern.{Pattern}
use Rattle.pst_model.specs.Changes.{asked_about, change_store, is_named, where_found, with_changed, with_store}
use Rattle.pst_model.specs.Failures.{already_so, no_such_pattern, too_many_patterns, unless}
use Rattle.pst_model.specs.Instructions.{add_pattern, delete_pattern, set_open, set_storage, with_forward, with_types}
use Rattle.pst_model.specs.Stores.{remove, rest_checks, without_store}
use Rattle.pst_model.specs.Table.{Store, Table}
use Rattle.pst_model.proofs.Effects.{Passed, unless_ok}

-- outcomes, with the type of their codes

abbrev went : {X : Type 0} → X → Result X ℕ
went made = Ok made

abbrev failed : {X : Type 0} → ℕ → Result X ℕ
failed code = Err code

pub same_Ok : {X : Type 0} {x y : X} → went x ≡ went y → x ≡ y
same_Ok is = cc

pub no_Ok : {X : Type 0} {code : ℕ} {x : X} → failed code ≡ went x → ⊥
no_Ok is = cc

-- a store that stands was asked about
pub record Asked (identifier : ℕ) (table made : Table) : Type 0 where
  pub store : Store
  pub found : find (is_named identifier) table.stores ≡ Some store
  pub made_is : table ≡ made

pub was_asked : (identifier : ℕ) (table made : Table) → asked_about identifier table ≡ Ok made → Asked identifier table made
was_asked identifier table made is = by (find (is_named identifier) table.stores) refl is
  where
    by : (found : Option Store) → find (is_named identifier) table.stores ≡ found → where_found (λ (_ : Store). Ok table) found ≡ Ok made → Asked identifier table made
    by (Some store) found is = record { store = store; found = found; made_is = same_Ok is }
    by None found is = absurd (no_Ok is)

-- a store that stands was changed
pub record Changed (identifier : ℕ) (table made : Table) (change : Store → Result Store ℕ) : Type 0 where
  pub store : Store
  pub next : Store
  pub found : find (is_named identifier) table.stores ≡ Some store
  pub changed : change store ≡ Ok next
  pub made_is : record table { stores = with_store identifier next table.stores } ≡ made

pub was_changed : (identifier : ℕ) (table made : Table) (change : Store → Result Store ℕ) → change_store identifier table change ≡ Ok made → Changed identifier table made change
was_changed identifier table made change is = by (find (is_named identifier) table.stores) refl is
  where
    outcome : Store → Result Table ℕ
    outcome store = with_changed identifier table (change store)

    found_by : (store : Store) → find (is_named identifier) table.stores ≡ Some store → (result : Result Store ℕ) → change store ≡ result → with_changed identifier table result ≡ Ok made
        → Changed identifier table made change
    found_by store found (Ok next) changed is = record { store = store; next = next; found = found; changed = changed; made_is = same_Ok is }
    found_by store found (Err code) changed is = absurd (no_Ok is)

    by : (found : Option Store) → find (is_named identifier) table.stores ≡ found → where_found outcome found ≡ Ok made → Changed identifier table made change
    by (Some store) found is = found_by store found (change store) refl is
    by None found is = absurd (no_Ok is)

-- checks that were all passed
pub record Checked {X : Type 0} (checks : List (Bool × ℕ)) (outcome made : X) : Type 0 where
  pub passed : Passed checks
  pub made_is : outcome ≡ made

pub was_checked : {X : Type 0} (checks : List (Bool × ℕ)) (outcome made : X) → unless checks outcome ≡ Ok made → Checked checks outcome made
was_checked {X} checks outcome made is =
    subst (λ (r : Result X ℕ). IfOk r (λ x. x ≡ made → Checked checks outcome made)) is
    (unless_ok (λ x. x ≡ made → Checked checks outcome made) checks outcome (λ passed same. record { passed = passed; made_is = same })) refl

-- a store that stands was removed
pub record Removed (identifier : ℕ) (table made : Table) : Type 0 where
  pub store : Store
  pub found : find (is_named identifier) table.stores ≡ Some store
  pub checked : Checked (rest_checks store) (record table { stores = without_store identifier table.stores }) made

pub was_removed : (identifier : ℕ) (table made : Table) → remove identifier table ≡ Ok made → Removed identifier table made
was_removed identifier table made is = by (find (is_named identifier) table.stores) refl is
  where
    without : Table
    without = record table { stores = without_store identifier table.stores }

    by : (found : Option Store) → find (is_named identifier) table.stores ≡ found → where_found (λ (store : Store). unless (rest_checks store) without) found ≡ Ok made → Removed identifier table made
    by None found is = absurd (no_Ok is)
    by (Some store) found is = record { store = store; found = found; checked = was_checked (rest_checks store) without made is }

-- flags

pub was_stored : (on : Bool) (store next : Store) → set_storage on store ≡ Ok next → record store { storage = on } ≡ next
was_stored true store next is = by store.storage is
  where
    by : (now : Bool) → (if now then Err already_so else Ok (record store { storage = true })) ≡ Ok next → record store { storage = true } ≡ next
    by true is = absurd (no_Ok is)
    by false is = same_Ok is
was_stored false store next is = by store.storage is
  where
    by : (now : Bool) → (if now then Ok (record store { storage = false }) else Err already_so) ≡ Ok next → record store { storage = false } ≡ next
    by true is = same_Ok is
    by false is = absurd (no_Ok is)

pub was_opened : (on : Bool) (store next : Store) → set_open on store ≡ Ok next → record store { open_on = on } ≡ next
was_opened true store next is = by store.open_on is
  where
    by : (now : Bool) → (if now then Err already_so else Ok (record store { open_on = true })) ≡ Ok next → record store { open_on = true } ≡ next
    by true is = absurd (no_Ok is)
    by false is = same_Ok is
was_opened false store next is = by store.open_on is
  where
    by : (now : Bool) → (if now then Ok (record store { open_on = false }) else Err already_so) ≡ Ok next → record store { open_on = false } ≡ next
    by true is = same_Ok is
    by false is = absurd (no_Ok is)

-- patterns

pub record Added (pattern : Pattern) (patterns made : List Pattern) : Type 0 where
  pub few : length made ≤ 64
  pub made_is : with_pattern pattern patterns ≡ made

pub was_added : (pattern : Pattern) (patterns made : List Pattern) → add_pattern pattern patterns ≡ Ok made → Added pattern patterns made
was_added pattern patterns made is = by (nat_lt 64 (length (with_pattern pattern patterns))) refl is
  where
    by : (many : Bool) → nat_lt 64 (length (with_pattern pattern patterns)) ≡ many
        → (if many then Err too_many_patterns else Ok (with_pattern pattern patterns)) ≡ Ok made → Added pattern patterns made
    by true many is = absurd (no_Ok is)
    by false few is =
        let same = same_Ok is in
        record { few = subst (λ (l : List Pattern). length l ≤ 64) same (ltb-false 64 (length (with_pattern pattern patterns)) few); made_is = same }

pub record Deleted (pattern : Pattern) (patterns made : List Pattern) : Type 0 where
  pub stands : is_standing pattern patterns ≡ true
  pub made_is : without_pattern pattern patterns ≡ made

pub was_deleted : (pattern : Pattern) (patterns made : List Pattern) → delete_pattern pattern patterns ≡ Ok made → Deleted pattern patterns made
was_deleted pattern patterns made is = by (is_standing pattern patterns) refl is
  where
    by : (stands : Bool) → is_standing pattern patterns ≡ stands
        → (if stands then Ok (without_pattern pattern patterns) else Err no_such_pattern) ≡ Ok made → Deleted pattern patterns made
    by true stands is = record { stands = stands; made_is = same_Ok is }
    by false stands is = absurd (no_Ok is)

-- lists of patterns in a table and in a store

pub record Forwards (table made : Table) (outcome : Result (List Pattern) ℕ) : Type 0 where
  pub patterns : List Pattern
  pub outcome_is : outcome ≡ Ok patterns
  pub made_is : record table { forward = patterns } ≡ made

pub were_forwarded : (table made : Table) (outcome : Result (List Pattern) ℕ) → with_forward table outcome ≡ Ok made → Forwards table made outcome
were_forwarded table made (Ok patterns) is = record { patterns = patterns; outcome_is = refl; made_is = same_Ok is }
were_forwarded table made (Err code) is = absurd (no_Ok is)

pub record Types (store next : Store) (outcome : Result (List Pattern) ℕ) : Type 0 where
  pub patterns : List Pattern
  pub outcome_is : outcome ≡ Ok patterns
  pub made_is : record store { patterns = patterns } ≡ next

pub were_typed : (store next : Store) (outcome : Result (List Pattern) ℕ) → with_types store outcome ≡ Ok next → Types store next outcome
were_typed store next (Ok patterns) is = record { patterns = patterns; outcome_is = refl; made_is = same_Ok is }
were_typed store next (Err code) is = absurd (no_Ok is)
