-- Checks in their order, each with its refusal.
use Rattle.std.specs.Prelude.{⊤, ℕ, ◌-◌, Bool, nat_le, nat_lt, if◌then◌else◌, List, [], ◌∷◌, drop, take, Result, Ok, Err}
use Rattle.store_policy.specs.declared.refusal.Refusal.{Refusal}
use Rattle.store_policy.specs.declared.refusal.Refusal.TheVariants.{Full, NoBlocks, NothingThere, TooSmall}
use Rattle.time_index.specs.TimeIndex.{count_below, count_up_to, pages_of}
use Rattle.time_index.specs.declared.entry.Entry.{Entry}

-- the first of these checks that fails, with its refusal
abbrev pub first_failure : List (Bool × Refusal) → Result (Unit {0}) Refusal
first_failure [] = Ok tt
first_failure (check ∷ checks) = if check.0 then Err check.1 else first_failure checks

-- a refusal without numbers
abbrev pub IsPlain : Refusal → Type 0
IsPlain (NoBlocks need free) = ⊥
IsPlain (Full need free) = ⊥
IsPlain (TooSmall content) = ⊥
IsPlain _ = ⊤

-- the entries with times from the first one to the second, which lie behind one another
abbrev pub entries_between : (t1 t2 : ℕ) → List Entry → List Entry
entries_between t1 t2 entries =
    take (count_up_to entries t2 - count_below entries t1) (drop (count_below entries t1) entries)

-- the checks of a window that a store of this size is to take
abbrev pub window_checks : (t1 t2 : ℕ) → List Entry → (size : ℕ) → List (Bool × Refusal)
window_checks t1 t2 entries size =
    let pages = pages_of (entries_between t1 t2 entries) in
    (nat_le (count_up_to entries t2) (count_below entries t1), NothingThere)
    ∷ (nat_lt size pages, Full pages size) ∷ []
