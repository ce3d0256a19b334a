-- What instructions keep of the table.
use Rattle.std.proofs.Common.{◌≡◌, ℕ, ◌+◌, Bool, true, false, List, [], ◌∷◌, ◌++◌, length, Some, Result, Ok, Err, sym, ◌∙◌, ap, subst, arith, refl}
use Rattle.std.proofs.lemmas.List.Elements.{All-head, All-tail}
use Rattle.std.proofs.lemmas.Result.{IfOk-weaker}
use Rattle.std.specs.Prelude.{All, IfOk, find, if◌then◌else◌}
use Rattle.control_defs.specs.declared.instructions.Instruction.{Instruction}
use Rattle.pst_model.specs.Answers.{Carried, carried_by, carry_out_from, failed_first}
use Rattle.pst_model.specs.Instructions.{instruct}
use Rattle.pst_model.specs.Table.{Table}
use Rattle.pst_model.proofs.Effects.{Effect, Stays, Forwards, Changes, Creates, Removes, instruct_effect}

-- what each instruction keeps, all keep, one behind the other
module _ (blocks : ℕ) (P : Table → Type 0) (keeps : (item : Instruction) (table : Table) → P table → IfOk (instruct blocks item table) P) where
  pub carry_keeps : (number : ℕ) (items : List Instruction) (table : Table) → P table → P (carry_out_from blocks number items table).table
  carry_keeps number [] table holds = holds
  carry_keeps number (item ∷ items) table holds = by (instruct blocks item table) (keeps item table holds) (carry_keeps (number + 1) items)
    where
      by : (outcome : Result Table ℕ) → IfOk outcome P → ((next : Table) → P next → P (carry_out_from blocks (number + 1) items next).table) → P (carried_by number table outcome (carry_out_from blocks (number + 1) items)).table
      by (Ok next) kept rest = rest next kept
      by (Err code) kept rest = rest table holds

-- Instructions, and others behind them.

-- failures in front of those of the others
abbrev pub behind_failures : List (ℕ × ℕ) → Carried → Carried
behind_failures failures carried = record { table = carried.table; failures = failures ++ carried.failures }

pub carry_out-append : (blocks number : ℕ) (xs ys : List Instruction) (table : Table)
    → carry_out_from blocks number (xs ++ ys) table ≡ behind_failures (carry_out_from blocks number xs table).failures (carry_out_from blocks (number + length xs) ys (carry_out_from blocks number xs table).table)
carry_out-append blocks number [] ys table = ap (λ (n : ℕ). carry_out_from blocks n ys table) (omega arith)
carry_out-append blocks number (item ∷ xs) ys table = by (instruct blocks item table) (carry_out-append blocks (number + 1) xs ys)
  where
    -- the numbers of those behind
    on : (next : Table) → behind_failures (carry_out_from blocks (number + 1) xs next).failures (carry_out_from blocks (number + 1 + length xs) ys (carry_out_from blocks (number + 1) xs next).table)
        ≡ behind_failures (carry_out_from blocks (number + 1) xs next).failures (carry_out_from blocks (number + length (item ∷ xs)) ys (carry_out_from blocks (number + 1) xs next).table)
    on next = ap (λ (n : ℕ). behind_failures (carry_out_from blocks (number + 1) xs next).failures (carry_out_from blocks n ys (carry_out_from blocks (number + 1) xs next).table)) (omega arith)

    by : (outcome : Result Table ℕ)
        → ((next : Table) → carry_out_from blocks (number + 1) (xs ++ ys) next ≡ behind_failures (carry_out_from blocks (number + 1) xs next).failures (carry_out_from blocks (number + 1 + length xs) ys (carry_out_from blocks (number + 1) xs next).table))
        → carried_by number table outcome (carry_out_from blocks (number + 1) (xs ++ ys))
        ≡ behind_failures (carried_by number table outcome (carry_out_from blocks (number + 1) xs)).failures (carry_out_from blocks (number + length (item ∷ xs)) ys (carried_by number table outcome (carry_out_from blocks (number + 1) xs)).table)
    by (Ok next) rest = rest next ∙ on next
    by (Err code) rest = ap (failed_first (number, code)) (rest table ∙ on table)

-- what holds of each table that an instruction makes holds of the one behind it
pub effect_keeps : (P : Table → Type 0) (blocks : ℕ) (item : Instruction) (table : Table) → ((next : Table) → Effect blocks table next → P next) → IfOk (instruct blocks item table) P
effect_keeps P blocks item table keeps = IfOk-weaker (instruct blocks item table) (Effect blocks table) P keeps (instruct_effect blocks table item)

-- what holds of each element holds of the one that is found
pub found_has : {X : Type 0} (P : X → Type 0) (test : X → Bool) (xs : List X) (x : X) → All P xs → find test xs ≡ Some x → P x
found_has P test [] x all is = absurd cc
found_has {X} P test (y ∷ xs) x all is = by (test y) refl (found_has P test xs x (All-tail P y xs all))
  where
    by : (passes : Bool) → test y ≡ passes → (find test xs ≡ Some x → P x) → P x
    by true passes rest =
        let same : Some y ≡ Some x = sym (ap (λ (b : Bool). if b then Some y else find test xs) passes) ∙ is in
        let e : y ≡ x = cc in subst P e (All-head P y xs all)
    by false passes rest = rest (sym (ap (λ (b : Bool). if b then Some y else find test xs) passes) ∙ is)

-- the reports stay
effect_reports : (count blocks : ℕ) (table next : Table) → table.reports ≡ count → Effect blocks table next → next.reports ≡ count
effect_reports count blocks table next is Stays = is
effect_reports count blocks table next is (Forwards patterns) = is
effect_reports count blocks table next is (Changes identifier store other found change) = is
effect_reports count blocks table next is (Creates identifier kind size channel new few sized on fits) = is
effect_reports count blocks table next is (Removes identifier) = is

pub instruct_reports : (count blocks : ℕ) (item : Instruction) (table : Table) → table.reports ≡ count → IfOk (instruct blocks item table) (λ (next : Table). next.reports ≡ count)
instruct_reports count blocks item table is = effect_keeps (λ (next : Table). next.reports ≡ count) blocks item table (λ next effect. effect_reports count blocks table next is effect)
