-- What one more instruction makes of the table, and which one it is.
use Rattle.std.proofs.Common.{◌≡◌, ℕ, zero, suc, ◌+◌, ◌<◌, List, [], ◌∷◌, ◌++◌, append-nil, length, take, Some, Result, Ok, Err, ◌∙◌, ap, subst, arith}
use Rattle.std.specs.Prelude.{All, slice_get}
use Rattle.std.proofs.lemmas.List.{length-take-le, take_all}
use Rattle.std.proofs.lemmas.Option.{get_or_from_slice_get, none-some, same_Some, slice_get_within}
use Rattle.control_defs.specs.declared.instructions.Instruction.{Instruction}
use Rattle.pst_model.specs.Answers.{Carried, carried_by, carry_out, carry_out_from}
use Rattle.pst_model.specs.Instructions.{instruct}
use Rattle.pst_model.specs.Table.{Table}
use Rattle.pst_model.proofs.Carried.{behind_failures, carry_out-append}
use Rattle.request_laws.specs.Carrying.{carried_up_to}

take-next : {X : Type 0} (xs : List X) (at : ℕ) (x : X) → slice_get xs at ≡ Some x → take (suc at) xs ≡ take at xs ++ x ∷ []
take-next [] at x is = absurd (none-some x is)
take-next (y ∷ xs) zero x is = ap (λ (z : _). z ∷ []) (same_Some y x is)
take-next (y ∷ xs) (suc at) x is = ap (λ (l : List _). y ∷ l) (take-next xs at x is)

-- what holds of each holds of the one at a place
pub all_here : {X : Type 0} (P : X → Type 0) (xs : List X) (at : ℕ) (x : X) → All P xs → slice_get xs at ≡ Some x → P x
all_here P xs at x all is = subst P (get_or_from_slice_get xs at x x is) (all at x (slice_get_within xs at x is))

module _ (blocks : ℕ) (items : List Instruction) (at : ℕ) (table : Table) (item : Instruction) (is : slice_get items at ≡ Some item) where
  abbrev so_far : Carried
  so_far = carried_up_to blocks items at table

  -- the instruction's outcome behind what was carried out
  abbrev by_outcome : Result Table ℕ → Carried
  by_outcome outcome = behind_failures so_far.failures (carried_by (at + 1) so_far.table outcome (carry_out_from blocks (at + 1 + 1) []))

  stepped : carried_up_to blocks items (at + 1) table ≡ by_outcome (instruct blocks item so_far.table)
  stepped =
      let within : at < length items = slice_get_within items at item is in
      let number : 1 + length (take at items) ≡ at + 1 = omega (arith, length-take-le at items (omega (arith, within))) in
      let more : at + 1 ≡ suc at = omega arith in
      ap (λ (n : ℕ). carried_up_to blocks items n table) more
      ∙ ap (λ (l : List Instruction). carry_out blocks l table) (take-next items at item is)
      ∙ carry_out-append blocks 1 (take at items) (item ∷ []) table
      ∙ ap (λ (n : ℕ). behind_failures so_far.failures (carry_out_from blocks n (item ∷ []) so_far.table)) number

  pub went_well : (next : Table) → instruct blocks item so_far.table ≡ Ok next
      → carried_up_to blocks items (at + 1) table ≡ record { table = next; failures = so_far.failures }
  went_well next ok =
      stepped ∙ ap by_outcome ok
      ∙ ap (λ (l : List (ℕ × ℕ)). record { table = next; failures = l }) (append-nil so_far.failures)

  pub went_wrong : (code : ℕ) → instruct blocks item so_far.table ≡ Err code
      → carried_up_to blocks items (at + 1) table ≡ record { table = so_far.table; failures = so_far.failures ++ (at + 1, code) ∷ [] }
  went_wrong code err = stepped ∙ ap by_outcome err

pub all_of : (blocks : ℕ) (items : List Instruction) (table : Table) → carried_up_to blocks items (length items) table ≡ carry_out blocks items table
all_of blocks items table = ap (λ (l : List Instruction). carry_out blocks l table) (take_all (length items) items (omega arith))
