-- Runs of commands, one behind another, and the lines of what goes out.
use Rattle.std.proofs.Common.{◌≡◌, ℕ, ◌+◌, List, [], ◌∷◌, ◌++◌, length, refl, sym, ◌∙◌, ap, arith, add-zero, append_assoc}
use Rattle.std.proofs.lemmas.List.{append-nil}
use Rattle.pst_model.specs.Command.{Command}
use Rattle.pst_model.specs.Output.{output_line}
use Rattle.pst_model.specs.Rules.{Output, Step}
use Rattle.pst_model.specs.Replies.{behind_outputs}
use Rattle.pst_model.specs.Run.{lines_of, run, run_from, step}
use Rattle.pst_model.specs.Table.{Table}

pub lines_of-append : (a b : List Output) → lines_of (a ++ b) ≡ lines_of a ++ lines_of b
lines_of-append [] b = refl
lines_of-append (output ∷ a) b =
    let line = output_line output.channel output.packet in
    ap (λ (lines : List ℕ). line ++ lines) (lines_of-append a b) ∙ sym (append_assoc line (lines_of a) (lines_of b))

-- the run of commands one behind another is the runs of both, one behind the other
pub run_from-append : (blocks number : ℕ) (table : Table) (a b : List Command)
    → run_from blocks number table (a ++ b) ≡ behind_outputs (run_from blocks number table a).outputs (run_from blocks (number + length a) (run_from blocks number table a).table b)
run_from-append blocks number table [] b = ap (λ (n : ℕ). run_from blocks n table b) (sym (add-zero number))
run_from-append blocks number table (command ∷ a) b =
    let first = step blocks number command table in
    let rest = run_from blocks (number + 1) first.table a in
    let next : number + 1 + length a ≡ number + length (command ∷ a) = omega arith in
    ap (λ (behind : Step). behind_outputs first.outputs behind) (run_from-append blocks (number + 1) first.table a b)
    ∙ ap (λ (n : ℕ). behind_outputs first.outputs (behind_outputs rest.outputs (run_from blocks n rest.table b))) next
    ∙ ap (λ (outputs : List Output). record { table = (run_from blocks (number + length (command ∷ a)) rest.table b).table; outputs = outputs }) (sym (append_assoc first.outputs rest.outputs (run_from blocks (number + length (command ∷ a)) rest.table b).outputs))

module _ (blocks : ℕ) (table : Table) (done : List Command) where
  more : (rest : List Command) → run blocks table (done ++ rest) ≡ behind_outputs (run blocks table done).outputs (run_from blocks (length done + 1) (run blocks table done).table rest)
  more rest =
      let count : 1 + length done ≡ length done + 1 = omega arith in
      run_from-append blocks 1 table done rest ∙ ap (λ (n : ℕ). behind_outputs (run blocks table done).outputs (run_from blocks n (run blocks table done).table rest)) count

  -- one command more: the table behind it, and its outputs behind those before it
  pub run-more_table : (command : Command) → (run blocks table (done ++ command ∷ [])).table ≡ (step blocks (length done + 1) command (run blocks table done).table).table
  run-more_table command = ap (λ (step : Step). step.table) (more (command ∷ []))

  pub run-more_outputs : (command : Command)
      → (run blocks table (done ++ command ∷ [])).outputs ≡ (run blocks table done).outputs ++ (step blocks (length done + 1) command (run blocks table done).table).outputs
  run-more_outputs command =
      ap (λ (step : Step). step.outputs) (more (command ∷ []))
      ∙ ap (λ (outputs : List Output). (run blocks table done).outputs ++ outputs) (append-nil (step blocks (length done + 1) command (run blocks table done).table).outputs)

  -- the outputs of fewer commands come first
  pub outputs-prefix : (rest : List Command) → (more : List Output) × ((run blocks table done).outputs ++ more ≡ (run blocks table (done ++ rest)).outputs)
  outputs-prefix rest = ((run_from blocks (length done + 1) (run blocks table done).table rest).outputs, sym (ap (λ (step : Step). step.outputs) (more rest)))
