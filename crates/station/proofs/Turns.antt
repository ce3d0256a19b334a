-- Images that go with what was sent, at each step of a session.
use Rattle.std.proofs.Common.{◌≡◌, ℕ, ◌+◌, List, ◌∷◌, ◌++◌, Some, length, length-append, inl, inr, sym, ◌∙◌, ap, subst, arith}
use Rattle.board.specs.Moments.{GainsFront}
use Rattle.handler.specs.Carrying.{IsInStep}
use Rattle.station.specs.Turns.{HoldsPrefix, InTurn}
use Rattle.image_table.specs.Standing.{HoldsEitherTable, HoldsTable}
use Rattle.pst_model.specs.Command.{Command}
use Rattle.pst_model.specs.Run.{lines_of, run, step}
use Rattle.pst_model.specs.Table.{Table}
use Rattle.turn_laws.specs.Turns.{SendsInTurn, outputs_of, table_after}
use Rattle.turn_laws.proofs.Following.{table_done, table_next}
use Rattle.turn_laws.proofs.Standing.{sends_between, sends_on, sends_within, table_on}

-- an image that holds a table holds an equal one
pub holds_same : (blocks : ℕ) (table other : Table) (image : ℕ → List ℕ) → HoldsTable blocks table image → table ≡ other → HoldsTable blocks other image
holds_same blocks table other image holds is = holds ∙ ap Some is

module _ (blocks : ℕ) (table : Table) where
  -- all lines for the commands done were sent
  pub turn_between : (done others : List Command) (before octets : List ℕ) (image : ℕ → List ℕ) → octets ≡ before ++ lines_of (outputs_of blocks table done)
      → HoldsTable blocks (run blocks table done).table image → InTurn blocks table (done ++ others) before octets image
  turn_between done others before octets image is holds = record {
    kept = length done;
    turn = subst (λ (o : List ℕ). SendsInTurn blocks table (done ++ others) before o (length done)) (sym is) (sends_between blocks table done others before);
    holds = holds_same blocks (run blocks table done).table (table_after blocks table (done ++ others) (length done)) image holds (sym (table_done blocks table done others));
  }

  -- the table after the next command
  pub next_table : (done others : List Command) (command : Command)
      → (step blocks (length done + 1) command (run blocks table done).table).table ≡ table_after blocks table (done ++ command ∷ others) (length done + 1)
  next_table done others command = sym (table_next blocks (length done + 1) table done others command)

  -- some of the lines for the next one were sent besides
  pub turn_within : (done others : List Command) (command : Command) (before now octets : List ℕ) (image : ℕ → List ℕ) → now ≡ before ++ lines_of (outputs_of blocks table done)
      → GainsFront now (lines_of (step blocks (length done + 1) command (run blocks table done).table).outputs) octets
      → HoldsTable blocks (step blocks (length done + 1) command (run blocks table done).table).table image
      → InTurn blocks table (done ++ command ∷ others) before octets image
  turn_within done others command before now octets image is gains holds = record {
    kept = length done + 1;
    turn = sends_within blocks table done command others before octets
        (subst (λ (o : List ℕ). GainsFront o (lines_of (step blocks (length done + 1) command (run blocks table done).table).outputs) octets) is gains);
    holds = holds_same blocks (step blocks (length done + 1) command (run blocks table done).table).table (table_after blocks table (done ++ command ∷ others) (length done + 1)) image holds (next_table done others command);
  }

  pub turn_step : (done others : List Command) (command : Command) (before now octets : List ℕ) (image : ℕ → List ℕ) → now ≡ before ++ lines_of (outputs_of blocks table done)
      → IsInStep blocks (run blocks table done).table (step blocks (length done + 1) command (run blocks table done).table) now octets image
      → InTurn blocks table (done ++ command ∷ others) before octets image
  turn_step done others command before now octets image is (inl still) = turn_between done (command ∷ others) before octets image (still.0 ∙ is) still.1
  turn_step done others command before now octets image is (inr went) = turn_within done others command before now octets image is went.0 went.1

  pub turn_more : (commands more : List Command) (before octets : List ℕ) (image : ℕ → List ℕ) → InTurn blocks table commands before octets image
      → InTurn blocks table (commands ++ more) before octets image
  turn_more commands more before octets image turn = record {
    kept = turn.kept;
    turn = sends_on blocks table commands more before octets turn.kept turn.turn;
    holds = holds_same blocks (table_after blocks table commands turn.kept) (table_after blocks table (commands ++ more) turn.kept) image turn.holds (sym (table_on blocks table commands more turn.kept turn.turn.turn.within));
  }

  -- the same of the images alone

  pub prefix_done : (done others : List Command) (image : ℕ → List ℕ) → HoldsTable blocks (run blocks table done).table image → HoldsPrefix blocks table (done ++ others) image
  prefix_done done others image holds = record {
    kept = length done;
    within = omega (arith, length-append done others);
    holds = holds_same blocks (run blocks table done).table (table_after blocks table (done ++ others) (length done)) image holds (sym (table_done blocks table done others));
  }

  pub prefix_next : (done others : List Command) (command : Command) (image : ℕ → List ℕ) → HoldsTable blocks (step blocks (length done + 1) command (run blocks table done).table).table image
      → HoldsPrefix blocks table (done ++ command ∷ others) image
  prefix_next done others command image holds = record {
    kept = length done + 1;
    within = let both = length-append done (command ∷ others) in omega (arith, both);
    holds = holds_same blocks (step blocks (length done + 1) command (run blocks table done).table).table (table_after blocks table (done ++ command ∷ others) (length done + 1)) image holds (next_table done others command);
  }

  pub prefix_step : (done others : List Command) (command : Command) (image : ℕ → List ℕ)
      → HoldsEitherTable blocks (run blocks table done).table (step blocks (length done + 1) command (run blocks table done).table).table image
      → HoldsPrefix blocks table (done ++ command ∷ others) image
  prefix_step done others command image (inl still) = prefix_done done (command ∷ others) image still
  prefix_step done others command image (inr went) = prefix_next done others command image went

  pub prefix_more : (commands more : List Command) (image : ℕ → List ℕ) → HoldsPrefix blocks table commands image → HoldsPrefix blocks table (commands ++ more) image
  prefix_more commands more image prefix = record {
    kept = prefix.kept;
    within = omega (arith, length-append commands more, prefix.within);
    holds = holds_same blocks (table_after blocks table commands prefix.kept) (table_after blocks table (commands ++ more) prefix.kept) image prefix.holds (sym (table_on blocks table commands more prefix.kept prefix.within));
  }

  -- which of the two is held, by the list of commands
  pub either_next : (done others : List Command) (command : Command) (image : ℕ → List ℕ)
      → HoldsEitherTable blocks (run blocks table done).table (step blocks (length done + 1) command (run blocks table done).table).table image
      → HoldsEitherTable blocks (run blocks table done).table (table_after blocks table (done ++ command ∷ others) (length done + 1)) image
  either_next done others command image (inl still) = inl still
  either_next done others command image (inr went) =
      inr (holds_same blocks (step blocks (length done + 1) command (run blocks table done).table).table (table_after blocks table (done ++ command ∷ others) (length done + 1)) image went (next_table done others command))
