-- What one command more, or an ending, makes of the table, the images and what was sent.
use Rattle.std.proofs.Common.{◌≡◌, ◌≤◌, ℕ, ◌+◌, List, [], ◌∷◌, ◌++◌, length, length-append, sym, ◌∙◌, ap, subst, arith, append_assoc}
use Rattle.std.proofs.lemmas.List.{append-nil}
use Rattle.board.specs.Counts.{RoseBy}
use Rattle.board.specs.Device.{Device}
use Rattle.board.specs.Flash.{IsImage}
use Rattle.board.specs.Meaning.{BoardMeaning, TellsFlash, TellsLink}
use Rattle.board.specs.Moments.{GainsFront, LeavesOnly, SendsNothing, SendsOnly, Shows}
use Rattle.board.proofs.Runs as runs
use Rattle.board.proofs.Runs.{gains_none, links_too, prefix_trans}
use Rattle.board.proofs.Shown.{shows_first, shows_on, shows_weaker}
use Rattle.board.proofs.Stops.{goes_on, started, weaker}
use Rattle.board.proofs.Works.{rose_by_both, rose_by_none, tells_too}
use Rattle.handler.specs.Carrying.{BreaksOff, CarriesOut, GoesInStep, HasSent, IsInStep, LeavesEither, SendsFront}
use Rattle.station.specs.declared.ending.Ending.{Ending}
use Rattle.station.specs.declared.ending.Ending.TheVariants.{FlashFault, LinkFault}
use Rattle.station.specs.Carrying.{EndsOnTable, OnTable}
use Rattle.station.specs.Retrieving.{RetrievesInOrder}
use Rattle.station.specs.Session.{EndsHolding, EndsSending, HoldsAll, LeavesNow, SendsAll}
use Rattle.station.specs.Turns.{HoldsPrefix, InTurn}
use Rattle.station.proofs.Turns.{either_next, holds_same, next_table, prefix_done, prefix_more, prefix_step, turn_between, turn_more, turn_step}
use Rattle.image_table.specs.Standing.{HoldsEitherTable, HoldsTable}
use Rattle.pst_model.specs.Command.{Command}
use Rattle.pst_model.specs.Rules.{Output, Step}
use Rattle.pst_model.specs.Run.{lines_of, run, step}
use Rattle.pst_model.specs.Table.{Table}
use Rattle.pst_model.proofs.Runs.{lines_of-append, run-more_outputs, run-more_table}
use Rattle.report_lines.specs.declared.sent.Sent.{Sent}
use Rattle.turn_laws.specs.Turns.{outputs_of, table_after}
use Rattle.turn_laws.proofs.Standing.{outputs_behind, outputs_split, sends_within}
use Rattle.vault.specs.Memory.{InMemory, IsSound}
use Rattle.vault.specs.Standing.{StandsFor}
use Rattle.vault.proofs.Stopped.{image_holds}

-- a command's step, whatever table and number it has, on a device of so many blocks
abbrev pub steps_of : (blocks : ℕ) → Command → ℕ → Table → Step
steps_of blocks command number table = step blocks number command table

-- a prefix of the lines for some commands is one of those for more
gains_behind : (blocks : ℕ) (table : Table) (commands more : List Command) (before octets : List ℕ) → GainsFront before (lines_of (outputs_of blocks table commands)) octets
    → GainsFront before (lines_of (outputs_of blocks table (commands ++ more))) octets
gains_behind blocks table commands more before octets gains = record {
  front = gains.front;
  prefix = prefix_trans gains.front (lines_of (outputs_of blocks table commands)) (lines_of (outputs_of blocks table (commands ++ more))) gains.prefix
      (lines_of (outputs_behind blocks table commands more), sym (lines_of-append (outputs_of blocks table commands) (outputs_behind blocks table commands more)) ∙ ap lines_of (sym (outputs_split blocks table commands more)));
  gained = gains.gained;
}

module _ {B : Type 0} (means : BoardMeaning B) (first : B) (table : Table) where
  abbrev blocks : ℕ
  blocks = (means.device first).blocks

  -- what had been sent before
  abbrev before : List ℕ
  before = means.sent first (means.moment first)

  -- nothing was sent yet
  sends_none : SendsAll means first first []
  sends_none = record {
    octets = λ link. sym (append-nil before);
    least = rose_by_none (means.counts first).sends (means.counts first).sends (omega arith);
    most = omega arith;
  }

  -- each image that a stop leaves at first holds the table
  pub leaves_first : (vault : InMemory) → vault.blocks ≡ blocks → IsSound vault → StandsFor vault (means.flash first) table
      → ((image : ℕ → List ℕ) → means.images first (means.moment first) image → IsImage blocks (means.flash first) image)
      → LeavesNow means first (HoldsTable blocks table)
  leaves_first vault same sound stands now image left =
      subst (λ (n : ℕ). HoldsTable n table image) same
      (image_holds vault (means.flash first) table image sound stands (subst (λ (n : ℕ). IsImage n (means.flash first) image) (sym same) (now image left)))

  -- before the first command
  pub on_table_first : (vault : InMemory) → vault.blocks ≡ blocks → IsSound vault → StandsFor vault (means.flash first) table
      → ((image : ℕ → List ℕ) → means.images first (means.moment first) image → IsImage blocks (means.flash first) image)
      → OnTable means first first table vault []
  on_table_first vault same sound stands now = record {
    stands = stands;
    leaves = leaves;
    sends = sends_none;
    moments = λ link. runs.started means first _ (gains_none before []);
    in_turn = λ link. shows_first means first (InTurn blocks table [] before)
        (λ image left. turn_between blocks table [] [] before before image (sym (append-nil before)) (leaves image left));
    prefix = started means first (HoldsPrefix blocks table []) (λ image left. prefix_done blocks table [] [] image (leaves image left));
  }
    where
      leaves : LeavesNow means first (HoldsTable blocks table)
      leaves = leaves_first vault same sound stands now

  module _ (board : B) (vault : InMemory) (done : List Command) (same : vault.blocks ≡ blocks) (on : OnTable means first board table vault done) where
    -- the table now
    abbrev so_far : Table
    so_far = (run blocks table done).table

    pub holds_all : IsSound vault → HoldsAll means blocks so_far board
    holds_all sound = record {
      content = subst (λ (n : ℕ). HoldsTable n so_far (means.flash board).content) same on.stands.holds;
      leaves = on.leaves;
      later = λ image is. subst (λ (n : ℕ). HoldsTable n so_far image) same
          (image_holds vault (means.flash board) so_far image sound on.stands (subst (λ (n : ℕ). IsImage n (means.flash board) image) (sym same) is));
    }

    -- an ending behind the commands, whatever others were read
    pub ends_still : IsSound vault → (others : List Command) (ending : Ending)
        → (HoldsAll means blocks so_far board → EndsHolding means blocks table done others board ending)
        → (SendsAll means first board (outputs_of blocks table done) → EndsSending means blocks table done others first board ending)
        → RetrievesInOrder blocks table (done ++ others) → EndsOnTable means first board table done others ending
    ends_still sound others ending holding sending retrieval = record {
      moments = λ link. runs.weaker means first board _ _ (on.moments link) (λ octets gains. gains_behind blocks table done others before octets gains);
      in_turn = λ link. shows_weaker means first board _ _ (on.in_turn link) (λ octets image turn. turn_more blocks table done others before octets image turn);
      prefix = weaker means first board _ _ on.prefix (λ image held. prefix_more blocks table done others image held);
      holding = holding (holds_all sound);
      sending = sending on.sends;
      retrieval = retrieval;
    }

    module _ (board' : B) (device : means.device board ≡ means.device first) (flash : TellsFlash means first) (command : Command)
        (goes : GoesInStep means board board' vault (steps_of (means.device board).blocks command)) (front : SendsFront means board board' vault (steps_of (means.device board).blocks command))
        (either : LeavesEither means board board' vault (steps_of (means.device board).blocks command)) where
      abbrev own : Step
      own = step blocks (length done + 1) command so_far

      abbrev now : List ℕ
      now = means.sent board (means.moment board)

      flash_now : TellsFlash means board
      flash_now = tells_too device flash

      -- the vault and the device have as many blocks as the first board
      at_blocks : (P : (held told : ℕ) → Type 0) → P vault.blocks (means.device board).blocks → P blocks blocks
      at_blocks P is =
          subst (λ (told : ℕ). P blocks told) (ap (λ (d : Device). d.blocks) device)
          (subst (λ (held : ℕ). P held (means.device board).blocks) same is)

      -- the step by the blocks that the board tells
      abbrev own_by : ℕ → Step
      own_by n = step n (length done + 1) command so_far

      in_step : TellsLink means first → Shows means board board' (IsInStep blocks so_far own now)
      in_step link = at_blocks (λ held told. Shows means board board' (IsInStep held so_far (own_by told) now))
          (goes flash_now (links_too device link) so_far (length done + 1) on.stands)

      front_own : TellsLink means first → SendsOnly means board board' (GainsFront now (lines_of own.outputs))
      front_own link = at_blocks (λ held told. SendsOnly means board board' (GainsFront now (lines_of (own_by told).outputs)))
          (front flash_now (links_too device link) so_far (length done + 1) on.stands)

      pub moments_step : (others : List Command) → TellsLink means first
          → SendsOnly means first board' (GainsFront before (lines_of (outputs_of blocks table (done ++ command ∷ others))))
      moments_step others link =
          runs.goes_on means first board board' _ _
          (runs.weaker means first board _ _ (on.moments link) (λ octets gains. gains_behind blocks table done (command ∷ others) before octets gains))
          (front_own link)
          (λ octets gains. (sends_within blocks table done command others before octets
          (subst (λ (o : List ℕ). GainsFront o (lines_of own.outputs) octets) (on.sends.octets link) gains)).gains)

      leaves_either : LeavesOnly means board board' (HoldsEitherTable blocks so_far own.table)
      leaves_either = at_blocks (λ held told. LeavesOnly means board board' (HoldsEitherTable held so_far (own_by told).table))
          (either flash_now so_far (length done + 1) on.stands)

      pub shows_step : (others : List Command) → TellsLink means first → Shows means first board' (InTurn blocks table (done ++ command ∷ others) before)
      shows_step others link =
          shows_on means first board board' (InTurn blocks table (done ++ command ∷ others) before) (IsInStep blocks so_far own now)
          (shows_weaker means first board _ _ (on.in_turn link) (λ octets image turn. turn_more blocks table done (command ∷ others) before octets image turn))
          (in_step link)
          (λ octets image is. turn_step blocks table done others command before now octets image (on.sends.octets link) is)

      pub leaves_step : (others : List Command) → LeavesOnly means first board' (HoldsPrefix blocks table (done ++ command ∷ others))
      leaves_step others =
          goes_on means first board board' (HoldsPrefix blocks table (done ++ command ∷ others)) (HoldsEitherTable blocks so_far own.table)
          (weaker means first board _ _ on.prefix (λ image held. prefix_more blocks table done (command ∷ others) image held))
          leaves_either
          (λ image held. prefix_step blocks table done others command image held)

      outputs_on : outputs_of blocks table done ++ own.outputs ≡ outputs_of blocks table (done ++ command ∷ [])
      outputs_on = sym (run-more_outputs blocks table done command)

      -- the command's lines were sent behind those before it
      sends_on : (sent : Sent) → HasSent means board board' own sent → SendsAll means first board' (outputs_of blocks table (done ++ command ∷ []))
      sends_on sent has = subst (λ (outputs : List Output). SendsAll means first board' outputs) outputs_on (record {
        octets = λ link. has.octets (links_too device link)
            ∙ ap (λ (octets : List ℕ). octets ++ lines_of own.outputs) (on.sends.octets link)
            ∙ append_assoc before (lines_of (outputs_of blocks table done)) (lines_of own.outputs)
            ∙ ap (λ (octets : List ℕ). before ++ octets) (sym (lines_of-append (outputs_of blocks table done) own.outputs));
        least = subst (λ (n : ℕ). RoseBy n (means.counts first).sends (means.counts board').sends) (sym (length-append (outputs_of blocks table done) own.outputs))
            (rose_by_both (length (outputs_of blocks table done)) (length own.outputs) (means.counts first).sends (means.counts board).sends (means.counts board').sends on.sends.least has.least);
        most = omega (arith, length-append (outputs_of blocks table done) own.outputs, on.sends.most, has.most);
      })

      -- the command was carried out
      pub on_table_more : (vault' : InMemory) (sent : Sent) → CarriesOut means board board' vault vault' (steps_of (means.device board).blocks command) sent
          → OnTable means first board' table vault' (done ++ command ∷ [])
      on_table_more vault' sent carries = record {
        stands = subst (λ (t : Table). StandsFor vault' (means.flash board') t) table_is (carries.stands so_far (length done + 1) on.stands);
        leaves = λ image left. holds_same blocks own.table (run blocks table (done ++ command ∷ [])).table image
            (at_blocks (λ held told. HoldsTable held (own_by told).table image) (carries.holds so_far (length done + 1) on.stands image left))
            (sym (run-more_table blocks table done command));
        sends = sends_on sent (at_blocks (λ held told. HasSent means board board' (own_by told) sent) (carries.sends so_far (length done + 1) on.stands));
        moments = moments_step [];
        in_turn = shows_step [];
        prefix = leaves_step [];
      }
        where
          table_is : (own_by (means.device board).blocks).table ≡ (run blocks table (done ++ command ∷ [])).table
          table_is = ap (λ (d : Device). (own_by d.blocks).table) device ∙ sym (run-more_table blocks table done command)

      -- the link failed
      pub ends_broken : (others : List Command) → BreaksOff means board board' vault (steps_of (means.device board).blocks command)
          → RetrievesInOrder blocks table (done ++ command ∷ others) → EndsOnTable means first board' table done (command ∷ others) LinkFault
      ends_broken others breaks retrieval = record {
        moments = moments_step others;
        in_turn = shows_step others;
        prefix = leaves_step others;
        holding = λ image left. holds_same blocks own.table (table_after blocks table (done ++ command ∷ others) (length done + 1)) image
            (at_blocks (λ held told. HoldsTable held (own_by told).table image) (breaks.holds so_far (length done + 1) on.stands image left))
            (next_table blocks table done others command);
        sending = record {
          octets = λ link.
              let front = front_own link in
              subst (λ (octets : List ℕ). GainsFront octets (lines_of own.outputs) (means.sent board' (means.moment board'))) (on.sends.octets link)
              (front.each (means.moment board') front.later (omega arith));
          most = omega (arith, on.sends.most, most);
        };
        retrieval = retrieval;
      }
        where
          most : (means.counts board').sends ≤ (means.counts board).sends + length own.outputs
          most = at_blocks (λ held told. (means.counts board').sends ≤ (means.counts board).sends + length (own_by told).outputs)
              (breaks.most so_far (length done + 1) on.stands)

      -- the flash failed
      pub ends_failed : (others : List Command) → (TellsLink means board → SendsNothing means board board') → (means.counts board').sends ≡ (means.counts board).sends
          → RetrievesInOrder blocks table (done ++ command ∷ others) → EndsOnTable means first board' table done (command ∷ others) FlashFault
      ends_failed others unsent uncalled retrieval = record {
        moments = moments_step others;
        in_turn = shows_step others;
        prefix = leaves_step others;
        holding = λ image left. either_next blocks table done others command image
            (leaves_either.each (means.moment board') image leaves_either.later (omega arith) left);
        sending = record {
          octets = λ link.
              let none = unsent (links_too device link) in
              none.each (means.moment board') none.later (omega arith) ∙ on.sends.octets link;
          least = subst (λ (n : ℕ). RoseBy (length (outputs_of blocks table done)) (means.counts first).sends n) (sym uncalled) on.sends.least;
          most = omega (arith, on.sends.most, uncalled);
        };
        retrieval = retrieval;
      }
