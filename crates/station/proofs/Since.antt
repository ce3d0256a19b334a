-- A session seen from before a run of calls that sent nothing.
use Rattle.std.proofs.Common.{◌≡◌, ◌≤◌, ℕ, List, [], ◌++◌, length, sym, ◌∙◌, ap, subst, arith}
use Rattle.std.proofs.lemmas.List.{append-nil}
use Rattle.std.specs.Prelude.{IsTrue}
use Rattle.board.specs.Counts.{RoseBy}
use Rattle.board.specs.Device.{Device}
use Rattle.board.specs.Meaning.{BoardMeaning, SourceMeaning, TellsLink}
use Rattle.board.specs.Moments.{GainsFront, LeavesOnly, SendsNothing, SendsOnly}
use Rattle.board.proofs.Runs as runs
use Rattle.board.proofs.Runs.{gains_none, links_too, rose_since}
use Rattle.board.proofs.Shown.{shows_both, shows_first, shows_on}
use Rattle.board.proofs.Stops.{goes_on, started, weaker}
use Rattle.board.proofs.Works.{rose_by_none, tells_too}
use Rattle.station.specs.declared.ending.Ending.{Ending}
use Rattle.station.specs.declared.ending.Ending.TheVariants.{BadLine, BadWords, Done, FlashFault, LinkFault, Mismatch, NoMemory, NotHeld, SourceFault}
use Rattle.station.specs.Carrying.{EndsOnTable}
use Rattle.station.specs.Reading.{EndsReading, HasNext, read_of}
use Rattle.station.specs.Retrieving.{RetrievesInOrder}
use Rattle.station.specs.Session.{BreaksWithin, Carries, EndsHolding, EndsSending, HoldsAll, SendsAll}
use Rattle.station.specs.Station.{HasCauses, IsCaused, Keeps}
use Rattle.station.specs.Turns.{HoldsPrefix, InTurn}
use Rattle.station.proofs.Turns.{prefix_done, turn_between}
use Rattle.image_table.specs.Standing.{HoldsTable}
use Rattle.pst_model.specs.Command.{Command}
use Rattle.pst_model.specs.Rules.{Output}
use Rattle.pst_model.specs.Run.{lines_of}
use Rattle.pst_model.specs.Table.{Table}
use Rattle.turn_laws.specs.Turns.{outputs_of}

module _ {B : Type 0} (means : BoardMeaning B) where
  -- before the first call, on a board that holds the table
  pub ends_here : (board : B) (table : Table) (others : List Command) (ending : Ending) → HoldsAll means (means.device board).blocks table board
      → EndsHolding means (means.device board).blocks table [] others board ending
      → (SendsAll means board board [] → EndsSending means (means.device board).blocks table [] others board board ending)
      → RetrievesInOrder (means.device board).blocks table others → EndsOnTable means board board table [] others ending
  ends_here board table others ending holds holding sending retrieval = record {
    moments = λ link. runs.started means board _ (gains_none (means.sent board (means.moment board)) (lines_of (outputs_of (means.device board).blocks table others)));
    in_turn = λ link. shows_first means board _
        (λ image left. turn_between (means.device board).blocks table [] others (means.sent board (means.moment board)) (means.sent board (means.moment board)) image
        (sym (append-nil (means.sent board (means.moment board)))) (holds.leaves image left));
    prefix = started means board _ (λ image left. prefix_done (means.device board).blocks table [] others image (holds.leaves image left));
    holding = holding;
    sending = sending (record {
      octets = λ link. sym (append-nil (means.sent board (means.moment board)));
      least = rose_by_none (means.counts board).sends (means.counts board).sends (omega arith);
      most = omega arith;
    });
    retrieval = retrieval;
  }

  module _ (old mid new : B) (same : means.device mid ≡ means.device old) (quiet : TellsLink means old → SendsNothing means old mid)
      (uncalled : (means.counts mid).sends ≡ (means.counts old).sends) where
    blocks_same : (means.device mid).blocks ≡ (means.device old).blocks
    blocks_same = ap (λ (device : Device). device.blocks) same

    -- what had been sent then is what had been sent before
    still : TellsLink means old → means.sent mid (means.moment mid) ≡ means.sent old (means.moment old)
    still link =
        let none = quiet link in
        none.each (means.moment mid) none.later (omega arith)

    sends_since : (outputs : List Output) → SendsAll means mid new outputs → SendsAll means old new outputs
    sends_since outputs sends = record {
      octets = λ link. sends.octets (links_too same link) ∙ ap (λ (octets : List ℕ). octets ++ lines_of outputs) (still link);
      least = subst (λ (n : ℕ). RoseBy (length outputs) n (means.counts new).sends) uncalled sends.least;
      most = omega (arith, sends.most, uncalled);
    }

    breaks_since : (first next : List Output) → BreaksWithin means mid new first next → BreaksWithin means old new first next
    breaks_since first next breaks = record {
      octets = λ link. subst (λ (before : List ℕ). GainsFront (before ++ lines_of first) (lines_of next) (means.sent new (means.moment new))) (still link)
          (breaks.octets (links_too same link));
      most = omega (arith, breaks.most, uncalled);
    }

    sending_since : (blocks : ℕ) (table : Table) (done others : List Command) (ending : Ending) → EndsSending means blocks table done others mid new ending
        → EndsSending means blocks table done others old new ending
    sending_since blocks table done others Done sends = sends_since _ sends
    sending_since blocks table done others (BadLine line why) sends = sends_since _ sends
    sending_since blocks table done others SourceFault sends = sends_since _ sends
    sending_since blocks table done others NoMemory sends = sends_since _ sends
    sending_since blocks table done others LinkFault breaks = breaks_since _ _ breaks
    sending_since blocks table done others FlashFault sends = sends_since _ sends
    sending_since blocks table done others (Mismatch block page kept found) sends = sends_since _ sends
    sending_since blocks table done others NotHeld sends = sends_since _ sends
    sending_since blocks table done others BadWords sends = sends_since _ sends

    module _ (table : Table) (done others : List Command) (ending : Ending) (ends : EndsOnTable means mid new table done others ending) where
      abbrev blocks : ℕ
      blocks = (means.device old).blocks

      abbrev before : List ℕ
      before = means.sent old (means.moment old)

      turn_since : TellsLink means old → (octets : List ℕ) (image : ℕ → List ℕ)
          → InTurn (means.device mid).blocks table (done ++ others) (means.sent mid (means.moment mid)) octets image → InTurn blocks table (done ++ others) before octets image
      turn_since link octets image turn =
          subst (λ (n : ℕ). InTurn n table (done ++ others) before octets image) blocks_same
          (subst (λ (sent : List ℕ). InTurn (means.device mid).blocks table (done ++ others) sent octets image) (still link) turn)

      -- a prefix of the lines for the commands
      abbrev Gains : List ℕ → Type 0
      Gains octets = GainsFront before (lines_of (outputs_of blocks table (done ++ others))) octets

      gains_since : TellsLink means old → (octets : List ℕ)
          → GainsFront (means.sent mid (means.moment mid)) (lines_of (outputs_of (means.device mid).blocks table (done ++ others))) octets → Gains octets
      gains_since link octets gains =
          subst (λ (n : ℕ). GainsFront before (lines_of (outputs_of n table (done ++ others))) octets) blocks_same
          (subst (λ (sent : List ℕ). GainsFront sent (lines_of (outputs_of (means.device mid).blocks table (done ++ others))) octets) (still link) gains)

      moments_since : TellsLink means old → SendsOnly means old new Gains
      moments_since link =
          runs.goes_on means old mid new Gains _
          (runs.weaker means old mid Gains _ (quiet link)
          (λ octets is. subst Gains (sym is) (gains_none before (lines_of (outputs_of blocks table (done ++ others))))))
          (ends.moments (links_too same link))
          (λ octets gains. gains_since link octets gains)

      prefix_since : (image : ℕ → List ℕ) → HoldsPrefix (means.device mid).blocks table (done ++ others) image → HoldsPrefix blocks table (done ++ others) image
      prefix_since image prefix = subst (λ (n : ℕ). HoldsPrefix n table (done ++ others) image) blocks_same prefix

      holding_since : EndsHolding means blocks table done others new ending
      holding_since = subst (λ (n : ℕ). EndsHolding means n table done others new ending) blocks_same ends.holding

      sending_on : EndsSending means blocks table done others old new ending
      sending_on = subst (λ (n : ℕ). EndsSending means n table done others old new ending) blocks_same
          (sending_since (means.device mid).blocks table done others ending ends.sending)

      retrieval_since : RetrievesInOrder blocks table (done ++ others)
      retrieval_since = subst (λ (n : ℕ). RetrievesInOrder n table (done ++ others)) blocks_same ends.retrieval

      -- each image held the table until then
      pub ends_since : LeavesOnly means old mid (HoldsTable blocks table) → EndsOnTable means old new table done others ending
      ends_since leaves = record {
        moments = moments_since;
        in_turn = λ link. shows_on means old mid new (InTurn blocks table (done ++ others) before)
            (InTurn (means.device mid).blocks table (done ++ others) (means.sent mid (means.moment mid)))
            (shows_both means old mid (HoldsTable blocks table) (λ (octets : List ℕ). octets ≡ before) (InTurn blocks table (done ++ others) before) leaves (quiet link)
            (λ octets image is held. turn_between blocks table [] (done ++ others) before octets image (is ∙ sym (append-nil before)) held))
            (ends.in_turn (links_too same link))
            (λ octets image turn. turn_since link octets image turn);
        prefix = goes_on means old mid new (HoldsPrefix blocks table (done ++ others)) (HoldsPrefix (means.device mid).blocks table (done ++ others))
            (weaker means old mid (HoldsPrefix blocks table (done ++ others)) (HoldsTable blocks table) leaves (λ image held. prefix_done blocks table [] (done ++ others) image held))
            ends.prefix
            (λ image prefix. prefix_since image prefix);
        holding = holding_since;
        sending = sending_on;
        retrieval = retrieval_since;
      }

      module _ {S : Type 0} (input : SourceMeaning S) (origin source : S)
          (read : IsTrue (input.tells origin) → done ++ others ≡ read_of (input.left origin) (input.left source))
          (reading : IsTrue (input.tells origin) → EndsReading (input.left origin) (input.left source) done ending) (broken : ending ≡ LinkFault → HasNext others) where
        -- whatever the images held until then
        pub carries_from : means.moment old ≤ means.moment mid → Carries means input (means.moment mid) table old new origin source ending
        carries_from le = record {
          done = done;
          others = others;
          read = read;
          reading = reading;
          broken = broken;
          moments = moments_since;
          begun = le;
          reached = ends.prefix.later;
          unsent = λ link t from to.
              let none = quiet link in
              (ends.in_turn (links_too same link)).past_sent t to ∙ none.each t from to;
          in_turn = λ link t image from to left. turn_since link (means.sent new t) image ((ends.in_turn (links_too same link)).each t image from to left);
          prefix = λ t image from to left. prefix_since image (ends.prefix.each t image from to left);
          holding = holding_since;
          sending = sending_on;
          retrieval = retrieval_since;
        }

  -- from the first moment on
  pub carries_now : {S : Type 0} (input : SourceMeaning S) (old new : B) (origin source : S) (table : Table) (done others : List Command) (ending : Ending)
      → (IsTrue (input.tells origin) → done ++ others ≡ read_of (input.left origin) (input.left source))
      → (IsTrue (input.tells origin) → EndsReading (input.left origin) (input.left source) done ending)
      → (ending ≡ LinkFault → HasNext others) → EndsOnTable means old new table done others ending → Carries means input (means.moment old) table old new origin source ending
  carries_now input old new origin source table done others ending read reading broken ends = record {
    done = done;
    others = others;
    read = read;
    reading = reading;
    broken = broken;
    moments = ends.moments;
    begun = omega arith;
    reached = ends.prefix.later;
    unsent = λ link t from to.
        let first : t ≡ means.moment old = omega arith in
        ap (means.sent new) first ∙ (ends.in_turn link).past_sent (means.moment old) (omega arith);
    in_turn = λ link t image from to left. (ends.in_turn link).each t image from to left;
    prefix = λ t image from to left. ends.prefix.each t image from to left;
    holding = ends.holding;
    sending = ends.sending;
    retrieval = ends.retrieval;
  }

  -- no call failed until then
  pub caused_since : (old mid new : B) (ending : Ending) → (means.counts mid).flash_faults ≡ (means.counts old).flash_faults → (means.counts mid).link_faults ≡ (means.counts old).link_faults
      → means.device mid ≡ means.device old → IsCaused means mid new ending → IsCaused means old new ending
  caused_since old mid new ending flash link same caused = record {
    flash = λ is. rose_since (means.counts old).flash_faults (means.counts mid).flash_faults (means.counts new).flash_faults (omega (arith, flash)) (caused.flash is);
    link = λ is. rose_since (means.counts old).link_faults (means.counts mid).link_faults (means.counts new).link_faults (omega (arith, link)) (caused.link is);
    mismatch = λ block page kept found is.
        let why = caused.mismatch block page kept found is in
        (why.0, λ told. why.1 (tells_too same told));
    flash_kept = λ other. caused.flash_kept other ∙ flash;
    link_kept = λ other. caused.link_kept other ∙ link;
  }

  module _ {S : Type 0} (input : SourceMeaning S) (old mid new : B) (origin source : S) (ending : Ending) where
    pub causes_since : (means.counts mid).flash_faults ≡ (means.counts old).flash_faults → (means.counts mid).link_faults ≡ (means.counts old).link_faults
        → means.device mid ≡ means.device old → HasCauses means input mid new origin source ending → HasCauses means input old new origin source ending
    causes_since flash link same causes = record {
      board = caused_since old mid new ending flash link same causes.board;
      source_cause = causes.source_cause;
      source_kept = causes.source_kept;
    }

    pub keeps_since : means.device mid ≡ means.device old → Keeps means input mid new origin source → Keeps means input old new origin source
    keeps_since same keeps = record {
      device = keeps.device ∙ same;
      tells = keeps.tells;
      takes_from = keeps.takes_from;
      takes_to = keeps.takes_to;
    }
