-- A command that is made durable quietly, and then sends its lines.
use Rattle.std.proofs.Common.{◌≡◌, ◌≢◌, ◌≤◌, inl, inr, ℕ, ◌+◌, true, false, List, ◌++◌, length, Ok, Err, refl, sym, ◌∙◌, ap, subst, arith}
use Rattle.std.specs.Prelude.{Result}
use Rattle.board.specs.Counts.{Counts, Rose, RoseBy, Sends, Works}
use Rattle.board.specs.Device.{Device}
use Rattle.board.specs.Flash.{Flash, IsImage}
use Rattle.board.specs.Meaning.{BoardMeaning, TellsFlash, TellsLink}
use Rattle.board.specs.Moments.{GainsFront, LeavesOnly, SendsNothing, SendsOnly}
use Rattle.board.specs.Reads.{FlashStays}
use Rattle.board.proofs.Runs as sendings
use Rattle.board.proofs.Shown.{shows_both, shows_on}
use Rattle.board.proofs.Stops as stops
use Rattle.board.proofs.Works.{tells_too}
use Rattle.image_table.specs.Standing.{HoldsEitherTable, HoldsTable}
use Rattle.pst_model.specs.Rules.{Output, Step}
use Rattle.pst_model.specs.Run.{lines_of}
use Rattle.pst_model.specs.Table.{Table}
use Rattle.report_lines.specs.Counting.{IsCountOf}
use Rattle.report_lines.specs.Sending.{BreaksIn, SendsLines}
use Rattle.report_lines.specs.declared.sent.Sent.{Sent}
use Rattle.vault.proofs.Stopped.{image_holds}
use Rattle.vault.specs.Memory.{InMemory, IsSound}
use Rattle.vault.specs.Standing.{StandsFor}
use Rattle.handler.specs.Carrying.{Answers, CarriesOut, GoesInStep, HasSent, IsBoardOf, IsInStep, LeavesEither, SendsFront, handler_of}
use Rattle.handler.specs.declared.fault.HandlerFault.{HandlerFault}
use Rattle.handler.specs.declared.fault.HandlerFault.TheVariants as faults
use Rattle.handler.specs.Working.{WorksWithin}

-- What holds of the durable part of a command, also if a call of it failed.
pub record IsQuiet {B : Type 0} (means : BoardMeaning B) (old new : B) (before : InMemory)
    (steps : (number : ℕ) → Table → Step) : Type 0 where
  pub either : LeavesEither means old new before steps
  pub unsent : TellsLink means old → SendsNothing means old new
  pub same : means.device new ≡ means.device old
  pub link : (means.counts new).link_faults ≡ (means.counts old).link_faults
  pub sends : (means.counts new).sends ≡ (means.counts old).sends

-- The durable part was done: the vault stands for the table behind the command.
pub record IsMade {B : Type 0} (means : BoardMeaning B) (old new : B) (before after : InMemory)
    (steps : (number : ℕ) → Table → Step) : Type 0 where
  pub quiet : IsQuiet means old new before steps
  pub stands : TellsFlash means old → (table : Table) (number : ℕ)
      → StandsFor before (means.flash old) table
      → StandsFor after (means.flash new) (steps number table).table
  pub sound : IsSound after
  pub blocks : after.blocks ≡ before.blocks
  pub flash : (means.counts new).flash_faults ≡ (means.counts old).flash_faults

-- the work of a durable part, and of lines that were sent behind it

pub works_within : {reads programs erases barriers sends : ℕ} {old mid new : Counts} → Works reads programs erases barriers old mid
    → Sends sends mid new → WorksWithin reads programs erases barriers old new
works_within work sends = record {
  reads_to = omega (arith, sends.reads, work.reads_to);
  programs_to = omega (arith, sends.programs, work.programs_to);
  erases_to = omega (arith, sends.erases, work.erases_to);
  barriers_to = omega (arith, sends.barriers, work.barriers_to);
}

pub works_alone : {reads programs erases barriers : ℕ} {old new : Counts} → Works reads programs erases barriers old new
    → WorksWithin reads programs erases barriers old new
works_alone work = record {
  reads_to = work.reads_to;
  programs_to = work.programs_to;
  erases_to = work.erases_to;
  barriers_to = work.barriers_to;
}

module _ {B : Type 0} (means : BoardMeaning B) (old mid : B) (before after : InMemory) (steps : (number : ℕ) → Table → Step) where
  pub quiet_of : {reads programs erases barriers : ℕ} → LeavesEither means old mid before steps → (TellsLink means old → SendsNothing means old mid)
      → means.device mid ≡ means.device old → Works reads programs erases barriers (means.counts old) (means.counts mid)
      → IsQuiet means old mid before steps
  quiet_of either unsent same work = record {
    either = either;
    unsent = unsent;
    same = same;
    link = work.link_faults;
    sends = work.sends;
  }

  -- what was made durable is the table behind the command
  module _ (next : Table → Table) (is : (number : ℕ) (table : Table) → next table ≡ (steps number table).table) where
    pub either_as : (TellsFlash means old → (table : Table) → StandsFor before (means.flash old) table
        → LeavesOnly means old mid (HoldsEitherTable before.blocks table (next table))) → LeavesEither means old mid before steps
    either_as leaves told table number stands =
        subst (λ (t : Table). LeavesOnly means old mid (HoldsEitherTable before.blocks table t)) (is number table) (leaves told table stands)

    pub stands_as : (TellsFlash means old → (table : Table) → StandsFor before (means.flash old) table → StandsFor after (means.flash mid) (next table))
        → TellsFlash means old → (table : Table) (number : ℕ) → StandsFor before (means.flash old) table
        → StandsFor after (means.flash mid) (steps number table).table
    stands_as behind told table number stands =
        subst (λ (t : Table). StandsFor after (means.flash mid) t) (is number table) (behind told table stands)

-- before anything was sent
unsent_step : (blocks : ℕ) (table : Table) (step : Step) (before octets : List ℕ) (image : ℕ → List ℕ) → octets ≡ before
    → HoldsEitherTable blocks table step.table image → IsInStep blocks table step before octets image
unsent_step blocks table step before octets image same (inl held) = inl (same, held)
unsent_step blocks table step before octets image same (inr held) =
    inr (subst (GainsFront before (lines_of step.outputs)) (sym same) (sendings.gains_none before (lines_of step.outputs)), held)

err_ok : (fault : HandlerFault) (sent : Sent) → ◌≡◌ {A = Result Sent HandlerFault} (Err fault) (Ok sent) → ⊥
err_ok fault sent is = cc

ok_memory : (sent : Sent) → ◌≡◌ {A = Result Sent HandlerFault} (Ok sent) (Err faults.NoMemory) → ⊥
ok_memory sent is = cc

ok_ok : (one other : Sent) → ◌≡◌ {A = Result Sent HandlerFault} (Ok one) (Ok other) → one ≡ other
ok_ok one other is = cc

module _ {B : Type 0} (means : BoardMeaning B) (old mid : B) (before : InMemory) (steps : (number : ℕ) → Table → Step)
    (quiet : IsQuiet means old mid before steps) where
  -- what had been sent by each moment of the durable part, and the images
  quiet_shows : GoesInStep means old mid before steps
  quiet_shows told link table number stands =
      shows_both means old mid (HoldsEitherTable before.blocks table (steps number table).table) (λ (octets : List ℕ). octets ≡ means.sent old (means.moment old))
      (IsInStep before.blocks table (steps number table) (means.sent old (means.moment old)))
      (quiet.either told table number stands) (quiet.unsent link)
      (λ octets image same either. unsent_step before.blocks table (steps number table) (means.sent old (means.moment old)) octets image same either)

  quiet_front : SendsFront means old mid before steps
  quiet_front told link table number stands =
      let start = means.sent old (means.moment old) in
      let lines = lines_of (steps number table).outputs in
      sendings.weaker means old mid (GainsFront start lines) (λ (octets : List ℕ). octets ≡ start) (quiet.unsent link)
      (λ octets same. subst (GainsFront start lines) (sym same) (sendings.gains_none start lines))

  -- the flash failed
  pub answers_flash : (after : InMemory) → Rose (means.counts old).flash_faults (means.counts mid).flash_faults
      → Answers means old mid (handler_of before true) (handler_of after false) steps (Err faults.Flash)
  answers_flash after rose = record {
    in_step = quiet_shows;
    moments = quiet_front;
    either = quiet.either;
    done = λ sent is told. absurd (err_ok faults.Flash sent is);
    breaks = tt;
    unsent = (quiet.unsent, quiet.sends);
    cause = (rose, quiet.link);
    memory = λ is. cc;
    device = quiet.same;
    is_open = refl;
    board = λ sent is. absurd (err_ok faults.Flash sent is);
  }

  -- what was found of a record is not what was kept
  pub answers_mismatch : (after : InMemory) (block page kept found : ℕ) → kept ≢ found → (TellsFlash means old → ⊥)
      → (means.counts mid).flash_faults ≡ (means.counts old).flash_faults
      → Answers means old mid (handler_of before true) (handler_of after false) steps (Err (faults.Mismatch block page kept found))
  answers_mismatch after block page kept found differ untold same = record {
    in_step = quiet_shows;
    moments = quiet_front;
    either = quiet.either;
    done = λ sent is told. absurd (err_ok (faults.Mismatch block page kept found) sent is);
    breaks = tt;
    unsent = (quiet.unsent, quiet.sends);
    cause = (differ, untold, same, quiet.link);
    memory = λ is. cc;
    device = quiet.same;
    is_open = refl;
    board = λ sent is. absurd (err_ok (faults.Mismatch block page kept found) sent is);
  }

module _ {B : Type 0} (means : BoardMeaning B) (old mid new : B) (before after : InMemory) (steps : (number : ℕ) → Table → Step)
    (board : IsBoardOf means before old) (made : IsMade means old mid before after steps) where
  -- nothing was sent by the end of the durable part
  sent_mid : TellsLink means old → means.sent mid (means.moment mid) ≡ means.sent old (means.moment old)
  sent_mid link = let run = made.quiet.unsent link in run.each (means.moment mid) run.later (omega arith)

  gains_mid : TellsLink means old → (whole octets : List ℕ) → GainsFront (means.sent mid (means.moment mid)) whole octets
      → GainsFront (means.sent old (means.moment old)) whole octets
  gains_mid link whole octets gains = subst (λ (sent : List ℕ). GainsFront sent whole octets) (sent_mid link) gains

  -- each image by the flash then holds the table behind the command
  still_holds : TellsFlash means old → (table : Table) (number : ℕ) → StandsFor before (means.flash old) table
      → (image : ℕ → List ℕ) → IsImage (means.device mid).blocks (means.flash mid) image
      → HoldsTable before.blocks (steps number table).table image
  still_holds told table number stands image is =
      let here : (means.device mid).blocks ≡ after.blocks =
      ap (λ (d : Device). d.blocks) made.quiet.same ∙ sym board.blocks ∙ sym made.blocks in
      subst (λ (n : ℕ). HoldsTable n (steps number table).table image) made.blocks
      (image_holds after (means.flash mid) (steps number table).table image made.sound (made.stands told table number stands)
      (subst (λ (n : ℕ). IsImage n (means.flash mid) image) here is))

  module _ (stays : TellsFlash means mid → FlashStays means mid new) where
    stays_old : TellsFlash means old → FlashStays means mid new
    stays_old told = stays (tells_too made.quiet.same told)

    -- and so it does while lines are sent
    leaves_behind : TellsFlash means old → (table : Table) (number : ℕ) → StandsFor before (means.flash old) table
        → LeavesOnly means mid new (HoldsTable before.blocks (steps number table).table)
    leaves_behind told table number stands =
        stops.weaker means mid new (HoldsTable before.blocks (steps number table).table) (IsImage (means.device mid).blocks (means.flash mid))
        (stays_old told).leaves (still_holds told table number stands)

    holds_behind : TellsFlash means old → (table : Table) (number : ℕ) → StandsFor before (means.flash old) table
        → (image : ℕ → List ℕ) → means.images new (means.moment new) image → HoldsTable before.blocks (steps number table).table image
    holds_behind told table number stands image left =
        let run = leaves_behind told table number stands in run.each (means.moment new) image run.later (omega arith) left

    leaves_either : LeavesEither means old new before steps
    leaves_either told table number stands =
        stops.goes_on means old mid new (HoldsEitherTable before.blocks table (steps number table).table)
        (HoldsTable before.blocks (steps number table).table)
        (made.quiet.either told table number stands) (leaves_behind told table number stands) (λ image held. inr held)

    goes_in_step : (TellsFlash means old → (table : Table) (number : ℕ) → StandsFor before (means.flash old) table → TellsLink means mid
        → SendsOnly means mid new (GainsFront (means.sent mid (means.moment mid)) (lines_of (steps number table).outputs)))
        → GoesInStep means old new before steps
    goes_in_step sends told link table number stands =
        let P : List ℕ → (ℕ → List ℕ) → Type 0 = IsInStep before.blocks table (steps number table) (means.sent old (means.moment old)) in
        shows_on means old mid new P P (quiet_shows means old mid before steps made.quiet told link table number stands)
        (shows_both means mid new (HoldsTable before.blocks (steps number table).table)
        (GainsFront (means.sent mid (means.moment mid)) (lines_of (steps number table).outputs)) P
        (leaves_behind told table number stands) (sends told table number stands (sendings.links_too made.quiet.same link))
        (λ octets image gains held. inr (gains_mid link (lines_of (steps number table).outputs) octets gains, held)))
        (λ octets image is. is)

    sends_front : (TellsFlash means old → (table : Table) (number : ℕ) → StandsFor before (means.flash old) table → TellsLink means mid
        → SendsOnly means mid new (GainsFront (means.sent mid (means.moment mid)) (lines_of (steps number table).outputs)))
        → SendsFront means old new before steps
    sends_front sends told link table number stands =
        let lines = lines_of (steps number table).outputs in
        sendings.goes_on means old mid new (GainsFront (means.sent old (means.moment old)) lines) (GainsFront (means.sent mid (means.moment mid)) lines)
        (quiet_front means old mid before steps made.quiet told link table number stands)
        (sends told table number stands (sendings.links_too made.quiet.same link)) (gains_mid link lines)

    -- the vault stands for the table behind the command in the end
    stands_behind : TellsFlash means old → (table : Table) (number : ℕ) → StandsFor before (means.flash old) table
        → StandsFor after (means.flash new) (steps number table).table
    stands_behind told table number stands =
        subst (λ (flash : Flash). StandsFor after flash (steps number table).table) (sym (stays_old told).flash)
        (made.stands told table number stands)

    board_behind : means.device new ≡ means.device mid → IsBoardOf means after new
    board_behind same = record {
      blocks = made.blocks ∙ board.blocks ∙ sym (ap (λ (d : Device). d.blocks) (same ∙ made.quiet.same));
      flash = λ told_new.
          let told = tells_too (sym (same ∙ made.quiet.same)) told_new in
          let (table, stands) = board.flash told in
          ((steps 0 table).table, stands_behind told table 0 stands);
    }

  -- the lines of a command were sent
  has_sent : (step : Step) (sent : Sent) → SendsLines means mid new step.outputs → IsCountOf step.outputs sent
      → HasSent means old new step sent
  has_sent step sent sends counted = record {
    counted = counted;
    octets = λ link.
        sends.gained (sendings.links_too made.quiet.same link)
        ∙ ap (λ (octets : List ℕ). octets ++ lines_of step.outputs) (sent_mid link);
    least = subst (λ (n : ℕ). RoseBy (length step.outputs) n (means.counts new).sends) made.quiet.sends sends.calls;
    most = subst (λ (n : ℕ). (means.counts new).sends ≤ n + length step.outputs) made.quiet.sends sends.work.sends_to;
  }

  -- all lines were sent
  pub answers_done : (sent : Sent) (outputs : List Output) → SendsLines means mid new outputs
      → (TellsFlash means old → (table : Table) (number : ℕ) → StandsFor before (means.flash old) table
      → SendsLines means mid new (steps number table).outputs)
      → (TellsFlash means old → (table : Table) (number : ℕ) → StandsFor before (means.flash old) table
      → IsCountOf (steps number table).outputs sent)
      → Answers means old new (handler_of before true) (handler_of after true) steps (Ok sent)
  answers_done sent outputs some sends counted =
      let carried : TellsFlash means old → CarriesOut means old new before after steps sent = λ told. record {
        stands = stands_behind some.stays told;
        holds = holds_behind some.stays told;
        sends = λ table number stands. has_sent (steps number table) sent (sends told table number stands) (counted told table number stands);
      } in record {
        in_step = goes_in_step some.stays (λ told table number stands. (sends told table number stands).moments);
        moments = sends_front some.stays (λ told table number stands. (sends told table number stands).moments);
        either = leaves_either some.stays;
        done = λ other is told. subst (CarriesOut means old new before after steps) (ok_ok sent other is) (carried told);
        breaks = tt;
        unsent = tt;
        cause = (some.work.flash_faults ∙ made.flash, some.no_fault ∙ made.quiet.link);
        memory = ok_memory sent;
        device = some.same ∙ made.quiet.same;
        is_open = refl;
        board = λ other is. board_behind some.stays some.same;
      }

  -- the link failed within the lines
  pub answers_link : (outputs : List Output) → BreaksIn means mid new outputs
      → (TellsFlash means old → (table : Table) (number : ℕ) → StandsFor before (means.flash old) table
      → BreaksIn means mid new (steps number table).outputs)
      → Answers means old new (handler_of before true) (handler_of after false) steps (Err faults.Link)
  answers_link outputs some breaks = record {
    in_step = goes_in_step some.stays (λ told table number stands. (breaks told table number stands).moments);
    moments = sends_front some.stays (λ told table number stands. (breaks told table number stands).moments);
    either = leaves_either some.stays;
    done = λ sent is told. absurd (err_ok faults.Link sent is);
    breaks = λ told. record {
      holds = holds_behind some.stays told;
      most = λ table number stands.
          subst (λ (n : ℕ). (means.counts new).sends ≤ n + length (steps number table).outputs) made.quiet.sends
          (breaks told table number stands).work.sends_to;
    };
    unsent = tt;
    cause = (some.work.flash_faults ∙ made.flash, subst (λ (n : ℕ). Rose n (means.counts new).link_faults) made.quiet.link some.cause);
    memory = λ is. cc;
    device = some.same ∙ made.quiet.same;
    is_open = refl;
    board = λ sent is. absurd (err_ok faults.Link sent is);
  }
