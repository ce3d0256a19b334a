-- A session, one turn further, and what each of its endings says.
use Rattle.std.proofs.Common.{◌≡◌, ◌≢◌, ℕ, false, ◌+◌, ◌≤◌, List, [], ◌∷◌, ◌++◌, length, Some, None, Ok, Err, refl, sym, ◌∙◌, ap, subst, arith, append_assoc}
use Rattle.std.specs.Prelude.{Contains, IsTrue}
use Rattle.board.specs.Counts.{Rose}
use Rattle.board.specs.Device.{Device}
use Rattle.board.specs.Flash.{IsImage}
use Rattle.board.specs.Meaning.{BoardMeaning, SourceMeaning, TellsFlash}
use Rattle.board.proofs.Runs.{rose_since}
use Rattle.board.proofs.Works.{tells_too}
use Rattle.handler.specs.Carrying.{Answers, Held}
use Rattle.handler.specs.declared.fault.HandlerFault.TheVariants as faults
use Rattle.station.specs.declared.ending.Ending.{Ending}
use Rattle.station.specs.declared.ending.Ending.TheVariants.{BadLine, BadWords, Done, FlashFault, LinkFault, Mismatch, NoMemory, NotHeld, SourceFault}
use Rattle.station.specs.Carrying.{Carried, Ended, EndsOnTable, OnTable}
use Rattle.station.specs.Reading.{EndsReading, IsStart, read_of, taken_of, text_limit}
use Rattle.station.specs.Retrieving.{RetrievesInOrder}
use Rattle.station.specs.Session.{EndsHolding, EndsSending, HoldsAll, SendsAll}
use Rattle.station.specs.Station.{HasCauses, Keeps}
use Rattle.station.specs.Tallies.{and_sent, no_tally}
use Rattle.station.specs.declared.tally.Tally.{Tally}
use Rattle.station.specs.Working.{CommandWorks, TurnWorks}
use Rattle.station.proofs.Commands.{ends_broken, ends_failed, ends_still, on_table_first, on_table_more, steps_of}
use Rattle.station.proofs.Tallying.{tally_more, tally_none}
use Rattle.station.proofs.Retrieving.{retrieves, retrieves_none}
use Rattle.station.proofs.Taken.{IfTold, Taken, if_told, none_read, taken, taken_none}
use Rattle.station.proofs.Workings.{plain_split, worked_more, worked_none, works_for}
use Rattle.pst_model.specs.declared.faults.LineFault.{LineFault}
use Rattle.pst_model.specs.Command.{Command}
use Rattle.pst_model.specs.Run.{run, step}
use Rattle.report_lines.specs.Counting.{IsCountOf}
use Rattle.pst_model.specs.Table.{Table}
use Rattle.pst_model.specs.Text.{bad_read, commands_of, commands_read, first_bad}
use Rattle.report_lines.specs.declared.sent.Sent.{Sent}
use Rattle.session_text.specs.Progress.{HasRead}
use Rattle.session_text.specs.Reader.{Reader, spare}
use Rattle.session_text.specs.Turns.{Asks, MovesOn, Reads, Turn, Said, Ended as AtEnd, Wrong, Failed}
use Rattle.session_text.proofs.Progressing.{has_read_end, has_read_none, has_read_taken, has_read_unended, taken_is}
use Rattle.turn_laws.specs.Turns.{outputs_of}
use Rattle.vault.specs.Memory.{InMemory, IsSound}

-- A step of a reader, and what it asked of the source.
pub record Steps {S : Type 0} (input : SourceMeaning S) (reader reader' : Reader) (source source' : S) (turn : Turn) : Type 0 where
  pub moves : MovesOn reader reader' (input.tells source) (input.left source) (input.left source') turn
  pub asks : Asks reader reader' (input.tells source) (input.left source) (input.left source') (input.takes source) (input.takes source')
  pub tells : input.tells source' ≡ input.tells source
  pub faults : input.faults source ≤ input.faults source'

-- before the first command
pub carried_none : {B S : Type 0} (means : BoardMeaning B) (input : SourceMeaning S) (board : B) (source : S) (reader : Reader) (vault : InMemory) (tally : Tally)
    → tally ≡ no_tally → IsStart reader → vault.blocks ≡ (means.device board).blocks → IsSound vault
    → ((image : ℕ → List ℕ) → TellsFlash means board → means.images board (means.moment board) image → IsImage (means.device board).blocks (means.flash board) image)
    → Carried means input board board source source vault reader vault tally
carried_none means input board source reader vault tally empty start same sound now = record {
  done = [];
  sound = sound;
  live = ap (λ (r : Reader). r.live) start;
  limit = ap (λ (r : Reader). r.limit) start;
  read = λ told. subst (λ (r : Reader). HasRead (input.left source) [] r (input.left source)) (sym start) (has_read_none text_limit (input.left source));
  tells = refl;
  source_faults = refl;
  takes_from = omega arith;
  takes_to = λ told. once (spare reader) (ap spare start);
  device = refl;
  flash_faults = refl;
  link_faults = refl;
  on_table = λ flash table stands. on_table_first means board table vault same sound stands (λ image left. now image flash left);
  counted = λ flash table stands. tally_none tally empty;
  work = λ flash table stands fresh plain. worked_none (means.device board).blocks table vault (means.counts board) fresh;
}
  where
    once : (more : ℕ) → more ≡ 1 → input.takes source + length (input.left source) + more ≤ input.takes source + length (input.left source) + 1
    once more is = omega arith

-- no failure of a session that ends so
module _ {B S : Type 0} (means : BoardMeaning B) (input : SourceMeaning S) (first board : B) (origin source : S)
    (flash_faults : (means.counts board).flash_faults ≡ (means.counts first).flash_faults) (link_faults : (means.counts board).link_faults ≡ (means.counts first).link_faults) where
  pub causes_none : (ending : Ending) → ending ≢ FlashFault → ending ≢ LinkFault
      → (ending ≡ SourceFault → Rose (input.faults origin) (input.faults source)) → ((block page kept found : ℕ) → ending ≢ Mismatch block page kept found)
      → (ending ≢ SourceFault → input.faults source ≡ input.faults origin) → HasCauses means input first board origin source ending
  causes_none ending flash link cause mismatch kept = record {
    board = record {
      flash = λ is. absurd (flash is);
      link = λ is. absurd (link is);
      mismatch = λ block page kept found is. absurd (mismatch block page kept found is);
      flash_kept = λ other. flash_faults;
      link_kept = λ other. link_faults;
    };
    source_cause = cause;
    source_kept = kept;
  }

-- there was no memory for the session
pub ended_unbegun : {B S : Type 0} (means : BoardMeaning B) (input : SourceMeaning S) (board : B) (source : S) (vault : InMemory) (tally : Tally) → tally ≡ no_tally
    → vault.blocks ≡ (means.device board).blocks → IsSound vault
    → ((image : ℕ → List ℕ) → TellsFlash means board → means.images board (means.moment board) image → IsImage (means.device board).blocks (means.flash board) image)
    → Ended means input board board source source vault NoMemory tally
ended_unbegun means input board source vault tally empty same sound now =
    record {
      known = λ is. cc;
      held = λ is. cc;
      done = [];
      others = [];
      read = λ told. sym (none_read (input.left source));
      reading = λ told. (refl, refl);
      broken = λ is. absurd cc;
      taken = λ told. (taken_none (input.left source)).split;
      causes = causes_none means input board board source source refl refl NoMemory (λ is. cc) (λ is. cc) (λ is. absurd cc) (λ block page kept found is. cc) (λ other. refl);
      keeps = record { device = refl; tells = refl; takes_from = omega arith; takes_to = λ told. omega arith };
      on_table = λ flash table stands. ends_still means board table board vault [] same
          (on_table_first means board table vault same sound stands (λ image left. now image flash left)) sound [] NoMemory (λ held. held) (λ sent. sent) (retrieves_none (means.device board).blocks table);
      counted = λ flash table stands. tally_none tally empty;
      work = λ is. absurd cc;
    }

module _ {B S : Type 0} (means : BoardMeaning B) (input : SourceMeaning S)
    (first board : B) (origin source : S) (begun : InMemory) (opened : Held) (reader : Reader) (tally : Tally)
    (carried : Carried means input first board origin source begun reader opened.vault tally)
    (of_board : opened.vault.blocks ≡ (means.device board).blocks) where
  -- the blocks of the device
  abbrev blocks : ℕ
  blocks = (means.device first).blocks

  same : opened.vault.blocks ≡ blocks
  same = of_board ∙ ap (λ (device : Device). device.blocks) carried.device

  module _ (source' : S) (reader' : Reader) (turn : Turn) (steps : Steps input reader reader' source source' turn) where
    -- what was read of the text
    reads : IsTrue (input.tells origin) → Reads (input.left origin) carried.done reader' (input.left source') turn
    reads told = steps.moves.reads (carried.tells ∙ told) (input.left origin) carried.done (carried.read told)

    limit_on : reader'.limit ≡ text_limit
    limit_on = steps.moves.limit ∙ carried.limit

    keeps_on : (board' : B) → means.device board' ≡ means.device first → Keeps means input first board' origin source'
    keeps_on board' device = record {
      device = device;
      tells = steps.tells ∙ carried.tells;
      takes_from = omega (arith, carried.takes_from, steps.asks.rises);
      takes_to = λ told. omega (arith, carried.takes_to told, steps.asks.most (carried.tells ∙ told));
    }

    -- an ending before which nothing more was done
    ended_quietly : IsSound opened.vault → (ending : Ending) → ending ≢ BadWords → ending ≢ NotHeld → ending ≢ LinkFault → (IsTrue (input.tells origin) → HasRead (input.left origin) carried.done reader' (input.left source'))
        → (IsTrue (input.tells origin) → EndsReading (input.left origin) (input.left source') carried.done ending)
        → ((table : Table) (others : List Command) → HoldsAll means blocks (run blocks table carried.done).table board → EndsHolding means blocks table carried.done others board ending)
        → ((table : Table) (others : List Command) → SendsAll means first board (outputs_of blocks table carried.done) → EndsSending means blocks table carried.done others first board ending)
        → HasCauses means input first board origin source' ending → Ended means input first board origin source' begun ending tally
    ended_quietly sound ending known held unlinked read reading holding sending causes = record {
      known = known;
      held = held;
      done = carried.done;
      others = others.list;
      read = others.is;
      reading = reading;
      broken = λ is. absurd (unlinked is);
      taken = λ told. (so_far told).split;
      causes = causes;
      keeps = keeps_on board carried.device;
      on_table = λ flash table stands. ends_still means first table board opened.vault carried.done same (carried.on_table flash table stands) sound others.list ending (holding table others.list) (sending table others.list)
          (retrieves blocks begun (means.flash first) table (carried.done ++ others.list) carried.sound stands);
      counted = carried.counted;
      work = λ is flash table stands fresh plain. works_for (carried.work flash table stands fresh plain);
    }
      where
        so_far : IsTrue (input.tells origin) → Taken (input.left origin) (input.left source') carried.done
        so_far told = taken (input.left origin) carried.done reader' (input.left source') limit_on (read told)

        others : IfTold (input.tells origin) (λ (list : List Command). carried.done ++ list ≡ read_of (input.left origin) (input.left source'))
        others = if_told (input.tells origin) (λ (list : List Command). carried.done ++ list ≡ read_of (input.left origin) (input.left source')) (λ told. ((so_far told).others, (so_far told).begins))

  pub ended_done : IsSound opened.vault → (source' : S) (reader' : Reader) → Steps input reader reader' source source' AtEnd → input.faults source' ≡ input.faults source
      → Ended means input first board origin source' begun Done tally
  ended_done sound source' reader' steps kept =
      ended_quietly source' reader' AtEnd steps sound Done (λ is. cc) (λ is. cc) (λ is. cc) (λ told. (at_end told).0)
      (λ told. (subst (λ (limit : ℕ). first_bad limit (input.left origin) ≡ None) limit (all told).1, none_left reader'.pending (input.left source') (at_end told).1, sym (subst (λ (limit : ℕ). commands_of limit (input.left origin) ≡ carried.done) limit (all told).0)))
      (λ table others held. held) (λ table others sent. sent)
      (causes_none means input first board origin source' carried.flash_faults carried.link_faults Done (λ is. cc) (λ is. cc) (λ is. absurd cc) (λ block page kept found is. cc) (λ other. kept ∙ carried.source_faults))
    where
      limit : reader'.limit ≡ text_limit
      limit = limit_on source' reader' AtEnd steps

      at_end : IsTrue (input.tells origin) → HasRead (input.left origin) carried.done reader' (input.left source') × (reader'.pending ++ input.left source' ≡ [])
      at_end told = reads source' reader' AtEnd steps told

      all : IsTrue (input.tells origin) → (commands_of reader'.limit (input.left origin) ≡ carried.done) × (first_bad reader'.limit (input.left origin) ≡ None)
      all told = has_read_end (input.left origin) carried.done reader' (input.left source') (at_end told).0 (at_end told).1

      none_left : (xs ys : List ℕ) → xs ++ ys ≡ [] → ys ≡ []
      none_left [] ys is = is
      none_left (x ∷ xs) ys is = absurd cc

  pub ended_bad : IsSound opened.vault → (source' : S) (reader' : Reader) (line : ℕ) (why : LineFault) → Steps input reader reader' source source' (Wrong line why) → input.faults source' ≡ input.faults source
      → Ended means input first board origin source' begun (BadLine line why) tally
  ended_bad sound source' reader' line why steps kept =
      ended_quietly source' reader' (Wrong line why) steps sound (BadLine line why) (λ is. cc) (λ is. cc) (λ is. cc) (λ told. (at_bad told).0)
      (λ told. (subst (λ (limit : ℕ). first_bad limit (input.left origin) ≡ Some (line, why)) limit (at_bad told).2, sym (subst (λ (limit : ℕ). commands_of limit (input.left origin) ≡ carried.done) limit (at_bad told).1)))
      (λ table others held. held) (λ table others sent. sent)
      (causes_none means input first board origin source' carried.flash_faults carried.link_faults (BadLine line why) (λ is. cc) (λ is. cc) (λ is. absurd cc) (λ block page kept found is. cc) (λ other. kept ∙ carried.source_faults))
    where
      limit : reader'.limit ≡ text_limit
      limit = limit_on source' reader' (Wrong line why) steps

      at_bad : IsTrue (input.tells origin)
          → HasRead (input.left origin) carried.done reader' (input.left source') × (commands_of reader'.limit (input.left origin) ≡ carried.done) × (first_bad reader'.limit (input.left origin) ≡ Some (line, why))
      at_bad told = reads source' reader' (Wrong line why) steps told

  pub ended_source : IsSound opened.vault → (source' : S) (reader' : Reader) → Steps input reader reader' source source' Failed → Rose (input.faults source) (input.faults source')
      → Ended means input first board origin source' begun SourceFault tally
  ended_source sound source' reader' steps rose =
      ended_quietly source' reader' Failed steps sound SourceFault (λ is. cc) (λ is. cc) (λ is. cc) (λ told. (failed told).0)
      (λ told. (subst (λ (octets : List ℕ). bad_read text_limit octets ≡ None) (sym (is_taken told)) (subst (λ (limit : ℕ). bad_read limit (octets told) ≡ None) limit (whole told).1), sym (subst (λ (octets : List ℕ). commands_read text_limit octets ≡ carried.done) (sym (is_taken told)) (subst (λ (limit : ℕ). commands_read limit (octets told) ≡ carried.done) limit (whole told).0))))
      (λ table others held. held) (λ table others sent. sent)
      (causes_none means input first board origin source' carried.flash_faults carried.link_faults SourceFault (λ is. cc) (λ is. cc)
      (λ is. rose_since (input.faults origin) (input.faults source) (input.faults source') (omega (arith, carried.source_faults)) rose)
      (λ block page kept found is. cc) (λ other. absurd (other refl)))
    where
      limit : reader'.limit ≡ text_limit
      limit = limit_on source' reader' Failed steps

      failed : IsTrue (input.tells origin) → HasRead (input.left origin) carried.done reader' (input.left source') × ¬ (Contains reader'.pending 10) × (reader'.closed ≡ false)
      failed told = reads source' reader' Failed steps told

      octets : IsTrue (input.tells origin) → List ℕ
      octets told = (failed told).0.behind ++ reader'.pending

      whole : (told : IsTrue (input.tells origin)) → (commands_read reader'.limit (octets told) ≡ carried.done) × (bad_read reader'.limit (octets told) ≡ None)
      whole told = has_read_unended (input.left origin) carried.done reader' (input.left source') (failed told).0 (failed told).2 (failed told).1

      is_taken : (told : IsTrue (input.tells origin)) → taken_of (input.left origin) (input.left source') ≡ octets told
      is_taken told = taken_is (input.left origin) (octets told) (input.left source') (has_read_taken (input.left origin) carried.done reader' (input.left source') (failed told).0).0

  -- one command further
  module _ (source' : S) (reader' : Reader) (command : Command) (steps : Steps input reader reader' source source' (Said command)) (unfailed : input.faults source' ≡ input.faults source)
      (board' : B) (after : Held) where
    read_on : IsTrue (input.tells origin) → HasRead (input.left origin) (carried.done ++ command ∷ []) reader' (input.left source')
    read_on told = reads source' reader' (Said command) steps told

    taken_on : IsTrue (input.tells origin) → Taken (input.left origin) (input.left source') (carried.done ++ command ∷ [])
    taken_on told = taken (input.left origin) (carried.done ++ command ∷ []) reader' (input.left source') (limit_on source' reader' (Said command) steps) (read_on told)

    -- the commands behind it that were read
    behind : IfTold (input.tells origin) (λ (list : List Command). carried.done ++ command ∷ list ≡ read_of (input.left origin) (input.left source'))
    behind = if_told (input.tells origin) (λ (list : List Command). carried.done ++ command ∷ list ≡ read_of (input.left origin) (input.left source'))
        (λ told. ((taken_on told).others, sym (append_assoc carried.done (command ∷ []) (taken_on told).others) ∙ (taken_on told).begins))

    -- the session ended within the command
    ended_within : (ending : Ending) → ending ≢ BadWords → ending ≢ NotHeld → ending ≢ Done → EndsReading (input.left origin) (input.left source') carried.done ending → means.device board' ≡ means.device board
        → HasCauses means input first board' origin source' ending
        → (TellsFlash means first → (table : Table) → OnTable means first board table opened.vault carried.done → RetrievesInOrder blocks table (carried.done ++ command ∷ behind.list) → EndsOnTable means first board' table carried.done (command ∷ behind.list) ending)
        → Ended means input first board' origin source' begun ending tally
    ended_within ending known held unfinished reading device causes ends = record {
      known = known;
      held = held;
      done = carried.done;
      others = command ∷ behind.list;
      read = behind.is;
      reading = λ told. reading;
      broken = λ is. (command, behind.list, refl);
      taken = λ told. (taken_on told).split;
      causes = causes;
      keeps = keeps_on source' reader' (Said command) steps board' (device ∙ carried.device);
      on_table = λ flash table stands. ends flash table (carried.on_table flash table stands)
          (retrieves blocks begun (means.flash first) table (carried.done ++ command ∷ behind.list) carried.sound stands);
      counted = carried.counted;
      work = λ is. absurd (unfinished is);
    }

    -- the command was carried out
    pub goes_further : (sent : Sent) → Answers means board board' opened after (steps_of (means.device board).blocks command) (Ok sent)
        → TurnWorks means board board' command opened.vault after.vault
        → Carried means input first board' origin source' begun reader' after.vault (and_sent tally sent)
    goes_further sent answers works = record {
      done = carried.done ++ command ∷ [];
      sound = carried.sound;
      live = steps.moves.live;
      limit = limit_on source' reader' (Said command) steps;
      read = read_on;
      tells = steps.tells ∙ carried.tells;
      source_faults = unfailed ∙ carried.source_faults;
      takes_from = omega (arith, carried.takes_from, steps.asks.rises);
      takes_to = λ told. omega (arith, carried.takes_to told, steps.asks.most (carried.tells ∙ told));
      device = answers.device ∙ carried.device;
      flash_faults = answers.cause.0 ∙ carried.flash_faults;
      link_faults = answers.cause.1 ∙ carried.link_faults;
      on_table = λ flash table stands. on_table_more means first table board opened.vault carried.done same (carried.on_table flash table stands)
          board' carried.device flash command answers.in_step answers.moments answers.either after.vault sent (answers.done sent refl (tells_too carried.device flash));
      counted = λ flash table stands.
          let so_far : Table = (run blocks table carried.done).table in
          tally_more blocks table carried.done command tally sent (carried.counted flash table stands)
          (subst (λ (n : ℕ). IsCountOf (step n (length carried.done + 1) command so_far).outputs sent) (ap (λ (device : Device). device.blocks) carried.device)
          ((answers.done sent refl (tells_too carried.device flash)).sends so_far (length carried.done + 1) (carried.on_table flash table stands).stands).counted);
      work = λ flash table stands fresh plain.
          let on = carried.on_table flash table stands in
          let (all, this) = plain_split carried.done command plain in
          let worked = carried.work flash table stands fresh all in
          worked_more blocks table carried.done command opened.vault after.vault (means.counts first) (means.counts board) (means.counts board') worked
          (works_at flash (run blocks table carried.done).table (works (tells_too carried.device flash) (run blocks table carried.done).table (length carried.done + 1) on.stands this worked.fresh));
    }
      where
        works_at : TellsFlash means first → (table : Table)
            → CommandWorks command table (step (means.device board).blocks (length carried.done + 1) command table).outputs opened.vault after.vault (means.counts board) (means.counts board')
            → CommandWorks command table (step blocks (length carried.done + 1) command table).outputs opened.vault after.vault (means.counts board) (means.counts board')
        works_at flash table is =
            subst (λ (d : Device). CommandWorks command table (step d.blocks (length carried.done + 1) command table).outputs opened.vault after.vault (means.counts board) (means.counts board'))
            carried.device is

    -- the link failed within it
    pub ended_link : Answers means board board' opened after (steps_of (means.device board).blocks command) (Err faults.Link) → Ended means input first board' origin source' begun LinkFault tally
    ended_link answers = ended_within LinkFault (λ is. cc) (λ is. cc) (λ is. cc) tt answers.device
        (record {
          board = record {
            flash = λ is. absurd cc;
            link = λ is. rose_since (means.counts first).link_faults (means.counts board).link_faults (means.counts board').link_faults (omega (arith, carried.link_faults)) answers.cause.1;
            mismatch = λ block page kept found is. absurd cc;
            flash_kept = λ other. answers.cause.0 ∙ carried.flash_faults;
            link_kept = λ other. absurd (other refl);
          };
          source_cause = λ is. absurd cc;
          source_kept = λ other. unfailed ∙ carried.source_faults;
        })
        (λ flash table on retrieval. ends_broken means first table board opened.vault carried.done same on board' carried.device flash command answers.in_step answers.moments answers.either behind.list
        (answers.breaks (tells_too carried.device flash)) retrieval)

    -- the flash failed within it
    pub ended_flash : Answers means board board' opened after (steps_of (means.device board).blocks command) (Err faults.Flash) → Ended means input first board' origin source' begun FlashFault tally
    ended_flash answers = ended_within FlashFault (λ is. cc) (λ is. cc) (λ is. cc) tt answers.device
        (record {
          board = record {
            flash = λ is. rose_since (means.counts first).flash_faults (means.counts board).flash_faults (means.counts board').flash_faults (omega (arith, carried.flash_faults)) answers.cause.0;
            link = λ is. absurd cc;
            mismatch = λ block page kept found is. absurd cc;
            flash_kept = λ other. absurd (other refl);
            link_kept = λ other. answers.cause.1 ∙ carried.link_faults;
          };
          source_cause = λ is. absurd cc;
          source_kept = λ other. unfailed ∙ carried.source_faults;
        })
        (λ flash table on retrieval. ends_failed means first table board opened.vault carried.done same on board' carried.device flash command answers.in_step answers.moments answers.either behind.list
        answers.unsent.0 answers.unsent.1 retrieval)

    -- what is found is not what was kept
    pub ended_mismatch : (block page kept found : ℕ) → Answers means board board' opened after (steps_of (means.device board).blocks command) (Err (faults.Mismatch block page kept found))
        → Ended means input first board' origin source' begun (Mismatch block page kept found) tally
    ended_mismatch block page kept found answers = ended_within (Mismatch block page kept found) (λ is. cc) (λ is. cc) (λ is. cc) tt answers.device
        (record {
          board = record {
            flash = λ is. absurd cc;
            link = λ is. absurd cc;
            mismatch = λ block' page' kept' found' is. (λ equal. differ kept' found' is equal, untold);
            flash_kept = λ other. answers.cause.2 ∙ carried.flash_faults;
            link_kept = λ other. answers.cause.3 ∙ carried.link_faults;
          };
          source_cause = λ is. absurd cc;
          source_kept = λ other. unfailed ∙ carried.source_faults;
        })
        (λ flash table on retrieval. absurd (untold flash))
      where
        untold : TellsFlash means first → ⊥
        untold flash = answers.cause.1 (tells_too carried.device flash)

        differ : {block' page' : ℕ} (kept' found' : ℕ) → Mismatch block page kept found ≡ Mismatch block' page' kept' found' → kept' ≡ found' → ⊥
        differ kept' found' is equal =
            let same_kept : kept ≡ kept' = cc in
            let same_found : found ≡ found' = cc in
            answers.cause.0 (same_kept ∙ equal ∙ sym same_found)

    -- memory is never wanting for a command
    pub ended_memory : Answers means board board' opened after (steps_of (means.device board).blocks command) (Err faults.NoMemory) → Ended means input first board' origin source' begun NoMemory tally
    ended_memory answers = absurd (answers.memory refl)

-- the same ending, behind what was pending
pub ended_finished : {B S : Type 0} (means : BoardMeaning B) (input : SourceMeaning S) (first board board' : B) (origin source : S) (begun : InMemory) (ending ending' : Ending) (tally : Tally)
    → board' ≡ board → ending' ≡ ending → Ended means input first board origin source begun ending tally → Ended means input first board' origin source begun ending' tally
ended_finished {B} {S} means input first board board' origin source begun ending ending' tally same is ended =
    subst (λ (e : Ending). Ended means input first board' origin source begun e tally) (sym is)
    (subst (λ (b : B). Ended means input first b origin source begun ending tally) (sym same) ended)
