-- A session behind a barrier, or behind a format.
use Rattle.std.proofs.Common.{◌≡◌, ◌≤◌, inl, inr, ℕ, List, [], refl, sym, subst, arith}
use Rattle.std.specs.Prelude.{IsTrue}
use Rattle.board.specs.Counts.{Rose}
use Rattle.board.specs.Device.{Device}
use Rattle.board.specs.Meaning.{BoardMeaning, SourceMeaning, TellsFlash}
use Rattle.board.specs.Touches.{Touches}
use Rattle.board.proofs.Works.{tells_too}
use Rattle.station.specs.declared.ending.Ending.{Ending}
use Rattle.station.specs.declared.ending.Ending.TheVariants.{FlashFault}
use Rattle.station.specs.declared.tally.Tally.{Tally}
use Rattle.station.specs.Opening.{Opened}
use Rattle.station.specs.Reading.{Reads}
use Rattle.station.specs.Station.{BeginsFresh, Begun, HasCauses, Held, Runs, Unbegun}
use Rattle.station.proofs.Quiet.{BoardLaws, IsQuiet, ends_quiet, held_on, leaves_quiet, none_before, none_on, refuses_on, refuses_quiet}
use Rattle.station.proofs.Since.{carries_from, carries_now, ends_since}
use Rattle.station.proofs.Taken.{none_read, taken_none}
use Rattle.image_table.specs.Standing.{HoldsTable}
use Rattle.meta_journal.specs.Halves.{format_pages}
use Rattle.pst_model.specs.Table.{after_format}

module _ {B S : Type 0} (means : BoardMeaning B) (input : SourceMeaning S) (old mid new : B) (origin source : S) (ending : Ending) where
  -- a session behind a barrier
  pub runs_opened : IsQuiet means old mid → BoardLaws means old → (TellsFlash means old → means.moment old ≤ means.moment mid)
      → {tally : Tally} → Opened means input mid new origin source ending tally → Runs means input old new origin source ending
  runs_opened quiet laws later opened = record {
    session = λ told firm table held. carries_now means input old new origin source table opened.done opened.others ending opened.read opened.reading opened.broken
        (ends_since means old mid new quiet.same quiet.sends.unsent quiet.sends.uncalled table opened.done opened.others ending
        (opened.on_table (tells_too quiet.same told) table (held_on means old mid quiet laws told table held))
        (leaves_quiet means old mid quiet laws told firm table held));
    loose = λ told table held. Begun (means.moment mid)
        (carries_from means old mid new quiet.same quiet.sends.unsent quiet.sends.uncalled table opened.done opened.others ending
        (opened.on_table (tells_too quiet.same told) table (held_on means old mid quiet laws told table held))
        input origin source opened.read opened.reading opened.broken (later told));
    unheld = λ told none.
        let unheld = opened.unheld (tells_too quiet.same told) (none_on means old mid quiet laws told none) in
        (unheld.0, refuses_on means old mid quiet laws new input origin source unheld.1);
    refused = λ is.
        let refused = opened.refused is in
        (refuses_on means old mid quiet laws new input origin source refused.0, λ told. none_before means old mid quiet laws told (refused.1 (tells_too quiet.same told)));
  }

  -- what it read
  pub reads_opened : {tally : Tally} → Opened means input mid new origin source ending tally → IsTrue (input.tells origin) → Reads (input.left origin) (input.left source) ending
  reads_opened opened told = record { done = opened.done; others = opened.others; read = opened.read told; reading = opened.reading told }

  -- a session behind a format
  pub fresh_opened : Touches means format_pages 12 5 8 old mid
      → (TellsFlash means old → HoldsTable (means.device old).blocks after_format (means.flash mid).content)
      → {tally : Tally} → Opened means input mid new origin source ending tally → BeginsFresh means input old new origin source ending
  fresh_opened touches holds opened told = Begun (means.moment mid)
      (carries_from means old mid new touches.same touches.unsent touches.work.sends after_format opened.done opened.others ending
      (opened.on_table (tells_too touches.same told) after_format held)
      input origin source opened.read opened.reading opened.broken (touches.leaves told).later)
    where
      held : Held means mid after_format
      held = subst (λ (device : Device). HoldsTable device.blocks after_format (means.flash mid).content) (sym touches.same) (holds told)

module _ {B S : Type 0} (means : BoardMeaning B) (input : SourceMeaning S) (old mid : B) (origin : S) where
  -- a barrier that failed
  pub runs_failed : IsQuiet means old mid → BoardLaws means old → Runs means input old mid origin origin FlashFault
  runs_failed quiet laws =
      record {
        session = λ told firm table held. carries_now means input old mid origin origin table [] [] FlashFault (λ told. sym (none_read (input.left origin))) (λ told. tt) (λ is. absurd cc)
            (ends_quiet means old mid quiet laws told firm table held FlashFault (λ all image left. inl (all.leaves image left)) (λ sent. sent));
        loose = λ told table held. Unbegun (record {
          failed = refl;
          sends = quiet.sends;
          unread = refl;
          programs = omega (arith, quiet.writes.programs);
        });
        unheld = λ told none. (inr (inl refl), refuses_quiet means old mid quiet laws input origin);
        refused = λ is. absurd cc;
      }

  -- a format that failed
  pub fresh_failed : Touches means format_pages 12 5 8 old mid → BeginsFresh means input old mid origin origin FlashFault
  fresh_failed touches told = Unbegun (record {
    failed = refl;
    sends = record { unsent = touches.unsent; uncalled = touches.work.sends };
    unread = refl;
    programs = touches.work.programs_to;
  })

  -- the flash failed, and nothing else
  pub causes_failed : Rose (means.counts old).flash_faults (means.counts mid).flash_faults → (means.counts mid).link_faults ≡ (means.counts old).link_faults
      → HasCauses means input old mid origin origin FlashFault
  causes_failed rose link = record {
    board = record {
      flash = λ is. rose;
      link = λ is. absurd cc;
      mismatch = λ block page kept found is. absurd cc;
      flash_kept = λ other. absurd (other refl);
      link_kept = λ other. link;
    };
    source_cause = λ is. absurd cc;
    source_kept = λ other. refl;
  }

-- the flash failed before anything was read
pub reads_none : (text : List ℕ) → Reads text text FlashFault
reads_none text = record { done = []; others = (taken_none text).others; read = (taken_none text).begins; reading = tt }
