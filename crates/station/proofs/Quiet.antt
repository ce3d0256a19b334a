-- What opening a table, a barrier or a format does before a session.
use Rattle.std.proofs.Common.{◌≡◌, ◌≢◌, ◌≤◌, ◌⊎◌, inl, inr, ℕ, ◌+◌, ◌*◌, List, [], Some, None, length, refl, sym, ◌∙◌, ap, subst, arith}
use Rattle.std.proofs.lemmas.Option.{same_Some}
use Rattle.std.specs.Prelude.{IsTrue}
use Rattle.board.specs.Device.{Device}
use Rattle.board.specs.Flash.{Flash, IsContent, IsImage}
use Rattle.board.specs.Meaning.{BoardMeaning, SourceMeaning, TellsFlash}
use Rattle.board.specs.Moments.{LeavesOnly}
use Rattle.board.specs.Reads.{ReadsOnly}
use Rattle.board.specs.Touches.{Touches, no_page}
use Rattle.board.proofs.Runs.{links_too, sends_nothing_on}
use Rattle.board.proofs.Stops.{goes_on, weaker}
use Rattle.board.proofs.Works.{tells_too}
use Rattle.handler.specs.Carrying.{IsBoardOf}
use Rattle.station.specs.declared.ending.Ending.{Ending}
use Rattle.station.specs.declared.ending.Ending.TheVariants.{BadWords, Done, FlashFault, LinkFault, NoMemory, NotHeld}
use Rattle.station.specs.Carrying.{Ended, EndsOnTable}
use Rattle.station.specs.Opening.{Opened}
use Rattle.station.specs.Reading.{EndsReading}
use Rattle.station.specs.Session.{EndsHolding, EndsSending, HoldsAll, SendsAll}
use Rattle.station.specs.Station.{HasCauses, Keeps, Refuses, SendsNone, WritesNothing}
use Rattle.station.proofs.Firm.{firm_holds, still_firm}
use Rattle.station.specs.declared.tally.Tally.{Tally}
use Rattle.station.specs.Tallies.{IsTallyOf, no_tally}
use Rattle.station.proofs.Tallying.{tally_none}
use Rattle.turn_laws.specs.Turns.{outputs_of}
use Rattle.station.proofs.Since.{causes_since, ends_here, ends_since, keeps_since}
use Rattle.station.proofs.Retrieving.{retrieves_none}
use Rattle.station.proofs.Taken.{none_read, taken_none}
use Rattle.station.proofs.Workings.{works_since}
use Rattle.station.specs.Working.{AreEmpty, NoneIsStale, WorksFor}
use Rattle.image_table.specs.Standing.{HoldsTable}
use Rattle.image_table.specs.Table.{table_of}
use Rattle.meta_journal.specs.Standing.{AllFirm}
use Rattle.pst_model.specs.Command.{Command}
use Rattle.pst_model.specs.Table.{Table}
use Rattle.vault.specs.Memory.{InMemory}
use Rattle.vault.specs.Standing.{StandsFor}

pub not_none : (table : Table) → Some table ≡ None → ⊥
not_none table is = cc

-- What of a board's laws is used here.
pub record BoardLaws {B : Type 0} (means : BoardMeaning B) (board : B) : Type 0 where
  pub least : 16 ≤ (means.device board).blocks
  pub content : TellsFlash means board → IsContent (means.device board).blocks (means.flash board).content

-- A run of calls that writes and sends nothing, with no failure of the link.
pub record IsQuiet {B : Type 0} (means : BoardMeaning B) (old mid : B) : Type 0 where
  pub same : means.device mid ≡ means.device old
  pub writes : WritesNothing means old mid
  pub sends : SendsNone means old mid
  pub link_faults : (means.counts mid).link_faults ≡ (means.counts old).link_faults

module _ {B : Type 0} (means : BoardMeaning B) (old mid : B) where
  pub quiet_read : (most : ℕ) → ReadsOnly means most old mid → IsQuiet means old mid
  quiet_read most reads = record {
    same = reads.same;
    writes = record {
      programs = omega (arith, reads.work.programs_from, reads.work.programs_to);
      erases = omega (arith, reads.work.erases_from, reads.work.erases_to);
      content = λ told. ap (λ (flash : Flash). flash.content) (reads.stays told).flash;
      flash = λ told firm. (reads.stays told).flash;
      leaves = λ told firm. (reads.stays told).leaves;
    };
    sends = record { unsent = reads.unsent; uncalled = reads.work.sends };
    link_faults = reads.work.link_faults;
  }

  pub quiet_barrier : (barriers : ℕ) → Touches means no_page 0 0 barriers old mid → IsQuiet means old mid
  quiet_barrier barriers touches = record {
    same = touches.same;
    writes = record {
      programs = omega (arith, touches.work.programs_from, touches.work.programs_to);
      erases = omega (arith, touches.work.erases_from, touches.work.erases_to);
      content = λ told j p. (touches.others told).content p refl j;
      flash = λ told firm. still_firm (means.flash old) (means.flash mid) (touches.others told) firm;
      leaves = λ told firm. touches.leaves told;
    };
    sends = record { unsent = touches.unsent; uncalled = touches.work.sends };
    link_faults = touches.work.link_faults;
  }

  module _ (quiet : IsQuiet means old mid) (laws : BoardLaws means old) where
    -- the blocks of the device
    abbrev blocks : ℕ
    blocks = (means.device old).blocks

    abbrev Holds : Table → Type 0
    Holds table = HoldsTable blocks table (means.flash old).content

    -- while it runs each image holds the table
    pub leaves_quiet : TellsFlash means old → AllFirm (means.flash old) → (table : Table) → Holds table → LeavesOnly means old mid (HoldsTable blocks table)
    leaves_quiet told firm table held =
        weaker means old mid _ _ (quiet.writes.leaves told firm)
        (λ image is. firm_holds blocks (means.flash old) table image laws.least (laws.content told) firm held is)

    holds_on : TellsFlash means old → (table : Table) → Holds table → HoldsTable blocks table (means.flash mid).content
    holds_on told table held = subst (λ (content : ℕ → List ℕ). HoldsTable blocks table content) (sym (quiet.writes.content told)) held

    blocks_same : (means.device mid).blocks ≡ blocks
    blocks_same = ap (λ (device : Device). device.blocks) quiet.same

    -- what it held it holds still, or still holds none

    pub held_on : TellsFlash means old → (table : Table) → Holds table → HoldsTable (means.device mid).blocks table (means.flash mid).content
    held_on told table held = subst (λ (n : ℕ). HoldsTable n table (means.flash mid).content) (sym blocks_same) (holds_on told table held)

    pub none_on : TellsFlash means old → table_of blocks (means.flash old).content ≡ None → table_of (means.device mid).blocks (means.flash mid).content ≡ None
    none_on told none =
        subst (λ (n : ℕ). table_of n (means.flash mid).content ≡ None) (sym blocks_same)
        (subst (λ (content : ℕ → List ℕ). table_of blocks content ≡ None) (sym (quiet.writes.content told)) none)

    pub none_before : TellsFlash means old → table_of (means.device mid).blocks (means.flash mid).content ≡ None → table_of blocks (means.flash old).content ≡ None
    none_before told none =
        subst (λ (content : ℕ → List ℕ). table_of blocks content ≡ None) (quiet.writes.content told)
        (subst (λ (n : ℕ). table_of n (means.flash mid).content ≡ None) blocks_same none)

    -- a vault that was opened stands for it
    pub stands_on : (vault : InMemory) → vault.blocks ≡ blocks → TellsFlash means old → (table : Table) × StandsFor vault (means.flash mid) table
        → (table : Table) → Holds table → StandsFor vault (means.flash mid) table
    stands_on vault many told found table held =
        let there : table_of blocks (means.flash mid).content ≡ Some found.0 = subst (λ (n : ℕ). table_of n (means.flash mid).content ≡ Some found.0) many found.1.holds in
        subst (StandsFor vault (means.flash mid)) (same_Some found.0 table (sym there ∙ holds_on told table held)) found.1

    pub board_of : (vault : InMemory) → vault.blocks ≡ blocks → (TellsFlash means old → (table : Table) × StandsFor vault (means.flash mid) table) → IsBoardOf means vault mid
    board_of vault many stands = record {
      blocks = many ∙ sym blocks_same;
      flash = λ told. stands (tells_too (sym quiet.same) told);
    }

    holds_all : TellsFlash means old → AllFirm (means.flash old) → (table : Table) → Holds table → HoldsAll means (means.device mid).blocks table mid
    holds_all told firm table held = record {
      content = held_on told table held;
      leaves = λ image left.
          let leaves = leaves_quiet told firm table held in
          subst (λ (n : ℕ). HoldsTable n table image) (sym blocks_same) (leaves.each (means.moment mid) image leaves.later (omega arith) left);
      later = λ image is.
          subst (λ (n : ℕ). HoldsTable n table image) (sym blocks_same)
          (firm_holds blocks (means.flash old) table image laws.least (laws.content told) firm held
          (subst (λ (n : ℕ). IsImage n (means.flash old) image) blocks_same
          (subst (λ (flash : Flash). IsImage (means.device mid).blocks flash image) (quiet.writes.flash told firm) is)));
    }

    -- what such a run makes of a session that ends behind it without a command
    pub ends_quiet : TellsFlash means old → AllFirm (means.flash old) → (table : Table) → Holds table → (ending : Ending)
        → (HoldsAll means (means.device mid).blocks table mid → EndsHolding means (means.device mid).blocks table [] [] mid ending)
        → (SendsAll means mid mid [] → EndsSending means (means.device mid).blocks table [] [] mid mid ending)
        → EndsOnTable means old mid table [] [] ending
    ends_quiet told firm table held ending holding sending =
        let all = holds_all told firm table held in
        ends_since means old mid mid quiet.same quiet.sends.unsent quiet.sends.uncalled table [] [] ending
        (ends_here means mid table [] ending all (holding all) sending (retrieves_none (means.device mid).blocks table)) (leaves_quiet told firm table held)

    module _ (new : B) where
      writes_on : WritesNothing means mid new → WritesNothing means old new
      writes_on second = record {
        programs = second.programs ∙ quiet.writes.programs;
        erases = second.erases ∙ quiet.writes.erases;
        content = λ told. second.content (tells_too quiet.same told) ∙ quiet.writes.content told;
        flash = λ told firm. second.flash (tells_too quiet.same told) (firm_on told firm) ∙ quiet.writes.flash told firm;
        leaves = λ told firm. goes_on means old mid new _ _ (quiet.writes.leaves told firm) (second.leaves (tells_too quiet.same told) (firm_on told firm))
            (λ image is. subst (λ (n : ℕ). IsImage n (means.flash old) image) blocks_same
            (subst (λ (flash : Flash). IsImage (means.device mid).blocks flash image) (quiet.writes.flash told firm) is));
      }
        where
          firm_on : TellsFlash means old → AllFirm (means.flash old) → AllFirm (means.flash mid)
          firm_on told firm = subst AllFirm (sym (quiet.writes.flash told firm)) firm

      pub writes_quiet : WritesNothing means mid new → WritesNothing means old new
      writes_quiet = writes_on

      pub sends_quiet : SendsNone means mid new → SendsNone means old new
      sends_quiet second = record {
        unsent = λ link. sends_nothing_on means old mid new (quiet.sends.unsent link) (second.unsent (links_too quiet.same link));
        uncalled = second.uncalled ∙ quiet.sends.uncalled;
      }

      module _ {S : Type 0} (input : SourceMeaning S) (origin source : S) where
        pub refuses_on : Refuses means input mid new origin source → Refuses means input old new origin source
        refuses_on refuses = record { writes = writes_on refuses.writes; sends = sends_quiet refuses.sends; unread = refuses.unread }

        -- a table that was opened, and the text that was carried out on it
        pub opened_on : (ending : Ending) (tally : Tally) (vault : InMemory) → (TellsFlash means old → AllFirm (means.flash old)) → (means.counts mid).flash_faults ≡ (means.counts old).flash_faults
            → vault.blocks ≡ blocks → (TellsFlash means old → (table : Table) × (table_of blocks (means.flash old).content ≡ Some table))
            → (TellsFlash means old → AllFirm (means.flash old) → (table : Table) × StandsFor vault (means.flash mid) table)
            → (means.counts mid).reads ≤ (means.counts old).reads + 512 * blocks
            → ((table : Table) → StandsFor vault (means.flash mid) table → AreEmpty table.stores → NoneIsStale vault)
            → Ended means input mid new origin source vault ending tally → Opened means input old new origin source ending tally
        opened_on ending tally vault firm unfailed many holds stands reads fresh ended = record {
          known = ended.known;
          done = ended.done;
          others = ended.others;
          read = ended.read;
          reading = ended.reading;
          broken = ended.broken;
          taken = ended.taken;
          causes = causes_since means input old mid new origin source ending unfailed quiet.link_faults quiet.same ended.causes;
          keeps = keeps_since means input old mid new origin source ending quiet.same ended.keeps;
          on_table = λ told table held. ends_since means old mid new quiet.same quiet.sends.unsent quiet.sends.uncalled table ended.done ended.others ending
              (ended.on_table (tells_too quiet.same told) table (stands_on vault many told (stands told (firm told)) table held)) (leaves_quiet told (firm told) table held);
          counted = λ told table held. subst (λ (n : ℕ). IsTallyOf (length ended.done) (outputs_of n table ended.done) tally) blocks_same
              (ended.counted (tells_too quiet.same told) table (stands_on vault many told (stands told (firm told)) table held));
          work = λ is told table held empty plain.
              let begun = stands_on vault many told (stands told (firm told)) table held in
              let work = ended.work is (tells_too quiet.same told) table begun (fresh table begun empty) plain in
              works_since (512 * blocks) 0 (means.counts old)
              (subst (λ (n : ℕ). WorksFor n table ended.done 0 0 (means.counts mid) (means.counts new)) blocks_same work)
              (omega (arith, reads)) (omega (arith, quiet.writes.programs));
          unheld = λ told none. absurd (not_none (holds told).0 (sym (holds told).1 ∙ none));
          refused = λ is. absurd (ended.held is);
        }

    module _ {S : Type 0} (input : SourceMeaning S) (origin : S) where
      pub refuses_quiet : Refuses means input old mid origin origin
      refuses_quiet = record { writes = quiet.writes; sends = quiet.sends; unread = refl }

      pub keeps_quiet : Keeps means input old mid origin origin
      keeps_quiet = record { device = quiet.same; tells = refl; takes_from = omega arith; takes_to = λ told. omega arith }

      -- no table was opened
      pub opened_early : (ending : Ending) (tally : Tally) → tally ≡ no_tally → ending ≢ BadWords → (TellsFlash means old → AllFirm (means.flash old))
          → (IsTrue (input.tells origin) → EndsReading (input.left origin) (input.left origin) [] ending) → HasCauses means input old mid origin origin ending
          → (TellsFlash means old → (table : Table) → Holds table → (others : List Command)
          → (HoldsAll means (means.device mid).blocks table mid → EndsHolding means (means.device mid).blocks table [] others mid ending)
          × (SendsAll means mid mid [] → EndsSending means (means.device mid).blocks table [] others mid mid ending))
          → ((ending ≡ NotHeld) ⊎ (ending ≡ FlashFault) ⊎ (ending ≡ NoMemory)) → (ending ≡ NotHeld → TellsFlash means old → table_of blocks (means.flash old).content ≡ None)
          → Opened means input old mid origin origin ending tally
      opened_early ending tally empty known firm reading causes ends refusal none =
          record {
            known = known;
            done = [];
            others = [];
            read = λ told. sym (none_read (input.left origin));
            reading = reading;
            broken = λ is. absurd (unbroken refusal is);
            taken = λ told. (taken_none (input.left origin)).split;
            causes = causes;
            keeps = keeps_quiet;
            on_table = λ told table held.
                let by = ends told table held [] in
                ends_quiet told (firm told) table held ending by.0 by.1;
            counted = λ told table held. tally_none tally empty;
            work = λ is. absurd (unfinished refusal is);
            unheld = λ told unheld. (refusal, refuses_quiet);
            refused = λ is. (refuses_quiet, none is);
          }
        where
          unbroken : ((ending ≡ NotHeld) ⊎ (ending ≡ FlashFault) ⊎ (ending ≡ NoMemory)) → ending ≡ LinkFault → ⊥
          unbroken (inl is) link = cc
          unbroken (inr (inl is)) link = cc
          unbroken (inr (inr is)) link = cc

          unfinished : ((ending ≡ NotHeld) ⊎ (ending ≡ FlashFault) ⊎ (ending ≡ NoMemory)) → ending ≡ Done → ⊥
          unfinished (inl is) done = cc
          unfinished (inr (inl is)) done = cc
          unfinished (inr (inr is)) done = cc
