-- What a session that lists does.
use Rattle.std.proofs.Common.{◌≡◌, ◌≢◌, ◌⊎◌, inl, inr, ℕ, List, ◌++◌, Some, refl, sym, ◌∙◌, ap, subst, arith}
use Rattle.board.specs.Counts.{Rose}
use Rattle.board.specs.Flash.{Flash, IsImage}
use Rattle.board.specs.Meaning.{BoardMeaning, TellsFlash, TellsLink}
use Rattle.board.specs.Moments.{GainsFront, SendsNothing, SendsOnly}
use Rattle.board.proofs.Runs as runs
use Rattle.board.proofs.Runs.{gains_none, links_too}
use Rattle.board.proofs.Stops as stops
use Rattle.board.proofs.Works.{tells_too}
use Rattle.station.specs.declared.ending.Ending.{Ending}
use Rattle.station.specs.declared.ending.Ending.TheVariants.{BadWords, Done, FlashFault, LinkFault, Mismatch, NoMemory, NotHeld, SourceFault}
use Rattle.station.specs.Endings.{IsListed, IsOfListing, ending_by}
use Rattle.station.specs.Station.{Held, HeldNone, IsCaused, Lists, SendsListing, SendsNone, WritesNothing}
use Rattle.station.proofs.Quiet.{BoardLaws, IsQuiet, held_on, none_before, none_on, not_none, sends_quiet, stands_on, writes_quiet}
use Rattle.image_table.specs.Table.{table_of}
use Rattle.listing.specs.declared.fault.ListingFault.{ListingFault}
use Rattle.listing.specs.declared.fault.ListingFault.TheVariants as faults
use Rattle.listing.specs.Faults.{IsNoMismatch, TellsDifference}
use Rattle.listing.specs.Lists as sent
use Rattle.listing.specs.Lists.{ToldTable}
use Rattle.meta_journal.specs.Standing.{AllFirm}
use Rattle.pst_model.specs.Listing.{listing_of}
use Rattle.pst_model.specs.Table.{Table}
use Rattle.vault.specs.Memory.{InMemory}
use Rattle.vault.specs.Standing.{StandsFor}

-- no listing ends so

pub listed_held : (ending : Ending) → IsListed ending → ending ≢ NotHeld
listed_held ending listed is = subst IsListed is listed

pub of_listed : (ending : Ending) → IsListed ending → IsOfListing ending
of_listed Done listed = tt
of_listed FlashFault listed = tt
of_listed LinkFault listed = tt
of_listed (Mismatch block page kept found) listed = tt
of_listed NoMemory listed = tt
of_listed other listed = absurd listed

pub listing_known : (ending : Ending) → IsOfListing ending → ending ≢ BadWords
listing_known ending listed is = subst IsOfListing is listed

pub listing_sourced : (ending : Ending) → IsOfListing ending → ending ≢ SourceFault
listing_sourced ending listed is = subst IsOfListing is listed

module _ {B : Type 0} (means : BoardMeaning B) where
  -- no call was made
  pub sends_none : (board : B) → SendsNone means board board
  sends_none board = record { unsent = λ link. runs.sends_nothing_yet means board; uncalled = refl }

  pub writes_none : (board : B) → ((image : ℕ → List ℕ) → TellsFlash means board → means.images board (means.moment board) image
      → IsImage (means.device board).blocks (means.flash board) image) → WritesNothing means board board
  writes_none board now = record {
    programs = refl;
    erases = refl;
    content = λ told. refl;
    flash = λ told firm. refl;
    leaves = λ told firm. stops.started means board (IsImage (means.device board).blocks (means.flash board)) (λ image left. now image told left);
  }

  -- a run that sends nothing sends a prefix of each text
  front_of_none : (old mid : B) (text : List ℕ) → SendsNothing means old mid → SendsOnly means old mid (GainsFront (means.sent old (means.moment old)) text)
  front_of_none old mid text none =
      runs.weaker means old mid _ _ none
      (λ octets is. subst (GainsFront (means.sent old (means.moment old)) text) (sym is) (gains_none (means.sent old (means.moment old)) text))

  -- nothing was listed
  pub listing_none : (told : Table → Type 0) (old mid : B) (ending : Ending) → ending ≢ Done → WritesNothing means old mid → SendsNone means old mid
      → ((table : Table) → told table → (ending ≡ FlashFault) ⊎ (ending ≡ LinkFault) ⊎ (ending ≡ NoMemory)) → SendsListing means told old mid ending
  listing_none told old mid ending undone writes sends ends = record {
    ends = λ table held. inr (ends table held);
    whole = λ is. absurd (undone is);
    moments = λ link table held. front_of_none old mid (listing_of table) (sends.unsent link);
    writes = writes;
  }

  -- an ending without a failure
  pub caused_none : (old new : B) (ending : Ending) → ending ≢ FlashFault → ending ≢ LinkFault → ((block page kept found : ℕ) → ending ≢ Mismatch block page kept found)
      → (means.counts new).flash_faults ≡ (means.counts old).flash_faults → (means.counts new).link_faults ≡ (means.counts old).link_faults → IsCaused means old new ending
  caused_none old new ending flash link mismatch flash_kept link_kept = record {
    flash = λ is. absurd (flash is);
    link = λ is. absurd (link is);
    mismatch = λ block page kept found is. absurd (mismatch block page kept found is);
    flash_kept = λ other. flash_kept;
    link_kept = λ other. link_kept;
  }

  pub caused_flash : (old new : B) → Rose (means.counts old).flash_faults (means.counts new).flash_faults → (means.counts new).link_faults ≡ (means.counts old).link_faults
      → IsCaused means old new FlashFault
  caused_flash old new rose kept = record {
    flash = λ is. rose;
    link = λ is. absurd cc;
    mismatch = λ block page kept found is. absurd cc;
    flash_kept = λ other. absurd (other refl);
    link_kept = λ other. kept;
  }

  module _ (told : Table → Type 0) (pages lines : ℕ) (old new : B) where
    writes_of : sent.Runs means told listing_of pages lines old new → WritesNothing means old new
    writes_of ran = record {
      programs = ran.work.programs;
      erases = ran.work.erases;
      content = λ flash. ap (λ (f : Flash). f.content) (ran.stays flash).flash;
      flash = λ flash firm. (ran.stays flash).flash;
      leaves = λ flash firm. (ran.stays flash).leaves;
    }

    -- the whole listing was sent
    pub listing_done : sent.Lists means told listing_of pages lines old new → SendsListing means told old new Done
    listing_done lists = record {
      ends = λ table held. inl refl;
      whole = λ is link table held. lists.gained table held link;
      moments = λ link table held. lists.runs.moments table held link;
      writes = writes_of lists.runs;
    }

    pub caused_done : sent.Lists means told listing_of pages lines old new → IsCaused means old new Done
    caused_done lists = caused_none old new Done (λ is. cc) (λ is. cc) (λ block page kept found is. cc) lists.no_flash_fault lists.no_link_fault

    -- it ended early
    pub listing_broken : (fault : ListingFault) → sent.Breaks means told listing_of pages lines fault old new → SendsListing means told old new (ending_by fault)
    listing_broken fault breaks = record {
      ends = λ table held. inr (by fault (breaks.no_mismatch table held));
      whole = λ is. absurd (undone fault is);
      moments = λ link table held. breaks.runs.moments table held link;
      writes = writes_of breaks.runs;
    }
      where
        by : (fault : ListingFault) → IsNoMismatch fault → (ending_by fault ≡ FlashFault) ⊎ (ending_by fault ≡ LinkFault) ⊎ (ending_by fault ≡ NoMemory)
        by faults.Flash none = inl refl
        by faults.Link none = inr (inl refl)
        by (faults.Mismatch block page kept found) none = absurd none

        undone : (fault : ListingFault) → ending_by fault ≡ Done → ⊥
        undone faults.Flash is = cc
        undone faults.Link is = cc
        undone (faults.Mismatch block page kept found) is = cc

    pub caused_broken : (vault : InMemory) (fault : ListingFault) → sent.Breaks means told listing_of pages lines fault old new → TellsDifference vault fault
        → (TellsFlash means old → (table : Table) × told table) → IsCaused means old new (ending_by fault)
    caused_broken vault faults.Flash breaks differs held = caused_flash old new breaks.cause.0 breaks.cause.1
    caused_broken vault faults.Link breaks differs held = record {
      flash = λ is. absurd cc;
      link = λ is. breaks.cause.0;
      mismatch = λ block page kept found is. absurd cc;
      flash_kept = λ other. breaks.cause.1;
      link_kept = λ other. absurd (other refl);
    }
    caused_broken vault (faults.Mismatch block page kept found) breaks differs held = record {
      flash = λ is. absurd cc;
      link = λ is. absurd cc;
      mismatch = λ block' page' kept' found' is. (λ equal. differ kept' found' is equal, λ flash. breaks.no_mismatch (held flash).0 (held flash).1);
      flash_kept = λ other. breaks.cause.0;
      link_kept = λ other. breaks.cause.1;
    }
      where
        differ : {block' page' : ℕ} (kept' found' : ℕ) → Mismatch block page kept found ≡ Mismatch block' page' kept' found' → kept' ≡ found' → ⊥
        differ kept' found' is equal =
            let same_kept : kept ≡ kept' = cc in
            let same_found : found ≡ found' = cc in
            differs.1 (same_kept ∙ equal ∙ sym same_found)

  pub broken_listed : (fault : ListingFault) → IsListed (ending_by fault)
  broken_listed faults.Flash = tt
  broken_listed faults.Link = tt
  broken_listed (faults.Mismatch block page kept found) = tt

  module _ (old mid : B) (quiet : IsQuiet means old mid) (laws : BoardLaws means old) where
    -- a listing behind a quiet run
    listing_since : (told then : Table → Type 0) (new : B) (ending : Ending) → ((table : Table) → told table → then table)
        → SendsListing means then mid new ending → SendsListing means told old new ending
    listing_since told then new ending on lists = record {
      ends = λ table held. lists.ends table (on table held);
      whole = λ is link table held. lists.whole is (links_too quiet.same link) table (on table held) ∙ ap (λ (octets : List ℕ). octets ++ listing_of table) (still link);
      moments = λ link table held. runs.goes_on means old mid new _ _ (front_of_none old mid (listing_of table) (quiet.sends.unsent link))
          (lists.moments (links_too quiet.same link) table (on table held))
          (λ octets gains. subst (λ (before : List ℕ). GainsFront before (listing_of table) octets) (still link) gains);
      writes = writes_quiet means old mid quiet laws new lists.writes;
    }
      where
        still : TellsLink means old → means.sent mid (means.moment mid) ≡ means.sent old (means.moment old)
        still link =
            let none = quiet.sends.unsent link in
            none.each (means.moment mid) none.later (omega arith)

    -- what the flash holds is listed

    pub lists_since : (new : B) (ending : Ending) → Lists means mid new ending → Lists means old new ending
    lists_since new ending lists = record {
      listing = listing_since _ _ new ending (λ table held. (tells_too quiet.same held.0, held_on means old mid quiet laws held.0 table held.1)) lists.listing;
      unheld = λ told none.
          let unheld = lists.unheld (tells_too quiet.same told) (none_on means old mid quiet laws told none) in
          (unheld.0, sends_quiet means old mid quiet laws new unheld.1);
      refused = λ is.
          let refused = lists.refused is in
          (sends_quiet means old mid quiet laws new refused.0, λ told. none_before means old mid quiet laws told (refused.1 (tells_too quiet.same told)));
    }

    pub lists_opened : (new : B) (ending : Ending) (vault : InMemory) → (TellsFlash means old → AllFirm (means.flash old)) → vault.blocks ≡ (means.device old).blocks
        → (TellsFlash means old → (table : Table) × (table_of (means.device old).blocks (means.flash old).content ≡ Some table))
        → (TellsFlash means old → AllFirm (means.flash old) → (table : Table) × StandsFor vault (means.flash mid) table)
        → IsListed ending → SendsListing means (ToldTable means vault mid) mid new ending → Lists means old new ending
    lists_opened new ending vault firm many holds stands listed lists = record {
      listing = listing_since _ _ new ending (λ table held. (tells_too quiet.same held.0, stands_on means old mid quiet laws vault many held.0 (stands held.0 (firm held.0)) table held.1)) lists;
      unheld = λ told none. absurd (not_none (holds told).0 (sym (holds told).1 ∙ none));
      refused = λ is. absurd (listed_held ending listed is);
    }

  -- no table was opened
  pub lists_early : (old mid : B) (quiet : IsQuiet means old mid) (ending : Ending) → ((ending ≡ NotHeld) ⊎ (ending ≡ FlashFault) ⊎ (ending ≡ NoMemory))
      → (ending ≡ NotHeld → TellsFlash means old → HeldNone means old) → Lists means old mid ending
  lists_early old mid quiet ending refusal none = record {
    listing = listing_none _ old mid ending (undone refusal) quiet.writes quiet.sends (λ table held. ends refusal table held);
    unheld = λ told unheld. (refusal, quiet.sends);
    refused = λ is. (quiet.sends, none is);
  }
    where
      undone : ((ending ≡ NotHeld) ⊎ (ending ≡ FlashFault) ⊎ (ending ≡ NoMemory)) → ending ≡ Done → ⊥
      undone (inl is) done = cc
      undone (inr (inl is)) done = cc
      undone (inr (inr is)) done = cc

      ends : ((ending ≡ NotHeld) ⊎ (ending ≡ FlashFault) ⊎ (ending ≡ NoMemory)) → (table : Table) → TellsFlash means old × Held means old table
          → (ending ≡ FlashFault) ⊎ (ending ≡ LinkFault) ⊎ (ending ≡ NoMemory)
      ends (inl is) table held = absurd (not_none table (sym held.1 ∙ none is held.0))
      ends (inr (inl is)) table held = inl is
      ends (inr (inr is)) table held = inr (inr is)
