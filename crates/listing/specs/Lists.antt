-- What a run of sends of a listing's lines does, with the reads between them.
use Rattle.std.specs.Prelude.{◌≡◌, ◌≤◌, ℕ, ◌+◌, ◌++◌, List}
use Rattle.board.specs.Counts.{Counts, RoseBy}
use Rattle.board.specs.Meaning.{BoardMeaning, TellsFlash, TellsLink}
use Rattle.board.specs.Moments.{GainsFront, SendsOnly}
use Rattle.board.specs.Reads.{FlashStays}
use Rattle.listing.specs.Faults.{IsCauseOf, IsNoMismatch}
use Rattle.listing.specs.declared.fault.ListingFault.{ListingFault}
use Rattle.pst_model.specs.Table.{Table}
use Rattle.vault.specs.Memory.{InMemory}
use Rattle.vault.specs.Standing.{StandsFor}

-- At most so many pages were read and so many lines sent, and nothing else was done.
pub record ReadsAndSends (pages lines : ℕ) (old new : Counts) : Type 0 where
  pub flash_faults : old.flash_faults ≤ new.flash_faults
  pub link_faults : old.link_faults ≤ new.link_faults
  pub reads_from : old.reads ≤ new.reads
  pub reads_to : new.reads ≤ old.reads + pages
  pub programs : new.programs ≡ old.programs
  pub erases : new.erases ≡ old.erases
  pub barriers : new.barriers ≡ old.barriers
  pub sends_from : old.sends ≤ new.sends
  pub sends_to : new.sends ≤ old.sends + lines

module _ {B : Type 0} (means : BoardMeaning B) where
  -- the flash is told, and the vault stands for the table in it
  abbrev pub ToldTable : InMemory → B → Table → Type 0
  ToldTable vault board table =
      TellsFlash means board × StandsFor vault (means.flash board) table

  -- A prefix of the text was sent. If the table is told, the text is that of the table; else it is
  -- not said. The flash is as it was.
  pub record Runs (told : Table → Type 0) (text : Table → List ℕ) (pages lines : ℕ) (old new : B)
      : Type 0 where
    pub moments : (table : Table) → told table → TellsLink means old
        → SendsOnly means old new (GainsFront (means.sent old (means.moment old)) (text table))
    pub stays : TellsFlash means old → FlashStays means old new
    pub same : means.device new ≡ means.device old
    pub work : ReadsAndSends pages lines (means.counts old) (means.counts new)

  -- The whole text was sent, one line a call, and nothing failed.
  pub record Lists (told : Table → Type 0) (text : Table → List ℕ) (pages lines : ℕ) (old new : B)
      : Type 0 where
    pub runs : Runs told text pages lines old new
    pub gained : (table : Table) → told table → TellsLink means old
        → means.sent new (means.moment new) ≡ means.sent old (means.moment old) ++ text table
    pub calls : RoseBy lines (means.counts old).sends (means.counts new).sends
    pub no_flash_fault : (means.counts new).flash_faults ≡ (means.counts old).flash_faults
    pub no_link_fault : (means.counts new).link_faults ≡ (means.counts old).link_faults

  -- The listing ended early, by this fault. A mismatch does not come if the table is told.
  pub record Breaks (told : Table → Type 0) (text : Table → List ℕ) (pages lines : ℕ)
      (fault : ListingFault) (old new : B) : Type 0 where
    pub runs : Runs told text pages lines old new
    pub cause : IsCauseOf fault (means.counts old) (means.counts new)
    pub no_mismatch : (table : Table) → told table → IsNoMismatch fault
