-- What a session does by its word.
use Rattle.std.specs.Prelude.{◌≡◌, ◌≢◌, ◌⊎◌, ◌≤◌, ◌+◌, ◌++◌, ℕ, length, IsTrue, None}
use Rattle.board.specs.Counts.{Rose}
use Rattle.board.specs.Flash.{IsImage}
use Rattle.board.specs.Meaning.{BoardMeaning, SourceMeaning, TellsFlash, TellsLink}
use Rattle.board.specs.Moments.{GainsFront, LeavesOnly, SendsNothing, SendsOnly}
use Rattle.board.specs.Touches.{Touches}
use Rattle.station.specs.declared.ending.Ending.{Ending}
use Rattle.station.specs.declared.ending.Ending.TheVariants.{Done, FlashFault, LinkFault, Mismatch, NoMemory, NotHeld, SourceFault}
use Rattle.station.specs.Session.{Carries, HoldsAll}
use Rattle.image_table.specs.Standing.{HoldsTable}
use Rattle.image_table.specs.Table.{table_of}
use Rattle.meta_journal.specs.Halves.{format_pages}
use Rattle.meta_journal.specs.Standing.{AllFirm}
use Rattle.pst_model.specs.Listing.{listing_of}
use Rattle.pst_model.specs.Table.{Table, after_format}

module _ {B : Type 0} (means : BoardMeaning B) where
  -- what the flash held at first

  abbrev pub Held : B → Table → Type 0
  Held old table = HoldsTable (means.device old).blocks table (means.flash old).content

  abbrev pub HeldNone : B → Type 0
  HeldNone old = table_of (means.device old).blocks (means.flash old).content ≡ None

  -- No page was programmed or erased.
  pub record WritesNothing (old new : B) : Type 0 where
    pub programs : (means.counts new).programs ≡ (means.counts old).programs
    pub erases : (means.counts new).erases ≡ (means.counts old).erases
    pub content : TellsFlash means old → (means.flash new).content ≡ (means.flash old).content
    -- if nothing was loose, the flash is as it was, and so is each image that a stop leaves
    pub flash : TellsFlash means old → AllFirm (means.flash old)
        → means.flash new ≡ means.flash old
    pub leaves : TellsFlash means old → AllFirm (means.flash old)
        → LeavesOnly means old new (IsImage (means.device old).blocks (means.flash old))

  pub record SendsNone (old new : B) : Type 0 where
    pub unsent : TellsLink means old → SendsNothing means old new
    pub uncalled : (means.counts new).sends ≡ (means.counts old).sends

  -- An ending that tells of a failure of the board has its cause, and no such failure is kept quiet.
  pub record IsCaused (old new : B) (ending : Ending) : Type 0 where
    pub flash : ending ≡ FlashFault
        → Rose (means.counts old).flash_faults (means.counts new).flash_faults
    pub link : ending ≡ LinkFault
        → Rose (means.counts old).link_faults (means.counts new).link_faults
    pub mismatch : (block page kept found : ℕ) → ending ≡ Mismatch block page kept found
        → (kept ≢ found) × (TellsFlash means old → ⊥)
    pub flash_kept : ending ≢ FlashFault
        → (means.counts new).flash_faults ≡ (means.counts old).flash_faults
    pub link_kept : ending ≢ LinkFault
        → (means.counts new).link_faults ≡ (means.counts old).link_faults

  -- `format`: the flash holds the table after a format. Only the pages of the roots and of the journal
  -- were touched, by at most 12 programs, 5 erases and 8 barriers, and none was read.
  pub record Formats (old new : B) (ending : Ending) : Type 0 where
    pub ends : (ending ≡ Done) ⊎ (ending ≡ FlashFault)
    pub holds : ending ≡ Done → TellsFlash means old
        → HoldsAll means (means.device old).blocks after_format new
    pub sends : SendsNone old new
    pub touches : Touches means format_pages 12 5 8 old new

  -- The listing of a table was sent, if it is told, and nothing else was done.
  pub record SendsListing (told : Table → Type 0) (old new : B) (ending : Ending) : Type 0 where
    pub ends : (table : Table) → told table
        → (ending ≡ Done) ⊎ (ending ≡ FlashFault) ⊎ (ending ≡ LinkFault) ⊎ (ending ≡ NoMemory)
    pub whole : ending ≡ Done → TellsLink means old → (table : Table) → told table
        → means.sent new (means.moment new)
        ≡ means.sent old (means.moment old) ++ listing_of table
    -- at each moment a prefix of it
    pub moments : TellsLink means old → (table : Table) → told table
        → SendsOnly means old new (GainsFront (means.sent old (means.moment old)) (listing_of table))
    pub writes : WritesNothing old new

  -- `list`: the listing of the table that the flash holds was sent.
  pub record Lists (old new : B) (ending : Ending) : Type 0 where
    pub listing : SendsListing (λ table. TellsFlash means old × Held old table) old new ending
    -- if the flash holds no table, that is said, unless a call failed or there was no memory
    pub unheld : TellsFlash means old → HeldNone old
        → ((ending ≡ NotHeld) ⊎ (ending ≡ FlashFault) ⊎ (ending ≡ NoMemory)) × SendsNone old new
    pub refused : ending ≡ NotHeld
        → SendsNone old new × (TellsFlash means old → HeldNone old)

module _ {B S : Type 0} (means : BoardMeaning B) (input : SourceMeaning S) where
  -- Nothing was written or sent, and nothing was taken of the text.
  pub record Refuses (old new : B) (origin source : S) : Type 0 where
    pub writes : WritesNothing means old new
    pub sends : SendsNone means old new
    pub unread : source ≡ origin

  -- The flash failed before the session began: nothing was sent, and nothing was taken of the text.
  pub record NeverBegan (old new : B) (origin source : S) (ending : Ending) : Type 0 where
    pub failed : ending ≡ FlashFault
    pub sends : SendsNone means old new
    pub unread : source ≡ origin
    pub programs : (means.counts new).programs ≤ (means.counts old).programs + 12

  -- From some moment on it is a session on this table, unless the flash failed before.
  pub data Begins (table : Table) (old new : B) (origin source : S) (ending : Ending) : Type 0 where
    Begun : (start : ℕ) → Carries means input start table old new origin source ending
        → Begins table old new origin source ending
    Unbegun : NeverBegan old new origin source ending
        → Begins table old new origin source ending

  -- `run`: a session on the table that the flash holds.
  pub record Runs (old new : B) (origin source : S) (ending : Ending) : Type 0 where
    -- from the first moment on if nothing is loose then, and else from some moment on
    pub session : TellsFlash means old → AllFirm (means.flash old) → (table : Table)
        → Held means old table
        → Carries means input (means.moment old) table old new origin source ending
    pub loose : TellsFlash means old → (table : Table) → Held means old table
        → Begins table old new origin source ending
    -- if the flash holds no table, that is said, unless a call failed or there was no memory
    pub unheld : TellsFlash means old → HeldNone means old
        → ((ending ≡ NotHeld) ⊎ (ending ≡ FlashFault) ⊎ (ending ≡ NoMemory))
        × Refuses old new origin source
    pub refused : ending ≡ NotHeld
        → Refuses old new origin source × (TellsFlash means old → HeldNone means old)

  -- `fresh`: a session on the table after a format.
  abbrev pub BeginsFresh : (old new : B) (origin source : S) → Ending → Type 0
  BeginsFresh old new origin source ending =
      TellsFlash means old → Begins after_format old new origin source ending

  -- Each ending that tells of a failure has its cause, and no failure is kept quiet.
  pub record HasCauses (old new : B) (origin source : S) (ending : Ending) : Type 0 where
    pub board : IsCaused means old new ending
    pub source_cause : ending ≡ SourceFault → Rose (input.faults origin) (input.faults source)
    pub source_kept : ending ≢ SourceFault → input.faults source ≡ input.faults origin

  -- What no session changes. If the source tells what is left, it was asked at most once for each octet
  -- that it gave, and once more.
  pub record Keeps (old new : B) (origin source : S) : Type 0 where
    pub device : means.device new ≡ means.device old
    pub tells : input.tells source ≡ input.tells origin
    pub takes_from : input.takes origin ≤ input.takes source
    pub takes_to : IsTrue (input.tells origin) → input.takes source + length (input.left source)
        ≤ input.takes origin + length (input.left origin) + 1
