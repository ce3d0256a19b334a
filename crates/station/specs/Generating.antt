-- Generated traffic: its commands are carried out on the table after a format, and no line but the one
-- that sums it up is sent.
use Rattle.std.specs.Prelude.{◌≡◌, ◌⊎◌, ◌≤◌, ◌+◌, ◌++◌, ⊤, ℕ, List, length}
use Rattle.board.specs.Meaning.{BoardMeaning, TellsFlash, TellsLink}
use Rattle.board.specs.Moments.{GainsFront, LeavesOnly, SendsNothing, SendsOnly}
use Rattle.board.specs.Reads.{FlashStays}
use Rattle.pst_model.specs.Command.{Command}
use Rattle.pst_model.specs.Run.{run}
use Rattle.pst_model.specs.Table.{after_format}
use Rattle.station.specs.declared.ending.Ending.{Ending}
use Rattle.station.specs.declared.ending.Ending.TheVariants.{Done, FlashFault, LinkFault, Mismatch, NoMemory, NotHeld}
use Rattle.station.specs.declared.tally.Tally.{Tally}
use Rattle.station.specs.Session.{HoldsAll}
use Rattle.station.specs.Station.{Held, IsCaused}
use Rattle.station.specs.Summary.{summary_line}
use Rattle.station.specs.Tallies.{IsTallyOf}
use Rattle.station.specs.Turns.{HoldsPrefix}
use Rattle.turn_laws.specs.Turns.{outputs_of}

-- an ending before which no line was to be sent
abbrev pub IsUnsent : Ending → Type 0
IsUnsent ending =
    (ending ≡ FlashFault) ⊎ (ending ≡ NoMemory) ⊎ (ending ≡ NotHeld)
    ⊎ ((block : ℕ) × (page : ℕ) × (kept : ℕ) × (found : ℕ) × (ending ≡ Mismatch block page kept found))

module _ {B : Type 0} (means : BoardMeaning B) where
  -- What was sent on the link, and how often it was called, is as it was.
  pub record LinkStays (old new : B) : Type 0 where
    pub sent : TellsLink means old
        → means.sent new (means.moment new) ≡ means.sent old (means.moment old)
    pub sends : (means.counts new).sends ≡ (means.counts old).sends

  -- Which table is held where traffic ends: at Done the one after all commands; if there was no memory,
  -- the one after a format.
  abbrev pub TrafficHeld : (blocks : ℕ) → List Command → (new : B) → Ending → Type 0
  TrafficHeld blocks commands new Done = HoldsAll means blocks (run blocks after_format commands).table new
  TrafficHeld blocks commands new NoMemory = HoldsAll means blocks after_format new
  TrafficHeld blocks commands new FlashFault = ⊤
  TrafficHeld blocks commands new other = ⊥

  -- Of a board that tells its flash: each image holds the table after a prefix of the commands.
  pub record TrafficOnTable (blocks : ℕ) (commands : List Command) (old new : B) (ending : Ending)
      (tally : Tally) : Type 0 where
    pub prefix : LeavesOnly means old new (HoldsPrefix blocks after_format commands)
    pub held : TrafficHeld blocks commands new ending
    pub counted : ending ≡ Done
        → IsTallyOf (length commands) (outputs_of blocks after_format commands) tally

  -- The commands were carried out by this ending, on the table after a format if the flash held it, and
  -- no line was sent.
  pub record CarriesTraffic (commands : List Command) (old new : B) (ending : Ending) (tally : Tally)
      : Type 0 where
    pub ends : (ending ≡ Done) ⊎ IsUnsent ending
    pub on_table : TellsFlash means old → Held means old after_format
        → TrafficOnTable (means.device old).blocks commands old new ending tally
    pub unsent : LinkStays old new
    pub caused : IsCaused means old new ending
    pub same : means.device new ≡ means.device old

  -- The line of a tally was sent by one call, or a prefix of it.
  pub record SendsSummary (tally : Tally) (old new : B) (ending : Ending) : Type 0 where
    pub ends : (ending ≡ Done) ⊎ (ending ≡ LinkFault)
    pub whole : ending ≡ Done → TellsLink means old → means.sent new (means.moment new)
        ≡ means.sent old (means.moment old) ++ summary_line tally
    pub moments : TellsLink means old → SendsOnly means old new
        (GainsFront (means.sent old (means.moment old)) (summary_line tally))
    pub calls : (means.counts new).sends ≤ (means.counts old).sends + 1
    pub stays : TellsFlash means old → FlashStays means old new
    pub caused : IsCaused means old new ending
    pub same : means.device new ≡ means.device old

  -- what traffic has sent in the end: its line, a prefix of it, or nothing
  abbrev pub SummarySent : Tally → (old new : B) → Ending → Type 0
  SummarySent tally old new Done = means.sent new (means.moment new)
      ≡ means.sent old (means.moment old) ++ summary_line tally
  SummarySent tally old new LinkFault = GainsFront (means.sent old (means.moment old))
      (summary_line tally) (means.sent new (means.moment new))
  SummarySent tally old new other =
      means.sent new (means.moment new) ≡ means.sent old (means.moment old)

  -- Which table is held where the traffic and its line end.
  abbrev pub EndsTraffic : (blocks : ℕ) → List Command → (new : B) → Ending → Type 0
  EndsTraffic blocks commands new LinkFault = TrafficHeld blocks commands new Done
  EndsTraffic blocks commands new ending = TrafficHeld blocks commands new ending

  -- Of a board that tells its flash, from the table after a format on.
  pub record TrafficDone (blocks : ℕ) (commands : List Command) (old new : B) (ending : Ending)
      : Type 0 where
    -- each image holds the table after a prefix of the commands
    pub prefix : LeavesOnly means old new (HoldsPrefix blocks after_format commands)
    pub held : EndsTraffic blocks commands new ending
    -- the line has the numbers of all commands and their outputs
    pub tally : Tally
    pub counted : (ending ≡ Done) ⊎ (ending ≡ LinkFault)
        → IsTallyOf (length commands) (outputs_of blocks after_format commands) tally
    pub sent : TellsLink means old → SummarySent tally old new ending

  -- Traffic on the table that the flash holds.
  pub record TrafficSent (commands : List Command) (old new : B) (ending : Ending) : Type 0 where
    pub on_table : TellsFlash means old → Held means old after_format
        → TrafficDone (means.device old).blocks commands old new ending
    -- at an ending of another kind nothing was sent, by no call
    pub ends : (ending ≡ Done) ⊎ (ending ≡ LinkFault) ⊎ (IsUnsent ending × LinkStays old new)
    pub calls : (means.counts new).sends ≤ (means.counts old).sends + 1
    pub caused : IsCaused means old new ending
    pub same : means.device new ≡ means.device old

  -- The flash failed within the format: nothing was sent.
  pub record FormatFailed (old new : B) (ending : Ending) : Type 0 where
    pub failed : ending ≡ FlashFault
    pub unsent : TellsLink means old → SendsNothing means old new
    pub uncalled : (means.counts new).sends ≡ (means.counts old).sends
    pub programs : (means.counts new).programs ≤ (means.counts old).programs + 12

  -- The board as it was after the format, of which each image holds the table after a format, and which
  -- has sent nothing; and what was done from then on.
  pub record TrafficBegun (commands : List Command) (old new : B) (ending : Ending) : Type 0 where
    pub begun : B
    pub later : means.moment old ≤ means.moment begun
    pub formatted : HoldsAll means (means.device old).blocks after_format begun
    pub unsent : TellsLink means old → SendsNothing means old begun
    pub uncalled : (means.counts begun).sends ≡ (means.counts old).sends
    pub traffic : TrafficDone (means.device old).blocks commands begun new ending

  -- `generate`: these commands were carried out on the table after a format, and their line was sent.
  pub record Generates (commands : List Command) (old new : B) (ending : Ending) : Type 0 where
    pub begins : TellsFlash means old
        → TrafficBegun commands old new ending ⊎ FormatFailed old new ending
    pub ends : (ending ≡ Done) ⊎ (ending ≡ LinkFault) ⊎ (IsUnsent ending
        × ((means.counts new).sends ≡ (means.counts old).sends)
        × (TellsLink means old → means.sent new (means.moment new) ≡ means.sent old (means.moment old)))
    pub calls : (means.counts new).sends ≤ (means.counts old).sends + 1
