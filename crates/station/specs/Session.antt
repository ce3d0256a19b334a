-- A session on a table: what a stop leaves at each moment, what was sent, and what its ending says.
use Rattle.std.specs.Prelude.{◌≡◌, ◌≤◌, ◌+◌, ◌++◌, ◌∷◌, [], ℕ, List, length, IsTrue}
use Rattle.board.specs.Counts.{RoseBy}
use Rattle.board.specs.Flash.{IsImage}
use Rattle.board.specs.Meaning.{BoardMeaning, SourceMeaning, TellsLink}
use Rattle.board.specs.Moments.{GainsFront, SendsOnly}
use Rattle.station.specs.declared.ending.Ending.{Ending}
use Rattle.station.specs.declared.ending.Ending.TheVariants.{BadLine, BadWords, Done, FlashFault, LinkFault, Mismatch, NoMemory, NotHeld, SourceFault}
use Rattle.station.specs.Reading.{EndsReading, HasNext, read_of}
use Rattle.station.specs.Retrieving.{RetrievesInOrder}
use Rattle.station.specs.Turns.{HoldsPrefix, InTurn}
use Rattle.image_table.specs.Standing.{HoldsEitherTable, HoldsTable}
use Rattle.pst_model.specs.Command.{Command}
use Rattle.pst_model.specs.Rules.{Output}
use Rattle.pst_model.specs.Run.{lines_of, run, step}
use Rattle.pst_model.specs.Table.{Table}
use Rattle.turn_laws.specs.Turns.{outputs_of, table_after}

module _ {B : Type 0} (means : BoardMeaning B) where
  -- Each image that a stop leaves of this board now has P.
  abbrev pub LeavesNow : B → ((ℕ → List ℕ) → Type 0) → Type 0
  LeavesNow board P = (image : ℕ → List ℕ) → means.images board (means.moment board) image → P image

  -- What the flash of a board holds is this table, and so does each image that a stop leaves of it, now
  -- or later as long as the flash stays as it is.
  pub record HoldsAll (blocks : ℕ) (table : Table) (board : B) : Type 0 where
    pub content : HoldsTable blocks table (means.flash board).content
    pub leaves : LeavesNow board (HoldsTable blocks table)
    pub later : (image : ℕ → List ℕ) → IsImage blocks (means.flash board) image
        → HoldsTable blocks table image

  -- All lines of the outputs were sent, and nothing else, each by a call of its own.
  pub record SendsAll (old new : B) (outputs : List Output) : Type 0 where
    pub octets : TellsLink means old → means.sent new (means.moment new)
        ≡ means.sent old (means.moment old) ++ lines_of outputs
    pub least : RoseBy (length outputs) (means.counts old).sends (means.counts new).sends
    pub most : (means.counts new).sends ≤ (means.counts old).sends + length outputs

  -- All lines of the first outputs were sent, and a prefix of those of the next ones, by at most a call
  -- for each.
  pub record BreaksWithin (old new : B) (first next : List Output) : Type 0 where
    pub octets : TellsLink means old → GainsFront
        (means.sent old (means.moment old) ++ lines_of first) (lines_of next)
        (means.sent new (means.moment new))
    pub most : (means.counts new).sends
        ≤ (means.counts old).sends + (length first + length next)

  -- Which table is held at an ending: the one after the commands carried out. If the link failed, it
  -- is the one after the next command too. If the flash failed, or differed, it may be that one.
  abbrev pub EndsHolding : (blocks : ℕ) → Table → (done others : List Command) → (new : B) → Ending
      → Type 0
  EndsHolding blocks table done others new Done = HoldsAll blocks (run blocks table done).table new
  EndsHolding blocks table done others new (BadLine line why) =
      HoldsAll blocks (run blocks table done).table new
  EndsHolding blocks table done others new SourceFault =
      HoldsAll blocks (run blocks table done).table new
  EndsHolding blocks table done others new NoMemory =
      HoldsAll blocks (run blocks table done).table new
  EndsHolding blocks table done others new LinkFault = LeavesNow new
      (HoldsTable blocks (table_after blocks table (done ++ others) (length done + 1)))
  EndsHolding blocks table done others new FlashFault = LeavesNow new
      (HoldsEitherTable blocks (run blocks table done).table
      (table_after blocks table (done ++ others) (length done + 1)))
  EndsHolding blocks table done others new (Mismatch block page kept found) = ⊥
  EndsHolding blocks table done others new NotHeld = ⊥
  EndsHolding blocks table done others new BadWords = ⊥

  -- what goes out for the command behind those carried out
  abbrev pub next_outputs : (blocks : ℕ) → Table → (done others : List Command) → List Output
  next_outputs blocks table done [] = []
  next_outputs blocks table done (command ∷ others) =
      (step blocks (length done + 1) command (run blocks table done).table).outputs

  -- What was sent at an ending: all lines for the commands carried out. If the link failed, it failed
  -- within those for the next command.
  abbrev pub EndsSending : (blocks : ℕ) → Table → (done others : List Command) → (old new : B)
      → Ending → Type 0
  EndsSending blocks table done others old new LinkFault = BreaksWithin old new
      (outputs_of blocks table done) (next_outputs blocks table done others)
  EndsSending blocks table done others old new ending =
      SendsAll old new (outputs_of blocks table done)

module _ {B S : Type 0} (means : BoardMeaning B) (input : SourceMeaning S) where
  -- A session on this table, of a board that tells its flash. What it says of images holds from this
  -- moment on.
  pub record Carries (start : ℕ) (table : Table) (old new : B) (origin source : S) (ending : Ending)
      : Type 0 where
    -- the commands that were carried out, and the others that were read
    pub done : List Command
    pub others : List Command
    pub read : IsTrue (input.tells origin)
        → done ++ others ≡ read_of (input.left origin) (input.left source)
    pub reading : IsTrue (input.tells origin)
        → EndsReading (input.left origin) (input.left source) done ending
    -- if the link failed, it was within a command
    pub broken : ending ≡ LinkFault → HasNext others
    -- at each moment a prefix of their lines had been sent
    pub moments : TellsLink means old → SendsOnly means old new
        (GainsFront (means.sent old (means.moment old))
        (lines_of (outputs_of (means.device old).blocks table (done ++ others))))
    pub begun : means.moment old ≤ start
    pub reached : start ≤ means.moment new
    -- up to the moment nothing was sent
    pub unsent : TellsLink means old → (t : ℕ) → means.moment old ≤ t → t ≤ start
        → means.sent new t ≡ means.sent old (means.moment old)
    -- at each moment from then on, each image goes with what had been sent by then
    pub in_turn : TellsLink means old → (t : ℕ) (image : ℕ → List ℕ) → start ≤ t
        → t ≤ means.moment new → means.images new t image
        → InTurn (means.device old).blocks table (done ++ others)
        (means.sent old (means.moment old)) (means.sent new t) image
    -- if the link is not told, each image holds the table after a prefix of the commands
    pub prefix : (t : ℕ) (image : ℕ → List ℕ) → start ≤ t → t ≤ means.moment new
        → means.images new t image
        → HoldsPrefix (means.device old).blocks table (done ++ others) image
    pub holding : EndsHolding means (means.device old).blocks table done others new ending
    pub sending : EndsSending means (means.device old).blocks table done others old new ending
    -- what the retrievals among these lines are
    pub retrieval : RetrievesInOrder (means.device old).blocks table (done ++ others)
