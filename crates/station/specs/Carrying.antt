-- A text that is carried out on an open vault: what holds between two commands, and at an ending.
use Rattle.std.specs.Prelude.{◌≡◌, ◌≢◌, ◌≤◌, ◌+◌, ◌++◌, true, List, length, IsTrue}
use Rattle.board.specs.Meaning.{BoardMeaning, SourceMeaning, TellsFlash, TellsLink}
use Rattle.board.specs.Moments.{GainsFront, LeavesOnly, SendsOnly, Shows}
use Rattle.station.specs.declared.ending.Ending.{Ending}
use Rattle.station.specs.declared.ending.Ending.TheVariants.{BadWords, Done, LinkFault, NotHeld}
use Rattle.station.specs.declared.tally.Tally.{Tally}
use Rattle.station.specs.Reading.{EndsReading, HasNext, read_of, taken_of, text_limit}
use Rattle.station.specs.Retrieving.{RetrievesInOrder}
use Rattle.station.specs.Session.{EndsHolding, EndsSending, LeavesNow, SendsAll}
use Rattle.station.specs.Station.{HasCauses, Keeps}
use Rattle.station.specs.Tallies.{IsTallyOf}
use Rattle.station.specs.Turns.{HoldsPrefix, InTurn}
use Rattle.station.specs.Working.{ArePlain, NoneIsStale, Worked, WorksFor}
use Rattle.image_table.specs.Standing.{HoldsTable}
use Rattle.pst_model.specs.Command.{Command}
use Rattle.pst_model.specs.Run.{lines_of, run}
use Rattle.pst_model.specs.Table.{Table}
use Rattle.session_text.specs.Progress.{HasRead}
use Rattle.session_text.specs.Reader.{Reader, spare}
use Rattle.turn_laws.specs.Turns.{outputs_of}
use Rattle.vault.specs.Memory.{InMemory, IsSound}
use Rattle.vault.specs.Standing.{StandsFor}

module _ {B : Type 0} (means : BoardMeaning B) where
  -- Since the first board, whose flash held this table, these commands were carried out.
  pub record OnTable (first board : B) (table : Table) (vault : InMemory) (done : List Command)
      : Type 0 where
    pub stands : StandsFor vault (means.flash board)
        (run (means.device first).blocks table done).table
    pub leaves : LeavesNow means board (HoldsTable (means.device first).blocks
        (run (means.device first).blocks table done).table)
    pub sends : SendsAll means first board (outputs_of (means.device first).blocks table done)
    pub moments : TellsLink means first → SendsOnly means first board
        (GainsFront (means.sent first (means.moment first))
        (lines_of (outputs_of (means.device first).blocks table done)))
    pub in_turn : TellsLink means first → Shows means first board
        (InTurn (means.device first).blocks table done (means.sent first (means.moment first)))
    pub prefix : LeavesOnly means first board
        (HoldsPrefix (means.device first).blocks table done)

  -- They were carried out by this ending, and the others were read.
  pub record EndsOnTable (first board : B) (table : Table) (done others : List Command)
      (ending : Ending) : Type 0 where
    pub moments : TellsLink means first → SendsOnly means first board
        (GainsFront (means.sent first (means.moment first))
        (lines_of (outputs_of (means.device first).blocks table (done ++ others))))
    pub in_turn : TellsLink means first → Shows means first board
        (InTurn (means.device first).blocks table (done ++ others)
        (means.sent first (means.moment first)))
    pub prefix : LeavesOnly means first board
        (HoldsPrefix (means.device first).blocks table (done ++ others))
    pub holding : EndsHolding means (means.device first).blocks table done others board ending
    pub sending : EndsSending means (means.device first).blocks table done others first board ending
    pub retrieval : RetrievesInOrder (means.device first).blocks table (done ++ others)

module _ {B S : Type 0} (means : BoardMeaning B) (input : SourceMeaning S) where
  -- Since the first board and source, these commands were carried out, and no others were read. If the
  -- flash is told, the vault `begun` stood for a table then, and `vault` stands for one now.
  pub record Carried (first board : B) (origin source : S) (begun : InMemory) (reader : Reader)
      (vault : InMemory) (tally : Tally) : Type 0 where
    pub done : List Command
    pub sound : IsSound begun
    pub live : reader.live ≡ true
    pub limit : reader.limit ≡ text_limit
    pub read : IsTrue (input.tells origin)
        → HasRead (input.left origin) done reader (input.left source)
    pub tells : input.tells source ≡ input.tells origin
    pub source_faults : input.faults source ≡ input.faults origin
    pub takes_from : input.takes origin ≤ input.takes source
    pub takes_to : IsTrue (input.tells origin)
        → input.takes source + length (input.left source) + spare reader
        ≤ input.takes origin + length (input.left origin) + 1
    pub device : means.device board ≡ means.device first
    pub flash_faults : (means.counts board).flash_faults ≡ (means.counts first).flash_faults
    pub link_faults : (means.counts board).link_faults ≡ (means.counts first).link_faults
    pub on_table : TellsFlash means first → (table : Table)
        → StandsFor begun (means.flash first) table → OnTable means first board table vault done
    pub counted : TellsFlash means first → (table : Table)
        → StandsFor begun (means.flash first) table
        → IsTallyOf (length done) (outputs_of (means.device first).blocks table done) tally
    -- if no last block was stale then, and they are arrivals, grants and idle times
    pub work : TellsFlash means first → (table : Table)
        → StandsFor begun (means.flash first) table → NoneIsStale begun → ArePlain done
        → Worked (means.device first).blocks table done vault (means.counts first)
        (means.counts board)

  -- A session that began with the first board and source ended so with the others.
  pub record Ended (first board : B) (origin source : S) (begun : InMemory) (ending : Ending)
      (tally : Tally) : Type 0 where
    pub known : ending ≢ BadWords
    pub held : ending ≢ NotHeld
    pub done : List Command
    pub others : List Command
    pub read : IsTrue (input.tells origin)
        → done ++ others ≡ read_of (input.left origin) (input.left source)
    pub reading : IsTrue (input.tells origin)
        → EndsReading (input.left origin) (input.left source) done ending
    -- if the link failed, it was within a command
    pub broken : ending ≡ LinkFault → HasNext others
    pub taken : IsTrue (input.tells origin) → input.left origin
        ≡ taken_of (input.left origin) (input.left source) ++ input.left source
    pub causes : HasCauses means input first board origin source ending
    pub keeps : Keeps means input first board origin source
    pub on_table : TellsFlash means first → (table : Table)
        → StandsFor begun (means.flash first) table
        → EndsOnTable means first board table done others ending
    pub counted : TellsFlash means first → (table : Table)
        → StandsFor begun (means.flash first) table
        → IsTallyOf (length done) (outputs_of (means.device first).blocks table done) tally
    pub work : ending ≡ Done → TellsFlash means first → (table : Table)
        → StandsFor begun (means.flash first) table → NoneIsStale begun → ArePlain done
        → WorksFor (means.device first).blocks table done 0 0 (means.counts first)
        (means.counts board)
