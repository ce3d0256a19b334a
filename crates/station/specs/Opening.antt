-- A session that begins on a board of which nothing is loose.
use Rattle.std.specs.Prelude.{◌≡◌, ◌≢◌, ◌⊎◌, ◌*◌, ◌++◌, List, length, IsTrue}
use Rattle.board.specs.Meaning.{BoardMeaning, SourceMeaning, TellsFlash}
use Rattle.station.specs.declared.ending.Ending.{Ending}
use Rattle.station.specs.declared.ending.Ending.TheVariants.{BadWords, Done, FlashFault, LinkFault, NoMemory, NotHeld}
use Rattle.station.specs.Carrying.{EndsOnTable}
use Rattle.station.specs.Reading.{EndsReading, HasNext, read_of, taken_of}
use Rattle.station.specs.Station.{HasCauses, Held, HeldNone, Keeps, Refuses}
use Rattle.station.specs.Tallies.{IsTallyOf}
use Rattle.station.specs.declared.tally.Tally.{Tally}
use Rattle.station.specs.Working.{AreEmpty, ArePlain, WorksFor}
use Rattle.pst_model.specs.Command.{Command}
use Rattle.pst_model.specs.Table.{Table}
use Rattle.turn_laws.specs.Turns.{outputs_of}

module _ {B S : Type 0} (means : BoardMeaning B) (input : SourceMeaning S) where
  -- The table that the flash holds is opened, and the text is carried out on it.
  pub record Opened (old new : B) (origin source : S) (ending : Ending) (tally : Tally) : Type 0 where
    pub known : ending ≢ BadWords
    pub done : List Command
    pub others : List Command
    pub read : IsTrue (input.tells origin)
        → done ++ others ≡ read_of (input.left origin) (input.left source)
    pub reading : IsTrue (input.tells origin)
        → EndsReading (input.left origin) (input.left source) done ending
    -- if the link failed, it was within a command
    pub broken : ending ≡ LinkFault → HasNext others
    pub taken : IsTrue (input.tells origin) → input.left origin
        ≡ taken_of (input.left origin) (input.left source) ++ input.left source
    pub causes : HasCauses means input old new origin source ending
    pub keeps : Keeps means input old new origin source
    pub on_table : TellsFlash means old → (table : Table) → Held means old table
        → EndsOnTable means old new table done others ending
    pub counted : TellsFlash means old → (table : Table) → Held means old table
        → IsTallyOf (length done) (outputs_of (means.device old).blocks table done) tally
    pub work : ending ≡ Done → TellsFlash means old → (table : Table) → Held means old table
        → AreEmpty table.stores → ArePlain done
        → WorksFor (means.device old).blocks table done (512 * (means.device old).blocks) 0
        (means.counts old) (means.counts new)
    -- if the flash holds none, that is said, unless a read failed or there was no memory
    pub unheld : TellsFlash means old → HeldNone means old
        → ((ending ≡ NotHeld) ⊎ (ending ≡ FlashFault) ⊎ (ending ≡ NoMemory))
        × Refuses means input old new origin source
    pub refused : ending ≡ NotHeld
        → Refuses means input old new origin source × (TellsFlash means old → HeldNone means old)
