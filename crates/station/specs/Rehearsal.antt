-- What a session in memory does, with no premise left.
use Rattle.std.specs.Prelude.{◌≡◌, ◌⊎◌, ◌/◌, ℕ, false, List, length, None}
use Rattle.board.specs.declared.memory.MemBoard.{MemBoard}
use Rattle.board.specs.declared.memory_source.MemSource.{MemSource}
use Rattle.board.specs.Memory.{IsNewBoard, counts_of, memory_means, moment_of, pages_in}
use Rattle.board.specs.MemorySource.{IsNewSource, faults_of, text_means}
use Rattle.station.specs.declared.ending.Ending.{Ending}
use Rattle.station.specs.declared.ending.Ending.TheVariants.{BadWords, FlashFault, NoMemory, NotHeld}
use Rattle.station.specs.Generating.{Generates}
use Rattle.station.specs.Reading.{EndsAsTold}
use Rattle.station.specs.Session.{Carries}
use Rattle.station.specs.Station.{Begins, Formats, Refuses, SendsListing}
use Rattle.image_table.specs.Standing.{HoldsTable}
use Rattle.image_table.specs.Table.{table_of}
use Rattle.pst_model.specs.Table.{Table, after_format}
use Rattle.traffic_gen.specs.Traffic.{traffic_of}

-- the blocks of a device of this image
abbrev pub blocks_in : List ℕ → ℕ
blocks_in image = length image / 65536

-- the image holds this table, or none

abbrev pub IsTableIn : (image : List ℕ) → Table → Type 0
IsTableIn image table = HoldsTable (blocks_in image) table (pages_in image)

abbrev pub IsWithoutTable : (image : List ℕ) → Type 0
IsWithoutTable image = table_of (blocks_in image) (pages_in image) ≡ None

-- A device of this image, and this text, as they were before the session.
pub record Begin (image text : List ℕ) : Type 0 where
  pub board : MemBoard
  pub source : MemSource
  pub made : IsNewBoard (blocks_in image) (pages_in image) false board
  pub given : IsNewSource text source

-- no call has failed
pub record NoneFailed (board : MemBoard) (source : MemSource) : Type 0 where
  pub flash : (counts_of board).flash_faults ≡ 0
  pub link : (counts_of board).link_faults ≡ 0
  pub text : faults_of source ≡ 0

-- `run`: from its begin on it was a session on the table that the image holds.
pub record RehearsedRun (image text : List ℕ) (ending : Ending) (board : MemBoard) (source : MemSource)
    : Type 0 where
  pub begin : Begin image text
  pub session : (table : Table) → IsTableIn image table → Carries memory_means text_means
      (moment_of begin.board) table begin.board board begin.source source ending
  pub unheld : IsWithoutTable image
      → ((ending ≡ NotHeld) ⊎ (ending ≡ FlashFault) ⊎ (ending ≡ NoMemory))
      × Refuses memory_means text_means begin.board board begin.source source
  pub complete : (table : Table) → IsTableIn image table → NoneFailed board source
      → EndsAsTold text ending

-- `fresh`: it was a session on the table after a format.
pub record RehearsedFresh (image text : List ℕ) (ending : Ending) (board : MemBoard)
    (source : MemSource) : Type 0 where
  pub begin : Begin image text
  pub session : Begins memory_means text_means after_format begin.board board begin.source source ending
  pub complete : NoneFailed board source → EndsAsTold text ending

-- `format`: the flash holds the table after a format, and the text is as it was.
pub record RehearsedFormat (image text : List ℕ) (ending : Ending) (board : MemBoard)
    (source : MemSource) : Type 0 where
  pub begin : Begin image text
  pub formats : Formats memory_means begin.board board ending
  pub unread : source ≡ begin.source

-- `list`: the listing of the table that the image holds was sent, and the text is as it was.
pub record RehearsedList (image text : List ℕ) (ending : Ending) (board : MemBoard)
    (source : MemSource) : Type 0 where
  pub begin : Begin image text
  pub listing : SendsListing memory_means (IsTableIn image) begin.board board ending
  pub unread : source ≡ begin.source

-- `generate`: the traffic was carried out on the table after a format, and the text is as it was.
pub record RehearsedGenerate (number count : ℕ) (image text : List ℕ) (ending : Ending)
    (board : MemBoard) (source : MemSource) : Type 0 where
  pub begin : Begin image text
  pub generates : Generates memory_means (traffic_of number count) begin.board board ending
  pub unread : source ≡ begin.source

-- other words: nothing was done
pub record RehearsedNone (image text : List ℕ) (ending : Ending) (board : MemBoard)
    (source : MemSource) : Type 0 where
  pub refused : ending ≡ BadWords
  pub unused : IsNewBoard (blocks_in image) (pages_in image) false board
  pub whole : IsNewSource text source
