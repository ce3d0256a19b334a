-- What a session prints of its text.
use Rattle.std.specs.Prelude.{◌≡◌, ◌⊎◌, ◌++◌, ℕ, List, [], length, Option, Some, None, ⊤}
use Rattle.std.specs.Io.KnownBytes.{Appends}
use Rattle.board.specs.Moments.{IsPrefixOf}
use Rattle.station.specs.declared.ending.Ending.{Ending}
use Rattle.station.specs.declared.ending.Ending.TheVariants.{BadLine, BadWords, Done, FlashFault, LinkFault, NoMemory, NotHeld, SourceFault}
use Rattle.station.specs.declared.tally.Tally.{Tally}
use Rattle.station.specs.Summary.{summary_line}
use Rattle.station.specs.Tallies.{IsTallyOf}
use Rattle.station.specs.Reading.{Reads, read_of, taken_of, text_limit, whole_read}
use Rattle.pst_model.specs.Command.{Command}
use Rattle.pst_model.specs.Run.{lines_of, run}
use Rattle.pst_model.specs.Table.{after_format}
use Rattle.pst_model.specs.Text.{bad_read, commands_of, first_bad}
use Rattle.turn_laws.specs.Turns.{outputs_of}

-- the lines for commands on the table after a format, on a device of this many blocks
abbrev pub lines_for : (blocks : ℕ) → List Command → List ℕ
lines_for blocks commands = lines_of (run blocks after_format commands).outputs

-- The writer gained a prefix of the lines for the commands read, if these octets of the text are left.
pub record PrintsFront (blocks : ℕ) (text : List ℕ) (before after : Option (List ℕ)) : Type 0 where
  pub left : List ℕ
  pub taken : text ≡ taken_of text left ++ left
  pub front : List ℕ
  pub prefix : IsPrefixOf front (lines_for blocks (read_of text left))
  pub printed : Appends before after front

-- The flash failed at a command, or before the first one, and the writer gained all lines for the
-- commands before it.
pub record PrintsDone (blocks : ℕ) (text : List ℕ) (before after : Option (List ℕ)) : Type 0 where
  pub left : List ℕ
  pub taken : text ≡ taken_of text left ++ left
  pub done : List Command
  pub others : List Command
  pub read : done ++ others ≡ read_of text left
  pub printed : Appends before after (lines_for blocks done)

-- The source failed, and the writer gained all lines for the commands of the whole lines that were
-- taken.
pub record PrintsRead (blocks : ℕ) (text : List ℕ) (before after : Option (List ℕ)) : Type 0 where
  pub left : List ℕ
  pub taken : text ≡ taken_of text left ++ left
  pub none_bad : bad_read text_limit (taken_of text left) ≡ None
  pub printed : Appends before after (lines_for blocks (whole_read text left))

-- What the ending of a session on the table after a format says of its text, and of what its writer
-- gained: all lines for the text, those for the commands before its first bad line, or those for the
-- commands carried out; a prefix of these if memory was missing. At LinkFault the writer may hold
-- anything.
abbrev pub EndsPrinting : (blocks : ℕ) → (text : List ℕ) → (before after : Option (List ℕ)) → Ending
    → Type 0
EndsPrinting blocks text before after Done = (first_bad text_limit text ≡ None)
    × Appends before after (lines_for blocks (commands_of text_limit text))
EndsPrinting blocks text before after (BadLine line why) =
    (first_bad text_limit text ≡ Some (line, why))
    × Appends before after (lines_for blocks (commands_of text_limit text))
EndsPrinting blocks text before after SourceFault = PrintsRead blocks text before after
EndsPrinting blocks text before after NoMemory = PrintsFront blocks text before after
EndsPrinting blocks text before after FlashFault = PrintsDone blocks text before after
EndsPrinting blocks text before after LinkFault = ⊤
EndsPrinting blocks text before after _ = ⊥

-- Sessions that print nothing. At LinkFault it is the writer that failed, and it may hold anything.

-- a format
abbrev pub EndsFormat : (before after : Option (List ℕ)) → Ending → Type 0
EndsFormat before after Done = Appends before after []
EndsFormat before after FlashFault = Appends before after []
EndsFormat before after NoMemory = Appends before after []
EndsFormat before after LinkFault = ⊤
EndsFormat before after _ = ⊥

-- Generated traffic: at Done its line, with the numbers of these commands on the table after a format; a
-- prefix of some line if memory was missing.

pub record PrintsSummary (blocks : ℕ) (commands : List Command) (before after : Option (List ℕ))
    : Type 0 where
  pub tally : Tally
  pub counted : IsTallyOf (length commands) (outputs_of blocks after_format commands) tally
  pub printed : Appends before after (summary_line tally)

pub record PrintsPart (before after : Option (List ℕ)) : Type 0 where
  pub tally : Tally
  pub front : List ℕ
  pub prefix : IsPrefixOf front (summary_line tally)
  pub printed : Appends before after front

abbrev pub EndsGenerate : (blocks : ℕ) → List Command → (before after : Option (List ℕ)) → Ending
    → Type 0
EndsGenerate blocks commands before after Done = PrintsSummary blocks commands before after
EndsGenerate blocks commands before after FlashFault = Appends before after []
EndsGenerate blocks commands before after NoMemory = PrintsPart before after
EndsGenerate blocks commands before after LinkFault = ⊤
EndsGenerate blocks commands before after _ = ⊥

-- a session on a device that holds no table
abbrev pub EndsUnheld : (before after : Option (List ℕ)) → Ending → Type 0
EndsUnheld before after NotHeld = Appends before after []
EndsUnheld before after FlashFault = Appends before after []
EndsUnheld before after NoMemory = Appends before after []
EndsUnheld before after LinkFault = ⊤
EndsUnheld before after _ = ⊥

-- words that are not known
abbrev pub EndsRefused : (before after : Option (List ℕ)) → Ending → Type 0
EndsRefused before after BadWords = Appends before after []
EndsRefused before after NoMemory = Appends before after []
EndsRefused before after LinkFault = ⊤
EndsRefused before after _ = ⊥

-- a call of the device failed
abbrev pub IsOfDevice : Ending → Type 0
IsOfDevice ending = (ending ≡ FlashFault) ⊎ (ending ≡ LinkFault)

-- What a session says of the text that it was to read, whatever is known of its output: what was taken
-- of it, which commands were read and carried out, and what its ending says of that.
pub record EndsTaking (text : List ℕ) (ending : Ending) : Type 0 where
  pub left : List ℕ
  pub taken : text ≡ taken_of text left ++ left
  pub reads : Reads text left ending
