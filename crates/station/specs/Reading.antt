-- What a session reads of its text, and what its ending says of that.
use Rattle.std.specs.Prelude.{◌≡◌, ◌⊎◌, ◌-◌, ◌++◌, ⊤, ℕ, true, false, List, [], ◌∷◌, length, take, None, Some, MatchOption}
use Rattle.station.specs.declared.ending.Ending.{Ending}
use Rattle.station.specs.declared.ending.Ending.TheVariants.{BadLine, BadWords, Done, FlashFault, LinkFault, Mismatch, NoMemory, NotHeld, SourceFault}
use Rattle.pst_model.specs.Command.{Command}
use Rattle.pst_model.specs.Text.{bad_read, commands_of, commands_read, first_bad}
use Rattle.session_text.specs.Reader.{Reader}

-- the octets of a text that are taken, at most: 2 ^ 40
abbrev pub text_limit : ℕ
text_limit = 1099511627776

-- the octets that were taken of a text, of which these are left
abbrev pub taken_of : (text left : List ℕ) → List ℕ
taken_of text left = take (length text - length left) text

-- the commands of the lines that were taken with their LF
abbrev pub whole_read : (text left : List ℕ) → List Command
whole_read text left = commands_read text_limit (taken_of text left)

-- The commands read of a text, of which these octets are left: all if nothing is left, since then the
-- last line is whole without an LF, and else those of the lines that were taken with their LF.
abbrev pub read_of : (text left : List ℕ) → List Command
read_of text [] = commands_of text_limit text
read_of text (octet ∷ left) = whole_read text (octet ∷ left)

-- a reader that has read nothing yet
abbrev pub IsStart : Reader → Type 0
IsStart reader = reader ≡ record {
  limit = text_limit;
  place = 0;
  number = 0;
  pending = [];
  closed = false;
  live = true;
}

-- What an ending says of the text, of which these octets are left, and of the commands that were
-- carried out: at Done all, and no line is bad; at BadLine all before the first bad line, which is
-- this one; if the source failed, those of the whole lines that were taken, and none of these is bad;
-- if there was no memory, none, and nothing was taken.
abbrev pub EndsReading : (text left : List ℕ) → (done : List Command) → Ending → Type 0
EndsReading text left done Done =
    (first_bad text_limit text ≡ None) × (left ≡ []) × (done ≡ commands_of text_limit text)
EndsReading text left done (BadLine line why) =
    (first_bad text_limit text ≡ Some (line, why)) × (done ≡ commands_of text_limit text)
EndsReading text left done SourceFault =
    (bad_read text_limit (taken_of text left) ≡ None) × (done ≡ whole_read text left)
EndsReading text left done NoMemory = (done ≡ []) × (left ≡ text)
EndsReading text left done LinkFault = ⊤
EndsReading text left done FlashFault = ⊤
EndsReading text left done (Mismatch block page kept found) = ⊤
EndsReading text left done NotHeld = ⊤
EndsReading text left done BadWords = ⊤

-- a command is left that was not carried out
abbrev pub HasNext : List Command → Type 0
HasNext others = (command : Command) × (rest : List Command) × (others ≡ command ∷ rest)

-- If nothing failed, a session ends as its text says, unless there was no memory.
abbrev pub EndsAsTold : (text : List ℕ) → Ending → Type 0
EndsAsTold text ending = MatchOption (first_bad text_limit text)
    ((ending ≡ Done) ⊎ (ending ≡ NoMemory))
    (λ bad. (ending ≡ BadLine bad.0 bad.1) ⊎ (ending ≡ NoMemory))

-- A session read these commands of its text, and carried out the first ones; its ending says this of
-- the text.
pub record Reads (text left : List ℕ) (ending : Ending) : Type 0 where
  pub done : List Command
  pub others : List Command
  pub read : done ++ others ≡ read_of text left
  pub reading : EndsReading text left done ending
