-- What a reader of a text holds, and when that tells what comes next.
use Rattle.std.specs.Prelude.{◌≡◌, ◌⊎◌, ◌+◌, ◌-◌, ◌&&◌, ℕ, Bool, true, false, not, if◌then◌else◌, nat_lt, List, [], ◌∷◌, length, take, drop, IsTrue, Some, None, Ok, Err}
use Rattle.pst_model.specs.declared.faults.LineFault.{LineFault}
use Rattle.pst_model.specs.declared.faults.LineFault.TheVariants.{LongLine, TextLimit}
use Rattle.pst_model.specs.Forms.{Reading}
use Rattle.pst_model.specs.Text.{Line, line_reading, lines_in, size_of}
use Rattle.session_text.specs.Find.{is_past}

pub record Reader : Type 0 where
  -- the octets of the text that are read, at most
  pub limit : ℕ
  -- the octets, and the number, of the lines that were read
  pub place : ℕ
  pub number : ℕ
  -- the octets that were taken from the source and not yet read
  pub pending : List ℕ
  -- whether the source said that the text has ended
  pub closed : Bool
  -- whether there was no error
  pub live : Bool

-- how many more takes may give no octet: the one that tells the end of the text, or that fails
abbrev pub spare : Reader → ℕ
spare reader = if reader.live && not reader.closed then 1 else 0

-- a line that says nothing tells nothing of what comes next
abbrev pub tells_next : Reading → Bool → Bool
tells_next (Ok (Some command)) behind = true
tells_next (Ok None) behind = behind
tells_next (Err why) behind = true

-- Whether lines, the first of which is at this place, tell what comes next, whatever comes behind them: one with its
-- LF says a command or is bad, or the last one without its LF is too long already.
abbrev pub are_decided : (limit place : ℕ) → List Line → Bool
are_decided limit place [] = false
are_decided limit place (line ∷ lines) =
    if line.ended then tells_next (line_reading limit place line) (are_decided limit (place + size_of line) lines)
    else is_past (limit - place) (length line.octets)

-- What is pending tells what comes next, whatever the source has left.
abbrev pub IsDecided : Reader → Type 0
IsDecided reader =
    IsTrue reader.closed ⊎ IsTrue (are_decided reader.limit reader.place (lines_in reader.pending))

-- what the line says that is pending in front, of so many octets, and an LF behind them or none
abbrev pub reading_held : Reader → ℕ → (ended : Bool) → Reading
reading_held reader count ended =
    line_reading reader.limit reader.place (record { octets = take count reader.pending; ended = ended })

-- the fault of a line that is too long, in a text with room for so many octets more
abbrev pub past_fault : (room : ℕ) → LineFault
past_fault room = if nat_lt room 131201 then TextLimit else LongLine

-- the reader behind a line that takes so many octets
abbrev pub moved_on : Reader → ℕ → Reader
moved_on reader size = record reader {
  place = reader.place + size;
  number = reader.number + 1;
  pending = drop size reader.pending;
}
