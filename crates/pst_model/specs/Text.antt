-- A session text: its lines, the commands that they are, and the first bad one.
use Rattle.std.specs.Prelude.{◌≡◌, ◌≢◌, ◌⊎◌, ⊤, ℕ, ◌+◌, ◌==◌, ◌<◌, ◌≤◌, nat_lt, min, Bool, true, false, if◌then◌else◌, List, [], ◌∷◌, ◌++◌, length, filter, Contains, IsTrue, Option, Some, None, Ok, Err}
use Rattle.pst_model.specs.declared.faults.LineFault.{LineFault}
use Rattle.pst_model.specs.declared.faults.LineFault.TheVariants.{TextLimit, LongLine}
use Rattle.pst_model.specs.Command.{Command}
use Rattle.pst_model.specs.Forms.{Reading, reading_of}

-- A line: its octets without the LF, and whether the LF is there. Only the last line may lack it.
pub record Line : Type 0 where
  pub octets : List ℕ
  pub ended : Bool

-- the octets that a line takes of the text
abbrev pub size_of : Line → ℕ
size_of line = length line.octets + (if line.ended then 1 else 0)

-- one octet in front of the first line
abbrev pub in_front : ℕ → List Line → List Line
in_front octet [] = record { octets = octet ∷ []; ended = false } ∷ []
in_front octet (line ∷ lines) = record { octets = octet ∷ line.octets; ended = line.ended } ∷ lines

-- the lines of a text: it is split behind each LF
abbrev pub lines_in : List ℕ → List Line
lines_in [] = []
lines_in (octet ∷ text) =
    if octet == 10 then record { octets = []; ended = true } ∷ lines_in text
    else in_front octet (lines_in text)

-- the text of lines: the octets of each, and an LF behind them where it has one
abbrev pub joined : List Line → List ℕ
joined [] = []
joined (line ∷ lines) = line.octets ++ (if line.ended then 10 ∷ [] else []) ++ joined lines

-- No line has an LF among its octets, and only the last one may lack the LF behind them. That one
-- is not empty.
abbrev pub AreLines : List Line → Type 0
AreLines [] = ⊤
AreLines (line ∷ lines) =
    ¬ (Contains line.octets 10) × (IsTrue line.ended ⊎ ((line.octets ≢ []) × (lines ≡ [])))
    × AreLines lines

-- The text is cut off within a line that begins at this place: among the first 131,201 octets of the
-- line, its LF with them, there is one that is not among the first octets of the text, as many as
-- the limit says.
abbrev pub IsCut : (limit place : ℕ) → Line → Type 0
IsCut limit place line =
    (at : ℕ) × (at < size_of line) × (at < 131201) × (limit ≤ place + at)

-- the same as a test, which computes
abbrev pub is_cut : (limit place : ℕ) → Line → Bool
is_cut limit place line = nat_lt limit (place + min (size_of line) 131201)

-- What a line at this place says. The limits are looked at first, also of a line that says nothing.
abbrev pub line_reading : (limit place : ℕ) → Line → Reading
line_reading limit place line =
    if is_cut limit place line then Err TextLimit
    else if nat_lt 131200 (length line.octets) then Err LongLine
    else reading_of line.octets

-- A command in front of those behind it. A line that says nothing has none, and none count behind
-- a bad line.
abbrev pub behind_reading : Reading → List Command → List Command
behind_reading (Ok (Some command)) commands = command ∷ commands
behind_reading (Ok None) commands = commands
behind_reading (Err why) commands = []

-- the commands of lines up to the first bad one, where the first line is at this place
abbrev pub commands_from : (limit place : ℕ) → List Line → List Command
commands_from limit place [] = []
commands_from limit place (line ∷ lines) =
    behind_reading (line_reading limit place line)
    (commands_from limit (place + size_of line) lines)

abbrev pub bad_by : (number : ℕ) → Reading → Option (ℕ × LineFault) → Option (ℕ × LineFault)
bad_by number (Ok said) behind = behind
bad_by number (Err why) behind = Some (number, why)

-- the number of the first bad line and its fault, where the first line is at this place and has
-- this number
abbrev pub first_bad_from : (limit place number : ℕ) → List Line → Option (ℕ × LineFault)
first_bad_from limit place number [] = None
first_bad_from limit place number (line ∷ lines) =
    bad_by number (line_reading limit place line)
    (first_bad_from limit (place + size_of line) (number + 1) lines)

-- the commands of a text up to its first bad line
abbrev pub commands_of : (limit : ℕ) → List ℕ → List Command
commands_of limit text = commands_from limit 0 (lines_in text)

-- the number of the first bad line of a text, counted from 1, and its fault
abbrev pub first_bad : (limit : ℕ) → List ℕ → Option (ℕ × LineFault)
first_bad limit text = first_bad_from limit 0 1 (lines_in text)

-- the lines of the octets that were taken whose LF was taken too
abbrev pub whole_lines : List ℕ → List Line
whole_lines taken = filter (λ (line : Line). line.ended) (lines_in taken)

-- The commands read, where the end of the text was not seen: those of the lines in the octets that
-- were taken whose LF was taken too, up to the first bad one.
abbrev pub commands_read : (limit : ℕ) → List ℕ → List Command
commands_read limit taken = commands_from limit 0 (whole_lines taken)

-- the first bad one of these lines
abbrev pub bad_read : (limit : ℕ) → List ℕ → Option (ℕ × LineFault)
bad_read limit taken = first_bad_from limit 0 1 (whole_lines taken)
