-- What a line says by its front: its letter, and what stands behind it.
use Rattle.std.specs.Prelude.{ℕ, Bool, ◌==◌, ◌&&◌, if◌then◌else◌, nat_lt, List, [], ◌∷◌, length, take, drop, slice_index, None, Ok, Err}
use Rattle.pst_model.specs.declared.faults.LineFault.TheVariants.{Form}
use Rattle.pst_model.specs.Command.{Command, Arrival, Request, Grant, Idle}
use Rattle.pst_model.specs.Fields.{is_blank}
use Rattle.pst_model.specs.Forms.{Reading, command_in, moment_in, timed_by}

-- a line without the blanks in front
abbrev pub trimmed : List ℕ → List ℕ
trimmed [] = []
trimmed (octet ∷ line) = if is_blank octet then trimmed line else octet ∷ line

-- what a moment and a packet say, of which the moment stands in front
abbrev pub places_in : (ℕ → List ℕ → Command) → List ℕ → Reading
places_in make rest =
    if nat_lt 12 (length rest) && is_blank (slice_index rest 12) then command_in make (moment_in (take 12 rest)) (trimmed (drop 13 rest))
    else Err Form

-- by the letter, and what stands behind it and its blanks
abbrev pub letter_reading : (letter : ℕ) → List ℕ → Reading
letter_reading letter rest =
    if letter == 65 then places_in Arrival rest
    else if letter == 82 then places_in Request rest
    else if letter == 71 then timed_by Grant (moment_in rest)
    else if letter == 73 then timed_by Idle (moment_in rest)
    else Err Form

-- what a line says that neither begins nor ends with a blank
abbrev pub front_reading : List ℕ → Reading
front_reading [] = Ok None
front_reading (letter ∷ rest) =
    if letter == 35 then Ok None
    else if is_blank (slice_index rest 0) then letter_reading letter (trimmed rest)
    else Err Form
