-- The text of lawful commands is read back as they are, with no bad line.
use Rattle.std.proofs.Common.{◌≡◌, ℕ, ◌+◌, ◌*◌, ◌≤◌, true, false, List, [], ◌∷◌, ◌++◌, length, min, Some, None, Ok, refl, ap, ◌∙◌, append_assoc, arith, length-append}
use Rattle.std.proofs.lemmas.Bool.{le-ltb}
use Rattle.hex.specs.Hex.{encode_lower, lower_digits}
use Rattle.hex.proofs.HexLemmas.{length-encode_with}
use Rattle.pst_model.specs.Command.{Command, Arrival, Request, Grant, Idle}
use Rattle.pst_model.specs.Forms.{Reading}
use Rattle.pst_model.specs.Text.{Line, bad_by, behind_reading, commands_from, first_bad_from, is_cut, line_reading, lines_in, size_of}
use Rattle.pst_model.proofs.FaultyLines.{reading_short}
use Rattle.pst_model.proofs.Texts.{lines_in-ended}
use Rattle.traffic_gen.specs.Lawful.{AreLawful, IsLawful}
use Rattle.traffic_gen.specs.Lines.{text_of}
use Rattle.traffic_gen.proofs.LineLengths.{front_of, length-front}
use Rattle.traffic_gen.proofs.ReadLines.{line-ends, no_line_feed, octets_of, says-command, text-line}

-- a line has at most so many octets
packet-short : (letter moment : ℕ) (packet : List ℕ) → length packet ≤ 4096 → length (front_of letter moment ++ 32 ∷ encode_lower packet) ≤ 131200
packet-short letter moment packet few =
    let front = length-front letter moment in
    let digits = length-encode_with lower_digits packet in
    let all = length-append (front_of letter moment) (32 ∷ encode_lower packet) in
    omega arith

short-line : (command : Command) → IsLawful command → length (octets_of command) ≤ 131200
short-line (Arrival moment packet) lawful = packet-short 65 moment packet lawful.packet.at_most
short-line (Request moment packet) lawful = packet-short 82 moment packet lawful.packet.at_most
short-line (Grant moment) lawful = omega (arith, length-front 71 moment)
short-line (Idle moment) lawful = omega (arith, length-front 73 moment)

-- the line of a command, and its LF
abbrev ended : Command → Line
ended command = record { octets = octets_of command; ended = true }

text-behind : (command : Command) (commands : List Command) → text_of (command ∷ commands) ≡ octets_of command ++ 10 ∷ text_of commands
text-behind command commands =
    ap (λ (line : List ℕ). line ++ text_of commands) (line-ends command) ∙ append_assoc (octets_of command) (10 ∷ []) (text_of commands)

lines-behind : (command : Command) (commands : List Command) → IsLawful command → lines_in (text_of (command ∷ commands)) ≡ ended command ∷ lines_in (text_of commands)
lines-behind command commands lawful =
    ap lines_in (text-behind command commands) ∙ lines_in-ended (octets_of command) (text_of commands) (no_line_feed (octets_of command) (text-line command lawful))

length-behind : (command : Command) (commands : List Command) → length (text_of (command ∷ commands)) ≡ size_of (ended command) + length (text_of commands)
length-behind command commands =
    let all = ap length (text-behind command commands) in
    omega (arith, all, length-append (octets_of command) (10 ∷ text_of commands))

says : (limit place : ℕ) (command : Command) → IsLawful command → place + size_of (ended command) ≤ limit → line_reading limit place (ended command) ≡ Ok (Some command)
says limit place command lawful within =
    let whole : is_cut limit place (ended command) ≡ false = le-ltb limit (place + min (size_of (ended command)) 131201) (omega arith) in
    reading_short limit place (ended command) whole (short-line command lawful) ∙ says-command command lawful

pub commands-back : (limit place : ℕ) (commands : List Command) → AreLawful commands → place + length (text_of commands) ≤ limit → commands_from limit place (lines_in (text_of commands)) ≡ commands
commands-back limit place [] lawful within = refl
commands-back limit place (command ∷ commands) lawful within =
    let long = length-behind command commands in
    let rest = commands_from limit (place + size_of (ended command)) (lines_in (text_of commands)) in
    ap (commands_from limit place) (lines-behind command commands lawful.0)
    ∙ ap (λ (reading : Reading). behind_reading reading rest) (says limit place command lawful.0 (omega arith))
    ∙ ap (λ (behind : List Command). command ∷ behind) (commands-back limit (place + size_of (ended command)) commands lawful.1 (omega arith))

pub none-bad : (limit place number : ℕ) (commands : List Command) → AreLawful commands → place + length (text_of commands) ≤ limit → first_bad_from limit place number (lines_in (text_of commands)) ≡ None
none-bad limit place number [] lawful within = refl
none-bad limit place number (command ∷ commands) lawful within =
    let long = length-behind command commands in
    let rest = first_bad_from limit (place + size_of (ended command)) (number + 1) (lines_in (text_of commands)) in
    ap (first_bad_from limit place number) (lines-behind command commands lawful.0)
    ∙ ap (λ (reading : Reading). bad_by number reading rest) (says limit place command lawful.0 (omega arith))
    ∙ none-bad limit (place + size_of (ended command)) (number + 1) commands lawful.1 (omega arith)

-- the text of lawful commands is not longer than this
pub length-lawful : (commands : List Command) → AreLawful commands → length (text_of commands) ≤ 131201 * length commands
length-lawful [] lawful = omega arith
length-lawful (command ∷ commands) lawful =
    let here = short-line command lawful.0 in
    let long = length-behind command commands in
    let rest = length-lawful commands lawful.1 in
    omega arith
