-- The text of commands: a line for each, with one space between fields, lower-case digits and LF.
use Rattle.std.specs.Prelude.{ℕ, List, [], ◌∷◌, ◌++◌}
use Rattle.hex.specs.Hex.{encode_lower}
use Rattle.octet_fields.specs.Fields.{big_bytes}
use Rattle.pst_model.specs.Command.{Command, Arrival, Request, Grant, Idle}

abbrev pub timed_line : (letter moment : ℕ) → List ℕ
timed_line letter moment = letter ∷ 32 ∷ encode_lower (big_bytes 6 moment) ++ 10 ∷ []

abbrev pub packet_line : (letter moment : ℕ) → List ℕ → List ℕ
packet_line letter moment packet =
    letter ∷ 32 ∷ encode_lower (big_bytes 6 moment) ++ 32 ∷ encode_lower packet ++ 10 ∷ []

abbrev pub command_line : Command → List ℕ
command_line (Arrival moment packet) = packet_line 65 moment packet
command_line (Request moment packet) = packet_line 82 moment packet
command_line (Grant moment) = timed_line 71 moment
command_line (Idle moment) = timed_line 73 moment

abbrev pub text_of : List Command → List ℕ
text_of [] = []
text_of (command ∷ commands) = command_line command ++ text_of commands
