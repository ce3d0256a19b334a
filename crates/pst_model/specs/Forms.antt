-- The written forms of commands, and what a line says.
use Rattle.std.specs.Prelude.{◌≡◌, ◌≤◌, ◌-◌, ℕ, ◌==◌, if◌then◌else◌, nat_lt, List, [], ◌∷◌, length, take, slice_index, Option, Some, None, Result, Ok, Err, ⊤}
use Rattle.byteorder.specs.Endian.{big_number}
use Rattle.hex.specs.Hex.{decode_of}
use Rattle.hex.specs.declared.error.FromHexError.{FromHexError}
use Rattle.space_packet.specs.Packet.{IsPacket, fault_of}
use Rattle.space_packet.specs.declared.fault.PacketFault.{PacketFault}
use Rattle.pst_model.specs.declared.faults.LineFault.{LineFault}
use Rattle.pst_model.specs.declared.faults.LineFault.TheVariants.{Form, Packet}
use Rattle.pst_model.specs.Command.{Command, Arrival, Request, Grant, Idle}
use Rattle.pst_model.specs.Fields.{AreFields, fields_of}

-- a line without the one CR that may be its last octet
abbrev pub without_return : List ℕ → List ℕ
without_return line =
    if slice_index line (length line - 1) == 13 then take (length line - 1) line else line

-- These twelve hexadecimal digits, in either case, are a moment.
pub record IsMoment (digits : List ℕ) (moment : ℕ) : Type 0 where
  pub octets : List ℕ
  pub count : length digits ≡ 12
  pub decoded : decode_of digits ≡ Ok octets
  pub value : moment ≡ big_number 6 octets

-- A line of the form `A MOMENT HEX`, or `R MOMENT HEX`, with these octets.
pub record HasPacketForm (letter : ℕ) (line : List ℕ) (moment : ℕ) (octets : List ℕ) : Type 0 where
  pub digits : List ℕ
  pub hex : List ℕ
  pub fields : AreFields ((letter ∷ []) ∷ digits ∷ hex ∷ []) (without_return line)
  pub time : IsMoment digits moment
  pub some : 2 ≤ length hex
  pub decoded : decode_of hex ≡ Ok octets

-- A line of the form `G MOMENT`, or `I MOMENT`.
pub record HasTimedForm (letter : ℕ) (line : List ℕ) (moment : ℕ) : Type 0 where
  pub digits : List ℕ
  pub fields : AreFields ((letter ∷ []) ∷ digits ∷ []) (without_return line)
  pub time : IsMoment digits moment

-- The line is a written form of the command.
abbrev pub Spells : List ℕ → Command → Type 0
Spells line (Arrival moment packet) = HasPacketForm 65 line moment packet × IsPacket packet
Spells line (Request moment packet) = HasPacketForm 82 line moment packet × IsPacket packet
Spells line (Grant moment) = HasTimedForm 71 line moment
Spells line (Idle moment) = HasTimedForm 73 line moment

-- no fields, or a comment: the first one begins with `#`
abbrev pub SayNothing : List (List ℕ) → Type 0
SayNothing [] = ⊤
SayNothing (first ∷ others) = slice_index first 0 ≡ 35

-- The line says nothing: it has no field, or it is a comment.
pub record IsSkipped (line : List ℕ) : Type 0 where
  pub fields : List (List ℕ)
  pub are : AreFields fields (without_return line)
  pub nothing : SayNothing fields

-- The same as a function of the line, which computes.

abbrev pub decoded_moment : Result (List ℕ) FromHexError → Option ℕ
decoded_moment (Ok octets) = Some (big_number 6 octets)
decoded_moment (Err fault) = None

abbrev pub moment_in : List ℕ → Option ℕ
moment_in digits = if length digits == 12 then decoded_moment (decode_of digits) else None

abbrev pub packet_by : List ℕ → Option PacketFault → Result (List ℕ) LineFault
packet_by octets None = Ok octets
packet_by octets (Some fault) = Err (Packet fault)

abbrev pub decoded_packet : Result (List ℕ) FromHexError → Result (List ℕ) LineFault
decoded_packet (Ok octets) = packet_by octets (fault_of octets)
decoded_packet (Err fault) = Err Form

-- the packet that hexadecimal digits spell
abbrev pub packet_in : List ℕ → Result (List ℕ) LineFault
packet_in hex = if nat_lt (length hex) 2 then Err Form else decoded_packet (decode_of hex)

-- what a line says: a command, nothing, or its fault
abbrev pub Reading : Type 0
Reading = Result (Option Command) LineFault

-- the command that a moment and a packet make, or the fault of the packet
abbrev pub command_by : (ℕ → List ℕ → Command) → ℕ → Result (List ℕ) LineFault → Reading
command_by make moment (Ok octets) = Ok (Some (make moment octets))
command_by make moment (Err why) = Err why

abbrev pub command_in : (ℕ → List ℕ → Command) → Option ℕ → List ℕ → Reading
command_in make (Some moment) hex = command_by make moment (packet_in hex)
command_in make None hex = Err Form

abbrev pub timed_by : (ℕ → Command) → Option ℕ → Reading
timed_by make (Some moment) = Ok (Some (make moment))
timed_by make None = Err Form

-- by the letter, and the fields behind it
abbrev pub reading_by : (letter : ℕ) → List (List ℕ) → Reading
reading_by letter [] = Err Form
reading_by letter (digits ∷ []) =
    if letter == 71 then timed_by Grant (moment_in digits)
    else if letter == 73 then timed_by Idle (moment_in digits)
    else Err Form
reading_by letter (digits ∷ hex ∷ []) =
    if letter == 65 then command_in Arrival (moment_in digits) hex
    else if letter == 82 then command_in Request (moment_in digits) hex
    else Err Form
reading_by letter (digits ∷ hex ∷ more ∷ others) = Err Form

-- by the first field, where it is no comment
abbrev pub reading_behind : (first : List ℕ) → List (List ℕ) → Reading
reading_behind [] others = Err Form
reading_behind (letter ∷ []) others = reading_by letter others
reading_behind (letter ∷ next ∷ rest) others = Err Form

abbrev pub reading_in : List (List ℕ) → Reading
reading_in [] = Ok None
reading_in (first ∷ others) =
    if slice_index first 0 == 35 then Ok None else reading_behind first others

-- What a line without its LF says: the command of which it is a written form, nothing where it has
-- no field or is a comment, the fault of its packet where it has the form of an arrival or a
-- request, and else that it has no known form.
abbrev pub reading_of : List ℕ → Reading
reading_of line = reading_in (fields_of (without_return line))
