-- What a line that was read says, with the octets of its packet in a buffer.
use Rattle.std.specs.Prelude.{◌≤◌, ◌<◌, ◌^◌, ℕ, List, length, take, Option, Some, None}
use Rattle.space_packet.specs.Packet.{IsPacket}
use Rattle.session_text.specs.declared.form.Form.{Form}
use Rattle.session_text.specs.declared.form.Form.TheVariants as forms
use Rattle.pst_model.specs.Command.{Command, Arrival, Request, Grant, Idle}

abbrev pub command_in : List ℕ → Form → Command
command_in packet (forms.Arrival moment length) = Arrival moment (take length packet)
command_in packet (forms.Request moment length) = Request moment (take length packet)
command_in packet (forms.Grant moment) = Grant moment
command_in packet (forms.Idle moment) = Idle moment

abbrev pub said_in : List ℕ → Option Form → Option Command
said_in packet (Some form) = Some (command_in packet form)
said_in packet None = None

-- the moment is one, and the buffer begins with a packet of the length that the form says
abbrev pub IsHeld : List ℕ → Form → Type 0
IsHeld packet (forms.Arrival moment count) = (moment < 2 ^ 48) × (count ≤ length packet) × IsPacket (take count packet)
IsHeld packet (forms.Request moment count) = (moment < 2 ^ 48) × (count ≤ length packet) × IsPacket (take count packet)
IsHeld packet (forms.Grant moment) = moment < 2 ^ 48
IsHeld packet (forms.Idle moment) = moment < 2 ^ 48
