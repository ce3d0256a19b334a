-- What the types of the code show.
use Rattle.std.specs.Prelude.{ℕ}
use Rattle.space_packet.specs.View.{octets_of}
use Rattle.session_text.specs.declared.command.Command.{Command as View}
use Rattle.session_text.specs.declared.command.Command.TheVariants as views
use Rattle.pst_model.specs.Command.{Command, Arrival, Request, Grant, Idle}

-- the command that a value of the code is
abbrev pub command_of : View → Command
command_of (views.Arrival moment packet) = Arrival moment (octets_of packet)
command_of (views.Request moment packet) = Request moment (octets_of packet)
command_of (views.Grant moment) = Grant moment
command_of (views.Idle moment) = Idle moment

abbrev pub moment_of : View → ℕ
moment_of (views.Arrival moment packet) = moment
moment_of (views.Request moment packet) = moment
moment_of (views.Grant moment) = moment
moment_of (views.Idle moment) = moment
