-- What a view of a telecommand shows.
use Rattle.std.specs.Prelude.{ℕ, List}
use Rattle.space_packet.specs.View.{octets_of}
use Rattle.pus_header.specs.declared.commands.TcView.{TcView}

-- the octets of its packet
abbrev pub command_octets : TcView → List ℕ
command_octets command = octets_of command.packet
