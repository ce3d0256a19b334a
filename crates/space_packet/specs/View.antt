-- What a view of a packet shows.
use Rattle.std.specs.Prelude.{ℕ, List}
use Rattle.space_packet.specs.declared.view.PacketView.{PacketView}

-- the octets of the packet
abbrev pub octets_of : PacketView → List ℕ
octets_of packet = packet.bytes.now
