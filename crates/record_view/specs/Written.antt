-- A record as octets.
use Rattle.std.specs.Prelude.{ℕ, ◌+◌, ◌-◌, ◌*◌, ◌++◌, List, length, replicate}
use Rattle.octet_fields.specs.Fields.{big_bytes}
use Rattle.space_packet.specs.Charge.{charge_of}

-- the 16 octets in front of the packet: the stamp, the number, the packet's length and four zeros
abbrev pub head_octets : ℕ → ℕ → ℕ → List ℕ
head_octets number stamp said =
    big_bytes 6 stamp ++ big_bytes 4 number ++ big_bytes 2 said ++ big_bytes 4 0

abbrev pub record_octets : ℕ → ℕ → List ℕ → List ℕ
record_octets number stamp packet = head_octets number stamp (length packet) ++ packet

-- with zeros to the end of the last page
abbrev pub record_pages : ℕ → ℕ → List ℕ → List ℕ
record_pages number stamp packet =
    record_octets number stamp packet
    ++ replicate (256 * charge_of (length packet) - (16 + length packet)) 0
