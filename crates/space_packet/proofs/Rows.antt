-- Small worked inputs, which the definitions compute.
use Rattle.std.proofs.Common.{◌≡◌, ℕ, true, false, List, [], ◌∷◌, Some, None, refl}
use Rattle.std.specs.Prelude.{replicate}
use Rattle.space_packet.specs.Header.{header_of}
use Rattle.space_packet.specs.Packet.{apid_of, fault_of, has_secondary, is_command, said_length, sequence_count_of, sequence_flags_of}
use Rattle.space_packet.specs.declared.fault.PacketFault.TheVariants.{Short, Version, TooLarge, Long}

-- a packet of 20 octets
abbrev packet : List ℕ
packet = 8 ∷ 100 ∷ 192 ∷ 5 ∷ 0 ∷ 13 ∷ replicate 14 7

is_one : fault_of packet ≡ None
is_one = refl

length_said : said_length packet ≡ 20
length_said = refl

telemetry : is_command packet ≡ false
telemetry = refl

telecommand : is_command (24 ∷ 100 ∷ []) ≡ true
telecommand = refl

secondary : has_secondary packet ≡ true
secondary = refl

process : apid_of packet ≡ 100
process = refl

flags : sequence_flags_of packet ≡ 3
flags = refl

count : sequence_count_of packet ≡ 5
count = refl

-- headers as they are written
telemetry_header : header_of (record { command = false; secondary = true; apid = 100; flags = 3; count = 258; length = 13 }) ≡ 8 ∷ 100 ∷ 193 ∷ 2 ∷ 0 ∷ 13 ∷ []
telemetry_header = refl

command_header : header_of (record { command = true; secondary = false; apid = 2047; flags = 1; count = 16383; length = 65535 }) ≡ 23 ∷ 255 ∷ 127 ∷ 255 ∷ 255 ∷ 255 ∷ []
command_header = refl

-- the first fault is told: too few octets, another version, a length that is too large, and octets
-- behind
no_octets : fault_of [] ≡ Some (Short 0 6)
no_octets = refl

short : fault_of (40 ∷ 100 ∷ 192 ∷ 5 ∷ 0 ∷ 13 ∷ replicate 13 7) ≡ Some (Short 19 20)
short = refl

version : fault_of (40 ∷ 100 ∷ 192 ∷ 5 ∷ 0 ∷ 13 ∷ replicate 15 7) ≡ Some (Version 1)
version = refl

too_large : fault_of (8 ∷ 100 ∷ 192 ∷ 5 ∷ 15 ∷ 250 ∷ replicate 4092 7) ≡ Some (TooLarge 4097)
too_large = refl

largest : fault_of (8 ∷ 100 ∷ 192 ∷ 5 ∷ 15 ∷ 249 ∷ replicate 4090 7) ≡ None
largest = refl

long : fault_of (8 ∷ 100 ∷ 192 ∷ 5 ∷ 0 ∷ 13 ∷ replicate 15 7) ≡ Some (Long 21 20)
long = refl
