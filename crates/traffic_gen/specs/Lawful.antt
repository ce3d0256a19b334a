-- Commands that a line can say.
use Rattle.std.specs.Prelude.{◌<◌, ◌^◌, ◌*◌, ◌+◌, ◌/◌, ℕ, List, [], ◌∷◌, ⊤}
use Rattle.hex.specs.Hex.{IsBytes}
use Rattle.space_packet.specs.Packet.{IsPacket}
use Rattle.pst_model.specs.Command.{Command, Arrival, Request, Grant, Idle}

-- A packet of octets, at a time of six octets.
pub record HasTime (time : ℕ) (octets : List ℕ) : Type 0 where
  pub moment : time < 2 ^ 48
  pub packet : IsPacket octets
  pub bytes : IsBytes octets

abbrev pub IsLawful : Command → Type 0
IsLawful (Arrival moment packet) = HasTime moment packet
IsLawful (Request moment packet) = HasTime moment packet
IsLawful (Grant moment) = moment < 2 ^ 48
IsLawful (Idle moment) = moment < 2 ^ 48

abbrev pub AreLawful : List Command → Type 0
AreLawful [] = ⊤
AreLawful (command ∷ commands) = IsLawful command × AreLawful commands

-- how many commands the traffic of so many arrivals has: five requests and two retrievals, a grant behind each fourth
-- arrival, an idle time behind each 64th, and as many grants at the end as there were arrivals
abbrev pub commands_in : (total : ℕ) → ℕ
commands_in total = 7 + 2 * total + total / 4 + total / 64
