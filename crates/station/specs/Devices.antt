-- The device that words name.
use Rattle.std.specs.Prelude.{ℕ, if◌then◌else◌, List, [], ◌∷◌, codes, Option, Some, None}
use Rattle.std.specs.Str.{bytes_eq}
use Rattle.station.specs.declared.device.Device.{Device}
use Rattle.station.specs.declared.device.Device.TheVariants.{File, Memory}
use Rattle.station.specs.Numbers.{in_range, number_named}

abbrev pub memory_of : Option ℕ → Option Device
memory_of (Some blocks) = Some (Memory blocks)
memory_of None = None

-- The device that the first two words name: in memory, of 16 to 512 blocks, or in a file.
abbrev pub device_named : List (List ℕ) → Option Device
device_named [] = None
device_named (place ∷ []) = None
device_named (kind ∷ place ∷ words) =
    if bytes_eq kind (codes "mem") then memory_of (in_range 16 512 (number_named place))
    else if bytes_eq kind (codes "file") then Some File else None
