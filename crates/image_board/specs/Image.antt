-- The file of a device.
use Rattle.std.specs.Prelude.{ℕ, ◌/◌, ◌%◌, ◌==◌, ◌&&◌, nat_le, Option, Some, None, if◌then◌else◌}

-- the number of blocks of a file with this many octets: 65,536 for each, and 16 to 512 of them
abbrev pub blocks_at : ℕ → Option ℕ
blocks_at octets =
    if (octets % 65536 == 0) && nat_le 16 (octets / 65536) && nat_le (octets / 65536) 512
    then Some (octets / 65536) else None
