-- The blocks that a store takes.
use Rattle.std.specs.Prelude.{ℕ, ◌+◌, ◌/◌}

-- a block holds at least 240 pages of whole packets, and three blocks are in part empty
abbrev pub blocks_for_size : ℕ → ℕ
blocks_for_size size = size / 240 + 3
