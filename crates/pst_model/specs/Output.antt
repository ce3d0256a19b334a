-- The lines that go out.
use Rattle.std.specs.Prelude.{ℕ, ◌+◌, List, [], ◌∷◌, ◌++◌}
use Rattle.hex.specs.Hex.{encode_lower}

-- An output line: the channel as one decimal digit, a space, the packet in lower-case hexadecimal,
-- and LF.
abbrev pub output_line : (channel : ℕ) → List ℕ → List ℕ
output_line channel packet = (48 + channel) ∷ 32 ∷ encode_lower packet ++ 10 ∷ []
