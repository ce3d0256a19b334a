-- The lengths of lines, and how their parts stand together.
use Rattle.std.proofs.Common.{◌≡◌, ℕ, ◌+◌, ◌*◌, List, [], ◌∷◌, ◌++◌, length, append_assoc, ap, arith, length-append}
use Rattle.hex.specs.Hex.{encode_lower, lower_digits}
use Rattle.hex.proofs.HexLemmas.{length-encode_with}
use Rattle.octet_fields.specs.Fields.{big_bytes}
use Rattle.traffic_gen.specs.Lines.{packet_line, timed_line}

-- a letter, and a time behind a space
abbrev pub front_of : (letter moment : ℕ) → List ℕ
front_of letter moment = letter ∷ 32 ∷ encode_lower (big_bytes 6 moment)

pub length-front : (letter moment : ℕ) → length (front_of letter moment) ≡ 14
length-front letter moment = omega (arith, length-encode_with lower_digits (big_bytes 6 moment))

pub length-timed_line : (letter moment : ℕ) → length (timed_line letter moment) ≡ 15
length-timed_line letter moment = omega (arith, length-front letter moment, length-append (front_of letter moment) (10 ∷ []))

pub length-packet_line : (letter moment : ℕ) (packet : List ℕ) → length (packet_line letter moment packet) ≡ 16 + 2 * length packet
length-packet_line letter moment packet =
    let front = front_of letter moment in
    let digits = encode_lower packet in
    omega (
      arith,
      length-front letter moment,
      length-encode_with lower_digits packet,
      length-append (front ++ 32 ∷ digits) (10 ∷ []),
      length-append front (32 ∷ digits),
    )

-- what stands behind a front is written part by part
pub parts_together : (front digits : List ℕ) → ((front ++ 32 ∷ []) ++ digits) ++ 10 ∷ [] ≡ front ++ 32 ∷ digits ++ 10 ∷ []
parts_together front digits = ap (λ (part : List ℕ). part ++ 10 ∷ []) (append_assoc front (32 ∷ []) digits)
