-- Small facts on what is written at a place.
use Rattle.std.proofs.Common.{◌≡◌, ℕ, ◌+◌, ◌-◌, ◌≤◌, List, [], ◌++◌, length, take, drop, refl, sym, ap, ◌∙◌, append_assoc, append-nil, arith, length-append}
use Rattle.std.proofs.Math.Seq.{take-add}
use Rattle.std.proofs.lemmas.List.{drop-drop, take-append-le, take_all}
use Rattle.std.specs.List.{slice_range}
use Rattle.octet_fields.specs.Fields.{Writes}
use Rattle.octet_fields.proofs.Splices.{Writes-then}

-- the front of octets that begin with others
pub taken_front : (front behind octets : List ℕ) (count : ℕ) → octets ≡ front ++ behind → count ≡ length front → take count octets ≡ front
taken_front front behind octets count is long =
    ap (take count) is ∙ take-append-le count front behind (omega arith) ∙ take_all count front (omega arith)

-- five writes side by side, from the front on, and the place behind them
pub five_writes : {before one two three four five a b c d e : List ℕ} {p q r s t : ℕ}
    → Writes before one 0 a → p ≡ length a
    → Writes one two p b → q ≡ p + length b
    → Writes two three q c → r ≡ q + length c
    → Writes three four r d → s ≡ r + length d
    → Writes four five s e → t ≡ s + length e
    → Writes before five 0 ((((a ++ b) ++ c) ++ d) ++ e) × (t ≡ length ((((a ++ b) ++ c) ++ d) ++ e))
five_writes {a = a} {b = b} {c = c} {d = d} {e = e} first p second q third r fourth s fifth t =
    let to_b = length-append a b in
    let to_c = length-append (a ++ b) c in
    let to_d = length-append ((a ++ b) ++ c) d in
    let to_e = length-append (((a ++ b) ++ c) ++ d) e in (
      Writes-then (Writes-then (Writes-then (Writes-then first second (omega arith)) third (omega arith)) fourth (omega arith)) fifth (omega arith),
      omega arith,
    )

-- what is moved from the front of a part, and what is left of it
pub moved_part : (octets part behind more : List ℕ) (from to count : ℕ) → part ≡ slice_range octets from (from + count) → length part ≡ count → from + count ≤ to
    → slice_range octets from to ++ more ≡ take count (part ++ behind) ++ (slice_range octets (from + count) to ++ more)
moved_part octets part behind more from to count is long within =
    let rest = drop from octets in
    let whole : to - from ≡ count + (to - (from + count)) = omega arith in
    let same : (from + count) - from ≡ count = omega arith in
    let front : take count (part ++ behind) ≡ part = taken_front part behind (part ++ behind) count refl (sym long) in
    let first : take count rest ≡ take count (part ++ behind) = ap (λ (n : ℕ). take n rest) (sym same) ∙ sym is ∙ sym front in
    let split : slice_range octets from to ≡ take count (part ++ behind) ++ slice_range octets (from + count) to =
    ap (λ (n : ℕ). take n rest) whole ∙ take-add count (to - (from + count)) rest
    ∙ ap (λ (xs : List ℕ). xs ++ take (to - (from + count)) (drop count rest)) first
    ∙ ap (λ (xs : List ℕ). take count (part ++ behind) ++ take (to - (from + count)) xs) (drop-drop count from octets) in
    ap (λ (xs : List ℕ). xs ++ more) split ∙ append_assoc (take count (part ++ behind)) (slice_range octets (from + count) to) more

-- texts from the left, and from the right
pub from_the_right : (a b c d e : List ℕ) → (((a ++ b) ++ c) ++ d) ++ e ≡ a ++ (b ++ (c ++ (d ++ (e ++ []))))
from_the_right a b c d e = simp (append_assoc, append-nil)
