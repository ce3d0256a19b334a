-- Octets of an item: numbers in them, and fields that stand one behind another.
use Rattle.std.proofs.Common.{◌≡◌, ℕ, zero, suc, ◌+◌, ◌*◌, ◌/◌, ◌%◌, ◌^◌, ◌<◌, ◌≤◌, List, [], ◌∷◌, ◌++◌, length, drop, slice_index, refl, sym, ◌∙◌, ap, arith, append_assoc, length-drop, inl, inr}
use Rattle.std.proofs.Math.Nat.{div-one, mul-add-div_right, mul-add-mod_self_right, mul_assoc, one-le-pow, pow-succ'}
use Rattle.std.proofs.Math.Seq.{drop-cons}
use Rattle.std.proofs.lemmas.Bool.{cases_lt}
use Rattle.std.proofs.lemmas.List.{drop-drop, get_or_past}
use Rattle.std.proofs.lemmas.List.Elements.{All-drop, All-head, All-tail}
use Rattle.std.proofs.lemmas.Nat.{div-mul-add}
use Rattle.std.specs.Int.{byte_at, bytes_high_first}
use Rattle.std.specs.Prelude.{All}
use Rattle.byteorder.specs.Endian.{big_bytes, big_number}
use Rattle.byteorder.specs.Numbers.{big_from-cons, big_from-lt}
use Rattle.octet_fields.specs.Fields.{field}
use Rattle.octet_fields.proofs.Numbers
use Rattle.control_defs.specs.PatternOctets.{pattern_in, pattern_octets}
use Rattle.control_defs.proofs.PatternOctets.{ReadsPattern}

-- octets, each below 256
abbrev pub AreOctets : List ℕ → Type 0
AreOctets octets = All (λ (octet : ℕ). octet < 256) octets

pub octet-lt : (octets : List ℕ) → AreOctets octets → (place : ℕ) → slice_index octets place < 256
octet-lt octets fit place = elim (cases_lt place (length octets)) [
  | inl within ↦ fit place 0 within
  | inr past ↦ let none = get_or_past octets place 0 past in omega (arith, none)
]

-- a number of so many octets

pub number-lt : (n : ℕ) (octets : List ℕ) → AreOctets octets → big_number n octets < 256 ^ n
number-lt n octets fit = big_from-lt 0 n octets (octet-lt octets fit)

pub field-lt : (n at : ℕ) (octets : List ℕ) → AreOctets octets → field n at octets < 256 ^ n
field-lt n at octets fit = Numbers.field-lt n at octets (octet-lt octets fit)

-- a byte of a number, by its place
byte_at-pow : (k x : ℕ) → byte_at k x ≡ x / 256 ^ k % 256
byte_at-pow zero x = ap (λ (y : ℕ). y % 256) (sym (div-one x))
byte_at-pow (suc k) x = refl

pow_pos : (n : ℕ) → 0 < 256 ^ n
pow_pos n = let h = one-le-pow n 256 (omega arith) in omega arith

-- what stands above the low octets of a number does not show in them
low_octets : (n a x : ℕ) → bytes_high_first n (a * 256 ^ n + x) ≡ bytes_high_first n x
low_octets zero a x = refl
low_octets (suc n) a x =
    let more : a * 256 ^ suc n + x ≡ a * 256 * 256 ^ n + x =
    ap (λ (p : ℕ). a * p + x) (pow-succ' 256 n) ∙ ap (λ (p : ℕ). p + x) (sym (mul_assoc a 256 (256 ^ n))) in
    let high : byte_at n (a * 256 * 256 ^ n + x) ≡ byte_at n x =
    byte_at-pow n (a * 256 * 256 ^ n + x) ∙ ap (λ (q : ℕ). q % 256) (mul-add-div_right (pow_pos n) (a * 256) x)
    ∙ mul-add-mod_self_right a 256 (x / 256 ^ n) ∙ sym (byte_at-pow n x) in
    ap (bytes_high_first (suc n)) more ∙ ap (λ (octet : ℕ). octet ∷ bytes_high_first n (a * 256 * 256 ^ n + x)) high
    ∙ ap (λ (octets : List ℕ). byte_at n x ∷ octets) (low_octets n (a * 256) x)

-- octets are those of their number
pub octets_of-number : (n : ℕ) (octets : List ℕ) → AreOctets octets → n ≤ length octets → octets ≡ big_bytes n (big_number n octets) ++ drop n octets
octets_of-number zero octets fit long = refl
octets_of-number (suc n) [] fit long = absurd (omega arith)
octets_of-number (suc n) (first ∷ others) fit long =
    let rest : ℕ = big_number n others in
    let fits : AreOctets others = All-tail (λ (octet : ℕ). octet < 256) first others fit in
    let number : big_number (suc n) (first ∷ others) ≡ first * 256 ^ n + rest = ap (λ (r : ℕ). first * 256 ^ n + r) (big_from-cons 0 n first others) in
    let below : first < 256 = All-head (λ (octet : ℕ). octet < 256) first others fit in
    let high : byte_at n (first * 256 ^ n + rest) ≡ first =
    byte_at-pow n (first * 256 ^ n + rest) ∙ ap (λ (q : ℕ). q % 256) (div-mul-add first (256 ^ n) rest (number-lt n others fits)) ∙ omega arith in
    ap (λ (octet : ℕ). octet ∷ others) (sym high)
    ∙ ap (λ (octets : List ℕ). byte_at n (first * 256 ^ n + rest) ∷ octets) (octets_of-number n others fits (omega arith))
    ∙ ap (λ (octets : List ℕ). byte_at n (first * 256 ^ n + rest) ∷ octets ++ drop n others) (sym (low_octets n first rest))
    ∙ ap (λ (m : ℕ). big_bytes (suc n) m ++ drop n others) (sym number)

-- Octets stand at a place of others, up to another place.
pub record Stands (octets : List ℕ) (at : ℕ) (part : List ℕ) (end : ℕ) : Type 0 where
  pub is : drop at octets ≡ part ++ drop end octets

pub Stands-then : {octets part more : List ℕ} {at between end : ℕ} → Stands octets at part between → Stands octets between more end → Stands octets at (part ++ more) end
Stands-then {octets} {part} {more} {at} {between} {end} first next = record {
  is = first.is ∙ ap (λ (l : List ℕ). part ++ l) next.is ∙ sym (append_assoc part more (drop end octets));
}

-- a number in its octets
pub Stands-number : (n at : ℕ) (octets : List ℕ) → AreOctets octets → at + n ≤ length octets → Stands octets at (big_bytes n (field n at octets)) (at + n)
Stands-number n at octets fit long = record {
  is = octets_of-number n (drop at octets) (All-drop (λ (octet : ℕ). octet < 256) at octets fit) (omega (arith, length-drop at octets))
      ∙ ap (λ (l : List ℕ). big_bytes n (field n at octets) ++ l) (drop-drop n at octets);
}

-- one octet
pub Stands-octet : (at : ℕ) (octets : List ℕ) → at < length octets → Stands octets at (slice_index octets at ∷ []) (suc at)
Stands-octet at octets within = record { is = drop-cons octets at 0 within }

-- a pattern
pub Stands-pattern : (at : ℕ) (octets : List ℕ) → ReadsPattern (drop at octets) → Stands octets at (pattern_octets (pattern_in (drop at octets))) (at + 5)
Stands-pattern at octets reads = record {
  is = reads.octets_are ∙ ap (λ (l : List ℕ). pattern_octets (pattern_in (drop at octets)) ++ l) (drop-drop 5 at octets);
}
