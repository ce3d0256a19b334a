-- Numbers in octets: how great they are, and where they stand in the end or the front of other octets.
use Rattle.std.proofs.Common.{◌≡◌, ℕ, ◌+◌, ◌-◌, ◌^◌, ◌<◌, ◌≤◌, List, drop, take, slice_index, sym, ap, ◌∙◌, arith}
use Rattle.std.proofs.lemmas.List.{drop-drop, drop-take, get_or-drop}
use Rattle.byteorder.specs.Numbers.{big_from-lt, big_from-take}
use Rattle.octet_fields.specs.Fields.{field}

-- octets, wherever they are read
abbrev pub HasOctets : List ℕ → Type 0
HasOctets octets = (place : ℕ) → slice_index octets place < 256

pub HasOctets-drop : (at : ℕ) (octets : List ℕ) → HasOctets octets → HasOctets (drop at octets)
HasOctets-drop at octets fit place = let below = fit (at + place) in omega (arith, get_or-drop at octets place 0)

-- a number is below the power of 256 that its octets have
pub field-lt : (n at : ℕ) (octets : List ℕ) → HasOctets octets → field n at octets < 256 ^ n
field-lt n at octets fit = big_from-lt 0 n (drop at octets) (HasOctets-drop at octets fit)

-- a number behind so many octets
pub number_behind : (n place at : ℕ) (octets : List ℕ) → field n (at + place) octets ≡ field n place (drop at octets)
number_behind n place at octets = ap (field n 0) (sym (drop-drop place at octets))

-- a number reads no octet behind its last
pub field-take : (n at long : ℕ) (octets : List ℕ) → at + n ≤ long → field n at (take long octets) ≡ field n at octets
field-take n at long octets within =
    let rest : ℕ = long - at in
    let split : long ≡ at + rest = omega arith in
    ap (λ (m : ℕ). field n at (take m octets)) split ∙ ap (field n 0) (drop-take at rest octets)
    ∙ big_from-take 0 n rest (drop at octets) (omega arith)
