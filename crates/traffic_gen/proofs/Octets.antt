-- Lists of octets, and their digits in text.
use Rattle.std.proofs.Common.{◌≡◌, ℕ, zero, suc, ◌/◌, ◌%◌, ◌<◌, ◌≤◌, ◌==◌, Bool, true, false, ◌&&◌, ◌⊎◌, inl, inr, List, [], ◌∷◌, ◌++◌, map, slice_index, refl, arith}
use Rattle.std.specs.Prelude.{nat_le, nat_lt, All}
use Rattle.std.proofs.lemmas.Bool.{and_parts, cases_lt, leb-true, ltb-true, ne_eqb}
use Rattle.std.proofs.lemmas.List.Elements.{All-cons, All-nil}
use Rattle.hex.specs.Hex.{IsBytes, encode_lower, encode_with, lower_digits}
use Rattle.octet_fields.specs.Fields.{big_bytes}
use Rattle.pst_model.specs.Fields.{IsSolid}

pub bytes-none : IsBytes []
bytes-none i = omega arith

pub bytes-cons : (x : ℕ) (xs : List ℕ) → x < 256 → IsBytes xs → IsBytes (x ∷ xs)
bytes-cons x xs fits rest zero = fits
bytes-cons x xs fits rest (suc i) = rest i

pub bytes-append : (xs ys : List ℕ) → IsBytes xs → IsBytes ys → IsBytes (xs ++ ys)
bytes-append [] ys first second = second
bytes-append (x ∷ xs) ys first second = bytes-cons x (xs ++ ys) (first 0) (bytes-append xs ys (λ i. first (suc i)) second)

pub bytes-map : (octet : ℕ → ℕ) (xs : List ℕ) → ((x : ℕ) → octet x < 256) → IsBytes (map octet xs)
bytes-map octet [] fits = bytes-none
bytes-map octet (x ∷ xs) fits = bytes-cons (octet x) (map octet xs) (fits x) (bytes-map octet xs fits)

octet-cons : (x : ℕ) (xs : List ℕ) → IsBytes xs → IsBytes (x % 256 ∷ xs)
octet-cons x xs rest = bytes-cons (x % 256) xs (omega arith) rest

pub bytes-two : (number : ℕ) → IsBytes (big_bytes 2 number)
bytes-two number = octet-cons (number / 256) (number % 256 ∷ []) (octet-cons number [] bytes-none)

pub bytes-six : (number : ℕ) → IsBytes (big_bytes 6 number)
bytes-six number =
    let low = big_bytes 2 number in
    let third = number / 65536 % 256 ∷ low in
    let fourth = number / 16777216 % 256 ∷ third in
    let fifth = number / 4294967296 % 256 ∷ fourth in
    octet-cons (number / 1099511627776) fifth
    (octet-cons (number / 4294967296) fourth (octet-cons (number / 16777216) third (octet-cons (number / 65536) low (bytes-two number))))

-- a test, which computes on what is written out
abbrev pub are_bytes : List ℕ → Bool
are_bytes [] = true
are_bytes (x ∷ xs) = nat_lt x 256 && are_bytes xs

pub bytes-tested : (xs : List ℕ) → are_bytes xs ≡ true → IsBytes xs
bytes-tested [] passed = bytes-none
bytes-tested (x ∷ xs) passed =
    let parts = and_parts (nat_lt x 256) (are_bytes xs) passed in
    bytes-cons x xs (ltb-true x 256 parts.0) (bytes-tested xs parts.1)

-- each of the first digits is no control character and no blank
abbrev are_digits : ℕ → Bool
are_digits zero = true
are_digits (suc n) = nat_le 48 (slice_index lower_digits n) && are_digits n

digit-at : (n k : ℕ) → are_digits n ≡ true → k < n → 48 ≤ slice_index lower_digits k
digit-at zero k passed within = absurd (omega arith)
digit-at (suc n) k passed within = by (and_parts (nat_le 48 (slice_index lower_digits n)) (are_digits n) passed) (digit-at n k) (cases_lt k n)
  where
    by : (nat_le 48 (slice_index lower_digits n) ≡ true) × (are_digits n ≡ true) → (are_digits n ≡ true → k < n → 48 ≤ slice_index lower_digits k)
        → (k < n) ⊎ (n ≤ k) → 48 ≤ slice_index lower_digits k
    by parts earlier (inl below) = earlier parts.1 below
    by parts earlier (inr top) =
        let same : k ≡ n = omega arith in
        rw same (leb-true 48 (slice_index lower_digits n) parts.0)

pub digit-solid : (d : ℕ) → d < 16 → 48 ≤ slice_index lower_digits d
digit-solid d within = digit-at 16 d refl within

abbrev pub IsDigit : ℕ → Type 0
IsDigit octet = 48 ≤ octet

pub digits-solid : (octets : List ℕ) → IsBytes octets → All IsDigit (encode_lower octets)
unfolding encode_with
digits-solid [] bytes = All-nil IsDigit
digits-solid (octet ∷ octets) bytes =
    let fits : octet < 256 = bytes 0 in
    let high : octet / 16 < 16 = omega arith in
    let low : octet % 16 < 16 = omega arith in
    All-cons IsDigit (slice_index lower_digits (octet / 16)) (slice_index lower_digits (octet % 16) ∷ encode_lower octets) (digit-solid (octet / 16) high)
    (All-cons IsDigit (slice_index lower_digits (octet % 16)) (encode_lower octets) (digit-solid (octet % 16) low) (digits-solid octets (λ i. bytes (suc i))))

pub solid-digit : (octet : ℕ) → 48 ≤ octet → IsSolid octet
solid-digit octet is =
    let space : (octet == 32) ≡ false = ne_eqb octet 32 (λ e. omega arith) in
    let tab : (octet == 9) ≡ false = ne_eqb octet 9 (λ e. omega arith) in
    rw (space, tab) refl

pub all-solid : (octets : List ℕ) → All IsDigit octets → All IsSolid octets
all-solid octets are k d within = solid-digit _ (are k d within)
