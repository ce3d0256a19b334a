-- Octets are a packet exactly where they have no fault.
use Rattle.std.proofs.Common.{◌≡◌, ℕ, ◌<◌, ◌≤◌, ◌⊎◌, inl, inr, ◌==◌, Bool, true, false, not, List, length, Option, Some, None, refl, sym, ◌∙◌, ap, arith}
use Rattle.std.proofs.lemmas.Bool.{cases_lt, cond-false, cond-true, eqb-true, le-ltb, lt-ltb, ltb-false, not-false}
use Rattle.std.specs.Prelude.{◌↔◌, if◌then◌else◌, nat_lt}
use Rattle.space_packet.specs.Packet.{IsPacket, fault_of, need_of, said_length, version_of}
use Rattle.space_packet.specs.declared.fault.PacketFault.{PacketFault}
use Rattle.space_packet.specs.declared.fault.PacketFault.TheVariants.{Short, Version, TooLarge, Long}

-- the first of four faults, by their tests
abbrev first_of_four : (short version large long : Bool) (a b c d : PacketFault) → Option PacketFault
first_of_four short version large long a b c d = if short then Some a else if version then Some b else if large then Some c else if long then Some d else None

no_test : (short version large long : Bool) (a b c d : PacketFault) → first_of_four short version large long a b c d ≡ None → (short ≡ false) × (version ≡ false) × (large ≡ false) × (long ≡ false)
no_test true version large long a b c d is = absurd cc
no_test false true large long a b c d is = absurd cc
no_test false false true long a b c d is = absurd cc
no_test false false false true a b c d is = absurd cc
no_test false false false false a b c d is = (refl, refl, refl, refl)

need_whole : (octets : List ℕ) → 6 ≤ length octets → need_of octets ≡ said_length octets
need_whole octets long = cond-false (nat_lt (length octets) 6) 6 (said_length octets) (le-ltb (length octets) 6 long)

-- octets that have what they need have a whole header
header_there : (octets : List ℕ) → need_of octets ≤ length octets → 6 ≤ length octets
header_there octets enough = by (cases_lt (length octets) 6)
  where
    by : (length octets < 6) ⊎ (6 ≤ length octets) → 6 ≤ length octets
    by (inl short) = let need : need_of octets ≡ 6 = cond-true (nat_lt (length octets) 6) 6 (said_length octets) (lt-ltb (length octets) 6 short) in omega (arith, need, enough)
    by (inr long) = long

packet_of : (octets : List ℕ) → fault_of octets ≡ None → IsPacket octets
packet_of octets is =
    let tests = no_test (nat_lt (length octets) (need_of octets)) (not (version_of octets == 0)) (nat_lt 4096 (need_of octets)) (nat_lt (need_of octets) (length octets))
    (Short (length octets) (need_of octets)) (Version (version_of octets)) (TooLarge (need_of octets)) (Long (length octets) (need_of octets)) is in
    let enough : need_of octets ≤ length octets = ltb-false (length octets) (need_of octets) tests.0 in
    let most : need_of octets ≤ 4096 = ltb-false 4096 (need_of octets) tests.2 in
    let no_more : length octets ≤ need_of octets = ltb-false (need_of octets) (length octets) tests.3 in
    let need : need_of octets ≡ said_length octets = need_whole octets (header_there octets enough) in record {
      at_least = omega (arith, need, enough);
      at_most = omega (arith, most, no_more);
      version = eqb-true (version_of octets) 0 (not-false (version_of octets == 0) tests.1);
      whole = omega (arith, need, enough, no_more);
    }

no_fault : (octets : List ℕ) → IsPacket octets → fault_of octets ≡ None
no_fault octets packet =
    let need : need_of octets ≡ length octets = need_whole octets (omega (arith, packet.at_least)) ∙ sym packet.whole in
    let short : nat_lt (length octets) (need_of octets) ≡ false = le-ltb (length octets) (need_of octets) (omega (arith, need)) in
    let version : not (version_of octets == 0) ≡ false = ap (λ (v : ℕ). not (v == 0)) packet.version in
    let large : nat_lt 4096 (need_of octets) ≡ false = le-ltb 4096 (need_of octets) (omega (arith, need, packet.at_most)) in
    let long : nat_lt (need_of octets) (length octets) ≡ false = le-ltb (need_of octets) (length octets) (omega (arith, need)) in
    all (nat_lt (length octets) (need_of octets)) (not (version_of octets == 0)) (nat_lt 4096 (need_of octets)) (nat_lt (need_of octets) (length octets)) short version large long
  where
    all : (a b c d : Bool) → a ≡ false → b ≡ false → c ≡ false → d ≡ false
        → first_of_four a b c d (Short (length octets) (need_of octets)) (Version (version_of octets)) (TooLarge (need_of octets)) (Long (length octets) (need_of octets)) ≡ None
    all a b c d is_a is_b is_c is_d = rw (is_a, is_b, is_c, is_d) refl

pub fault_of-none : (octets : List ℕ) → (fault_of octets ≡ None) ↔ IsPacket octets
fault_of-none octets = (packet_of octets, no_fault octets)
