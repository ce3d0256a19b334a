-- What a page spells, by its head and its packet.
use Rattle.std.proofs.Common.{◌≡◌, ℕ, ◌+◌, ◌-◌, ◌*◌, ◌<◌, ◌≤◌, Bool, true, false, ◌&&◌, ◌==◌, nat_le, is_none, List, length, take, drop, Option, Some, None, refl, sym, ◌∙◌, ap, subst, arith, eqb-true, length-take, length-drop}
use Rattle.std.proofs.lemmas.Bool.{eq-eqb}
use Rattle.std.proofs.lemmas.Bool.Decides.{nat_tests}
use Rattle.std.proofs.lemmas.Option.{same_Some}
use Rattle.std.specs.Prelude.{if◌then◌else◌}
use Rattle.octet_fields.specs.Fields.{field}
use Rattle.space_packet.proofs.Faults.{fault_of-none}
use Rattle.space_packet.specs.Charge.{charge_of}
use Rattle.space_packet.specs.Packet.{IsPacket, fault_of}
use Rattle.space_packet.specs.declared.fault.PacketFault.{PacketFault}
use Rattle.record_view.specs.Records.{Meaning, Spells, has_head, length_at, meaning_at, packet_at, record_at}

pub spelled : (block : List ℕ) (number page : ℕ) → has_head block number page ≡ true
    → fault_of (packet_at block page) ≡ None
    → record_at block number page ≡ Some (meaning_at block number page)
unfolding record_at
spelled block number page head whole = rw (head, whole) refl

pub no_head : (block : List ℕ) (number page : ℕ) → has_head block number page ≡ false
    → record_at block number page ≡ None
unfolding record_at
no_head block number page head = rw head refl

pub no_packet : (block : List ℕ) (number page : ℕ) (fault : PacketFault)
    → has_head block number page ≡ true → fault_of (packet_at block page) ≡ Some fault
    → record_at block number page ≡ None
unfolding record_at
no_packet block number page fault head has = rw (head, has) refl

both_true : (a b : Bool) → a && b ≡ true → (a ≡ true) × (b ≡ true)
both_true true true is = (refl, refl)
both_true true false is = absurd cc
both_true false b is = absurd cc

true_both : (a b : Bool) → a ≡ true → b ≡ true → a && b ≡ true
true_both a b is_a is_b = rw (is_a, is_b) refl

pub second_false : (a b : Bool) → b ≡ false → a && b ≡ false
second_false true b is = is
second_false false b is = refl

none_is : (fault : Option PacketFault) → is_none fault ≡ true → fault ≡ None
none_is None is = refl
none_is (Some fault) is = absurd cc

if_some : (b : Bool) (x y : Meaning) → (if b then Some x else None) ≡ Some y → (b ≡ true) × (x ≡ y)
if_some true x y is = (refl, same_Some x y is)
if_some false x y is = absurd cc

le_true : (m : ℕ) → nat_le m 256 ≡ true → m ≤ 256
le_true m is = grind (arith, nat_tests)

true_le : (m : ℕ) → m ≤ 256 → nat_le m 256 ≡ true
true_le m le = grind (arith, nat_tests)

pub above_false : (m : ℕ) → 256 < m → nat_le m 256 ≡ false
above_false m lt = grind (arith, nat_tests)

-- no record begins behind the last page
pub none_behind : (block : List ℕ) (number : ℕ) → record_at block number 256 ≡ None
none_behind block number =
    no_head block number 256
    (second_false
    ((field 4 (256 * 256 + 6) block == number) && (field 4 (256 * 256 + 12) block == 0))
    (nat_le (256 + charge_of (length_at block 256)) 256)
    (above_false (256 + charge_of (length_at block 256)) (omega arith)))

-- the record that is read is spelled
pub spells_read : (block : List ℕ) (number page : ℕ) (meaning : Meaning) → length block ≡ 65536
    → record_at block number page ≡ Some meaning → Spells block number page meaning
unfolding record_at
spells_read block number page meaning whole is =
    let parts = if_some (has_head block number page && is_none (fault_of (packet_at block page)))
    (meaning_at block number page) meaning is in
    let tests =
    both_true (has_head block number page) (is_none (fault_of (packet_at block page))) parts.0 in
    let head = both_true
    ((field 4 (256 * page + 6) block == number) && (field 4 (256 * page + 12) block == 0))
    (nat_le (page + charge_of (length_at block page)) 256) tests.0 in
    let fields = both_true
    (field 4 (256 * page + 6) block == number) (field 4 (256 * page + 12) block == 0) head.0 in
    let within : page + charge_of (length_at block page) ≤ 256 =
    le_true (page + charge_of (length_at block page)) head.1 in
    let size : length (packet_at block page) ≡ length_at block page =
    cut block page (length_at block page) whole within in
    let packet : IsPacket (packet_at block page) =
    (fault_of-none (packet_at block page)).0 (none_is (fault_of (packet_at block page)) tests.1) in
    let spelled_there : Spells block number page (meaning_at block number page) = record {
      same_number = refl;
      number_there = eqb-true (field 4 (256 * page + 6) block) number fields.0;
      zeros = eqb-true (field 4 (256 * page + 12) block) 0 fields.1;
      stamp = refl;
      said_length = sym size;
      packet_there = ap (λ (n : ℕ). take n (drop (256 * page + 16) block)) size;
      packet = packet;
      within = subst (λ (n : ℕ). page + charge_of n ≤ 256) (sym size) within;
    } in
    subst (λ (m : Meaning). Spells block number page m) parts.1 spelled_there
  where
    cut : (block : List ℕ) (page said : ℕ) → length block ≡ 65536 → page + charge_of said ≤ 256
        → length (take said (drop (256 * page + 16) block)) ≡ said
    cut block page said whole within =
        omega (
          arith,
          length-take said (drop (256 * page + 16) block),
          length-drop (256 * page + 16) block,
        )

-- a record that is spelled is read
pub read_spelled : (block : List ℕ) (number page : ℕ) (meaning : Meaning)
    → Spells block number page meaning → record_at block number page ≡ Some meaning
read_spelled block number page meaning spells =
    let there : packet_at block page ≡ meaning.packet =
    ap (λ (n : ℕ). take n (drop (256 * page + 16) block)) spells.said_length
    ∙ spells.packet_there in
    let within : page + charge_of (length_at block page) ≤ 256 =
    subst (λ (n : ℕ). page + charge_of n ≤ 256) (sym spells.said_length) spells.within in
    let head : has_head block number page ≡ true =
    true_both ((field 4 (256 * page + 6) block == number) && (field 4 (256 * page + 12) block == 0))
    (nat_le (page + charge_of (length_at block page)) 256)
    (true_both (field 4 (256 * page + 6) block == number) (field 4 (256 * page + 12) block == 0)
    (eq-eqb (field 4 (256 * page + 6) block) number spells.number_there)
    (eq-eqb (field 4 (256 * page + 12) block) 0 spells.zeros))
    (true_le (page + charge_of (length_at block page)) within) in
    spelled block number page head
    (ap fault_of there ∙ (fault_of-none meaning.packet).1 spells.packet)
    ∙ (λ i. Some (record {
      number = sym spells.same_number i;
      stamp = spells.stamp i;
      packet = there i;
    }))

-- what a view of the octets after a head shows
pub view_there : (block octets : List ℕ) (number page said stamp : ℕ)
    → has_head block number page ≡ true → said ≡ length_at block page
    → octets ≡ take (256 * page + 16 + said - (256 * page + 16)) (drop (256 * page + 16) block)
    → IsPacket octets → stamp ≡ field 6 (256 * page) block
    → record_at block number page
    ≡ Some (record { number = number; stamp = stamp; packet = octets })
view_there block octets number page said stamp head said_is octets_are packet stamp_is =
    let size : 256 * page + 16 + said - (256 * page + 16) ≡ length_at block page = omega arith in
    let there : octets ≡ packet_at block page =
    octets_are ∙ ap (λ (n : ℕ). take n (drop (256 * page + 16) block)) size in
    spelled block number page head (ap fault_of (sym there) ∙ (fault_of-none octets).1 packet)
    ∙ (λ i. Some (record { number = number; stamp = sym stamp_is i; packet = sym there i }))

-- octets after a head that are no packet
pub fault_there : (block : List ℕ) (number page said : ℕ) (fault : PacketFault)
    → has_head block number page ≡ true → said ≡ length_at block page
    → fault_of (take (256 * page + 16 + said - (256 * page + 16)) (drop (256 * page + 16) block))
    ≡ Some fault
    → record_at block number page ≡ None
fault_there block number page said fault head said_is has =
    let size : length_at block page ≡ 256 * page + 16 + said - (256 * page + 16) = omega arith in
    no_packet block number page fault head
    (ap (λ (n : ℕ). fault_of (take n (drop (256 * page + 16) block))) size ∙ has)
