-- Each command of the traffic is lawful.
use Rattle.std.proofs.Common.{◌≡◌, ℕ, zero, suc, ◌+◌, ◌-◌, ◌/◌, ◌%◌, ◌^◌, ◌<◌, ◌≤◌, ◌==◌, Bool, true, false, List, [], ◌∷◌, ◌++◌, None, refl, sym, subst, arith}
use Rattle.std.specs.Prelude.{if◌then◌else◌, nat_le}
use Rattle.hex.specs.Hex.{IsBytes}
use Rattle.octet_fields.specs.Fields.{big_bytes}
use Rattle.space_packet.specs.Header.{header_of, identification_of, sequence_of}
use Rattle.space_packet.specs.Packet.{IsPacket, fault_of}
use Rattle.space_packet.proofs.Faults.{fault_of-none}
use Rattle.control_defs.specs.declared.instructions.Instruction.TheVariants.{StartRange}
use Rattle.pst_model.specs.Command.{Command, Arrival, Grant, Idle}
use Rattle.pst_model.specs.Requests.{request_packet}
use Rattle.traffic_gen.specs.Lawful.{AreLawful, HasTime, IsLawful}
use Rattle.traffic_gen.specs.Traffic.{after_draws, arrival_head, arrival_packet, counting, draw, drawn, drawn_packet, grants, length_by, pass, passes, retrieval, service_by, setup, subtype_by, time_of, traffic_of, where_so}
use Rattle.traffic_gen.proofs.Counting.{length-arrival_packet}
use Rattle.traffic_gen.proofs.Octets.{are_bytes, bytes-append, bytes-cons, bytes-map, bytes-six, bytes-tested, bytes-two}

lawful-append : (front behind : List Command) → AreLawful front → AreLawful behind → AreLawful (front ++ behind)
lawful-append [] behind first second = second
lawful-append (command ∷ front) behind first second = (first.0, lawful-append front behind first.1 second)

lawful-where : (so : Bool) (command : Command) → IsLawful command → AreLawful (where_so so command)
lawful-where true command lawful = (lawful, tt)
lawful-where false command lawful = tt

-- arrivals

one_of-three : (low middle : Bool) (a b c : ℕ) → a < 256 → b < 256 → c < 256 → (if low then a else if middle then b else c) < 256
one_of-three true middle a b c first second third = first
one_of-three false true a b c first second third = second
one_of-three false false a b c first second third = third

bytes-counting : (number count : ℕ) → IsBytes (counting number count)
bytes-counting number count = bytes-map (λ j. (number + j) % 256) _ (λ j. omega arith)

bytes-arrival : (number a b c : ℕ) → IsBytes (arrival_packet number a b c)
bytes-arrival number a b c =
    let fields = arrival_head number a c in
    let front = big_bytes 2 (identification_of fields) in
    let middle = big_bytes 2 (sequence_of fields) in
    let zeros : List ℕ = 0 ∷ 0 ∷ 0 ∷ 0 ∷ [] in
    let kind : List ℕ = service_by b ∷ subtype_by b ∷ zeros in
    let service : service_by b < 256 = one_of-three (nat_le (b % 4) 1) (b % 4 == 2) 3 5 1 (omega arith) (omega arith) (omega arith) in
    let subtype : subtype_by b < 256 = one_of-three (nat_le (b % 4) 1) (b % 4 == 2) 25 2 7 (omega arith) (omega arith) (omega arith) in
    let head : IsBytes (header_of fields) =
    bytes-append (front ++ middle) (big_bytes 2 fields.length) (bytes-append front middle (bytes-two (identification_of fields)) (bytes-two (sequence_of fields))) (bytes-two fields.length) in
    let report : IsBytes (32 ∷ kind) =
    bytes-cons 32 kind (omega arith) (bytes-cons (service_by b) (subtype_by b ∷ zeros) service (bytes-cons (subtype_by b) zeros subtype (bytes-tested zeros refl))) in
    let timed = bytes-append (32 ∷ kind) (big_bytes 6 (time_of number)) report (bytes-six (time_of number)) in
    bytes-append (header_of fields ++ (32 ∷ kind ++ big_bytes 6 (time_of number))) (counting number (length_by c - 19))
    (bytes-append (header_of fields) (32 ∷ kind ++ big_bytes 6 (time_of number)) head timed) (bytes-counting number (length_by c - 19))

packet-arrival : (number a b c : ℕ) → IsPacket (arrival_packet number a b c)
packet-arrival number a b c =
    let long = length-arrival_packet number a b c in record {
      at_least = omega arith;
      at_most = omega arith;
      version = omega arith;
      whole = omega arith;
    }

lawful-arrival : (number state : ℕ) → number ≤ 100000 → IsLawful (Arrival (time_of number) (drawn_packet number state))
lawful-arrival number state few =
    let a = drawn (draw state) in
    let b = drawn (draw (draw state)) in
    let c = drawn (after_draws state) in record {
      moment = omega arith;
      packet = packet-arrival number a b c;
      bytes = bytes-arrival number a b c;
    }

-- requests

-- octets that are written out, of a packet
checked : (time : ℕ) (octets : List ℕ) → time < 2 ^ 48 → fault_of octets ≡ None → are_bytes octets ≡ true → HasTime time octets
checked time octets moment none bytes = record { moment = moment; packet = (fault_of-none octets).0 none; bytes = bytes-tested octets bytes }

lawful-setup : AreLawful setup
lawful-setup =
    let moment : 1 < 2 ^ 48 = omega arith in
    (checked 1 _ moment refl refl, (checked 1 _ moment refl refl, (checked 1 _ moment refl refl, (checked 1 _ moment refl refl, (checked 1 _ moment refl refl, tt)))))

-- a retrieval, with its octets in front of its last time
lawful-retrieval : (number count store : ℕ) (front : List ℕ) → number ≤ 100000 → are_bytes front ≡ true
    → request_packet count 9 15 9 0 (StartRange store 65536 (time_of number) ∷ []) ≡ front ++ big_bytes 6 (time_of number)
    → IsPacket (request_packet count 9 15 9 0 (StartRange store 65536 (time_of number) ∷ [])) → IsLawful (retrieval number count store)
lawful-retrieval number count store front few bytes is packet = record {
  moment = omega arith;
  packet = packet;
  bytes = subst IsBytes (sym is) (bytes-append front (big_bytes 6 (time_of number)) (bytes-tested front bytes) (bytes-six (time_of number)));
}

first-lawful : (number : ℕ) → number ≤ 100000 → IsLawful (retrieval number 5 2)
first-lawful number few =
    lawful-retrieval number 5 2 (24 ∷ 10 ∷ 192 ∷ 5 ∷ 0 ∷ 19 ∷ 41 ∷ 15 ∷ 9 ∷ 0 ∷ 0 ∷ 1 ∷ 0 ∷ 2 ∷ 0 ∷ 0 ∷ 0 ∷ 1 ∷ 0 ∷ 0 ∷ []) few refl refl
    (record { at_least = omega arith; at_most = omega arith; version = refl; whole = refl })

second-lawful : (number : ℕ) → number ≤ 100000 → IsLawful (retrieval number 6 3)
second-lawful number few =
    lawful-retrieval number 6 3 (24 ∷ 10 ∷ 192 ∷ 6 ∷ 0 ∷ 19 ∷ 41 ∷ 15 ∷ 9 ∷ 0 ∷ 0 ∷ 1 ∷ 0 ∷ 3 ∷ 0 ∷ 0 ∷ 0 ∷ 1 ∷ 0 ∷ 0 ∷ []) few refl refl
    (record { at_least = omega arith; at_most = omega arith; version = refl; whole = refl })

-- all of it

lawful-pass : (total number state : ℕ) → number ≤ 100000 → AreLawful (pass total number state)
lawful-pass total number state few =
    let time : time_of number < 2 ^ 48 = omega arith in
    let granted = lawful-where (number % 4 == 3) (Grant (time_of number)) time in
    let idle = lawful-where (number % 64 == 63) (Idle (time_of number)) time in
    let second = lawful-where (number == total / 2) (retrieval number 5 2) (first-lawful number few) in
    let third = lawful-where (number == total - 1) (retrieval number 6 3) (second-lawful number few) in
    let arrived = Arrival (time_of number) (drawn_packet number state) ∷ where_so (number % 4 == 3) (Grant (time_of number)) in
    let idled = arrived ++ where_so (number % 64 == 63) (Idle (time_of number)) in
    let first : AreLawful arrived = (lawful-arrival number state few, granted) in
    lawful-append (idled ++ where_so (number == total / 2) (retrieval number 5 2)) (where_so (number == total - 1) (retrieval number 6 3))
    (lawful-append idled (where_so (number == total / 2) (retrieval number 5 2)) (lawful-append arrived (where_so (number % 64 == 63) (Idle (time_of number))) first idle) second)
    third

lawful-passes : (total number state more : ℕ) → number + more ≤ 100000 → AreLawful (passes total number state more)
lawful-passes total number state zero few = tt
lawful-passes total number state (suc more) few =
    lawful-append (pass total number state) (passes total (number + 1) (after_draws state) more) (lawful-pass total number state (omega arith))
    (lawful-passes total (number + 1) (after_draws state) more (omega arith))

lawful-grants : (total more : ℕ) → total ≤ 100000 → AreLawful (grants total more)
lawful-grants total zero few = tt
lawful-grants total (suc more) few = let time : time_of total < 2 ^ 48 = omega arith in (time, lawful-grants total more few)

pub lawful-traffic : (number total : ℕ) → total ≤ 100000 → AreLawful (traffic_of number total)
lawful-traffic number total few =
    lawful-append (setup ++ passes total 0 number total) (grants total total) (lawful-append setup (passes total 0 number total) lawful-setup (lawful-passes total 0 number total (omega arith)))
    (lawful-grants total total few)
