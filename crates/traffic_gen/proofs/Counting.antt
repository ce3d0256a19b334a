-- The octets of an arrival, and how many they are.
use Rattle.std.proofs.Common.{◌≡◌, ℕ, ◌+◌, ◌-◌, ◌%◌, List, [], ◌∷◌, ◌++◌, length, take, sym, ap, ◌∙◌, arith}
use Rattle.std.proofs.lemmas.List.FromFn.{length-map-range_with_len, map-range_with_len_more}
use Rattle.octet_fields.specs.Fields.{big_bytes}
use Rattle.space_packet.specs.Header.{header_of}
use Rattle.traffic_gen.specs.Traffic.{after_draws, arrival_head, arrival_packet, counting, draw, drawn, drawn_packet, length_by, service_by, subtype_by, time_of}
use Rattle.traffic_gen.proofs.Pieces.{taken_front}

pub length-counting : (number count : ℕ) → length (counting number count) ≡ count
length-counting number count = length-map-range_with_len (λ j. (number + j) % 256) 0 count

pub counting-more : (number count : ℕ) → counting number (count + 1) ≡ counting number count ++ (number + count) % 256 ∷ []
counting-more number count = map-range_with_len_more (λ j. (number + j) % 256) 0 count count (omega arith)

pub length-arrival_packet : (number a b c : ℕ) → length (arrival_packet number a b c) ≡ length_by c
length-arrival_packet number a b c = omega (arith, length-counting number (length_by c - 19))

-- the same packet, by its service, its subtype and its time
abbrev pub packet_by : (number a c service subtype moment : ℕ) → List ℕ
packet_by number a c service subtype moment =
    header_of (arrival_head number a c) ++ (32 ∷ service ∷ subtype ∷ 0 ∷ 0 ∷ 0 ∷ 0 ∷ [] ++ big_bytes 6 moment) ++ counting number (length_by c - 19)

pub packet_by-draws : (number a b c service subtype moment : ℕ) → service ≡ service_by b → subtype ≡ subtype_by b → moment ≡ time_of number
    → packet_by number a c service subtype moment ≡ arrival_packet number a b c
packet_by-draws number a b c service subtype moment of_service of_subtype of_time =
    ap (λ (octet : ℕ). packet_by number a c octet subtype moment) of_service
    ∙ ap (λ (octet : ℕ). packet_by number a c (service_by b) octet moment) of_subtype
    ∙ ap (λ (time : ℕ). packet_by number a c (service_by b) (subtype_by b) time) of_time

-- the front of octets that begin with the packet of an arrival
pub taken-drawn : (number state count : ℕ) (octets behind : List ℕ) → octets ≡ drawn_packet number state ++ behind → count ≡ length_by (drawn (after_draws state))
    → take count octets ≡ drawn_packet number state
taken-drawn number state count octets behind is long =
    taken_front (drawn_packet number state) behind octets count is
    (long ∙ sym (length-arrival_packet number (drawn (draw state)) (drawn (draw (draw state))) (drawn (after_draws state))))
