-- Small worked inputs, which the definitions compute.
use Rattle.std.proofs.Common.{◌≡◌, [], ◌∷◌, ◌++◌, codes, length, take, refl}
use Rattle.hex.proofs.OnLiterals.{hex_on_literals}
use Rattle.traffic_gen.specs.Lawful.{commands_in}
use Rattle.traffic_gen.specs.Lines.{text_of}
use Rattle.traffic_gen.specs.Traffic.{after_draws, draw, drawn, drawn_packet, setup, traffic_of}

-- the first draws from 7
first_draw : drawn (draw 7) ≡ 1059165278
first_draw = refl

second_draw : drawn (draw (draw 7)) ≡ 2052263231
second_draw = refl

third_draw : drawn (after_draws 7) ≡ 1946856753
third_draw = refl

-- the first packet from 7, up to the octets that count on, and its length
first_packet : take 22 (drawn_packet 0 7) ≡ 8 ∷ 102 ∷ 192 ∷ 0 ∷ 1 ∷ 211 ∷ 32 ∷ 1 ∷ 7 ∷ 0 ∷ 0 ∷ 0 ∷ 0 ∷ 0 ∷ 0 ∷ 0 ∷ 1 ∷ 0 ∷ 0 ∷ 0 ∷ 1 ∷ 2 ∷ []
first_packet = refl

first_length : length (drawn_packet 0 7) ≡ 474
first_length = refl

-- the requests that the traffic begins with
first_lines : text_of setup
    ≡ codes "R 000000000001 180ac000001d290f14000003000200000003e802000301000007d003000400000000c804\n"
    ++ codes "R 000000000001 180ac001001a290f03000003000201006400000003020065030000040300660502\n"
    ++ codes "R 000000000001 180ac002000b290f01000003000200030004\n"
    ++ codes "R 000000000001 180ac003000a290e010000010200670500\n"
    ++ codes "R 000000000001 180ac0040007290f0f0000010002\n"
unfolding hex_on_literals
first_lines = refl

-- how many commands there are
one_arrival : length (traffic_of 7 1) ≡ 9
one_arrival = refl

two_thousand_arrivals : commands_in 2000 ≡ 4538
two_thousand_arrivals = refl
