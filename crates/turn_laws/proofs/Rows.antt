-- Worked outputs, runs and sessions, by computation.
use Rattle.std.proofs.Common.{◌≡◌, ◌≤◌, ℕ, arith, List, [], ◌∷◌, ◌++◌, refl}
use Rattle.std.proofs.lemmas.List.Elements.{All-cons, All-head, All-nil}
use Rattle.std.specs.Prelude.{flat_map, map}
use Rattle.hex.specs.Hex.{encode_with}
use Rattle.pst_model.specs.Acknowledged.{acknowledged}
use Rattle.pst_model.specs.Command.{Command, Arrival, Grant}
use Rattle.pst_model.specs.Rules.{Forwarded, Output, Reply, Retrieved}
use Rattle.pst_model.specs.Run.{run}
use Rattle.pst_model.specs.Table.{after_format}
use Rattle.turn_laws.specs.Sessions.{LeavesTables, Session, kept_of}
use Rattle.turn_laws.specs.Turns.{IsInTurn, octets_after, outputs_of, table_after, unsent}

-- A forwarded line of 5 octets, a reply of two lines of 5 and 7 octets, and a retrieved line of 5 octets.
abbrev forwarded_line : Output
forwarded_line = record { command = 1; kind = Forwarded; channel = 0; packet = 0xa1 ∷ [] }

abbrev reply_lines : List Output
reply_lines = record { command = 2; kind = Reply; channel = 0; packet = 0xa2 ∷ [] } ∷ record { command = 2; kind = Reply; channel = 0; packet = 0xa3 ∷ 0xa4 ∷ [] } ∷ []

abbrev retrieved_line : Output
retrieved_line = record { command = 3; kind = Retrieved; channel = 7; packet = 0xa5 ∷ [] }

abbrev outputs : List Output
outputs = forwarded_line ∷ reply_lines ++ retrieved_line ∷ []

-- a forwarded line acknowledges nothing, a reply its command from its first octet on
of_one_line : map (acknowledged (forwarded_line ∷ [])) (0 ∷ 1 ∷ 5 ∷ 6 ∷ []) ≡ 0 ∷ 0 ∷ 0 ∷ 0 ∷ []
unfolding encode_with
of_one_line = refl

of_a_reply : map (acknowledged reply_lines) (0 ∷ 1 ∷ 5 ∷ 6 ∷ 12 ∷ []) ≡ 0 ∷ 2 ∷ 2 ∷ 2 ∷ 2 ∷ []
unfolding encode_with
of_a_reply = refl

of_a_retrieved_line : map (acknowledged (retrieved_line ∷ [])) (0 ∷ 1 ∷ 5 ∷ []) ≡ 0 ∷ 3 ∷ 3 ∷ []
unfolding encode_with
of_a_retrieved_line = refl

of_all : map (acknowledged outputs) (0 ∷ 1 ∷ 5 ∷ 6 ∷ 10 ∷ 17 ∷ 18 ∷ 22 ∷ []) ≡ 0 ∷ 0 ∷ 0 ∷ 2 ∷ 2 ∷ 2 ∷ 3 ∷ 3 ∷ []
unfolding encode_with
of_all = refl

-- a line is unsent up to its last octet, and a forwarded one never counts
unsent_of_all : map (unsent outputs) (0 ∷ 5 ∷ 9 ∷ 10 ∷ 16 ∷ 17 ∷ 21 ∷ 22 ∷ [])
    ≡ (2 ∷ 2 ∷ 3 ∷ []) ∷ (2 ∷ 2 ∷ 3 ∷ []) ∷ (2 ∷ 2 ∷ 3 ∷ []) ∷ (2 ∷ 3 ∷ []) ∷ (2 ∷ 3 ∷ []) ∷ (3 ∷ []) ∷ (3 ∷ []) ∷ [] ∷ []
unfolding encode_with
unsent_of_all = refl

-- a packet of 20 octets, of which the last one varies
abbrev packet : ℕ → List ℕ
packet last = 0x08 ∷ 0x64 ∷ 0xc0 ∷ 0x00 ∷ 0x00 ∷ 0x0d ∷ 0x20 ∷ 0x03 ∷ 0x19 ∷ 0x00 ∷ 0x00 ∷ 0x00 ∷ 0x00 ∷ 0x00 ∷ 0x00 ∷ 0x00 ∷ 0x00 ∷ 0x00 ∷ 0x10 ∷ last ∷ []

-- two packets, each of which is stored and then sent
abbrev two_packets : List Command
two_packets = Arrival 0x30 (packet 1) ∷ Grant 0x31 ∷ Arrival 0x32 (packet 2) ∷ Grant 0x33 ∷ []

lines_of_two_packets : map (octets_after 16 after_format two_packets) (0 ∷ 1 ∷ 2 ∷ 3 ∷ 4 ∷ []) ≡ 0 ∷ 0 ∷ 43 ∷ 43 ∷ 86 ∷ []
unfolding encode_with
lines_of_two_packets = refl

acknowledged_of_two_packets : map (acknowledged (outputs_of 16 after_format two_packets)) (0 ∷ 1 ∷ 43 ∷ 44 ∷ 86 ∷ []) ≡ 0 ∷ 2 ∷ 2 ∷ 4 ∷ 4 ∷ []
unfolding encode_with
acknowledged_of_two_packets = refl

-- with the first line sent, the second grant may be durable
one_ahead : IsInTurn 16 after_format two_packets 43 4
unfolding encode_with
one_ahead =
    let last : acknowledged (outputs_of 16 after_format two_packets) 43 ≡ 2 = refl in
    record {
      within = omega arith;
      acknowledged = omega (arith, last);
      ahead = All-cons (λ number. 4 ≤ number) 4 [] (omega arith) (All-nil (λ number. 4 ≤ number));
    }

-- with nothing sent, only the first one may be
two_ahead : ¬ (IsInTurn 16 after_format two_packets 0 3)
unfolding encode_with
two_ahead turn =
    let first : 3 ≤ 2 = All-head (λ number. 3 ≤ number) 2 (4 ∷ []) turn.ahead in
    absurd (omega (arith, first))

-- an octet of the second line acknowledges its grant
acknowledged_is_kept : ¬ (IsInTurn 16 after_format two_packets 44 3)
unfolding encode_with
acknowledged_is_kept turn =
    let last : 4 ≤ 3 = turn.acknowledged in
    absurd (omega (arith, last))

-- A session that stops with the first line sent and the second packet stored, and one that sends that packet.
abbrev first : Session
first = record { table = after_format; commands = two_packets; octets = 43; kept = 3 }

abbrev second : Session
second = record { table = table_after 16 after_format two_packets 3; commands = Grant 0x40 ∷ Grant 0x41 ∷ []; octets = 12; kept = 1 }

kept_of_both : flat_map kept_of (first ∷ second ∷ []) ≡ Arrival 0x30 (packet 1) ∷ Grant 0x31 ∷ Arrival 0x32 (packet 2) ∷ Grant 0x40 ∷ []
kept_of_both = refl

in_first : IsInTurn 16 after_format two_packets 43 3
unfolding encode_with
in_first =
    let last : acknowledged (outputs_of 16 after_format two_packets) 43 ≡ 2 = refl in
    record {
      within = omega arith;
      acknowledged = omega (arith, last);
      ahead = All-cons (λ number. 3 ≤ number) 4 [] (omega arith) (All-nil (λ number. 3 ≤ number));
    }

in_second : IsInTurn 16 second.table second.commands 12 1
unfolding encode_with
in_second =
    let last : acknowledged (outputs_of 16 second.table second.commands) 12 ≡ 1 = refl in
    record {
      within = omega arith;
      acknowledged = omega (arith, last);
      ahead = All-cons (λ number. 1 ≤ number) 1 [] (omega arith) (All-nil (λ number. 1 ≤ number));
    }

both_follow : LeavesTables 16 after_format (first ∷ second ∷ []) (run 16 after_format two_packets).table
both_follow = (refl, in_first, (refl, in_second, refl))
