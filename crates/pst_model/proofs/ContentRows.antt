-- Patterns, forwarding and content reports on worked inputs, by computation.
use Rattle.std.proofs.Common.{◌≡◌, ℕ, List, [], ◌∷◌, ◌++◌, refl}
use Rattle.std.specs.Prelude.{map}
use Rattle.control_defs.specs.declared.patterns.Pattern.TheVariants.{Service}
use Rattle.pst_model.specs.Command.{Arrival, Request, Grant}
use Rattle.pst_model.specs.Rules.{Output, Forwarded, Reply}
use Rattle.pst_model.specs.Run.{run}
use Rattle.pst_model.specs.Table.{Store, Stored, Table, after_format}

abbrev reply : List ℕ → Output
reply packet = record { command = 1; kind = Reply; channel = 0; packet = packet }

-- a report with less than 256 octets, reports and moments
abbrev report : (count size service subtype moment : ℕ) → List ℕ → List ℕ
report count size service subtype moment content =
    0x08 ∷ 0x0a ∷ 0xc0 ∷ count ∷ 0x00 ∷ size ∷ 0x20 ∷ service ∷ subtype ∷ 0x00 ∷ 0x00 ∷ 0x00 ∷ 0x00
    ∷ 0x00 ∷ 0x00 ∷ 0x00 ∷ 0x00 ∷ 0x00 ∷ moment ∷ content

abbrev identifier : List ℕ
identifier = 0x18 ∷ 0x0a ∷ 0xc0 ∷ 0x00 ∷ []

-- [15,18] with the flags 9
abbrev status : List ℕ
status = 0x18 ∷ 0x0a ∷ 0xc0 ∷ 0x00 ∷ 0x00 ∷ 0x04 ∷ 0x29 ∷ 0x0f ∷ 0x12 ∷ 0x00 ∷ 0x00 ∷ []

status_report : (run 64 after_format (Request 32 status ∷ [])).outputs
    ≡ reply (report 0 0x10 1 1 32 identifier) ∷ reply (report 1 0x12 15 0x13 32 (0x01 ∷ 0x00 ∷ 0x01 ∷ 0x01 ∷ 0x01 ∷ 0x00 ∷ [])) ∷ reply (report 2 0x10 1 7 32 identifier) ∷ []
status_report = refl

status_counts : (run 64 after_format (Request 32 status ∷ [])).table.reports ≡ 3
status_counts = refl

-- [15,22] and [14,3] with the flags 0, and [15,5] of store 1
abbrev configuration : List ℕ
configuration = 0x18 ∷ 0x0a ∷ 0xc0 ∷ 0x00 ∷ 0x00 ∷ 0x04 ∷ 0x20 ∷ 0x0f ∷ 0x16 ∷ 0x00 ∷ 0x00 ∷ []

configured : (run 64 after_format (Request 1 configuration ∷ [])).outputs
    ≡ reply (report 0 0x15 15 0x17 1 (0x01 ∷ 0x00 ∷ 0x01 ∷ 0x00 ∷ 0x00 ∷ 0x00 ∷ 0x00 ∷ 0x40 ∷ 0x01 ∷ [])) ∷ []
configured = refl

abbrev types : List ℕ
types = 0x18 ∷ 0x0a ∷ 0xc0 ∷ 0x00 ∷ 0x00 ∷ 0x06 ∷ 0x20 ∷ 0x0f ∷ 0x05 ∷ 0x00 ∷ 0x00 ∷ 0x00 ∷ 0x01 ∷ []

every_type : (run 64 after_format (Request 1 types ∷ [])).outputs
    ≡ reply (report 0 0x14 15 6 1 (0x00 ∷ 0x01 ∷ 0x01 ∷ 0x00 ∷ 0x00 ∷ 0x00 ∷ 0x00 ∷ 0x00 ∷ [])) ∷ []
every_type = refl

-- [15,5] of a store that does not stand fails, and has no content report
abbrev no_types : List ℕ
no_types = 0x18 ∷ 0x0a ∷ 0xc0 ∷ 0x00 ∷ 0x00 ∷ 0x06 ∷ 0x20 ∷ 0x0f ∷ 0x05 ∷ 0x00 ∷ 0x00 ∷ 0x00 ∷ 0x02 ∷ []

no_content : (run 64 after_format (Request 1 no_types ∷ [])).outputs
    ≡ reply (report 0 0x13 1 4 1 (identifier ++ 0x06 ∷ 0x00 ∷ 0x01 ∷ [])) ∷ reply (report 1 0x13 1 8 1 (identifier ++ 0x17 ∷ 0x00 ∷ 0x01 ∷ [])) ∷ []
no_content = refl

-- [14,1] of Service(100, 3), flags 0: reports of that service are forwarded, and other packets are
-- not
abbrev forward : List ℕ
forward = 0x18 ∷ 0x0a ∷ 0xc0 ∷ 0x00 ∷ 0x00 ∷ 0x0a ∷ 0x20 ∷ 0x0e ∷ 0x01 ∷ 0x00 ∷ 0x00 ∷ 0x01 ∷ 0x02 ∷ 0x00 ∷ 0x64 ∷ 0x03 ∷ 0x00 ∷ []

abbrev packet : List ℕ
packet = 0x08 ∷ 0x64 ∷ 0xc0 ∷ 0x00 ∷ 0x00 ∷ 0x0d ∷ 0x20 ∷ 0x03 ∷ 0x19 ∷ 0x00 ∷ 0x00 ∷ 0x00 ∷ 0x00 ∷ 0x00 ∷ 0x00 ∷ 0x00 ∷ 0x00 ∷ 0x00 ∷ 0x10 ∷ 0xaa ∷ []

abbrev plain : List ℕ
plain = 0x00 ∷ 0x64 ∷ 0xc0 ∷ 0x00 ∷ 0x00 ∷ 0x00 ∷ 0xaa ∷ []

abbrev forwarded : Table
forwarded = (run 64 after_format (Request 1 forward ∷ Arrival 16 packet ∷ Arrival 17 plain ∷ [])).table

one_goes_out : (run 64 after_format (Request 1 forward ∷ Arrival 16 packet ∷ Arrival 17 plain ∷ [])).outputs ≡ record { command = 2; kind = Forwarded; channel = 0; packet = packet } ∷ []
one_goes_out = refl

both_are_stored : map (λ (store : Store). map (λ (stored : Stored). stored.octets) store.packets) forwarded.stores ≡ (packet ∷ plain ∷ []) ∷ []
both_are_stored = refl

one_pattern : forwarded.forward ≡ Service 100 3 ∷ []
one_pattern = refl

-- [14,2] of a pattern that does not stand
abbrev unforward : List ℕ
unforward = 0x18 ∷ 0x0a ∷ 0xc0 ∷ 0x00 ∷ 0x00 ∷ 0x0a ∷ 0x20 ∷ 0x0e ∷ 0x02 ∷ 0x00 ∷ 0x00 ∷ 0x01 ∷ 0x02 ∷ 0x00 ∷ 0x64 ∷ 0x03 ∷ 0x00 ∷ []

absent : (run 64 after_format (Request 3 unforward ∷ [])).outputs
    ≡ reply (report 0 0x13 1 4 3 (identifier ++ 0x15 ∷ 0x00 ∷ 0x01 ∷ [])) ∷ reply (report 1 0x13 1 8 3 (identifier ++ 0x17 ∷ 0x00 ∷ 0x01 ∷ [])) ∷ []
absent = refl

-- [15,12] of stores 1, 2 and 1 again, where one packet of two was passed
abbrev summary : List ℕ
summary = 0x18 ∷ 0x0a ∷ 0xc0 ∷ 0x00 ∷ 0x00 ∷ 0x0b ∷ 0x20 ∷ 0x0f ∷ 0x0c ∷ 0x00 ∷ 0x00 ∷ 0x03 ∷ 0x00 ∷ 0x01 ∷ 0x00 ∷ 0x02 ∷ 0x00 ∷ 0x01 ∷ []

abbrev row : List ℕ
row = 0x00 ∷ 0x01 ∷ 0x00 ∷ 0x00 ∷ 0x00 ∷ 0x02 ∷ 0x00 ∷ 0x00 ∷ 0x00 ∷ 0x02
    ∷ 0x00 ∷ 0x00 ∷ 0x00 ∷ 0x00 ∷ 0x00 ∷ 0x10 ∷ 0x00 ∷ 0x00 ∷ 0x00 ∷ 0x00 ∷ 0x00 ∷ 0x11 ∷ 0x00 ∷ 0x00 ∷ 0x00 ∷ 0x01 ∷ []

abbrev two_packets : Table
two_packets = (run 64 after_format (Arrival 16 packet ∷ Arrival 17 plain ∷ Grant 18 ∷ [])).table

with_repeats : map (λ (output : Output). output.packet) (run 64 two_packets (Request 4 summary ∷ [])).outputs
    ≡ report 0 0x13 1 4 4 (identifier ++ 0x06 ∷ 0x00 ∷ 0x02 ∷ []) ∷ report 1 0x41 15 0x0d 4 (0x02 ∷ row ++ row) ∷ report 2 0x13 1 8 4 (identifier ++ 0x17 ∷ 0x00 ∷ 0x01 ∷ []) ∷ []
with_repeats = refl

-- of stores that do not stand there is no summary
abbrev unknown_summary : List ℕ
unknown_summary = 0x18 ∷ 0x0a ∷ 0xc0 ∷ 0x00 ∷ 0x00 ∷ 0x07 ∷ 0x20 ∷ 0x0f ∷ 0x0c ∷ 0x00 ∷ 0x00 ∷ 0x01 ∷ 0x00 ∷ 0x02 ∷ []

no_summary : map (λ (output : Output). output.packet) (run 64 two_packets (Request 4 unknown_summary ∷ [])).outputs
    ≡ report 0 0x13 1 4 4 (identifier ++ 0x06 ∷ 0x00 ∷ 0x01 ∷ []) ∷ report 1 0x13 1 8 4 (identifier ++ 0x17 ∷ 0x00 ∷ 0x01 ∷ []) ∷ []
no_summary = refl
