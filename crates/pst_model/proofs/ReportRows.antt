-- Reports, by computation.
use Rattle.std.proofs.Common.{◌≡◌, ℕ, true, false, List, [], ◌∷◌, ◌++◌, refl}
use Rattle.control_defs.specs.declared.instructions.StoreKind.TheVariants.{Circular, Bounded}
use Rattle.control_defs.specs.declared.patterns.Pattern.TheVariants.{Every, App, Service, Kind}
use Rattle.pst_model.specs.Reports.{configuration_report, count_behind, event_report, forward_report, report_packet, status_report, summary_report, types_report, verdict_report}
use Rattle.pst_model.specs.declared.rows.ConfigRow.{ConfigRow}
use Rattle.pst_model.specs.declared.rows.StatusRow.{StatusRow}
use Rattle.pst_model.specs.declared.rows.SummaryRow.{SummaryRow}
use Rattle.pst_model.specs.declared.verdicts.Verdict.{Verdict}
use Rattle.pst_model.specs.declared.verdicts.Verdict.TheVariants.{Accepted, Refused, Started, StartFailed, Completed, CompletionFailed}

-- the identifier of a request of APID 10 with sequence count 0
abbrev request : List ℕ
request = 0x18 ∷ 0x0a ∷ 0xc0 ∷ 0x00 ∷ []

-- the report with sequence count 0 at moment 7, and the one with the greatest count at the moment
-- 0x010203040506
abbrev first : Verdict → List ℕ
first verdict = report_packet 0 7 (verdict_report request verdict)

abbrev last : Verdict → List ℕ
last verdict = report_packet 16383 0x010203040506 (verdict_report request verdict)

abbrev failed : (subtype code high low : ℕ) → List ℕ
failed subtype code high low =
    0x08 ∷ 0x0a ∷ 0xc0 ∷ 0x00 ∷ 0x00 ∷ 0x13 ∷ 0x20 ∷ 0x01 ∷ subtype ∷ 0x00 ∷ 0x00 ∷ 0x00 ∷ 0x00
    ∷ 0x00 ∷ 0x00 ∷ 0x00 ∷ 0x00 ∷ 0x00 ∷ 0x07 ∷ 0x18 ∷ 0x0a ∷ 0xc0 ∷ 0x00 ∷ code ∷ high ∷ low ∷ []

abbrev succeeded : (subtype : ℕ) → List ℕ
succeeded subtype =
    0x08 ∷ 0x0a ∷ 0xff ∷ 0xff ∷ 0x00 ∷ 0x10 ∷ 0x20 ∷ 0x01 ∷ subtype ∷ 0x00 ∷ 0x00 ∷ 0x00 ∷ 0x00
    ∷ 0x01 ∷ 0x02 ∷ 0x03 ∷ 0x04 ∷ 0x05 ∷ 0x06 ∷ 0x18 ∷ 0x0a ∷ 0xc0 ∷ 0x00 ∷ []

accepted : last Accepted ≡ succeeded 1
accepted = refl

refused : first (Refused 1 11) ≡ failed 2 1 0 11
refused = refl

started : last Started ≡ succeeded 3
started = refl

start_failed : first (StartFailed 22 2) ≡ failed 4 22 0 2
start_failed = refl

completed : last Completed ≡ succeeded 7
completed = refl

completion_failed : first (CompletionFailed 23 258) ≡ failed 8 23 1 2
completion_failed = refl

-- behind the greatest count comes 0
the_count_begins_again : count_behind 16383 1 ≡ 0
the_count_begins_again = refl

-- the headers with a count, a data length field and a moment of one octet each
abbrev headers : (count size service subtype moment : ℕ) → List ℕ
headers count size service subtype moment =
    0x08 ∷ 0x0a ∷ 0xc0 ∷ count ∷ 0x00 ∷ size ∷ 0x20 ∷ service ∷ subtype ∷ 0x00 ∷ 0x00 ∷ 0x00 ∷ 0x00
    ∷ 0x00 ∷ 0x00 ∷ 0x00 ∷ 0x00 ∷ 0x00 ∷ moment ∷ []

-- store 2 refused a packet that needs a page, and none was free
put_refused : report_packet 0 0x33 (event_report 2 1 0)
    ≡ headers 0 0x18 5 2 0x33 ++ 0x00 ∷ 0x01 ∷ 0x00 ∷ 0x02 ∷ 0x00 ∷ 0x00 ∷ 0x00 ∷ 0x01 ∷ 0x00 ∷ 0x00 ∷ 0x00 ∷ 0x00 ∷ []
put_refused = refl

-- all packets are forwarded, and a kind of those of APID 10
forwarded : report_packet 2 0x44 (forward_report (Every ∷ Kind 10 3 25 ∷ []))
    ≡ headers 2 0x17 14 4 0x44 ++ 0x02 ∷ 0x00 ∷ 0x00 ∷ 0x00 ∷ 0x00 ∷ 0x00 ∷ 0x03 ∷ 0x00 ∷ 0x0a ∷ 0x03 ∷ 0x19 ∷ []
forwarded = refl

-- nothing is forwarded
none_forwarded : report_packet 3 0x45 (forward_report []) ≡ headers 3 0x0d 14 4 0x45 ++ 0x00 ∷ []
none_forwarded = refl

-- store 7 takes the packets of APID 258, and those of a service of APID 2047
types : report_packet 5 0x46 (types_report 7 (App 258 ∷ Service 2047 5 ∷ []))
    ≡ headers 5 0x19 15 6 0x46
    ++ 0x00 ∷ 0x07 ∷ 0x02 ∷ 0x01 ∷ 0x01 ∷ 0x02 ∷ 0x00 ∷ 0x00 ∷ 0x02 ∷ 0x07 ∷ 0xff ∷ 0x05 ∷ 0x00 ∷ []
types = refl

-- store 1 has three packets in five pages, of which open retrieval has passed one
abbrev three_packets : SummaryRow
three_packets = record { store = 1; packets = 3; pages = 5; oldest = 0x010203040506; newest = 0x0708090a0b0c; ahead = 2 }

summary : report_packet 6 0x47 (summary_report (three_packets ∷ []))
    ≡ headers 6 0x27 15 13 0x47
    ++ 0x01 ∷ 0x00 ∷ 0x01 ∷ 0x00 ∷ 0x00 ∷ 0x00 ∷ 0x03 ∷ 0x00 ∷ 0x00 ∷ 0x00 ∷ 0x05 ∷ 0x01 ∷ 0x02 ∷ 0x03 ∷ 0x04
    ∷ 0x05 ∷ 0x06 ∷ 0x07 ∷ 0x08 ∷ 0x09 ∷ 0x0a ∷ 0x0b ∷ 0x0c ∷ 0x00 ∷ 0x00 ∷ 0x00 ∷ 0x02 ∷ []
summary = refl

-- storage and open retrieval of store 1 are on, and no range retrieval stands
abbrev storing : StatusRow
storing = record { store = 1; storage = true; open_on = true; range = false }

status : report_packet 1 0x20 (status_report (storing ∷ []))
    ≡ headers 1 0x12 15 19 0x20 ++ 0x01 ∷ 0x00 ∷ 0x01 ∷ 0x01 ∷ 0x01 ∷ 0x00 ∷ []
status = refl

-- store 1 is circular, of 256 pages, on channel 2, and store 2 bounded, of 65,536 pages, on channel
-- 7
abbrev circular : ConfigRow
circular = record { store = 1; kind = Circular; size = 256; channel = 2 }

abbrev bounded : ConfigRow
bounded = record { store = 2; kind = Bounded; size = 65536; channel = 7 }

configuration : report_packet 7 0x48 (configuration_report (circular ∷ bounded ∷ []))
    ≡ headers 7 0x1d 15 23 0x48
    ++ 0x02 ∷ 0x00 ∷ 0x01 ∷ 0x00 ∷ 0x00 ∷ 0x00 ∷ 0x01 ∷ 0x00 ∷ 0x02 ∷ 0x00 ∷ 0x02 ∷ 0x01 ∷ 0x00 ∷ 0x01 ∷ 0x00 ∷ 0x00 ∷ 0x07 ∷ []
configuration = refl
