-- Requests and their answers on worked inputs, by computation.
use Rattle.std.proofs.Common.{◌≡◌, ℕ, false, List, [], ◌∷◌, ◌++◌, Some, None, refl}
use Rattle.std.specs.Prelude.{map}
use Rattle.std.specs.List.{range_with_len}
use Rattle.pst_model.specs.declared.verdicts.Verdict.{Verdict}
use Rattle.pst_model.specs.declared.verdicts.Verdict.TheVariants.{Accepted, Refused, Started, StartFailed, Completed, CompletionFailed}
use Rattle.pst_model.specs.Answers.{completed, refusal_of, verdicts_before}
use Rattle.pst_model.specs.Command.{Arrival, Request, Grant}
use Rattle.pst_model.specs.Rules.{Output, Reply}
use Rattle.pst_model.specs.Run.{run}
use Rattle.pst_model.specs.Table.{Store, Table, after_format}

abbrev reply : (command : ℕ) → List ℕ → Output
reply command packet = record { command = command; kind = Reply; channel = 0; packet = packet }

-- a report of service 1 and its request's identifier, with less than 256 octets, reports and
-- seconds
abbrev report : (count size subtype moment : ℕ) → List ℕ → List ℕ
report count size subtype moment content =
    0x08 ∷ 0x0a ∷ 0xc0 ∷ count ∷ 0x00 ∷ size ∷ 0x20 ∷ 0x01 ∷ subtype ∷ 0x00 ∷ 0x00 ∷ 0x00 ∷ 0x00
    ∷ 0x00 ∷ 0x00 ∷ 0x00 ∷ 0x00 ∷ 0x00 ∷ moment ∷ content

-- [15,16] of store 1 with the acknowledgement flags 9, which ask for acceptance and completion
abbrev suspend : List ℕ
suspend = 0x18 ∷ 0x0a ∷ 0xc0 ∷ 0x00 ∷ 0x00 ∷ 0x07 ∷ 0x29 ∷ 0x0f ∷ 0x10 ∷ 0x00 ∷ 0x00 ∷ 0x01 ∷ 0x00 ∷ 0x01 ∷ []

abbrev identifier : List ℕ
identifier = 0x18 ∷ 0x0a ∷ 0xc0 ∷ 0x00 ∷ []

abbrev packet : List ℕ
packet = 0x08 ∷ 0x64 ∷ 0xc0 ∷ 0x00 ∷ 0x00 ∷ 0x00 ∷ 0xaa ∷ []

-- it is accepted and completed, and then nothing is retrieved
suspended : (run 64 after_format (Request 1 suspend ∷ Arrival 2 packet ∷ Grant 3 ∷ [])).outputs
    ≡ reply 1 (report 0 0x10 1 1 identifier) ∷ reply 1 (report 1 0x10 7 1 identifier) ∷ []
suspended = refl

-- suspended again, it fails: it is so already
suspended_again : (run 64 after_format (Request 1 suspend ∷ Request 2 suspend ∷ [])).outputs
    ≡ reply 1 (report 0 0x10 1 1 identifier) ∷ reply 1 (report 1 0x10 7 1 identifier)
    ∷ reply 2 (report 2 0x10 1 2 identifier) ∷ reply 2 (report 3 0x13 4 2 (identifier ++ 22 ∷ 0 ∷ 1 ∷ [])) ∷ reply 2 (report 4 0x13 8 2 (identifier ++ 23 ∷ 0 ∷ 1 ∷ [])) ∷ []
suspended_again = refl

-- another APID, and a list with no items, which is malformed
abbrev other_apid : List ℕ
other_apid = 0x18 ∷ 0x0b ∷ 0xc0 ∷ 0x00 ∷ 0x00 ∷ 0x04 ∷ 0x20 ∷ 0x0f ∷ 0x12 ∷ 0x00 ∷ 0x00 ∷ []

abbrev no_items : List ℕ
no_items = 0x18 ∷ 0x0a ∷ 0xc0 ∷ 0x00 ∷ 0x00 ∷ 0x05 ∷ 0x20 ∷ 0x0f ∷ 0x01 ∷ 0x00 ∷ 0x00 ∷ 0x00 ∷ []

refused : (run 64 after_format (Request 7 other_apid ∷ Request 8 no_items ∷ [])).outputs
    ≡ reply 1 (report 0 0x13 2 7 (0x18 ∷ 0x0b ∷ 0xc0 ∷ 0x00 ∷ 0x01 ∷ 0x00 ∷ 0x0b ∷ [])) ∷ reply 2 (report 1 0x13 2 8 (identifier ++ 0x05 ∷ 0x00 ∷ 0x00 ∷ [])) ∷ []
refused = refl

-- of two instructions the second names no store: the first takes effect
abbrev disable_two : List ℕ
disable_two = 0x18 ∷ 0x0a ∷ 0xc0 ∷ 0x00 ∷ 0x00 ∷ 0x09 ∷ 0x2f ∷ 0x0f ∷ 0x02 ∷ 0x00 ∷ 0x00 ∷ 0x02 ∷ 0x00 ∷ 0x01 ∷ 0x00 ∷ 0x02 ∷ []

second_fails : (run 64 after_format (Request 5 disable_two ∷ [])).outputs
    ≡ reply 1 (report 0 0x10 1 5 identifier) ∷ reply 1 (report 1 0x13 4 5 (identifier ++ 6 ∷ 0 ∷ 2 ∷ [])) ∷ reply 1 (report 2 0x13 8 5 (identifier ++ 23 ∷ 0 ∷ 1 ∷ [])) ∷ []
second_fails = refl

first_holds : map (λ (store : Store). store.storage) (run 64 after_format (Request 5 disable_two ∷ [])).table.stores ≡ false ∷ []
first_holds = refl

-- of the judgements the first holds: APID, header, service, subtype, data
apid_first : refusal_of (0x00 ∷ 0x0b ∷ 0xc0 ∷ 0x00 ∷ 0x00 ∷ 0x00 ∷ 0xaa ∷ []) ≡ Some (Refused 1 11)
apid_first = refl

idle_packet : refusal_of (0x07 ∷ 0xff ∷ 0xc0 ∷ 0x00 ∷ 0x00 ∷ 0x00 ∷ 0x00 ∷ []) ≡ Some (Refused 1 2047)
idle_packet = refl

telemetry : refusal_of (0x08 ∷ 0x0a ∷ 0xc0 ∷ 0x00 ∷ 0x00 ∷ 0x04 ∷ 0x10 ∷ 0x0e ∷ 0x12 ∷ 0x00 ∷ 0x00 ∷ []) ≡ Some (Refused 2 0)
telemetry = refl

no_header : refusal_of (0x10 ∷ 0x0a ∷ 0xc0 ∷ 0x00 ∷ 0x00 ∷ 0x04 ∷ 0x10 ∷ 0x0e ∷ 0x12 ∷ 0x00 ∷ 0x00 ∷ []) ≡ Some (Refused 2 1)
no_header = refl

version : refusal_of (0x18 ∷ 0x0a ∷ 0xc0 ∷ 0x00 ∷ 0x00 ∷ 0x04 ∷ 0x10 ∷ 0x0e ∷ 0x12 ∷ 0x00 ∷ 0x00 ∷ []) ≡ Some (Refused 2 257)
version = refl

service_first : refusal_of (0x18 ∷ 0x0a ∷ 0xc0 ∷ 0x00 ∷ 0x00 ∷ 0x04 ∷ 0x20 ∷ 0x0d ∷ 0x12 ∷ 0x00 ∷ 0x00 ∷ []) ≡ Some (Refused 3 13)
service_first = refl

subtype_first : refusal_of (0x18 ∷ 0x0a ∷ 0xc0 ∷ 0x00 ∷ 0x00 ∷ 0x04 ∷ 0x20 ∷ 0x0f ∷ 0x13 ∷ 0x00 ∷ 0x00 ∷ []) ≡ Some (Refused 4 19)
subtype_first = refl

-- a kind that is known and not carried out yet, before its data
pending_first : refusal_of (0x18 ∷ 0x0a ∷ 0xc0 ∷ 0x00 ∷ 0x00 ∷ 0x04 ∷ 0x20 ∷ 0x0f ∷ 0x14 ∷ 0x00 ∷ 0x00 ∷ []) ≡ Some (Refused 4 20)
pending_first = refl

too_long : refusal_of (suspend ++ 0x00 ∷ []) ≡ Some (Refused 5 3)
too_long = refl

none_refuses : refusal_of suspend ≡ None
none_refuses = refl

-- each combination of the acknowledgement flags, where nothing fails and where the third
-- instruction does
none_failed : map (λ acks. verdicts_before acks [] ++ completed acks []) (range_with_len 0 16)
    ≡ [] ∷ (Accepted ∷ []) ∷ (Started ∷ []) ∷ (Accepted ∷ Started ∷ []) ∷ [] ∷ (Accepted ∷ []) ∷ (Started ∷ []) ∷ (Accepted ∷ Started ∷ [])
    ∷ (Completed ∷ []) ∷ (Accepted ∷ Completed ∷ []) ∷ (Started ∷ Completed ∷ []) ∷ (Accepted ∷ Started ∷ Completed ∷ [])
    ∷ (Completed ∷ []) ∷ (Accepted ∷ Completed ∷ []) ∷ (Started ∷ Completed ∷ []) ∷ (Accepted ∷ Started ∷ Completed ∷ []) ∷ []
none_failed = refl

abbrev third : List Verdict
third = StartFailed 22 3 ∷ CompletionFailed 23 1 ∷ []

one_failed : map (λ acks. verdicts_before acks ((3, 22) ∷ []) ++ completed acks ((3, 22) ∷ [])) (range_with_len 0 16)
    ≡ third ∷ (Accepted ∷ third) ∷ third ∷ (Accepted ∷ third) ∷ third ∷ (Accepted ∷ third) ∷ third ∷ (Accepted ∷ third)
    ∷ third ∷ (Accepted ∷ third) ∷ third ∷ (Accepted ∷ third) ∷ third ∷ (Accepted ∷ third) ∷ third ∷ (Accepted ∷ third) ∷ []
one_failed = refl

-- the count of reports goes on from 16,383 to 0
abbrev last_count : Table
last_count = record after_format { reports = 16383 }

wraps : (run 64 last_count (Request 1 suspend ∷ [])).table.reports ≡ 1
wraps = refl

wrapped : map (λ (output : Output). output.packet) (run 64 last_count (Request 1 suspend ∷ [])).outputs
    ≡ (0x08 ∷ 0x0a ∷ 0xff ∷ 0xff ∷ 0x00 ∷ 0x10 ∷ 0x20 ∷ 0x01 ∷ 0x01 ∷ 0x00 ∷ 0x00 ∷ 0x00 ∷ 0x00 ∷ 0x00 ∷ 0x00 ∷ 0x00 ∷ 0x00 ∷ 0x00 ∷ 0x01 ∷ identifier)
    ∷ report 0 0x10 7 1 identifier ∷ []
wrapped = refl
