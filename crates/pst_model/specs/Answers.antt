-- What a request does to the table, and the reports that answer it (ECSS-E-ST-70-41C, 6.1 and
-- 6.15).
use Rattle.std.specs.Prelude.{ℕ, ◌+◌, ◌/◌, ◌%◌, ◌==◌, ◌&&◌, Bool, true, false, not, if◌then◌else◌, List, [], ◌∷◌, ◌++◌, length, map, drop, Option, Some, None, Result, Ok, Err}
use Rattle.std.specs.List.{list_any}
use Rattle.space_packet.specs.Packet.{apid_of}
use Rattle.control_defs.specs.declared.instructions.Instruction.{Instruction}
use Rattle.pus_header.specs.Commands.{acks_of, identifier_of, service_of, subtype_of, tc_fault_of}
use Rattle.pus_header.specs.declared.faults.TcFault.{TcFault}
use Rattle.pus_header.specs.declared.faults.TcFault.TheVariants.{NotCommand, NoHeader, WrongVersion}
use Rattle.pst_model.specs.declared.faults.RequestFault.{RequestFault}
use Rattle.pst_model.specs.declared.faults.RequestFault.TheVariants.{UnknownService, UnknownSubtype, Malformed}
use Rattle.pst_model.specs.declared.verdicts.Verdict.{Verdict}
use Rattle.pst_model.specs.declared.verdicts.Verdict.TheVariants.{Accepted, Refused, Started, StartFailed, Completed, CompletionFailed}
use Rattle.pst_model.specs.Contents.{content_report}
use Rattle.pst_model.specs.Instructions.{instruct}
use Rattle.pst_model.specs.Items.{kind_asked}
use Rattle.pst_model.specs.Replies.{replied}
use Rattle.pst_model.specs.Reports.{Report, verdict_report}
use Rattle.pst_model.specs.Requests.{items_in, request_fault_of}
use Rattle.pst_model.specs.Rules.{Step}
use Rattle.pst_model.specs.Table.{Table}

-- The judgements before a request's instructions, each with its code and its detail.

abbrev pub header_refusal : TcFault → Verdict
header_refusal NotCommand = Refused 2 0
header_refusal NoHeader = Refused 2 1
header_refusal (WrongVersion version) = Refused 2 (256 + version)

abbrev pub request_refusal : RequestFault → Verdict
request_refusal (UnknownService service) = Refused 3 service
request_refusal (UnknownSubtype subtype) = Refused 4 subtype
request_refusal (Malformed at) = Refused 5 at

abbrev pub refused_by : Option RequestFault → Option Verdict
refused_by (Some fault) = Some (request_refusal fault)
refused_by None = None

abbrev pub refused_as : Option TcFault → Option RequestFault → Option Verdict
refused_as (Some fault) behind = Some (header_refusal fault)
refused_as None behind = refused_by behind

-- Kinds of request of service 15 that are known and not carried out yet: they are answered as of an
-- unknown subtype, before their data is judged.
abbrev pub pending_subtypes : List ℕ
pending_subtypes = 20 ∷ 24 ∷ 25 ∷ []

abbrev pub is_pending : (service subtype : ℕ) → Bool
is_pending service subtype =
    service == 15 && list_any (λ pending. pending == subtype) pending_subtypes

-- whether an instruction is of a kind that is carried out
abbrev pub is_carried : Instruction → Bool
is_carried item = not (is_pending (kind_asked item).0 (kind_asked item).1)

-- the first fault of a request, where the kinds that are not carried out yet count as unknown
abbrev pub fault_of_request : (service subtype : ℕ) → List ℕ → Option RequestFault
fault_of_request service subtype body =
    if is_pending service subtype then Some (UnknownSubtype subtype)
    else request_fault_of service subtype body

-- what stands behind both headers of a telecommand
abbrev pub data_in : List ℕ → List ℕ
data_in packet = drop 11 packet

-- the first judgement that refuses a request: its APID, its header, its service, its subtype, its
-- data
abbrev pub refusal_of : List ℕ → Option Verdict
refusal_of packet =
    if not (apid_of packet == 10) then Some (Refused 1 (apid_of packet))
    else refused_as (tc_fault_of packet) (fault_of_request (service_of packet) (subtype_of packet)
    (data_in packet))

-- Instructions, one behind another: the table behind all that took effect, and for each that failed
-- its number, from 1, and its code.
pub record Carried : Type 0 where
  pub table : Table
  pub failures : List (ℕ × ℕ)

abbrev pub failed_first : ℕ × ℕ → Carried → Carried
failed_first failure behind = record { table = behind.table; failures = failure ∷ behind.failures }

-- an instruction's outcome, with what the others behind it make of the table
abbrev pub carried_by : (number : ℕ) → Table → Result Table ℕ → (Table → Carried) → Carried
carried_by number table (Ok next) behind = behind next
carried_by number table (Err code) behind = failed_first (number, code) (behind table)

abbrev pub carry_out_from : (blocks number : ℕ) → List Instruction → Table → Carried
carry_out_from blocks number [] table = record { table = table; failures = [] }
carry_out_from blocks number (item ∷ items) table =
    carried_by number table (instruct blocks item table) (carry_out_from blocks (number + 1) items)

abbrev pub carry_out : (blocks : ℕ) → List Instruction → Table → Carried
carry_out blocks items table = carry_out_from blocks 1 items table

-- the acknowledgement flags: of acceptance, of the start, of completion
abbrev pub asks_acceptance : (acks : ℕ) → Bool
asks_acceptance acks = acks % 2 == 1

abbrev pub asks_start : (acks : ℕ) → Bool
asks_start acks = acks / 2 % 2 == 1

abbrev pub asks_completion : (acks : ℕ) → Bool
asks_completion acks = acks / 8 % 2 == 1

abbrev pub if_asked : Bool → Verdict → List Verdict
if_asked true verdict = verdict ∷ []
if_asked false verdict = []

abbrev pub failed_start : ℕ × ℕ → Verdict
failed_start failure = StartFailed failure.1 failure.0

-- where no instruction failed, [1,3] as asked; else the code 23 with how many failed
abbrev pub started : (acks : ℕ) → List (ℕ × ℕ) → List Verdict
started acks [] = if_asked (asks_start acks) Started
started acks (failure ∷ failures) = []

abbrev pub completed : (acks : ℕ) → List (ℕ × ℕ) → List Verdict
completed acks [] = if_asked (asks_completion acks) Completed
completed acks (failure ∷ failures) = CompletionFailed 23 (length (failure ∷ failures)) ∷ []

-- The verdicts on a request that is not refused, in their order: [1,1] where asked, [1,4] for each
-- failed instruction, [1,3] where asked and none failed; and then, behind the content report, [1,8]
-- where some failed, else [1,7] where asked.
abbrev pub verdicts_before : (acks : ℕ) → List (ℕ × ℕ) → List Verdict
verdicts_before acks failures =
    if_asked (asks_acceptance acks) Accepted ++ map failed_start failures ++ started acks failures

abbrev pub on_request : (packet : List ℕ) → List Verdict → List Report
on_request packet verdicts = map (verdict_report (identifier_of packet)) verdicts

-- the reports on a request that is not refused, whose instructions were carried out
abbrev pub reports_on : (packet : List ℕ) → List Instruction → Carried → List Report
reports_on packet items carried =
    on_request packet (verdicts_before (acks_of packet) carried.failures)
    ++ content_report items carried.table
    ++ on_request packet (completed (acks_of packet) carried.failures)

-- a request that is not refused
abbrev pub answer_carried : (number moment : ℕ) → (packet : List ℕ) → List Instruction → Carried
    → Step
answer_carried number moment packet items carried =
    replied number moment carried.table (reports_on packet items carried)

abbrev pub answer_by : (blocks number moment : ℕ) → (packet : List ℕ) → Table → Option Verdict
    → Step
answer_by blocks number moment packet table (Some verdict) =
    replied number moment table (on_request packet (verdict ∷ []))
answer_by blocks number moment packet table None =
    answer_carried number moment packet
    (items_in (service_of packet) (subtype_of packet) (data_in packet))
    (carry_out blocks (items_in (service_of packet) (subtype_of packet) (data_in packet)) table)

-- A request on a device of so many blocks: where a judgement refuses it, [1,2] alone answers it.
-- Else its instructions are taken in order, each of which takes effect or fails, and a failed one
-- changes nothing.
abbrev pub answer : (blocks number moment : ℕ) → (packet : List ℕ) → Table → Step
answer blocks number moment packet table =
    answer_by blocks number moment packet table (refusal_of packet)
