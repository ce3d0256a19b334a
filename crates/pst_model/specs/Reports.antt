-- Reports of this program, as octets (ECSS-E-ST-70-41C, 8.1 and 7.4.3).
use Rattle.std.specs.Prelude.{ℕ, ◌+◌, ◌<◌, ◌^◌, ◌%◌, List, [], ◌∷◌, ◌++◌, length}
use Rattle.std.specs.Int.{from_bool}
use Rattle.std.specs.List.{flat_map}
use Rattle.octet_fields.specs.Fields.{big_bytes}
use Rattle.control_defs.specs.Instructions.{kind_octet}
use Rattle.control_defs.specs.declared.patterns.Pattern.{Pattern}
use Rattle.pus_header.specs.Reports.{report_head}
use Rattle.control_defs.specs.PatternOctets.{pattern_octets}
use Rattle.pst_model.specs.declared.rows.ConfigRow.{ConfigRow}
use Rattle.pst_model.specs.declared.rows.StatusRow.{StatusRow}
use Rattle.pst_model.specs.declared.rows.SummaryRow.{SummaryRow}
use Rattle.pst_model.specs.declared.verdicts.Verdict.{Verdict}
use Rattle.pst_model.specs.declared.verdicts.Verdict.TheVariants.{Accepted, Refused, Started, StartFailed, Completed, CompletionFailed}

-- A report, before it has its sequence count and its time.
pub record Report : Type 0 where
  pub service : ℕ
  pub subtype : ℕ
  pub content : List ℕ

-- the packet of a report
abbrev pub report_packet : (count moment : ℕ) → Report → List ℕ
report_packet count moment report =
    report_head count report.service report.subtype moment (length report.content) ++ report.content

-- the sequence count behind so many reports
abbrev pub count_behind : (count reports : ℕ) → ℕ
count_behind count reports = (count + reports) % 16384

-- the message subtype of a verdict, and what it says of the request
abbrev pub verdict_subtype : Verdict → ℕ
verdict_subtype Accepted = 1
verdict_subtype (Refused code detail) = 2
verdict_subtype Started = 3
verdict_subtype (StartFailed code detail) = 4
verdict_subtype Completed = 7
verdict_subtype (CompletionFailed code detail) = 8

-- a failure's code, one octet, and its detail, two
abbrev pub failure_octets : Verdict → List ℕ
failure_octets Accepted = []
failure_octets (Refused code detail) = code ∷ big_bytes 2 detail
failure_octets Started = []
failure_octets (StartFailed code detail) = code ∷ big_bytes 2 detail
failure_octets Completed = []
failure_octets (CompletionFailed code detail) = code ∷ big_bytes 2 detail

-- the report of a verdict on the request with this identifier, its four octets
abbrev pub verdict_report : (request : List ℕ) → Verdict → Report
verdict_report request verdict = record {
  service = 1;
  subtype = verdict_subtype verdict;
  content = request ++ failure_octets verdict;
}

-- The event report [5,2]: a store refused a packet that needs so many pages, of which so many were
-- free.
abbrev pub event_report : (store need free : ℕ) → Report
event_report store need free = record {
  service = 5;
  subtype = 2;
  content = big_bytes 2 1 ++ big_bytes 2 store ++ big_bytes 4 need ++ big_bytes 4 free;
}

-- the octets of things in a list, behind one octet with their number
abbrev pub listed_octets : {X : Type 0} → (X → List ℕ) → List X → List ℕ
listed_octets octets xs = length xs ∷ flat_map octets xs

-- a report that has things in a list
abbrev pub listed_report : {X : Type 0} → (service subtype : ℕ) → (X → List ℕ) → List X → Report
listed_report service subtype octets xs = record {
  service = service;
  subtype = subtype;
  content = listed_octets octets xs;
}

-- [14,4]: the patterns of packets that are forwarded
abbrev pub forward_report : List Pattern → Report
forward_report patterns = listed_report 14 4 pattern_octets patterns

-- [15,6]: the patterns of packets that a store takes
abbrev pub types_report : (store : ℕ) → List Pattern → Report
types_report store patterns = record {
  service = 15;
  subtype = 6;
  content = big_bytes 2 store ++ listed_octets pattern_octets patterns;
}

-- [15,13]: what stores have
abbrev pub summary_octets : SummaryRow → List ℕ
summary_octets row =
    big_bytes 2 row.store ++ big_bytes 4 row.packets ++ big_bytes 4 row.pages
    ++ big_bytes 6 row.oldest ++ big_bytes 6 row.newest ++ big_bytes 4 row.ahead

-- the times of a store have six octets each
pub record HasTimes (row : SummaryRow) : Type 0 where
  pub oldest : row.oldest < 2 ^ 48
  pub newest : row.newest < 2 ^ 48

abbrev pub summary_report : List SummaryRow → Report
summary_report rows = listed_report 15 13 summary_octets rows

-- [15,19]: what is on in stores
abbrev pub status_octets : StatusRow → List ℕ
status_octets row =
    big_bytes 2 row.store
    ++ from_bool row.storage ∷ from_bool row.open_on ∷ from_bool row.range ∷ []

abbrev pub status_report : List StatusRow → Report
status_report rows = listed_report 15 19 status_octets rows

-- [15,23]: how stores are made
abbrev pub config_octets : ConfigRow → List ℕ
config_octets row =
    big_bytes 2 row.store ++ kind_octet row.kind ∷ [] ++ big_bytes 4 row.size ++ row.channel ∷ []

abbrev pub configuration_report : List ConfigRow → Report
configuration_report rows = listed_report 15 23 config_octets rows
