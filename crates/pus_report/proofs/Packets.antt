-- The packet of a report, as it was written: its head, and its content behind that.
use Rattle.std.proofs.Common.{◌≡◌, ℕ, ◌+◌, ◌<◌, ◌≤◌, List, ◌++◌, length, drop, ap, ◌∙◌}
use Rattle.octet_fields.proofs.Splices.{Writes-at_front}
use Rattle.octet_fields.specs.Fields.{Writes}
use Rattle.space_packet.specs.Packet.{IsPacket}
use Rattle.pus_header.specs.Reports.{report_head}
use Rattle.pus_header.proofs.Heads.{IsPacket-headed, length-headed}
use Rattle.pst_model.specs.Reports.{Report, report_packet}

pub written-packet : (old new : List ℕ) (count moment subtype size : ℕ) (report : Report)
    → subtype ≡ report.subtype → size ≡ length report.content
    → Writes old new 0 (report_head count report.service subtype moment size ++ report.content)
    → new ≡ report_packet count moment report ++ drop (length (report_packet count moment report)) old
written-packet old new count moment subtype size report kind total written =
    let head = λ (s n : ℕ). report_head count report.service s moment n ++ report.content in
    Writes-at_front written
    ∙ ap (λ (n : ℕ). head subtype n ++ drop (length (head subtype n)) old) total
    ∙ ap (λ (s : ℕ). head s (length report.content) ++ drop (length (head s (length report.content))) old) kind

-- how long it is
pub length-report : (count moment : ℕ) (report : Report)
    → length (report_packet count moment report) ≡ 19 + length report.content
length-report count moment report = length-headed count report.service report.subtype moment report.content

-- it is a packet, where its content is short enough
pub IsPacket-report : (count moment : ℕ) (report : Report) → count < 16384 → length report.content ≤ 4077
    → IsPacket (report_packet count moment report)
IsPacket-report count moment report counted short =
    IsPacket-headed count report.service report.subtype moment report.content counted short
