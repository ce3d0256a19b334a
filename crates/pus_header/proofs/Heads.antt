-- A report: its two headers of 19 octets with its content behind them.
use Rattle.std.proofs.Common.{◌≡◌, ℕ, ◌+◌, ◌<◌, ◌≤◌, List, ◌++◌, length, arith, length-append}
use Rattle.space_packet.specs.Packet.{IsPacket}
use Rattle.pus_header.specs.Reports.{report_head}

module _ (count service subtype moment : ℕ) (content : List ℕ) where
  -- how long it is
  pub length-headed : length (report_head count service subtype moment (length content) ++ content) ≡ 19 + length content
  length-headed = omega (arith, length-append (report_head count service subtype moment (length content)) content)

  -- it is a packet, where its content is short enough
  pub IsPacket-headed : count < 16384 → length content ≤ 4077
      → IsPacket (report_head count service subtype moment (length content) ++ content)
  IsPacket-headed counted short = record {
    at_least = omega (arith, length-headed);
    at_most = omega (arith, length-headed);
    version = omega arith;
    whole = omega (arith, length-headed);
  }
