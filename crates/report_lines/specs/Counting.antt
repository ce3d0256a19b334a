-- How many lines of each kind outputs have, and their octets.
use Rattle.std.specs.Prelude.{◌≡◌, ◌≤◌, ◌+◌, Bool, true, false, count_by, List, length}
use Rattle.pst_model.specs.Laws.{replies_in}
use Rattle.pst_model.specs.Rules.{Output, OutputKind, Forwarded, Reply, Retrieved}
use Rattle.pst_model.specs.Run.{lines_of}
use Rattle.report_lines.specs.declared.sent.Sent.{Sent}

abbrev pub is_forwarded : OutputKind → Bool
is_forwarded Forwarded = true
is_forwarded Reply = false
is_forwarded Retrieved = false

abbrev pub is_retrieved : OutputKind → Bool
is_retrieved Forwarded = false
is_retrieved Reply = false
is_retrieved Retrieved = true

-- Few lines, so that those of several calls can be added.
pub record IsSmall (sent : Sent) : Type 0 where
  pub forwarded : sent.forwarded ≤ 1000
  pub replies : sent.replies ≤ 1000
  pub retrieved : sent.retrieved ≤ 1000
  pub octets : sent.octets ≤ 10000000

-- the lines of one call, and of another behind it
abbrev pub and_then : Sent → Sent → Sent
and_then first second = record {
  forwarded = first.forwarded + second.forwarded;
  replies = first.replies + second.replies;
  retrieved = first.retrieved + second.retrieved;
  octets = first.octets + second.octets;
}

-- These are the numbers of the outputs' lines.
pub record IsCountOf (outputs : List Output) (sent : Sent) : Type 0 where
  pub forwarded : sent.forwarded ≡ count_by (λ (output : Output). is_forwarded output.kind) outputs
  pub replies : sent.replies ≡ replies_in outputs
  pub retrieved : sent.retrieved ≡ count_by (λ (output : Output). is_retrieved output.kind) outputs
  pub octets : sent.octets ≡ length (lines_of outputs)
