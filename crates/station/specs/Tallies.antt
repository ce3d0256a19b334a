-- What the commands of a session come to.
use Rattle.std.specs.Prelude.{◌≡◌, ◌≤◌, ◌+◌, ◌*◌, ◌^◌, ℕ, List}
use Rattle.pst_model.specs.Rules.{Output}
use Rattle.report_lines.specs.Counting.{IsCountOf}
use Rattle.report_lines.specs.declared.sent.Sent.{Sent}
use Rattle.station.specs.declared.tally.Tally.{Tally}

-- nothing was carried out yet
abbrev pub no_tally : Tally
no_tally = record { commands = 0; forwarded = 0; replies = 0; retrieved = 0; octets = 0 }

-- one command more, and the lines that were sent for it
abbrev pub and_sent : Tally → Sent → Tally
and_sent tally sent = record {
  commands = tally.commands + 1;
  forwarded = tally.forwarded + sent.forwarded;
  replies = tally.replies + sent.replies;
  retrieved = tally.retrieved + sent.retrieved;
  octets = tally.octets + sent.octets;
}

-- the lines of all commands
abbrev pub sent_in : Tally → Sent
sent_in tally = record {
  forwarded = tally.forwarded;
  replies = tally.replies;
  retrieved = tally.retrieved;
  octets = tally.octets;
}

-- These are the numbers of so many commands, for which these outputs went out.
pub record IsTallyOf (count : ℕ) (outputs : List Output) (tally : Tally) : Type 0 where
  pub commands : tally.commands ≡ count
  pub lines : IsCountOf outputs (sent_in tally)

-- There are at most so many commands, and each sent less than 2^64 octets and lines of a kind.
pub record IsSmall (most : ℕ) (tally : Tally) : Type 0 where
  pub commands : tally.commands ≤ most
  pub forwarded : tally.forwarded ≤ 2 ^ 64 * tally.commands
  pub replies : tally.replies ≤ 2 ^ 64 * tally.commands
  pub retrieved : tally.retrieved ≤ 2 ^ 64 * tally.commands
  pub octets : tally.octets ≤ 2 ^ 64 * tally.commands
