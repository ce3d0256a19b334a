-- Runs in which each request is carried out, also one of a pending kind.
use Rattle.std.proofs.Common.{ℕ, ◌+◌, List, [], ◌∷◌, None}
use Rattle.pst_model.specs.Answers.{answer_by}
use Rattle.pst_model.specs.Command.{Command, Arrival, Request, Grant, Idle}
use Rattle.pst_model.specs.Replies.{behind_outputs}
use Rattle.pst_model.specs.Rules.{Output, Reply, Step}
use Rattle.pst_model.specs.Run.{step}
use Rattle.pst_model.specs.Table.{Table}

abbrev carry_step : (blocks number : ℕ) → Command → Table → Step
carry_step blocks number (Arrival moment packet) table = step blocks number (Arrival moment packet) table
carry_step blocks number (Request moment packet) table = answer_by blocks number moment packet table None
carry_step blocks number (Grant moment) table = step blocks number (Grant moment) table
carry_step blocks number (Idle moment) table = step blocks number (Idle moment) table

abbrev carry_from : (blocks number : ℕ) → Table → List Command → Step
carry_from blocks number table [] = record { table = table; outputs = [] }
carry_from blocks number table (command ∷ commands) =
    behind_outputs (carry_step blocks number command table).outputs (carry_from blocks (number + 1) (carry_step blocks number command table).table commands)

abbrev pub carry : (blocks : ℕ) → Table → List Command → Step
carry blocks table commands = carry_from blocks 1 table commands

-- a request of service 15 without acknowledgement flags, less than 256 octets long
abbrev pub asking : (count size subtype : ℕ) → List ℕ → List ℕ
asking count size subtype body = 0x18 ∷ 0x0a ∷ 0xc0 ∷ count ∷ 0x00 ∷ size ∷ 0x20 ∷ 0x0f ∷ subtype ∷ 0x00 ∷ 0x00 ∷ body

-- a reply, with less than 256 octets, reports and moments
abbrev pub report : (command count size service subtype moment : ℕ) → List ℕ → Output
report command count size service subtype moment content = record {
  command = command;
  kind = Reply;
  channel = 0;
  packet = 0x08 ∷ 0x0a ∷ 0xc0 ∷ count ∷ 0x00 ∷ size ∷ 0x20 ∷ service ∷ subtype ∷ 0x00 ∷ 0x00 ∷ 0x00 ∷ 0x00 ∷ 0x00 ∷ 0x00 ∷ 0x00 ∷ 0x00 ∷ 0x00 ∷ moment ∷ content;
}

-- a packet of 20 octets, of which the last one varies
abbrev pub packet : ℕ → List ℕ
packet last = 0x08 ∷ 0x64 ∷ 0xc0 ∷ 0x00 ∷ 0x00 ∷ 0x0d ∷ 0x20 ∷ 0x03 ∷ 0x19 ∷ 0x00 ∷ 0x00 ∷ 0x00 ∷ 0x00 ∷ 0x00 ∷ 0x00 ∷ 0x00 ∷ 0x00 ∷ 0x00 ∷ 0x10 ∷ last ∷ []
