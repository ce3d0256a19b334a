use Rattle.std.proofs.Common.{◌++◌, List, ℕ, ap, ◌∙◌}
use Rattle.station.proofs.Summaries.{summary_spelled}
use Rattle.station.proofs.summary.write_summary.Goals as goal

pub returns : goal.returns
returns c =
    summary_spelled c.args.tally.now c.args.line.now.bytes c.push_str.new.self.bytes c.push_str-2.new.self.bytes c.put.new.line.bytes c.put-2.new.line.bytes c.put-3.new.line.bytes c.put-4.new.line.bytes c.push_str-3.new.self.bytes
    c.requires c.push_str.ensures.bytes (c.push_str-2.ensures.bytes ∙ ap (λ (word : List ℕ). c.push_str.new.self.bytes ++ word) c.format.ensures.text)
    c.put.ensures.bytes c.put-2.ensures.bytes c.put-3.ensures.bytes c.put-4.ensures.bytes c.push_str-3.ensures.bytes
