use Rattle.std.proofs.Common.{drop, length, sym, ◌∙◌}
use Rattle.octet_fields.proofs.Splices.{Writes-at_front}
use Rattle.traffic_gen.specs.Lines.{text_of}
use Rattle.traffic_gen.specs.Steps.{next_of}
use Rattle.traffic_gen.proofs.Behind.{at_end, made_text}
use Rattle.traffic_gen.proofs.traffic.Traffic.make_lines.Goals as goal

pub returns-clause-left : goal.returns-clause-left
returns-clause-left c =
    let traffic = c.args.self.now in
    let text = text_of (next_of traffic.total traffic.state traffic.made) in
    made_text c.put_next-self.new.out (drop (length text) traffic.lines) traffic.total traffic.state traffic.made c.put_next-self.result c.next_state-self.result c.min-self.result
    (Writes-at_front c.put_next-self.ensures.lines) c.put_next-self.ensures.end c.next_state-self.ensures c.min-self.ensures traffic.some traffic.within

pub returns-clause-some : goal.returns-clause-some
returns-clause-some c none =
    let traffic = c.args.self.now in
    let text = text_of (next_of traffic.total traffic.state traffic.made) in
    made_text c.put_next-self.new.out (drop (length text) traffic.lines) traffic.total traffic.state traffic.made c.put_next-self.result c.next_state-self.result c.min-self.result
    (Writes-at_front c.put_next-self.ensures.lines) c.put_next-self.ensures.end c.next_state-self.ensures c.min-self.ensures traffic.some traffic.within
    ∙ at_end traffic.total traffic.state traffic.made traffic.some traffic.within (sym c.put_next-self.ensures.end ∙ none)
