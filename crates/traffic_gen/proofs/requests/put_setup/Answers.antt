use Rattle.std.proofs.Common.{List, ℕ, subst}
use Rattle.octet_fields.specs.Fields.{Writes}
use Rattle.traffic_gen.specs.Lines.{command_line}
use Rattle.traffic_gen.specs.Traffic.{enabling, forwarding, making, resuming, typing}
use Rattle.traffic_gen.proofs.Pieces.{five_writes, from_the_right}
use Rattle.traffic_gen.proofs.requests.put_setup.Goals as goal

pub returns-clause-lines : goal.returns-clause-lines
returns-clause-lines c =
    let first = c.put_making-end.ensures in
    let second = c.put_typing-end.ensures in
    let third = c.put_request-end.ensures in
    let fourth = c.put_request-end-2.ensures in
    let fifth = c.put_request.ensures in
    let all = five_writes first.line first.end second.line second.end third.line third.end fourth.line fourth.end fifth.line fifth.end in
    let same = from_the_right (command_line making) (command_line typing) (command_line enabling) (command_line forwarding) (command_line resuming) in
    subst (λ (text : List ℕ). Writes c.args.out.now c.put_request.new.out 0 text) same all.0
