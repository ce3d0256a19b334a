use Rattle.std.proofs.Common.{◌≡◌, ℕ, List, length, take, ap, subst, ◌∙◌, arith}
use Rattle.octet_fields.specs.Fields.{Writes}
use Rattle.traffic_gen.specs.Lines.{packet_line}
use Rattle.traffic_gen.specs.Traffic.{after_draws, draw, drawn, drawn_packet, time_of}
use Rattle.traffic_gen.proofs.Counting.{length-arrival_packet, taken-drawn}
use Rattle.traffic_gen.proofs.LineLengths.{length-packet_line}
use Rattle.traffic_gen.proofs.passes.put_arrival.Goals as goal

pub returns-clause-end : goal.returns-clause-end
returns-clause-end c =
    let packet = drawn_packet c.args.number c.args.state in
    let written = c.write_drawn-length.new.out in
    let is = taken-drawn c.args.number c.args.state c.write_drawn-length.result written _ c.write_drawn-length.ensures.packet c.write_drawn-length.ensures.length in
    let same : length (packet_line 65 c.time_of.result (take c.write_drawn-length.result written)) ≡ length (packet_line 65 (time_of c.args.number) packet) =
    ap (λ (octets : List ℕ). length (packet_line 65 c.time_of.result octets)) is ∙ ap (λ (moment : ℕ). length (packet_line 65 moment packet)) c.time_of.ensures.value in
    omega (arith, c.put_packet.ensures.end, same)

pub returns-clause-few : goal.returns-clause-few
returns-clause-few c =
    let state = c.args.state in
    let long = length-arrival_packet c.args.number (drawn (draw state)) (drawn (draw (draw state))) (drawn (after_draws state)) in
    omega (arith, returns-clause-end c, length-packet_line 65 (time_of c.args.number) (drawn_packet c.args.number state), long)

pub returns-clause-line : goal.returns-clause-line
returns-clause-line c =
    let packet = drawn_packet c.args.number c.args.state in
    let is = taken-drawn c.args.number c.args.state c.write_drawn-length.result c.write_drawn-length.new.out _ c.write_drawn-length.ensures.packet c.write_drawn-length.ensures.length in
    subst (λ (moment : ℕ). Writes c.args.out.now c.put_packet.new.out 0 (packet_line 65 moment packet)) c.time_of.ensures.value
    (subst (λ (octets : List ℕ). Writes c.args.out.now c.put_packet.new.out 0 (packet_line 65 c.time_of.result octets)) is c.put_packet.ensures.line)
