use Rattle.std.proofs.Common.{◌∷◌, [], ◌++◌, List, ℕ, subst, arith, length-append}
use Rattle.octet_fields.specs.Fields.{Writes}
use Rattle.octet_fields.proofs.Splices.{Writes-then}
use Rattle.hex.specs.Hex.{encode_lower, lower_digits}
use Rattle.hex.proofs.HexLemmas.{length-encode_with}
use Rattle.traffic_gen.proofs.LineLengths.{front_of, length-front, length-packet_line, parts_together}
use Rattle.traffic_gen.proofs.lines.put_packet.Goals as goal

pub returns-clause-end : goal.returns-clause-end
returns-clause-end c = omega (arith, length-packet_line c.args.letter c.args.moment c.args.packet.now, c.put_front-front.ensures.end)

pub returns-clause-line : goal.returns-clause-line
returns-clause-line c =
    let front = front_of c.args.letter c.args.moment in
    let digits = encode_lower c.args.packet.now in
    let time = length-front c.args.letter c.args.moment in
    let long = length-encode_with lower_digits c.args.packet.now in
    let spaced = length-append front (32 ∷ []) in
    let filled = length-append (front ++ 32 ∷ []) digits in
    let one = Writes-then c.put_front-front.ensures.front c.put_u8.ensures (omega (arith, time)) in
    let two = Writes-then one c.put_hex.ensures (omega (arith, time, spaced)) in
    let all = Writes-then two c.put_u8-2.ensures (omega (arith, time, spaced, filled, long)) in
    subst (λ (line : List ℕ). Writes c.args.out.now c.put_u8-2.new.out c.args.at line) (parts_together front digits) all
