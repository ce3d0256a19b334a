use Rattle.std.proofs.Common.{[], ◌∷◌, arith, length-append}
use Rattle.octet_fields.proofs.Splices.{Writes-at_front, Writes-then}
use Rattle.hex.specs.Hex.{encode_lower, lower_digits}
use Rattle.hex.proofs.HexLemmas.{length-encode_with}
use Rattle.session_text.proofs.output.write_line.Goals as goal

pub returns-clause-length : goal.returns-clause-length
returns-clause-length c = omega (arith, length-encode_with lower_digits c.args.packet.now, length-append (encode_lower c.args.packet.now) (10 ∷ []))

pub returns-clause-line : goal.returns-clause-line
returns-clause-line c =
    let two = Writes-then c.put_u8.ensures c.put_u8-2.ensures (omega arith) in
    let three = Writes-then two c.put_hex.ensures (omega arith) in
    let four = Writes-then three c.put_u8-3.ensures (omega (arith, length-encode_with lower_digits c.args.packet.now)) in
    Writes-at_front four
