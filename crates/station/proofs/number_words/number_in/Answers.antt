use Rattle.std.proofs.Common.{sym, arith}
use Rattle.station.proofs.Numbers.{given, refused}
use Rattle.station.proofs.number_words.number_in.Goals as goal

pub returns-in-Ok : goal.returns-in-Ok
returns-in-Ok c =
    sym (given c.as_bytes-octets.result.now c.args.word.now c.as_bytes-octets.ensures.value c.if-is_empty.ensures (omega arith) c.if-octets-eq-SIGN.false c.in-Ok.number c.in-Ok.ensures.value.0)

pub returns-in-Err : goal.returns-in-Err
returns-in-Err c =
    sym (refused c.as_bytes-octets.result.now c.args.word.now c.as_bytes-octets.ensures.value c.if-is_empty.ensures (omega arith) c.if-octets-eq-SIGN.false c.in-Err.field-0 c.in-Err.ensures.value.0)
