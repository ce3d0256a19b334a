use Rattle.std.proofs.Common.{arith}
use Rattle.store_write.proofs.Steps.{first_of_last}
use Rattle.store_write.proofs.renewing.first_in_last.Goals as goal

pub returns-in-Some : goal.returns-in-Some
returns-in-Some c =
    let more = c.if-links-gt1.true in
    first_of_last c.args.row.now c.args.links.now c.in-Some.link.now (omega (arith, more))
    c.in-Some.ensures.value
