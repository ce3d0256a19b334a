use Rattle.octet_fields.proofs.Splices.{Writes-set}
use Rattle.octet_fields.proofs.put_u8.Goals as goal

pub returns : goal.returns
returns c = Writes-set c.args.out.now c.args.at c.args.octet c.requires
