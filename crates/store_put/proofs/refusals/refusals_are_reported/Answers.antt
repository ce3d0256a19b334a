use Rattle.store_put.proofs.Refused.{reported}
use Rattle.store_put.proofs.refusals.refusals_are_reported.Goals as goal

pub returns : goal.returns
returns c = reported
