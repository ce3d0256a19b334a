use Rattle.control_defs.proofs.Tested.{lawful-from_test, tested-from}
use Rattle.control_defs.proofs.laws.lawful_lists_are_tested.Goals as goal

pub returns : goal.returns
returns c patterns ranges = (lawful-from_test patterns ranges, tested-from patterns)
