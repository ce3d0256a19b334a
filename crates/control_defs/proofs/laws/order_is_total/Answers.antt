use Rattle.control_defs.proofs.Order.{pattern_cmp_total}
use Rattle.control_defs.proofs.laws.order_is_total.Goals as goal

pub returns-clause-total : goal.returns-clause-total
returns-clause-total c = pattern_cmp_total
