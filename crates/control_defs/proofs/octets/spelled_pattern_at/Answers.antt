use Rattle.std.proofs.Common.{◌≤◌, drop, length, sym, ◌∙◌, ap, arith, length-drop, Some}
use Rattle.control_defs.proofs.PatternOctets.{spelled-by}
use Rattle.control_defs.proofs.octets.spelled_pattern_at.Goals as goal

pub returns-then-is_some-clause-value : goal.returns-then-is_some-clause-value
returns-then-is_some-clause-value c =
    let octets = drop c.args.at c.args.octets.now in
    let long : 5 ≤ length octets = omega (arith, length-drop c.args.at c.args.octets.now) in
    sym ((spelled-by octets c.args.at c.wrong_in_pattern.result long c.wrong_in_pattern.ensures).0 (sym c.is_some.ensures ∙ c.if-is_some.true))

pub returns-clause-value : goal.returns-clause-value
returns-clause-value c =
    let octets = drop c.args.at c.args.octets.now in
    let long : 5 ≤ length octets = omega (arith, length-drop c.args.at c.args.octets.now) in
    ap Some c.pattern_at.ensures
    ∙ sym ((spelled-by octets c.args.at c.wrong_in_pattern.result long c.wrong_in_pattern.ensures).1 (sym c.is_some.ensures ∙ c.if-is_some.false))
