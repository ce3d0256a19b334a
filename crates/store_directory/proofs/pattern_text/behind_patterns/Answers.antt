use Rattle.store_directory.proofs.PatternTexts.{IsBehind-more}
use Rattle.store_directory.proofs.pattern_text.behind_patterns.Goals as goal

pub loop-number-preserved : goal.loop-number-preserved
loop-number-preserved c =
    IsBehind-more c.args.count c.loop-number._number c.args.octets.now c.loop-number.rest.now c.in_ok-rest.rest.now
    c.loop-number-test.true c.loop-number.invariant c.in_ok-rest.ensures
