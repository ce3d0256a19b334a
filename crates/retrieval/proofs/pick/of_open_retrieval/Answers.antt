use Rattle.std.proofs.Common.{sym, ◌∙◌, arith}
use Rattle.retrieval.specs.Picks.{has_ahead, open_pick}
use Rattle.retrieval.proofs.FirstPicks.{fails, none, passes}
use Rattle.retrieval.proofs.pick.of_open_retrieval.Goals as goal

pub returns-then-has_packets_ahead : goal.returns-then-has_packets_ahead
returns-then-has_packets_ahead c =
    passes has_ahead open_pick c.args.directory.now.directory.stores c.loop-at.at c.loop-at.invariant c.row-row.result.now
    (omega (arith, c.loop-at-test.true, c.len-at-end.ensures.len)) c.row-row.ensures (sym c.has_packets_ahead.ensures ∙ c.if-has_packets_ahead.true)

pub loop-at-preserved : goal.loop-at-preserved
loop-at-preserved c =
    fails has_ahead open_pick c.args.directory.now.directory.stores c.loop-at.at c.loop-at.invariant c.row-row.result.now
    (omega (arith, c.loop-at-test.true, c.len-at-end.ensures.len)) c.row-row.ensures (sym c.has_packets_ahead.ensures ∙ c.if-has_packets_ahead.false)

pub returns : goal.returns
returns c = none has_ahead open_pick c.args.directory.now.directory.stores c.loop-at.at c.loop-at.invariant (omega (arith, c.loop-at-test.false, c.len-at-end.ensures.len))
