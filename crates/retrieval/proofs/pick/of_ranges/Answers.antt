use Rattle.std.proofs.Common.{ℕ, true, Option, Some, refl, sym, ◌∙◌, ap, arith}
use Rattle.std.specs.Prelude.{is_some}
use Rattle.pst_model.specs.Rules.{range_next}
use Rattle.retrieval.specs.Picks.{has_range, range_pick}
use Rattle.retrieval.proofs.FirstPicks.{fails, none, passes}
use Rattle.retrieval.proofs.pick.of_ranges.Goals as goal

pub loop-at-init : goal.loop-at-init
loop-at-init c = refl

pub returns-in-Some-clause-first : goal.returns-in-Some-clause-first
returns-in-Some-clause-first c =
    let row = c.row-row.result.now in
    let at = c.loop-at.at in
    sym (ap (λ (range : Option (ℕ × ℕ)). Some (record { at = at; position = range_next range; channel = row.channel; range = true })) c.in-Some.is)
    ∙ passes has_range range_pick c.args.directory.now.directory.stores at c.loop-at.invariant row (omega (arith, c.loop-at-test.true, c.len-at-end.ensures.len)) c.row-row.ensures (ap is_some c.in-Some.is)

pub loop-at-preserved : goal.loop-at-preserved
loop-at-preserved c =
    fails has_range range_pick c.args.directory.now.directory.stores c.loop-at.at c.loop-at.invariant c.row-row.result.now (omega (arith, c.loop-at-test.true, c.len-at-end.ensures.len)) c.row-row.ensures (ap is_some c.in_default.is)

pub returns-clause-first : goal.returns-clause-first
returns-clause-first c = none has_range range_pick c.args.directory.now.directory.stores c.loop-at.at c.loop-at.invariant (omega (arith, c.loop-at-test.false, c.len-at-end.ensures.len))
