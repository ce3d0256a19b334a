use Rattle.std.proofs.Common.{ap, ◌∙◌, arith, sym}
use Rattle.pst_model.specs.Rules.{is_refused, to_drop}
use Rattle.store_policy.proofs.Leaving.{free_of-index, to_drop-is}
use Rattle.store_policy.proofs.plans.plan_put.Goals as goal

pub returns-then-is_refused-clause-full : goal.returns-then-is_refused-clause-full
returns-then-is_refused-clause-full c store shown =
    let free = free_of-index store c.args.row.now c.args.index.now shown c.requires.together in
    let rule = c.is_refused.ensures.rule store shown.kind shown.size (omega (arith, free, c.size.ensures.size, c.pages.ensures)) in (
      ap (is_refused store) (sym c.charge-need.ensures) ∙ sym rule ∙ c.if-is_refused.true,
      c.charge-need.ensures,
      omega (arith, free, c.size.ensures.size, c.pages.ensures),
    )

pub fewest_leaving-requires-clause-need : goal.fewest_leaving-requires-clause-need
fewest_leaving-requires-clause-need c =
    omega (arith, c.is_refused.ensures.within c.if-is_refused.false, c.requires.together.size)

pub returns-clause-plan : goal.returns-clause-plan
returns-clause-plan c store shown =
    let index = c.args.index.now in
    let free = free_of-index store c.args.row.now index shown c.requires.together in
    let rule = c.is_refused.ensures.rule store shown.kind shown.size (omega (arith, free, c.size.ensures.size, c.pages.ensures)) in
    let leaving = to_drop-is store c.args.row.now index shown c.requires.together c.charge-need.result c.fewest_leaving.result
    c.fewest_leaving.ensures.within c.fewest_leaving.ensures.least in (
      ap (is_refused store) (sym c.charge-need.ensures) ∙ sym rule ∙ c.if-is_refused.false,
      leaving ∙ ap (to_drop store) c.charge-need.ensures,
    )
