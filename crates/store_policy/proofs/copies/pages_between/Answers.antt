use Rattle.std.proofs.Common.{◌≡◌, ◌-◌, ap, ◌∙◌, arith, take, drop}
use Rattle.time_index.specs.TimeIndex.{pages_of}
use Rattle.store_policy.proofs.Between.{one-more, one-more-le, span-is}
use Rattle.store_policy.proofs.copies.pages_between.Goals as goal

pub overflow_add-pages : goal.overflow_add-pages
overflow_add-pages c =
    omega (arith, one-more-le c.args.index.now.entries c.args.first c.loop-position.position c.entry.result c.entry.ensures c.loop-position.auto.position (omega arith), c.loop-position.invariant.total)

pub loop-position-preserved : goal.loop-position-preserved
loop-position-preserved c =
    record {
      total = omega (arith, one-more c.args.index.now.entries c.args.first c.loop-position.position c.entry.result c.entry.ensures c.loop-position.auto.position (omega arith), c.loop-position.invariant.total);
      none = λ before. absurd (omega arith);
    }

pub returns : goal.returns
returns c =
    let same : c.loop-position.position - c.args.first ≡ c.args.end - c.args.first = span-is c.args.first c.args.end c.loop-position.position (omega arith) c.loop-position.auto.position-end c.loop-position.invariant.none in
    c.loop-position.invariant.total ∙ ap (λ n. pages_of (take n (drop c.args.first c.args.index.now.entries))) same
