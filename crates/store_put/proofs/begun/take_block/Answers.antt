use Rattle.std.proofs.Common.{Bool, List, true, false, set, ◌∙◌, ap}
use Rattle.std.proofs.lemmas.List.{set-set}
use Rattle.store_put.proofs.begun.take_block.Goals as goal

pub returns-clause-taken : goal.returns-clause-taken
returns-clause-taken c =
    let b = c.take-block.result in
    let was = c.args.pool.now in
    record {
      was_free = c.take-block.ensures.least.free;
      own = c.take-block.ensures.least.block_is;
      free =
          c.mark.ensures.free
          ∙ ap (λ (l : List Bool). set l b false) (c.give.ensures.free ∙ ap (λ (l : List Bool). set l b true) c.take-block.ensures.free)
          ∙ set-set (set was.free b false) b true false
          ∙ set-set was.free b false false;
      ready =
          c.mark.ensures.ready
          ∙ c.give.ensures.ready
          ∙ ap (λ (l : List Bool). set l b false) c.take-block.ensures.ready;
    }
