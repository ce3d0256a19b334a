use Rattle.std.proofs.Common.{◌≡◌, ◌∙◌, ℕ, ◌+◌, Bool, true, ap, length, min, set, sym, arith}
use Rattle.std.specs.Prelude.{if◌then◌else◌}
use Rattle.block_pool.specs.Blocks.{Blocks, is_ready, wear_of}
use Rattle.board.specs.Flash.{pages_of_block}
use Rattle.board.proofs.Touching as touching
use Rattle.store_put.specs.Pools.{wear_begun}
use Rattle.store_put.proofs.begun.begin_block.Goals as goal

ready_wear : (pool : Blocks) (block : ℕ) → is_ready pool block ≡ true → wear_begun pool block ≡ pool.wear
ready_wear pool block marked =
    ap (λ (b : Bool). if b then pool.wear else set pool.wear block (min (wear_of pool block + 1) 4294967295)) marked

pub returns-then-ready-clause-begins : goal.returns-then-ready-clause-begins
returns-then-ready-clause-begins g c =
    let means = g.B.Board.means in
    let old = c.args.board.now in
    record {
      block = c.take_block-block.result.0;
      taken = c.take_block-block.ensures.taken;
      many = ap length c.take_block-block.ensures.wear;
      wear =
          c.take_block-block.ensures.wear
          ∙ sym (ready_wear c.args.pool.now c.take_block-block.result.0 (sym c.take_block-block.ensures.ready ∙ c.if-ready.true));
      tail = c.ready.ensures;
      touches =
          touching.touches_most means
          (touching.touches_none means (pages_of_block c.take_block-block.result.0) old (λ image told left. g.met.B.Board.images_now old image told left))
          (omega arith) (omega arith) (omega arith);
    }
