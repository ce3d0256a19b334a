use Rattle.std.proofs.Common.{◌≡◌, ◌+◌, ◌<◌, suc, drop, length, ap, arith}
use Rattle.store_load.specs.Claims.{reserved_at}
use Rattle.store_load.proofs.Claims.{reserved_from}
use Rattle.store_load.proofs.claiming.reserved_at.Goals as goal

pub loop-at-preserved : goal.loop-at-preserved
loop-at-preserved c =
    let at = c.loop-at.at in
    let stores = c.args.directory.now.stores in
    let more : at + 1 ≡ suc at = omega arith in
    let next = ap (λ n. reserved_at c.args.least (drop n stores)) more in
    let within : at < length stores = omega (arith, c.len-at-end.ensures.len) in
    let here = reserved_from c.args.least stores at c.blocks_of_store-sum.result within c.blocks_of_store-sum.ensures.blocks in
    record {
      so_far = omega (arith, here, next, c.loop-at.invariant.so_far);
      most = omega (arith, c.blocks_of_store-sum.ensures.most, c.loop-at.invariant.most);
    }
