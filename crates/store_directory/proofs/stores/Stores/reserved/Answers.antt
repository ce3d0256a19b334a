use Rattle.std.proofs.Common.{◌≡◌, ◌+◌, suc, drop, ap, arith, rules}
use Rattle.store_directory.specs.Directory.{reserved_by}
use Rattle.store_directory.proofs.Reserved.{reserved-at}
use Rattle.store_directory.proofs.stores.Stores.reserved.Goals as goal

pub loop-at-preserved : goal.loop-at-preserved
loop-at-preserved c =
    let more : c.loop-at.at + 1 ≡ suc c.loop-at.at = omega arith in
    let next = ap (λ at. reserved_by (drop at c.args.self.now.stores)) more in
    omega (arith, reserved-at c.args.self.now.stores c.loop-at.at c.row.result.now (search rules) c.row.ensures, next, c.blocks_for-sum.ensures, c.loop-at.invariant)

pub returns-clause-most : goal.returns-clause-most
returns-clause-most c = omega (arith, c.loop-at.invariant, c.len-at-end.ensures.kept.reserved)
