use Rattle.std.proofs.Common.{refl, arith}
use Rattle.store_directory.proofs.Sames.{listed_same}
use Rattle.store_directory.proofs.sameness.same_stores.Goals as goal

pub returns : goal.returns
returns c =
    let one = c.args.one.now.directory.stores in
    let other = c.args.other.now.directory.stores in (
      λ is. listed_same one other (omega (arith, c.if-len.false, c.len.ensures.len, c.len-2.ensures.len))
          (λ k lt. c.loop-at.invariant k (omega (arith, c.loop-at-test.false, c.len-at-end.ensures.len))),
      λ is. refl,
    )
