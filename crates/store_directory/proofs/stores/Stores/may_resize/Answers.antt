use Rattle.std.proofs.Common.{◌+◌, ◌≤◌, ◌↔◌, ap, arith}
use Rattle.std.specs.Prelude.{IsTrue}
use Rattle.std.proofs.lemmas.Option.{IfSome_then}
use Rattle.block_pool.specs.Sizes.{blocks_for_size}
use Rattle.store_directory.specs.Directory.{reserved_by}
use Rattle.store_directory.specs.declared.row.Row.{Row}
use Rattle.store_directory.proofs.Reserved.{reserved-one}
use Rattle.store_directory.proofs.stores.Stores.may_resize.Goals as goal

pub fits-requires-clause-old : goal.fits-requires-clause-old
fits-requires-clause-old c =
    omega (arith, reserved-one c.args.self.now.stores c.args.at c.row.result.now c.requires c.row.ensures, c.blocks_for-old.ensures, c.reserved.ensures.sum)

pub returns : goal.returns
returns c =
    let one = reserved-one c.args.self.now.stores c.args.at c.row.result.now c.requires c.row.ensures in
    IfSome_then _ {Q = λ s. IsTrue c.fits.result ↔ (reserved_by c.args.self.now.stores + blocks_for_size c.args.size ≤ 504 + blocks_for_size s.size)} c.row.ensures (
    λ s is.
    let same = ap (λ (r : Row). blocks_for_size r.size) is in (
      λ fits. omega (arith, c.fits.ensures.0 fits, one, same, c.blocks_for-old.ensures, c.blocks_for.ensures, c.reserved.ensures.sum),
      λ within. c.fits.ensures.1 (omega (arith, within, one, same, c.blocks_for-old.ensures, c.blocks_for.ensures, c.reserved.ensures.sum)),
    )
    )
