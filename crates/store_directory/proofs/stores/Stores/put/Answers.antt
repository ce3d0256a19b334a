use Rattle.std.proofs.Common.{◌+◌, ◌<◌, sym, rules}
use Rattle.std.proofs.lemmas.Option.{IfSome_then}
use Rattle.block_pool.specs.Sizes.{blocks_for_size}
use Rattle.store_directory.specs.Directory.{reserved_by}
use Rattle.store_directory.proofs.Puts.{no-place, no-room}
use Rattle.store_directory.proofs.stores.Stores.put.Goals as goal

pub returns-in_default-clause-unfit : goal.returns-in_default-clause-unfit
returns-in_default-clause-unfit c is =
    no-room c.args.row c.args.self.now.stores c.in-Some.at (sym c.in-Some.ensures.place)
    (IfSome_then _ {Q = λ s. 504 + blocks_for_size s.size < reserved_by c.args.self.now.stores + blocks_for_size c.args.row.size} c.may_resize.ensures
    (λ s test. search rules))

pub returns-in_default-2-clause-unfit : goal.returns-in_default-2-clause-unfit
returns-in_default-2-clause-unfit c is = no-place c.args.row c.args.self.now.stores (sym c.in-None.ensures.place) (λ room. search rules)
