use Rattle.std.proofs.Common.{rules}
use Rattle.store_directory.specs.Spelled.{text_of}
use Rattle.store_directory.proofs.Unlawful.{unlawful-again, unlawful-place}
use Rattle.store_directory.proofs.stores.Stores.add.Goals as goal

pub returns-then-is_some-clause-unfit : goal.returns-then-is_some-clause-unfit
returns-then-is_some-clause-unfit c unfit rest = unlawful-again c.args.self.now.stores (text_of c.args.store.now) rest (search rules)

pub returns-then-not-has_place-clause-unfit : goal.returns-then-not-has_place-clause-unfit
returns-then-not-has_place-clause-unfit c unfit rest = unlawful-place c.args.self.now.stores (text_of c.args.store.now) rest (λ room. search rules)
