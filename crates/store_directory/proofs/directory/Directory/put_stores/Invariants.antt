use Rattle.store_directory.specs.Written.{WritesStores}
use Rattle.store_directory.proofs.directory.Directory.put_stores.Given as goal

abbrev pub invariant-loop-number : goal.invariant-loop-number
invariant-loop-number l = WritesStores l.self.stores l.number l.initial.out l.out l.at l.place
