use Rattle.std.proofs.Common.{◌≤◌, ◌<◌, refl, rules}
use Rattle.std.proofs.lemmas.Bool.{le-ltb, lt-ltb}
use Rattle.store_directory.specs.Changes.{apply}
use Rattle.store_directory.proofs.directory.Directory.set_clock.Goals as goal

pub returns-then-reports-ge-REPORTS-clause-err : goal.returns-then-reports-ge-REPORTS-clause-err
unfolding apply
returns-then-reports-ge-REPORTS-clause-err c =
    let many : 16384 ≤ c.args.reports = search rules in
    (rw (le-ltb c.args.reports 16384 many) refl, refl)

pub returns-clause-ok : goal.returns-clause-ok
unfolding apply
returns-clause-ok c =
    let few : c.args.reports < 16384 = search rules in
    rw (lt-ltb c.args.reports 16384 few) (search rules)
