use Rattle.std.proofs.Common.{◌≡◌, ◌<◌, drop, arith, rules}
use Rattle.std.proofs.lemmas.List.{length-drop}
use Rattle.store_directory.proofs.Trims.{passed, passed-within, trimmed-drops}
use Rattle.store_directory.proofs.slot.Slot.count_gone.Goals as goal

pub returns-clause-within : goal.returns-clause-within
returns-clause-within c =
    let same : c.count_passed.result ≡ passed c.args.row.now.first (drop 1 c.args.self.now.links.items) = search rules in
    omega (arith, same, passed-within c.args.row.now.first (drop 1 c.args.self.now.links.items), length-drop 1 c.args.self.now.links.items)

pub returns-clause-left : goal.returns-clause-left
returns-clause-left c =
    let same : c.count_passed.result ≡ passed c.args.row.now.first (drop 1 c.args.self.now.links.items) = search rules in
    let some : 0 < c.args.row.now.count = search rules in
    rw same (trimmed-drops c.args.row.now.first c.args.row.now.count c.args.self.now.links.items some)
