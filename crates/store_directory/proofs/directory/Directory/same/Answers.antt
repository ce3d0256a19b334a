use Rattle.std.proofs.lemmas.Bool.Decides.{same_from_decides}
use Rattle.store_directory.specs.Same.{same_directory}
use Rattle.store_directory.proofs.Sames.{directories_decided}
use Rattle.store_directory.proofs.directory.Directory.same.Goals as goal

pub returns : goal.returns
returns c =
    let one = c.args.self.now.directory in
    let other = c.args.other.now.directory in
    same_from_decides c.are_same.result (same_directory one other) c.are_same.ensures (directories_decided one other)
