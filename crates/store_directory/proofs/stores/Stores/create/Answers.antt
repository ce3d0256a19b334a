use Rattle.store_directory.proofs.PutSlots.{puts-new}
use Rattle.store_directory.proofs.stores.Stores.create.Goals as goal

pub returns-clause-ok : goal.returns-clause-ok
returns-clause-ok c =
    puts-new c.args.row c.in_ok-slot.slot.largest _ c.args.self.now c.push.new.self c.in_ok-push.ensures.ok c.in_ok-slot.ensures.listed c.in_ok-slot.ensures.largest
    c.requires.fresh c.requires.new c.requires.lawful c.requires.few c.requires.blocks
