use Rattle.store_directory.proofs.Widths.{width-cut}
use Rattle.store_directory.proofs.change_text.read_change.Goals as goal

pub change_by-requires : goal.change_by-requires
change_by-requires c = width-cut c.in_ok-width.width c.args.text.now c.in_ok-width.ensures.whole c.in_ok-width.ensures.within
