use Rattle.std.proofs.Common.{arith}
use Rattle.image_table.specs.Table.{table_rule}
use Rattle.store_write.proofs.Lying.{elsewhere, in_place}
use Rattle.store_write.proofs.RangesOn.{last_fits}
use Rattle.vault.proofs.copying.copy_last.Goals as goal

pub renew_block-requires-clause-places : goal.renew_block-requires-clause-places
renew_block-requires-clause-places g c =
    let (now, used, range) = c.requires.in_range in
    in_place table_rule now c.args.row.now c.args.links.now c.args.index.now used range (g.B.Board.means.device c.args.board.now).blocks (omega arith) c.requires.own

pub renew_block-requires-clause-apart : goal.renew_block-requires-clause-apart
renew_block-requires-clause-apart g c =
    let (now, used, range) = c.requires.in_range in
    elsewhere table_rule now c.args.row.now c.args.links.now c.args.index.now used range c.take_block-block.result.0
    (c.requires.apart c.take_block-block.result.0 c.take_block-block.ensures.taken.was_free)

pub renew_block-requires-clause-fits : goal.renew_block-requires-clause-fits
renew_block-requires-clause-fits g c =
    let (now, used, range) = c.requires.in_range in
    last_fits table_rule now c.args.row.now c.args.index.now used c.args.links.now range c.requires.linked
