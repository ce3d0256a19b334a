use Rattle.std.proofs.Common.{arith}
use Rattle.octet_fields.proofs.Splices.{Writes-then}
use Rattle.pst_model.proofs.RequestItems.{length-items_more, length-items_upto}
use Rattle.pus_request.proofs.WrittenItems.{Writes-more_items}
use Rattle.pus_request.proofs.writing.put_items.Goals as goal

pub put_item-place-requires-clause-room : goal.put_item-place-requires-clause-room
put_item-place-requires-clause-room c = omega (arith, length-items_upto)

pub loop-item-preserved : goal.loop-item-preserved
loop-item-preserved c = record {
  place = omega (arith, length-items_more);
  written =
      Writes-more_items c.args.out.now c.put_item-place.new.out c.args.at c.loop-item.item-index c.args.items.now _ c.loop-item-test.true
      (Writes-then c.loop-item.invariant.written c.put_item-place.ensures.item c.loop-item.invariant.place);
}
