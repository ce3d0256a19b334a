use Rattle.pst_model.proofs.WholeRequests.{HasRightItems}
use Rattle.pus_request.specs.Kinds.{row_of}
use Rattle.pus_request.proofs.reading.wrong_in_items.Given as goal

abbrev pub invariant-loop-number : goal.invariant-loop-number
invariant-loop-number l = HasRightItems (row_of l.kind) l.number l.body
