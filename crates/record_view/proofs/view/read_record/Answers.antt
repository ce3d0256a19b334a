use Rattle.record_view.proofs.Spelling.{fault_there, no_head, view_there}
use Rattle.record_view.proofs.view.read_record.Goals as goal

pub returns-in_err-length : goal.returns-in_err-length
returns-in_err-length c =
    rw c.from_residual.ensures
    (no_head c.args.block.now c.args.number c.args.page c.in_err-length.ensures)

pub returns-in-Ok : goal.returns-in-Ok
returns-in-Ok c =
    view_there c.args.block.now _ c.args.number c.args.page c.in_ok-length.length c.u48_at.result
    c.in_ok-length.ensures.0 c.in_ok-length.ensures.1 c.in-Ok.ensures.view
    c.in-Ok.packet.whole c.u48_at.ensures.value

pub returns-in-Err : goal.returns-in-Err
returns-in-Err c =
    fault_there c.args.block.now c.args.number c.args.page c.in_ok-length.length _
    c.in_ok-length.ensures.0 c.in_ok-length.ensures.1 c.in-Err.ensures.fault
