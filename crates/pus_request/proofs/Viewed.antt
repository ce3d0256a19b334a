-- What a view of the items of a request holds.
use Rattle.std.proofs.Common.{◌≡◌, drop, length}
use Rattle.pst_model.specs.Requests.{SpellsRequest, count_in, front_of}
use Rattle.pst_model.proofs.RequestItems.{length-items_from}
use Rattle.pst_model.proofs.WholeRequests.{IsWhole, whole-from_none}
use Rattle.pus_request.specs.declared.items.Items.{Items}
use Rattle.pus_request.specs.Kinds.{asked_by, row_of}
use Rattle.pus_request.specs.View.{listed}
use Rattle.pus_request.proofs.Rows.{spelled-view}

-- how many items there are
pub many : (items : Items) → length (listed items) ≡ count_in (row_of items.kind) items.body.now
many items = let row = row_of items.kind in length-items_from row (count_in row items.body.now) (drop (front_of row) items.body.now)

pub whole : (items : Items) → IsWhole (row_of items.kind) items.body.now
whole items = whole-from_none (row_of items.kind) items.body.now items.faultless

pub spelled : (items : Items) → SpellsRequest (asked_by items.kind).0 (asked_by items.kind).1 items.body.now (listed items)
spelled items = spelled-view items.kind items.body.now items.octets items.faultless
