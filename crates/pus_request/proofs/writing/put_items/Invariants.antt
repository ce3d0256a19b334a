use Rattle.std.proofs.Common.{◌≡◌, ◌+◌, length, take}
use Rattle.octet_fields.specs.Fields.{Writes}
use Rattle.pst_model.specs.Requests.{items_octets}
use Rattle.pus_request.proofs.writing.put_items.Given as goal

abbrev pub invariant-loop-item : goal.invariant-loop-item
invariant-loop-item l = record {
  place : l.place ≡ l.at + length (items_octets (take l.item-index l.items));
  written : Writes l.initial.out l.out l.at (items_octets (take l.item-index l.items));
}
