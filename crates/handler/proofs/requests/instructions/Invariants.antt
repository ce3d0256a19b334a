use Rattle.std.proofs.Common.{◌≡◌, length, take}
use Rattle.pus_request.specs.View.{listed}
use Rattle.handler.proofs.requests.instructions.Given as goal

abbrev pub invariant-loop-at : goal.invariant-loop-at
invariant-loop-at l = record {
  items : take l.at l.list ≡ take l.at (listed l.items);
  room : length l.list ≡ 32;
}
