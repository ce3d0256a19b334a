use Rattle.std.proofs.Common.{◌≡◌, ◌≤◌, length, map, take}
use Rattle.vault.specs.Requests.{failure_of}
use Rattle.handler.proofs.requests.failures_of.Given as goal

abbrev pub invariant-loop-failed : goal.invariant-loop-failed
invariant-loop-failed l = record {
  items : l.failures.items ≡ map failure_of (take l.failed-index l.refused);
  few : length l.failures.items ≤ l.failed-index;
}
