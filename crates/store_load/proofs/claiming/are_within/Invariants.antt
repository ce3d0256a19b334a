use Rattle.std.proofs.Common.{◌≡◌, drop}
use Rattle.std.specs.List.{list_all}
use Rattle.store_load.specs.Claims.{is_within}
use Rattle.store_load.proofs.claiming.are_within.Given as goal

abbrev pub invariant-loop-at : goal.invariant-loop-at
invariant-loop-at l =
    list_all (is_within l.least) (drop l.at l.directory.stores) ≡ list_all (is_within l.least) l.directory.stores
