-- What a session on a device in a file does to it, by the counts of its calls: no clause can observe a file.
use Rattle.std.specs.Prelude.{◌≡◌, ◌≢◌, ◌≤◌, ◌+◌}
use Rattle.board.specs.Counts.{Counts}
use Rattle.station.specs.declared.ending.Ending.{Ending}
use Rattle.station.specs.declared.ending.Ending.TheVariants.{Done, LinkFault}

-- No page was programmed or erased.
pub record IsUnwritten (old new : Counts) : Type 0 where
  pub programs : new.programs ≡ old.programs
  pub erases : new.erases ≡ old.erases

-- Nor was anything sent.
pub record IsRefused (old new : Counts) : Type 0 where
  pub unwritten : IsUnwritten old new
  pub sends : new.sends ≡ old.sends

-- One line was sent at most, and none at an ending that tells of another failure than the link's.
pub record SendsOnce (old new : Counts) (ending : Ending) : Type 0 where
  pub most : new.sends ≤ old.sends + 1
  pub none : ending ≢ Done → ending ≢ LinkFault → new.sends ≡ old.sends
