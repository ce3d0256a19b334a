-- A slot while links are put behind its own.
use Rattle.std.specs.Prelude.{◌≡◌, ◌≤◌, ◌++◌, List}
use Rattle.std.specs.List.{All}
use Rattle.record_view.specs.declared.link.Link.{Link}
use Rattle.store_directory.specs.Directory.{FitsLink}
use Rattle.store_directory.specs.declared.slot.Slot.{Slot}

-- A slot has these links behind its own, whose numbers fit their octets, and all else is as it was.
pub record HasMore (links : List Link) (old new : Slot) : Type 0 where
  pub items : new.links.items ≡ old.links.items ++ links
  pub fitting : All FitsLink links
  pub room : old.links.room ≤ new.links.room
  pub row : new.row ≡ old.row
  pub patterns : new.patterns ≡ old.patterns
  pub largest : new.largest ≡ old.largest
