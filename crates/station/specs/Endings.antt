-- How sessions end.
use Rattle.std.specs.Prelude.{⊤, ℕ}
use Rattle.station.specs.declared.ending.Ending.{Ending}
use Rattle.station.specs.declared.ending.Ending.TheVariants.{BadLine, BadWords, Done, FlashFault, LinkFault, Mismatch, NoMemory, NotHeld, SourceFault}
use Rattle.listing.specs.declared.fault.ListingFault.{ListingFault}
use Rattle.listing.specs.declared.fault.ListingFault.TheVariants as faults
use Rattle.handler.specs.declared.fault.HandlerFault.{HandlerFault}
use Rattle.handler.specs.declared.fault.HandlerFault.TheVariants as handler_faults

abbrev pub status_of : Ending → ℕ
status_of Done = 0
status_of BadWords = 1
status_of (BadLine line why) = 2
status_of NotHeld = 3
status_of FlashFault = 4
status_of LinkFault = 5
status_of SourceFault = 6
status_of (Mismatch block page kept found) = 7
status_of NoMemory = 8

-- how a session ends where a command was not carried out
abbrev pub ending_after : HandlerFault → Ending
ending_after handler_faults.Flash = FlashFault
ending_after handler_faults.Link = LinkFault
ending_after (handler_faults.Mismatch block page kept found) = Mismatch block page kept found
ending_after handler_faults.NoMemory = NoMemory

-- how a session ends where a listing was not sent to its end
abbrev pub ending_by : ListingFault → Ending
ending_by faults.Flash = FlashFault
ending_by faults.Link = LinkFault
ending_by (faults.Mismatch block page kept found) = Mismatch block page kept found

-- an ending of a listing of an open table
abbrev pub IsListed : Ending → Type 0
IsListed Done = ⊤
IsListed FlashFault = ⊤
IsListed LinkFault = ⊤
IsListed (Mismatch block page kept found) = ⊤
IsListed NoMemory = ⊤
IsListed other = ⊥

-- an ending of a listing
abbrev pub IsOfListing : Ending → Type 0
IsOfListing NotHeld = ⊤
IsOfListing other = IsListed other
