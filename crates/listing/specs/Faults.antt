-- Why a listing ended early.
use Rattle.std.specs.Prelude.{◌≡◌, ◌≢◌, ⊤, ℕ, Bool, true, false, Result, Ok, Err}
use Rattle.board.specs.Counts.{Counts, Rose}
use Rattle.listing.specs.declared.fault.ListingFault.{ListingFault}
use Rattle.listing.specs.declared.fault.ListingFault.TheVariants.{Flash, Link, Mismatch}
use Rattle.vault.specs.Fetching.{AtPosition}
use Rattle.vault.specs.Memory.{InMemory}
use Rattle.vault.specs.declared.fault.VaultFault.{VaultFault}
use Rattle.vault.specs.declared.fault.VaultFault.TheVariants as vaults

abbrev pub listing_fault_of : VaultFault → ListingFault
listing_fault_of vaults.Flash = Flash
listing_fault_of (vaults.Mismatch block page kept found) = Mismatch block page kept found

-- Which count of faults rose. The other one stayed.
abbrev pub IsCauseOf : ListingFault → Counts → Counts → Type 0
IsCauseOf Flash old new =
    Rose old.flash_faults new.flash_faults × (new.link_faults ≡ old.link_faults)
IsCauseOf Link old new =
    Rose old.link_faults new.link_faults × (new.flash_faults ≡ old.flash_faults)
IsCauseOf (Mismatch block page kept found) old new =
    (new.flash_faults ≡ old.flash_faults) × (new.link_faults ≡ old.link_faults)

abbrev pub IsNoMismatch : ListingFault → Type 0
IsNoMismatch (Mismatch block page kept found) = ⊥
IsNoMismatch fault = ⊤

-- A mismatch names the place of a record of a store, and two numbers that differ.
abbrev pub TellsDifference : InMemory → ListingFault → Type 0
TellsDifference vault (Mismatch block page kept found) =
    ((at position : ℕ)
    × AtPosition vault at position (λ index entry. (block ≡ entry.block) × (page ≡ entry.page)))
    × (kept ≢ found)
TellsDifference vault fault = ⊤

-- whether the vault is open after an answer
abbrev pub is_open_after : {A : Type 0} → Result A ListingFault → Bool
is_open_after (Ok answer) = true
is_open_after (Err Link) = true
is_open_after (Err fault) = false

-- A vault after this answer: another record may be held.
abbrev pub IsAfter : {A : Type 0} → (old new : InMemory) → Result A ListingFault → Type 0
IsAfter old new result = new ≡ record old { held = new.held; is_open = is_open_after result }
