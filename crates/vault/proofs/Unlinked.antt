-- A packet that is put does not call the link.
use Rattle.std.proofs.Common.{ℕ, List, refl}
use Rattle.board.specs.Meaning.{BoardMeaning}
use Rattle.request_laws.proofs.Tables.{one_shown}
use Rattle.store_policy.specs.declared.view.View.{View}
use Rattle.vault.proofs.Keeping.{all_together}
use Rattle.vault.specs.Memory.{InMemory, IsSound}
use Rattle.vault.specs.Putting.{PutsWithin}
use Rattle.vault.specs.Renewing.{LeavesLink}

abbrev view_of : InMemory → View
view_of vault = record {
  directory = record { ref_ptr = (0, 0); now = vault.directory };
  indexes = record { ref_ptr = (0, 0); now = vault.indexes };
  blocks = vault.blocks;
}

pub puts_leave_link : {B : Type 0} (means : BoardMeaning B) (old new : B) (vault : InMemory) (packet : List ℕ) → IsSound vault
    → PutsWithin means old new vault packet → LeavesLink (means.counts old) (means.counts new)
puts_leave_link means old new vault packet sound within =
    let view = view_of vault in
    let (table, shown) = one_shown view (all_together vault.directory.now vault.directory.stores vault.indexes vault.lasts sound.stores) in
    let work = within table view (record { directory = refl; indexes = refl; blocks = refl }) shown in
    record { faults = work.link_faults; sends = work.sends }
