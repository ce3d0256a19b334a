-- Room was made in the journal of a vault: the table is the same at each moment.
use Rattle.std.proofs.Common.{◌≡◌, inl, inr, ℕ, refl, subst, sym}
use Rattle.block_pool.specs.Blocks.{IsPool}
use Rattle.board.specs.Flash.{IsContent, IsImage, loosened}
use Rattle.board.specs.Meaning.{BoardMeaning, TellsFlash}
use Rattle.board.specs.Moments.{LeavesOnly}
use Rattle.board.specs.Touches.{KeptElsewhere}
use Rattle.board.proofs.Stops.{weaker}
use Rattle.image_table.specs.Standing.{HoldsEitherTable, HoldsTable}
use Rattle.meta_journal.specs.Journals.{Holds}
use Rattle.meta_journal.specs.Standing as journals
use Rattle.pst_model.specs.Table.{Table}
use Rattle.request_laws.proofs.Stays.{kept_same}
use Rattle.store_directory.specs.Directory.{Directory}
use Rattle.vault.proofs.Entered.{entered_stands, here, sound_entered}
use Rattle.vault.proofs.Keeping.{moves_none}
use Rattle.vault.proofs.RequestRuns.{held_early, kept_first}
use Rattle.vault.specs.Changing.{IsKept, MovesNone, journal_pages}
use Rattle.vault.specs.Memory.{InMemory, IsSound}
use Rattle.vault.specs.Standing.{StandsFor}

stays : (d : Directory) → MovesNone d d
stays d = moves_none d d refl (kept_same d.stores)

pub room_sound : (vault : InMemory) (journal : journals.Kept) → IsSound vault → IsSound (record vault { journal = journal })
room_sound vault journal sound =
    let d = vault.directory.directory in
    sound_entered vault vault.directory journal sound sound.kept (stays d)

module _ {B : Type 0} (means : BoardMeaning B) (old new : B) (vault : InMemory) (by : vault.blocks ≡ (means.device old).blocks) (sound : IsSound vault)
    (told : TellsFlash means old) (table : Table) (stands : StandsFor vault (means.flash old) table) where
  abbrev n : ℕ
  n = (means.device old).blocks

  abbrev d : Directory
  d = vault.directory.directory

  pub room_held : (TellsFlash means old → IsKept n d (means.flash old) → LeavesOnly means old new (Holds n d))
      → (TellsFlash means old → LeavesOnly means old new (IsImage n (loosened journal_pages (means.flash old))))
      → LeavesOnly means old new (HoldsTable vault.blocks table)
  room_held room leaves =
      weaker means old new (HoldsTable vault.blocks table) (HoldsEitherTable vault.blocks table table)
      (held_early means old new vault by sound told table stands table room leaves)
      (λ image is. elim is [
        | inl was ↦ was
        | inr now ↦ now
      ])

  pub room_stands : (journal : journals.Kept) → IsPool vault.pool → IsContent n (means.flash new).content → KeptElsewhere journal_pages (means.flash old) (means.flash new)
      → (TellsFlash means old → IsKept n d (means.flash old) → IsKept n d (means.flash new)) → journals.StandsFor journal (means.flash new)
      → StandsFor (record vault { journal = journal }) (means.flash new) table
  room_stands journal is_pool pages kept holds journal_is =
      entered_stands vault (means.flash old) table sound stands vault.directory (stays d) table (here vault (means.flash old) table sound stands)
      (means.flash new) journal is_pool
      (subst (λ (m : ℕ). IsContent m (means.flash new).content) (sym by) pages) kept
      (subst (λ (m : ℕ). IsKept m d (means.flash new)) (sym by)
      (holds told (kept_first means old new vault by sound told table stands))) journal_is
