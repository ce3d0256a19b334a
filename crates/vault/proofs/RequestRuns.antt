-- The images while a request is carried out, and the vault in the end: room is made, and then the entry is added.
use Rattle.std.proofs.Common.{◌≡◌, inl, ℕ, List, Some, sym, subst}
use Rattle.block_pool.specs.Blocks.{Blocks, IsPool}
use Rattle.board.specs.Device.{Device}
use Rattle.board.specs.Flash.{IsContent, IsImage, loosened}
use Rattle.board.specs.Meaning.{BoardMeaning, TellsFlash}
use Rattle.board.specs.Moments.{LeavesOnly}
use Rattle.board.specs.Touches.{KeptElsewhere}
use Rattle.board.proofs.Stops.{goes_on, leaves_both, weaker}
use Rattle.board.proofs.Works.{tells_too}
use Rattle.control_defs.specs.declared.instructions.Instruction.{Instruction}
use Rattle.image_table.specs.Standing.{HoldsEitherTable}
use Rattle.meta_journal.specs.Journals.{Holds}
use Rattle.meta_journal.specs.Standing as journals
use Rattle.pst_model.specs.Table.{Table}
use Rattle.request_laws.specs.Counting.{table_behind}
use Rattle.store_directory.specs.Directory.{Directory}
use Rattle.store_directory.specs.Folds.{fold_entry}
use Rattle.store_directory.specs.Kept.{Kept}
use Rattle.store_policy.specs.declared.refusal.Refusal.{Refusal}
use Rattle.time_index.specs.TimeIndex.{TimeIndex}
use Rattle.vault.proofs.Committed.{IsSettled}
use Rattle.vault.proofs.RequestStands.{either_held, request_stands, still_held}
use Rattle.vault.specs.Changing.{HoldsOne, IsKept, journal_pages}
use Rattle.vault.specs.Following.{stores_of}
use Rattle.vault.specs.Memory.{InMemory, IsSound}
use Rattle.vault.specs.Requests.{IsPrepared}
use Rattle.vault.specs.Standing.{StandsFor}
use Rattle.vault.specs.declared.last_block.LastBlock.{LastBlock}

module _ {B : Type 0} (means : BoardMeaning B) (old mid : B) (vault : InMemory) (by : vault.blocks ≡ (means.device old).blocks) (sound : IsSound vault)
    (told : TellsFlash means old) (table : Table) (stands : StandsFor vault (means.flash old) table) where
  abbrev n : ℕ
  n = (means.device old).blocks

  abbrev d : Directory
  d = vault.directory.directory

  pub kept_first : IsKept n d (means.flash old)
  kept_first = subst (λ (m : ℕ). IsKept m d (means.flash old)) by (record { holds = stands.directory; is_firm = stands.firm_journal })

  -- while room is made, each image holds the table
  pub held_early : (after : Table) → (TellsFlash means old → IsKept n d (means.flash old) → LeavesOnly means old mid (Holds n d))
      → (TellsFlash means old → LeavesOnly means old mid (IsImage n (loosened journal_pages (means.flash old))))
      → LeavesOnly means old mid (HoldsEitherTable vault.blocks table after)
  held_early after room leaves =
      leaves_both means old mid (Holds vault.blocks d) (IsImage vault.blocks (loosened journal_pages (means.flash old))) (HoldsEitherTable vault.blocks table after)
      (subst (λ (m : ℕ). LeavesOnly means old mid (Holds m d)) (sym by) (room told kept_first))
      (subst (λ (m : ℕ). LeavesOnly means old mid (IsImage m (loosened journal_pages (means.flash old)))) (sym by) (leaves told))
      (still_held vault (means.flash old) table after sound stands)

  module _ (new : B) (acks : ℕ) (items : List Instruction) (next : Kept) (indexes : List TimeIndex) (lasts : List LastBlock) (refused : List (ℕ × Refusal)) (text : List ℕ)
      (prepared : IsPrepared vault.blocks acks items (stores_of vault) (record { directory = next.directory; indexes = indexes; lasts = lasts }) refused text) (same : means.device mid ≡ means.device old)
      (holds : TellsFlash means old → IsKept n d (means.flash old) → IsKept n d (means.flash mid)) where
    abbrev last : Directory
    last = next.directory

    abbrev behind : Table
    behind = table_behind vault.blocks acks items table

    kept_mid : IsKept (means.device mid).blocks d (means.flash mid)
    kept_mid = subst (λ (v : Device). IsKept v.blocks d (means.flash mid)) (sym same) (holds told kept_first)

    -- and while the entry is added, the one from before or the one behind
    pub held_late : (TellsFlash means old → IsKept n d (means.flash old) → LeavesOnly means old mid (Holds n d))
        → (TellsFlash means mid → (before after : Directory) → IsKept (means.device mid).blocks before (means.flash mid) → fold_entry before text ≡ Some after
        → LeavesOnly means mid new (HoldsOne (means.device mid).blocks before after))
        → (TellsFlash means old → LeavesOnly means old new (IsImage n (loosened journal_pages (means.flash old))))
        → LeavesOnly means old new (HoldsEitherTable vault.blocks table behind)
    held_late room entry leaves =
        let first : LeavesOnly means old mid (HoldsOne n d last) = weaker means old mid (HoldsOne n d last) (Holds n d) (room told kept_first) (λ image is. inl is) in
        let second : LeavesOnly means mid new (HoldsOne n d last) =
        subst (λ (v : Device). LeavesOnly means mid new (HoldsOne v.blocks d last)) same (entry (tells_too same told) d last kept_mid prepared.folded) in
        let both : LeavesOnly means old new (HoldsOne n d last) =
        goes_on means old mid new (HoldsOne n d last) (HoldsOne n d last) first second (λ image is. is) in
        leaves_both means old new (HoldsOne vault.blocks d last) (IsImage vault.blocks (loosened journal_pages (means.flash old))) (HoldsEitherTable vault.blocks table behind)
        (subst (λ (m : ℕ). LeavesOnly means old new (HoldsOne m d last)) (sym by) both)
        (subst (λ (m : ℕ). LeavesOnly means old new (IsImage m (loosened journal_pages (means.flash old)))) (sym by) (leaves told))
        (either_held vault acks items next indexes lasts refused text prepared sound (means.flash old) table stands)

    pub stands_last : (pool : Blocks) (settled : IsSettled next.stores vault.pool pool) (journal : journals.Kept) → IsPool vault.pool → IsContent n (means.flash new).content → KeptElsewhere journal_pages (means.flash old) (means.flash new)
        → (TellsFlash means mid → (before after : Directory) → IsKept (means.device mid).blocks before (means.flash mid) → fold_entry before text ≡ Some after
        → IsKept (means.device mid).blocks after (means.flash new))
        → journals.StandsFor journal (means.flash new)
        → StandsFor (record vault { directory = next; indexes = indexes; lasts = lasts; pool = pool; journal = journal }) (means.flash new) behind
    stands_last pool settled journal is_pool pages kept entry journal_is =
        request_stands vault acks items next indexes lasts refused text prepared sound (means.flash old) table stands (means.flash new) pool settled journal is_pool
        (subst (λ (m : ℕ). IsContent m (means.flash new).content) (sym by) pages) kept
        (subst (λ (m : ℕ). IsKept m last (means.flash new)) (sym by)
        (subst (λ (v : Device). IsKept v.blocks last (means.flash new)) same (entry (tells_too same told) d last kept_mid prepared.folded)))
        journal_is
