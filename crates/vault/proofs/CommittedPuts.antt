-- The entry of a packet that was put is added on a board.
use Rattle.std.proofs.Common.{◌≡◌, ℕ, true, List, length, Some, sym, ◌∙◌, ap, subst}
use Rattle.block_pool.specs.Blocks.{Blocks}
use Rattle.board.specs.Device.{Device}
use Rattle.board.specs.Flash.{IsContent}
use Rattle.board.specs.Meaning.{BoardMeaning, TellsFlash}
use Rattle.board.specs.Moments.{LeavesOnly}
use Rattle.board.specs.Touches.{KeptElsewhere}
use Rattle.board.proofs.Stops.{weaker}
use Rattle.board.proofs.Works.{tells_too}
use Rattle.image_table.specs.Standing.{HoldsEitherTable}
use Rattle.image_table.specs.Table.{table_by}
use Rattle.meta_journal.specs.Journals.{HoldsEither}
use Rattle.meta_journal.specs.Standing as journals
use Rattle.pst_model.specs.Table.{Stored, Table}
use Rattle.store_directory.specs.Directory.{Directory}
use Rattle.store_directory.specs.Folds.{fold_entry}
use Rattle.vault.proofs.Committed.{IsSettled, entry_folds, kept_first, put_either, put_stands, same_blocks}
use Rattle.vault.specs.Changing.{IsKept, journal_pages}
use Rattle.vault.specs.Memory.{InMemory}
use Rattle.vault.specs.Putting.{HasPutAll}
use Rattle.vault.specs.Standing.{StandsFor}
use Rattle.vault.specs.Storing.{OffersOn}

module _ {B : Type 0} (means : BoardMeaning B) (start board new : B) (first vault : InMemory) (stored : Stored) (text entry : List ℕ)
    (has : HasPutAll means start board first vault stored text) (same_entry : entry ≡ text) (told : TellsFlash means board) (table : Table)
    (stands : StandsFor first (means.flash start) table) (next : Table)
    (by : table_by vault.blocks (means.flash board).content vault.directory.directory ≡ Some next) where
  abbrev n : ℕ
  n = (means.device board).blocks

  abbrev at : ℕ
  at = length first.directory.stores

  abbrev d : Directory
  d = first.directory.directory

  abbrev e : Directory
  e = vault.directory.directory

  on : OffersOn (means.flash board) first vault table stored at has.changes
  on = has.flash (tells_too (sym has.quiet.same) told) table stands

  by_blocks : vault.blocks ≡ n
  by_blocks =
      same_blocks first vault stored at has.changes text has.memory ∙ has.device
      ∙ ap (λ (v : Device). v.blocks) (sym has.quiet.same)

  kept : IsKept n d (means.flash board)
  kept =
      subst (λ (m : ℕ). IsKept m d (means.flash board)) by_blocks
      (kept_first first vault stored at has.changes text has.memory (means.flash board) table on)

  folded : fold_entry d entry ≡ Some e
  folded = ap (fold_entry d) same_entry ∙ entry_folds first vault stored at has.changes text has.memory (means.flash board) table on

  pub commit_leaves : (TellsFlash means board → (before after : Directory) → IsKept n before (means.flash board) → fold_entry before entry ≡ Some after
      → LeavesOnly means board new (HoldsEither n journal_pages (means.flash board) before after))
      → LeavesOnly means board new (HoldsEitherTable vault.blocks table next)
  commit_leaves either =
      weaker means board new (HoldsEitherTable vault.blocks table next) (HoldsEither vault.blocks journal_pages (means.flash board) d e)
      (subst (λ (m : ℕ). LeavesOnly means board new (HoldsEither m journal_pages (means.flash board) d e)) (sym by_blocks) (either told d e kept folded))
      (put_either first vault stored at has.changes text has.memory (means.flash board) table on next by)

  pub commit_stands : (pool : Blocks) → IsSettled vault.directory.stores vault.pool pool → (journal : journals.Kept) → IsContent n (means.flash new).content
      → KeptElsewhere journal_pages (means.flash board) (means.flash new)
      → (TellsFlash means board → (before after : Directory) → IsKept n before (means.flash board) → fold_entry before entry ≡ Some after
      → IsKept n after (means.flash new))
      → journals.StandsFor journal (means.flash new) → journals.AllFirm (means.flash new)
      → StandsFor (record vault { pool = pool; journal = journal; is_open = true }) (means.flash new) next
  commit_stands pool settled journal pages same holds journal_is firm =
      put_stands first vault stored at has.changes text has.memory pool settled journal (means.flash board) table on next by (means.flash new)
      (subst (λ (m : ℕ). IsContent m (means.flash new).content) (sym by_blocks) pages) same
      (subst (λ (m : ℕ). IsKept m e (means.flash new)) (sym by_blocks) (holds told d e kept folded)) journal_is firm
