-- What a grant makes durable, and what it sends.
use Rattle.std.proofs.Common.{◌≡◌, ◌≢◌, ℕ, true, false, List, [], length, length-append, Option, Some, None, Err, refl, ap, arith}
use Rattle.board.specs.Counts.{Rose}
use Rattle.board.specs.Meaning.{BoardMeaning, TellsFlash}
use Rattle.board.specs.Moments.{LeavesOnly}
use Rattle.board.specs.Touches.{ReadsAndTouches}
use Rattle.image_table.specs.Standing.{HoldsEitherTable}
use Rattle.pst_model.specs.Output.{output_line}
use Rattle.pst_model.specs.Rules.{grant}
use Rattle.pst_model.specs.Table.{Table}
use Rattle.report_lines.specs.Counting.{IsCountOf}
use Rattle.report_lines.specs.declared.sent.Sent.{Sent}
use Rattle.retrieval.specs.Picks.{pick_of}
use Rattle.retrieval.specs.declared.pick.Pick.{Pick}
use Rattle.vault.specs.Changing.{journal_pages}
use Rattle.vault.specs.Fetching.{OnFlash, UnlessFlash}
use Rattle.vault.specs.Granting.{DiffersAt, DiffersNext, IsGranted, SendsAnswer, sent_of}
use Rattle.vault.specs.Memory.{InMemory}
use Rattle.vault.specs.Standing.{StandsFor}
use Rattle.vault.specs.declared.fault.VaultFault.{VaultFault}
use Rattle.vault.specs.declared.fault.VaultFault.TheVariants.{Flash, Mismatch}
use Rattle.handler.proofs.InStep.{IsMade, IsQuiet, answers_flash, answers_mismatch, quiet_of}
use Rattle.handler.specs.Carrying.{Answers, IsBoardOf, IsReady, handler_of}
use Rattle.handler.specs.Faults.{handler_fault_of}

-- a packet that was retrieved is counted
pub counted_retrieved : (number channel : ℕ) (packet : List ℕ) (sent : Sent) → sent.forwarded ≡ 0 → sent.replies ≡ 0 → sent.retrieved ≡ 1
    → sent.octets ≡ length (output_line channel packet) → IsCountOf (sent_of number channel packet) sent
counted_retrieved number channel packet sent none neither one line = record {
  forwarded = none;
  replies = neither;
  retrieved = one;
  octets = omega (arith, line, length-append (output_line channel packet) []);
}

differ_by : (vault : InMemory) (pick : Option Pick) (block page kept found : ℕ) → DiffersAt vault pick (Mismatch block page kept found) → kept ≢ found
differ_by vault None block page kept found is = absurd is
differ_by vault (Some pick) block page kept found is = is.1

module _ {B : Type 0} (means : BoardMeaning B) (old mid : B) (before after : InMemory) {reads programs erases barriers : ℕ}
    (works : ReadsAndTouches means journal_pages reads programs erases barriers old mid)
    (any_moment : TellsFlash means old → (table : Table) (number : ℕ) → StandsFor before (means.flash old) table
    → LeavesOnly means old mid (HoldsEitherTable before.blocks table (grant number table).table)) where
  grant_quiet : IsQuiet means old mid before (λ number table. grant number table)
  grant_quiet = quiet_of means old mid before after (λ number table. grant number table) any_moment works.unsent works.same works.work

  pub grant_made : IsGranted means old mid before after true → (means.counts mid).flash_faults ≡ (means.counts old).flash_faults
      → IsMade means old mid before after (λ number table. grant number table)
  grant_made granted no_fault = record {
    quiet = grant_quiet;
    stands = λ told table number stands. granted.stands refl told table number stands;
    sound = granted.sound refl;
    blocks = ap (λ (v : InMemory). v.blocks) granted.others;
    flash = no_fault;
  }

  pub grant_ready : IsGranted means old mid before after true → IsReady after
  grant_ready granted = record { is_open = ap (λ (v : InMemory). v.is_open) granted.others; sound = granted.sound refl }

  -- it failed
  pub grant_failed : (A : Type 0) (fault : VaultFault) → IsBoardOf means before old
      → OnFlash {A = A} (Err fault) (Rose (means.counts old).flash_faults (means.counts mid).flash_faults)
      → UnlessFlash {A = A} (Err fault) ((means.counts mid).flash_faults ≡ (means.counts old).flash_faults)
      → DiffersNext before fault
      → (TellsFlash means old → (table : Table) (number : ℕ) → StandsFor before (means.flash old) table → SendsAnswer number table (Err fault))
      → Answers means old mid (handler_of before true) (handler_of after false) (λ number table. grant number table) (Err (handler_fault_of fault))
  grant_failed A Flash board rose same differs sends = answers_flash means old mid before (λ number table. grant number table) grant_quiet after rose
  grant_failed A (Mismatch block page kept found) board rose same differs sends =
      answers_mismatch means old mid before (λ number table. grant number table) grant_quiet after block page kept found
      (differ_by before (pick_of before.directory.stores) block page kept found differs)
      (λ told. let (table, stands) = board.flash told in sends told table 0 stands) same
