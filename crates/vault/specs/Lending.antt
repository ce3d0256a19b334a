-- What a vault becomes that lent the record which was fetched.
use Rattle.std.specs.Prelude.{Bool, Result}
use Rattle.std.specs.Borrow.{MutBor, Fml}
use Rattle.std.specs.Io.BufRead.{Rests}
use Rattle.board.specs.Meaning.{BoardMeaning}
use Rattle.record_view.specs.declared.view.RecordView.{RecordView}
use Rattle.vault.specs.Fetching.{IsAfterFetch}
use Rattle.vault.specs.Granting.{IsGranted}
use Rattle.vault.specs.contracts.vault.Vault.{the_row}
use Rattle.vault.specs.declared.fault.VaultFault.{VaultFault}
use Rattle.vault.specs.declared.vault.Vault.{Vault}

abbrev pub RestsFetched : MutBor Vault → Result RecordView VaultFault → Fml
RestsFetched lender result = Rests the_row lender (λ new. IsAfterFetch lender.now new result)

-- and of one that lent the packet which a grant sends
abbrev pub RestsGranted : {B : Type 0} → BoardMeaning B → (before after : B) → MutBor Vault → (is_open : Bool)
    → Fml
RestsGranted means before after lender is_open =
    Rests the_row lender (λ new. IsGranted means before after lender.now new is_open)
