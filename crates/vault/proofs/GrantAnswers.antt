-- What a grant answers, by what was sent.
use Rattle.std.proofs.Common.{◌≡◌, ℕ, List, Option, None, Some, Ok, Err, refl, sym, ◌∙◌, ap, subst, true}
use Rattle.board.specs.Device.{Device}
use Rattle.board.specs.Flash.{IsImage}
use Rattle.board.specs.Meaning.{BoardMeaning, TellsFlash}
use Rattle.image_table.specs.Standing.{HoldsTable}
use Rattle.pst_model.specs.Rules.{grant}
use Rattle.pst_model.specs.Table.{Table}
use Rattle.retrieval.specs.declared.pick.Pick.{Pick}
use Rattle.vault.proofs.Stopped.{image_holds}
use Rattle.vault.specs.Fetching.{OnFlash, UnlessFlash}
use Rattle.vault.specs.Granting.{IsGranted, IsNoneFor, SendsAnswer, SendsHeld}
use Rattle.vault.specs.Memory.{InMemory}
use Rattle.vault.specs.Standing.{StandsFor}
use Rattle.vault.specs.declared.fault.VaultFault.{VaultFault}
use Rattle.vault.specs.declared.fault.VaultFault.TheVariants.{Flash, Mismatch}

-- each image after a grant that succeeded
pub granted_holds : {B : Type 0} (means : BoardMeaning B) (old new : B) (vault passed : InMemory) (table : Table) (number : ℕ) (image : ℕ → List ℕ)
    → IsGranted means old new vault passed true → TellsFlash means old → vault.blocks ≡ (means.device old).blocks → means.device new ≡ means.device old
    → StandsFor vault (means.flash old) table → IsImage (means.device new).blocks (means.flash new) image
    → HoldsTable vault.blocks (grant number table).table image
granted_holds means old new vault passed table number image granted told blocks same stands here =
    let kept : passed.blocks ≡ vault.blocks = ap (λ (v : InMemory). v.blocks) granted.others in
    subst (λ (n : ℕ). HoldsTable n (grant number table).table image) kept
    (image_holds passed (means.flash new) (grant number table).table image (granted.sound refl) (granted.stands refl told table number stands)
    (subst (λ (n : ℕ). IsImage n (means.flash new) image) (sym (kept ∙ blocks))
    (subst (λ (d : Device). IsImage d.blocks (means.flash new) image) same here)))

-- the same of another answer of the same kind

pub none_too : (A X : Type 0) (picked : Option Pick) → IsNoneFor {A = A} picked (Ok None) → IsNoneFor {A = X} picked (Ok None)
none_too A X None is = tt
none_too A X (Some pick) is = absurd is

pub some_too : {A X : Type 0} (picked : Option Pick) (answer : A) (other : X) → IsNoneFor picked (Ok (Some answer)) → IsNoneFor picked (Ok (Some other))
some_too None answer other is = absurd is
some_too (Some pick) answer other is = tt

pub err_too : (A X : Type 0) (picked : Option Pick) (fault : VaultFault) → IsNoneFor {A = A} picked (Err fault) → IsNoneFor {A = X} picked (Err fault)
err_too A X None fault is = absurd is
err_too A X (Some pick) fault is = tt

pub unless_too : (A X : Type 0) (fault : VaultFault) (P : Type 0) → UnlessFlash {A = A} (Err fault) P → UnlessFlash {A = X} (Err fault) P
unless_too A X Flash P is = tt
unless_too A X (Mismatch block page kept found) P is = is

pub flash_too : (A X : Type 0) (fault : VaultFault) (P : Type 0) → OnFlash {A = A} (Err fault) P → OnFlash {A = X} (Err fault) P
flash_too A X Flash P is = is
flash_too A X (Mismatch block page kept found) P is = tt

pub sends_too : (number : ℕ) (table : Table) (fault : VaultFault) (packet : List ℕ) → SendsHeld number table (Err fault) packet
    → SendsAnswer number table (Err fault)
sends_too number table Flash packet is = tt
sends_too number table (Mismatch block page kept found) packet is = absurd is
