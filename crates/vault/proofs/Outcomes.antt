-- What an arriving packet did, and what holds however its call was answered.
use Rattle.std.proofs.Common.{◌≡◌, ◌==◌, ℕ, Bool, true, false, List, [], map, Result, Ok, Err, ◌∙◌, ap}
use Rattle.std.specs.Prelude.{IfErr, OnErr, OnOk}
use Rattle.std.proofs.lemmas.Bool.{false≢true}
use Rattle.control_defs.specs.Patterns.{any_covers}
use Rattle.pst_model.specs.Table.{Table}
use Rattle.pus_header.specs.Keys.{key_of}
use Rattle.space_packet.specs.Packet.{apid_of}
use Rattle.store_put.proofs.Refused.{reported}
use Rattle.store_put.specs.Refusals.{refusals_of, report_of}
use Rattle.vault.specs.Arriving.{IsOutcomeOf}
use Rattle.vault.specs.Fetching.{OnFlash, UnlessFlash}
use Rattle.vault.specs.Renewing.{DiffersUntold}
use Rattle.vault.specs.declared.fault.VaultFault.{VaultFault}
use Rattle.vault.specs.declared.fault.VaultFault.TheVariants.{Flash, Mismatch}
use Rattle.vault.specs.declared.outcome.StoreOutcome.{StoreOutcome}

pub idle_outcome : (packet : List ℕ) (table : Table) (outcome : StoreOutcome) → (apid_of packet == 2047) ≡ true → outcome.forwarded ≡ false
    → outcome.refused.items ≡ [] → IsOutcomeOf packet table outcome
idle_outcome packet table outcome idle forwarded none = record {
  forwarded = rw idle forwarded;
  refused = λ time. rw idle (ap (map report_of) none);
}

pub busy_outcome : (packet : List ℕ) (table : Table) (outcome : StoreOutcome) → (apid_of packet == 2047) ≡ false
    → outcome.forwarded ≡ any_covers table.forward (key_of packet) → outcome.refused.items ≡ refusals_of packet table.stores
    → IsOutcomeOf packet table outcome
busy_outcome packet table outcome busy forwarded are = record {
  forwarded = rw busy forwarded;
  refused = λ time. rw busy (ap (map report_of) are ∙ reported (record { time = time; octets = packet }) table.stores);
}

is_flash : VaultFault → Bool
is_flash Flash = true
is_flash (Mismatch block page kept found) = false

not_flash : (block page kept found : ℕ) → Mismatch block page kept found ≡ Flash → ⊥
unfolding is_flash
not_flash block page kept found is = false≢true (ap is_flash is)

-- a call that answers no other fault than that of the flash

module _ {A : Type 0} (r : Result A VaultFault) (only : IfErr r (λ fault. fault ≡ Flash)) where
  pub flash_differs : (told : Type 0) → IfErr r (DiffersUntold told)
  flash_differs told = by r only
    where
      by : (r : Result A VaultFault) → IfErr r (λ fault. fault ≡ Flash) → IfErr r (DiffersUntold told)
      by (Ok x) only = tt
      by (Err Flash) only = tt
      by (Err (Mismatch block page kept found)) only = absurd (not_flash block page kept found only)

  pub flash_spares : (P : Type 0) → OnOk r P → UnlessFlash r P
  flash_spares P ok = by r only ok
    where
      by : (r : Result A VaultFault) → IfErr r (λ fault. fault ≡ Flash) → OnOk r P → UnlessFlash r P
      by (Ok x) only ok = ok
      by (Err Flash) only ok = tt
      by (Err (Mismatch block page kept found)) only ok = absurd (not_flash block page kept found only)

  pub flash_causes : (P : Type 0) → OnErr r P → OnFlash r P
  flash_causes P cause = by r cause
    where
      by : (r : Result A VaultFault) → OnErr r P → OnFlash r P
      by (Ok x) cause = tt
      by (Err Flash) cause = cause
      by (Err (Mismatch block page kept found)) cause = tt

-- what follows from an error
pub err_gives : {A E : Type 0} (r : Result A E) (P Q : Type 0) → OnErr r P → (P → Q) → OnErr r Q
err_gives (Ok x) P Q h f = tt
err_gives (Err e) P Q h f = f h
