-- Faults of the vault as faults of the handler.
use Rattle.handler.specs.declared.fault.HandlerFault.{HandlerFault}
use Rattle.handler.specs.declared.fault.HandlerFault.TheVariants as handler
use Rattle.vault.specs.declared.fault.VaultFault.{VaultFault}
use Rattle.vault.specs.declared.fault.VaultFault.TheVariants.{Flash, Mismatch}

abbrev pub handler_fault_of : VaultFault → HandlerFault
handler_fault_of Flash = handler.Flash
handler_fault_of (Mismatch block page kept found) = handler.Mismatch block page kept found
