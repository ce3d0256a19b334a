-- What holds of an answer by what kind of fault it is.
use Rattle.std.specs.Prelude.{⊤, Result, Err}
use Rattle.journal_reader.specs.declared.stop.ReadStop.{ReadStop}
use Rattle.journal_reader.specs.declared.stop.ReadStop.TheVariants as reads
use Rattle.store_load.specs.declared.stop.LoadStop.{LoadStop}
use Rattle.store_load.specs.declared.stop.LoadStop.TheVariants as loads
use Rattle.vault.specs.declared.fault.OpenFault.{OpenFault}
use Rattle.vault.specs.declared.fault.OpenFault.TheVariants.{Flash, NoMemory, NotHeld}

-- why a table is not opened, where its journal was not read, or a store was not loaded

abbrev pub open_fault_of_read : ReadStop → OpenFault
open_fault_of_read reads.Flash = Flash
open_fault_of_read reads.NoMemory = NoMemory

abbrev pub open_fault_of_load : LoadStop → OpenFault
open_fault_of_load loads.Flash = Flash
open_fault_of_load loads.Unlawful = NotHeld
open_fault_of_load loads.NoMemory = NoMemory

-- something that holds where there is no table, where a read failed, and where none did

abbrev pub OnNotHeld : {A : Type 0} → Result A OpenFault → Type 0 → Type 0
OnNotHeld (Err NotHeld) P = P
OnNotHeld answer P = ⊤

abbrev pub OnFlash : {A : Type 0} → Result A OpenFault → Type 0 → Type 0
OnFlash (Err Flash) P = P
OnFlash answer P = ⊤

abbrev pub UnlessFlash : {A : Type 0} → Result A OpenFault → Type 0 → Type 0
UnlessFlash (Err Flash) P = ⊤
UnlessFlash answer P = P
