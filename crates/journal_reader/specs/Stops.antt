-- What holds where a read of the flash failed, and where none did.
use Rattle.std.specs.Prelude.{Result, Err, ⊤}
use Rattle.journal_reader.specs.declared.stop.ReadStop.{ReadStop}
use Rattle.journal_reader.specs.declared.stop.ReadStop.TheVariants.{Flash}

abbrev pub OnFlash : {A : Type 0} → Result A ReadStop → Type 0 → Type 0
OnFlash (Err Flash) P = P
OnFlash answer P = ⊤

abbrev pub UnlessFlash : {A : Type 0} → Result A ReadStop → Type 0 → Type 0
UnlessFlash (Err Flash) P = ⊤
UnlessFlash answer P = P
