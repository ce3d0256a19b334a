-- How the program ends.
use Rattle.std.specs.Prelude.{ℕ}
use Rattle.station.specs.Endings.{status_of}
use Rattle.pusstore.specs.declared.report.Report.{Report}
use Rattle.pusstore.specs.declared.report.Report.TheVariants.{Device, File, Session}

-- the status of the process
abbrev pub status_in : Report → ℕ
status_in Device = 1
status_in (File path) = 9
status_in (Session ending) = status_of ending
