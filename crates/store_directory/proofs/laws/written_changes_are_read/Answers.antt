use Rattle.std.proofs.Common.{◌∙◌}
use Rattle.store_directory.proofs.WrittenChanges.{width-octets, written_begins}
use Rattle.store_directory.proofs.laws.written_changes_are_read.Goals as goal

pub returns-clause-change : goal.returns-clause-change
returns-clause-change c change rest fits = (written_begins change rest fits).spelled

pub returns-clause-width : goal.returns-clause-width
returns-clause-width c change rest fits = (written_begins change rest fits).width ∙ width-octets change fits
