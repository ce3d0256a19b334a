use Rattle.pst_model.proofs.FaultyLines.{reading_of-faulty}
use Rattle.pst_model.proofs.WrittenForms.{reading_of-skipped, reading_of-spells}
use Rattle.pst_model.proofs.text.written_forms.Goals as goal

pub returns : goal.returns
returns c = record { spelled = reading_of-spells; skipped = reading_of-skipped; faulty = reading_of-faulty }
