use Rattle.pst_model.proofs.SplitFields.{fields_of-are}
use Rattle.pst_model.proofs.text.fields_of_a_line.Goals as goal

pub returns : goal.returns
returns c = fields_of-are
