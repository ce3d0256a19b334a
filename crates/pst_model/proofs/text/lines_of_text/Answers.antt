use Rattle.pst_model.proofs.Joined.{are_lines, joined_lines, lines_joined}
use Rattle.pst_model.proofs.text.lines_of_text.Goals as goal

pub returns : goal.returns
returns c = record { text = joined_lines; lines = are_lines; only = lines_joined }
