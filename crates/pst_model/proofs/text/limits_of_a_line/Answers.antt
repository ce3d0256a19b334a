use Rattle.pst_model.proofs.FaultyLines.{long_line, text_limit, within_limits}
use Rattle.pst_model.proofs.text.limits_of_a_line.Goals as goal

pub returns : goal.returns
returns c = record { text = text_limit; long = long_line; form = within_limits }
