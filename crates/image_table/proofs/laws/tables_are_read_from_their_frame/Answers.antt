use Rattle.image_table.proofs.Frames.{table_same}
use Rattle.image_table.proofs.laws.tables_are_read_from_their_frame.Goals as goal

pub returns : goal.returns
returns c = λ blocks image other table content others frame is.
    table_same blocks image other content others frame table is
