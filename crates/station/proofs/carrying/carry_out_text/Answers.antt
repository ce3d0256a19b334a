use Rattle.station.proofs.Progress.{ended_unbegun}
use Rattle.station.specs.Carrying.{Ended}
use Rattle.station.specs.declared.ending.Ending.TheVariants.{NoMemory}
use Rattle.station.proofs.carrying.carry_out_text.Given.{Over}
use Rattle.station.proofs.carrying.carry_out_text.Goals as goal
use Rattle.station.proofs.carrying.carry_out_text.Goals.{Start}

-- there was no memory for the session
unbegun : (g : Over) (c : Start g) → Ended g.B.Board.means g.S.Source.means c.args.board.now c.args.board.now c.args.source.now c.args.source.now c.args.vault NoMemory c.args.tally.now
unbegun g c = ended_unbegun g.B.Board.means g.S.Source.means c.args.board.now c.args.source.now c.args.vault c.args.tally.now c.requires.tally c.requires.board.blocks c.requires.sound
    (λ image told left. g.met.B.Board.images_now c.args.board.now image told left)

pub returns-in_default : goal.returns-in_default
returns-in_default g c = unbegun g (goal.at.returns-in_default g c).Start

pub returns-in_default-new : goal.returns-in_default-new
returns-in_default-new g c = unbegun g (goal.at.returns-in_default-new g c).Start
