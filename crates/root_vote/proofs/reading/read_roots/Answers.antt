use Rattle.board.proofs.Reading.{reads_on}
use Rattle.board.specs.Reads.{ReadsOnly}
use Rattle.root_vote.proofs.reading.read_roots.Given.{Over}
use Rattle.root_vote.proofs.reading.read_roots.Goals as goal
use Rattle.root_vote.proofs.reading.read_roots.Goals.{After-read_page-3}

-- the three reads
three : (g : Over) (c : After-read_page-3 g) → ReadsOnly g.B.Board.means 3 c.args.board.now c.read_page-3.new.self
three g c =
    let means = g.B.Board.means in
    let two = reads_on means c.args.board.now c.read_page.new.self c.read_page-2.new.self c.read_page.ensures.reads c.read_page-2.ensures.reads in
    reads_on means c.args.board.now c.read_page-2.new.self c.read_page-3.new.self two c.read_page-3.ensures.reads

pub returns-in_err-read_page-3-clause-reads : goal.returns-in_err-read_page-3-clause-reads
returns-in_err-read_page-3-clause-reads g c = three g (goal.at.returns-in_err-read_page-3-clause-reads g c).After-read_page-3

pub returns-clause-reads : goal.returns-clause-reads
returns-clause-reads g c = three g (goal.at.returns-clause-reads g c).After-read_page-3
