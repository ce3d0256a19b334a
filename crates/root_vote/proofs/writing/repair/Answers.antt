use Rattle.std.proofs.Common.{arith}
use Rattle.root_vote.proofs.RepairStages as stages
use Rattle.root_vote.proofs.writing.repair.Goals as goal

pub returns-in_err-settle-clause-any_moment : goal.returns-in_err-settle-clause-any_moment
returns-in_err-settle-clause-any_moment g c told are firm_roots =
    stages.first_leaves g.B.Board.means c.args.board.now told c.args.votes.now.votes c.args.to (omega arith) (omega arith)
    (omega (arith, g.met.B.Board.enough_blocks c.args.board.now)) c.requires are firm_roots
    c.settle.new.board c.settle.ensures.touches

pub returns-in_err-settle-2-clause-any_moment : goal.returns-in_err-settle-2-clause-any_moment
returns-in_err-settle-2-clause-any_moment g c told are firm_roots =
    stages.second_leaves g.B.Board.means c.args.board.now told c.args.votes.now.votes c.args.to (omega arith) (omega arith)
    (omega (arith, g.met.B.Board.enough_blocks c.args.board.now)) c.requires are firm_roots
    c.settle.new.board c.settle-2.new.board c.settle.ensures.touches c.in_ok-settle.ensures.flash c.settle-2.ensures.touches

pub returns-in_err-settle-3-clause-any_moment : goal.returns-in_err-settle-3-clause-any_moment
returns-in_err-settle-3-clause-any_moment g c told are firm_roots =
    stages.third_leaves g.B.Board.means c.args.board.now told c.args.votes.now.votes c.args.to (omega arith) (omega arith)
    (omega (arith, g.met.B.Board.enough_blocks c.args.board.now)) c.requires are firm_roots
    c.settle.new.board c.settle-2.new.board c.settle-3.new.board c.settle.ensures.touches c.in_ok-settle.ensures.flash
    c.settle-2.ensures.touches c.in_ok-settle-2.ensures.flash c.settle-3.ensures.touches

pub returns-clause-any_moment : goal.returns-clause-any_moment
returns-clause-any_moment g c told are firm_roots =
    stages.third_leaves g.B.Board.means c.args.board.now told c.args.votes.now.votes c.args.to (omega arith) (omega arith)
    (omega (arith, g.met.B.Board.enough_blocks c.args.board.now)) c.requires are firm_roots
    c.settle.new.board c.settle-2.new.board c.settle-3.new.board c.settle.ensures.touches c.in_ok-settle.ensures.flash
    c.settle-2.ensures.touches c.in_ok-settle-2.ensures.flash c.settle-3.ensures.touches

pub returns-clause-rooted : goal.returns-clause-rooted
returns-clause-rooted g c told are firm_roots =
    stages.roots_repaired g.B.Board.means c.args.board.now told c.args.votes.now.votes c.args.to (omega arith) (omega arith)
    (omega (arith, g.met.B.Board.enough_blocks c.args.board.now)) c.requires are firm_roots
    c.settle.new.board c.settle-2.new.board c.settle-3.new.board c.settle.ensures.touches c.in_ok-settle.ensures.flash
    c.settle-2.ensures.touches c.in_ok-settle-2.ensures.flash c.in_ok-settle-3.ensures.flash

pub returns-in_err-settle-2-clause-touches : goal.returns-in_err-settle-2-clause-touches
returns-in_err-settle-2-clause-touches g c =
    stages.second_touches g.B.Board.means c.args.board.now c.args.votes.now.votes c.args.to c.requires c.settle.new.board c.settle-2.new.board
    c.settle.ensures.touches c.settle-2.ensures.touches

pub returns-in_err-settle-3-clause-touches : goal.returns-in_err-settle-3-clause-touches
returns-in_err-settle-3-clause-touches g c =
    stages.third_touches g.B.Board.means c.args.board.now c.args.votes.now.votes c.args.to c.requires c.settle.new.board c.settle-2.new.board c.settle-3.new.board
    c.settle.ensures.touches c.settle-2.ensures.touches c.settle-3.ensures.touches

pub returns-clause-touches : goal.returns-clause-touches
returns-clause-touches g c =
    stages.third_touches g.B.Board.means c.args.board.now c.args.votes.now.votes c.args.to c.requires c.settle.new.board c.settle-2.new.board c.settle-3.new.board
    c.settle.ensures.touches c.settle-2.ensures.touches c.settle-3.ensures.touches
