use Rattle.std.proofs.Common.{rules}
use Rattle.station.proofs.Progress.{carried_none}
use Rattle.station.proofs.Tallying.{small_none}
use Rattle.station.proofs.carrying.carry_out_all.Goals as goal

pub commands-init : goal.commands-init
commands-init g c =
    let means = g.B.Board.means in
    let input = g.S.Source.means in
    let board = c.args.board.now in
    record {
      carried = carried_none means input board c.args.source.now _ c.args.handler.now.vault c.args.tally.now c.requires.tally c.requires.reader c.requires.board.blocks c.requires.sound
          (λ image told left. g.met.B.Board.images_now board image told left);
      is_open = search rules;
      live = search rules;
      limit = search rules;
      within = search rules;
      of_board = c.requires.board;
      small = small_none c.requires.tally _;
    }

pub returns-in-Some : goal.returns-in-Some
returns-in-Some g c = c.in-Some.ensures.ends c.args.board.now c.args.source.now c.args.handler.now.vault c.commands.invariant.carried
