use Rattle.std.proofs.Common.{◌-◌, ◌≡◌, ◌≤◌, true}
use Rattle.std.specs.Prelude.{IsTrue}
use Rattle.handler.specs.Carrying.{IsBoardOf}
use Rattle.station.specs.Carrying.{Carried}
use Rattle.station.specs.Reading.{text_limit}
use Rattle.station.specs.Tallies.{IsSmall}
use Rattle.station.proofs.carrying.carry_out_all.Given as goal
use Rattle.session_text.specs.Lending.{reader_of}

abbrev pub invariant-commands : goal.invariant-commands
invariant-commands g l =
    let means = g.B.Board.means in
    let input = g.S.Source.means in
    record {
      carried : Carried means input l.fn.board l.board l.fn.source l.source l.fn.handler.vault (reader_of l.lines) l.handler.vault l.tally;
      small : IsSmall (reader_of l.lines).place l.tally;
      is_open : l.handler.is_open ≡ true;
      live : IsTrue (reader_of l.lines).live;
      limit : (reader_of l.lines).limit ≡ text_limit;
      within : (reader_of l.lines).place ≤ text_limit;
      of_board : IsBoardOf means l.handler.vault l.board;
    }

abbrev pub decreases-commands : goal.decreases-commands
decreases-commands g l = text_limit - (reader_of l.lines).place
