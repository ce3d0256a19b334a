use Rattle.std.proofs.Common.{◌≡◌, take, sym, ◌∙◌}
use Rattle.std.proofs.lemmas.Result.{on_err_weaker, on_ok_weaker}
use Rattle.listing.specs.Lists.{ToldTable}
use Rattle.listing.proofs.Runs.{line_broke, line_sent}
use Rattle.pst_model.specs.Listing.{table_line}
use Rattle.pst_model.specs.Table.{Table}
use Rattle.listing.proofs.sending.send_clock.Given.{Over}
use Rattle.listing.proofs.sending.send_clock.Goals as goal
use Rattle.listing.proofs.sending.send_clock.Goals.{After-write_clock-size}

-- the line that was written is that of the table
line : (g : Over) (c : After-write_clock-size g) (table : Table) → ToldTable g.B.Board.means c.args.vault.now c.args.board.now table
    → take c.write_clock-size.result c.write_clock-size.new.out ≡ table_line table
line g c table (told, stands) =
    let shown = stands.shows c.view.result c.view.ensures.view in
    (c.write_clock-size.ensures.line table (shown.now ∙ sym c.now.ensures.now) (shown.reports ∙ sym c.reports.ensures.reports)).front

pub returns-clause-ok : goal.returns-clause-ok
returns-clause-ok g c =
    on_ok_weaker c.send_line.result
    (line_sent g.B.Board.means (ToldTable g.B.Board.means c.args.vault.now c.args.board.now) c.args.board.now c.send_line.new.board _ table_line
    (line g (goal.at.returns-clause-ok g c).After-write_clock-size))
    c.send_line.ensures.ok

pub returns-clause-err : goal.returns-clause-err
returns-clause-err g c =
    on_err_weaker c.send_line.result
    (line_broke g.B.Board.means (ToldTable g.B.Board.means c.args.vault.now c.args.board.now) c.args.board.now c.send_line.new.board _ table_line
    (line g (goal.at.returns-clause-err g c).After-write_clock-size))
    c.send_line.ensures.err
