use Rattle.std.proofs.Common.{◌≡◌, refl, sym, subst, arith}
use Rattle.board.specs.Device.{Device}
use Rattle.image_table.specs.Standing.{HoldsTable}
use Rattle.pst_model.specs.Table.{Table, after_format}
use Rattle.station.proofs.SessionWorking.{opened_works}
use Rattle.station.specs.Station.{Held}
use Rattle.station.specs.Working.{AreEmpty}
use Rattle.station.proofs.Running.{fresh_opened, reads_none, reads_opened}
use Rattle.station.proofs.opening.fresh_session.Goals as goal

pub returns-in-Ok-clause-begins : goal.returns-in-Ok-clause-begins
returns-in-Ok-clause-begins g c =
    fresh_opened g.B.Board.means g.S.Source.means c.args.board.now c.format.new.board c.open_session.new.board c.args.source.now c.open_session.new.source c.open_session.result
    c.format.ensures.touches (λ told. c.in-Ok.ensures.holds told (g.B.Board.means.flash c.format.new.board).content (c.in-Ok.ensures.seen told)) c.open_session.ensures

pub returns-in-Ok-clause-reading : goal.returns-in-Ok-clause-reading
returns-in-Ok-clause-reading g c told =
    reads_opened g.B.Board.means g.S.Source.means c.args.board.now c.format.new.board c.open_session.new.board c.args.source.now c.open_session.new.source c.open_session.result c.open_session.ensures told

pub returns-in-Err-clause-reading : goal.returns-in-Err-clause-reading
returns-in-Err-clause-reading g c told = reads_none (g.S.Source.means.left c.args.source.now)

pub returns-in-Ok-clause-work : goal.returns-in-Ok-clause-work
returns-in-Ok-clause-work g c =
    let means = g.B.Board.means in
    let old = c.args.board.now in
    let mid = c.format.new.board in
    let touches = c.format.ensures.touches in
    opened_works means g.S.Source.means old mid c.open_session.new.board c.args.source.now c.open_session.new.source c.open_session.result 12
    (λ (table : Table). table ≡ after_format) touches.same (omega (arith, touches.work.reads_to)) touches.work.programs_to
    (λ told table is.
    let holds = c.in-Ok.ensures.holds told (means.flash mid).content (c.in-Ok.ensures.seen told) in (
      subst (λ (t : Table). Held means mid t) (sym is)
          (subst (λ (device : Device). HoldsTable device.blocks after_format (means.flash mid).content) (sym touches.same) holds),
      subst (λ (t : Table). AreEmpty t.stores) (sym is) (refl, tt),
    ))
    c.open_session.ensures
