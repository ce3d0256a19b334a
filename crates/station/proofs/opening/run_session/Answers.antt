use Rattle.std.proofs.Common.{arith}
use Rattle.pst_model.specs.Table.{Table}
use Rattle.station.proofs.Quiet.{BoardLaws, IsQuiet, held_on, quiet_barrier}
use Rattle.station.proofs.SessionWorking.{opened_works}
use Rattle.station.specs.Station.{Held}
use Rattle.station.specs.Working.{AreEmpty}
use Rattle.station.proofs.Running.{reads_none, reads_opened, runs_failed, runs_opened}
use Rattle.station.proofs.opening.run_session.Given.{Over}
use Rattle.station.proofs.opening.run_session.Goals as goal
use Rattle.station.proofs.opening.run_session.Goals.{After-barrier}

laws : (g : Over) (board : g.row.B.Denot) → BoardLaws g.B.Board.means board
laws g board = record { least = g.met.B.Board.enough_blocks board; content = λ told. g.met.B.Board.content_pages board told }

quiet : (g : Over) (c : After-barrier g) → IsQuiet g.B.Board.means c.args.board.now c.barrier.new.self
quiet g c = quiet_barrier g.B.Board.means c.args.board.now c.barrier.new.self _ c.barrier.ensures.touches

pub returns-in-Ok-clause-runs : goal.returns-in-Ok-clause-runs
returns-in-Ok-clause-runs g c =
    let at = goal.at.returns-in-Ok-clause-runs g c in
    runs_opened g.B.Board.means g.S.Source.means c.args.board.now c.barrier.new.self c.open_session.new.board c.args.source.now c.open_session.new.source c.open_session.result
    (quiet g at.After-barrier) (laws g c.args.board.now) (λ told. (c.barrier.ensures.touches.leaves told).later) c.open_session.ensures

pub returns-in-Err-clause-runs : goal.returns-in-Err-clause-runs
returns-in-Err-clause-runs g c =
    let at = goal.at.returns-in-Err-clause-runs g c in
    runs_failed g.B.Board.means g.S.Source.means c.args.board.now c.barrier.new.self c.args.source.now (quiet g at.After-barrier) (laws g c.args.board.now)

pub returns-in-Ok-clause-reading : goal.returns-in-Ok-clause-reading
returns-in-Ok-clause-reading g c told =
    reads_opened g.B.Board.means g.S.Source.means c.args.board.now c.barrier.new.self c.open_session.new.board c.args.source.now c.open_session.new.source c.open_session.result c.open_session.ensures told

pub returns-in-Err-clause-reading : goal.returns-in-Err-clause-reading
returns-in-Err-clause-reading g c told = reads_none (g.S.Source.means.left c.args.source.now)

pub returns-in-Ok-clause-work : goal.returns-in-Ok-clause-work
returns-in-Ok-clause-work g c =
    let at = goal.at.returns-in-Ok-clause-work g c in
    let means = g.B.Board.means in
    let old = c.args.board.now in
    let mid = c.barrier.new.self in
    opened_works means g.S.Source.means old mid c.open_session.new.board c.args.source.now c.open_session.new.source c.open_session.result 0
    (λ (table : Table). Held means old table × AreEmpty table.stores) c.barrier.ensures.touches.same
    (omega (arith, c.barrier.ensures.touches.work.reads_to)) (omega (arith, c.barrier.ensures.touches.work.programs_to))
    (λ told table begun. (held_on means old mid (quiet g at.After-barrier) (laws g old) told table begun.0, begun.1))
    c.open_session.ensures
