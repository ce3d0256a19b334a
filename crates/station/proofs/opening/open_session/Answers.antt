use Rattle.std.proofs.Common.{inl, inr, refl, sym, ◌∙◌}
use Rattle.station.specs.declared.ending.Ending.TheVariants.{FlashFault, NoMemory, NotHeld}
use Rattle.station.proofs.Progress.{causes_none}
use Rattle.station.proofs.Quiet.{BoardLaws, IsQuiet, board_of, not_none, opened_early, opened_on, quiet_read}
use Rattle.station.proofs.Running.{causes_failed}
use Rattle.station.proofs.SessionWorking.{opened_fresh}
use Rattle.station.proofs.opening.open_session.Given.{Over}
use Rattle.station.proofs.opening.open_session.Goals as goal
use Rattle.station.proofs.opening.open_session.Goals.{After-open}

laws : (g : Over) (board : g.row.B.Denot) → BoardLaws g.B.Board.means board
laws g board = record { least = g.met.B.Board.enough_blocks board; content = λ told. g.met.B.Board.content_pages board told }

quiet : (g : Over) (c : After-open g) → IsQuiet g.B.Board.means c.args.board.now c.open.new.board
quiet g c = quiet_read g.B.Board.means c.args.board.now c.open.new.board _ c.open.ensures.reads

pub carry_out_text-requires-clause-board : goal.carry_out_text-requires-clause-board
carry_out_text-requires-clause-board g c =
    let at = goal.at.carry_out_text-requires-clause-board g c in
    board_of g.B.Board.means c.args.board.now c.open.new.board (quiet g at.After-open) (laws g c.args.board.now) c.in-Ok.vault c.in-Ok.ensures.blocks
    (λ told. c.in-Ok.ensures.stands told (c.requires.firm told))

pub returns-in-Ok : goal.returns-in-Ok
returns-in-Ok g c =
    let at = goal.at.returns-in-Ok g c in
    opened_on g.B.Board.means c.args.board.now c.open.new.board (quiet g at.After-open) (laws g c.args.board.now) c.carry_out_text.new.board g.S.Source.means c.args.source.now c.carry_out_text.new.source
    c.carry_out_text.result c.carry_out_text.new.tally c.in-Ok.vault c.requires.firm c.in-Ok.ensures.no_fault c.in-Ok.ensures.blocks c.in-Ok.ensures.held c.in-Ok.ensures.stands
    c.open.ensures.reads.work.reads_to
    (λ table stands empty. opened_fresh c.in-Ok.vault (g.B.Board.means.flash c.open.new.board) table c.in-Ok.ensures.sound c.in-Ok.ensures.fresh stands empty)
    c.carry_out_text.ensures

pub returns-in-Err-NotHeld : goal.returns-in-Err-NotHeld
returns-in-Err-NotHeld g c =
    let at = goal.at.returns-in-Err-NotHeld g c in
    let none = rw c.in-Err-NotHeld.field-0-is at c.in-Err-NotHeld.ensures.not_held in
    let unfailed = rw c.in-Err-NotHeld.field-0-is at c.in-Err-NotHeld.ensures.no_fault in
    opened_early g.B.Board.means c.args.board.now c.open.new.board (quiet g at.After-open) (laws g c.args.board.now) g.S.Source.means c.args.source.now NotHeld c.args.tally.now c.requires.tally (λ is. cc) c.requires.firm (λ told. tt)
    (causes_none g.B.Board.means g.S.Source.means c.args.board.now c.open.new.board c.args.source.now c.args.source.now unfailed c.open.ensures.reads.work.link_faults NotHeld (λ is. cc) (λ is. cc) (λ is. absurd cc) (λ block page kept found is. cc) (λ other. refl))
    (λ told table held others. absurd (not_none table (sym held ∙ none told)))
    (inl refl) (λ is told. none told)

pub returns-in-Err-Flash : goal.returns-in-Err-Flash
returns-in-Err-Flash g c =
    let at = goal.at.returns-in-Err-Flash g c in
    let rose = rw c.in-Err-Flash.field-0-is at c.in-Err-Flash.ensures.cause in
    opened_early g.B.Board.means c.args.board.now c.open.new.board (quiet g at.After-open) (laws g c.args.board.now) g.S.Source.means c.args.source.now FlashFault c.args.tally.now c.requires.tally (λ is. cc) c.requires.firm (λ told. tt)
    (causes_failed g.B.Board.means g.S.Source.means c.args.board.now c.open.new.board c.args.source.now rose c.open.ensures.reads.work.link_faults)
    (λ told table held others. (λ all image left. inl (all.leaves image left), λ sent. sent))
    (inr (inl refl)) (λ is. absurd cc)

pub returns-in-Err-NoMemory : goal.returns-in-Err-NoMemory
returns-in-Err-NoMemory g c =
    let at = goal.at.returns-in-Err-NoMemory g c in
    let unfailed = rw c.in-Err-NoMemory.field-0-is at c.in-Err-NoMemory.ensures.no_fault in
    opened_early g.B.Board.means c.args.board.now c.open.new.board (quiet g at.After-open) (laws g c.args.board.now) g.S.Source.means c.args.source.now NoMemory c.args.tally.now c.requires.tally (λ is. cc) c.requires.firm (λ told. (refl, refl))
    (causes_none g.B.Board.means g.S.Source.means c.args.board.now c.open.new.board c.args.source.now c.args.source.now unfailed c.open.ensures.reads.work.link_faults NoMemory (λ is. cc) (λ is. cc) (λ is. absurd cc) (λ block page kept found is. cc) (λ other. refl))
    (λ told table held others. (λ all. all, λ sent. sent))
    (inr (inr refl)) (λ is. absurd cc)
