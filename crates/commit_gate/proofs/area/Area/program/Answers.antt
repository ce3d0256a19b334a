use Rattle.std.proofs.Common.{◌≡◌, ◌+◌, ◌*◌, ◌/◌, ◌%◌, ℕ, OnOk, OnErr, subst}
use Rattle.board.specs.Flash.{Fails, only_page, written}
use Rattle.board.specs.Meaning.{TellsFlash}
use Rattle.board.specs.Touches.{SameElsewhere, Touches}
use Rattle.board.proofs.Touching.{program_elsewhere}
use Rattle.commit_gate.proofs.AreaPages.{page_number}
use Rattle.commit_gate.proofs.area.Area.program.Goals as goal

pub returns-clause-ok : goal.returns-clause-ok
returns-clause-ok g c =
    let means = g.B.Board.means in
    let old = c.args.board.now in
    subst (λ (p : ℕ). OnOk c.program.result (TellsFlash means old → means.flash c.program.new.self
    ≡ written (only_page p) (λ _. c.args.from.now) (means.flash old)))
    (page_number c.args.self.first c.args.at) c.program.ensures.ok

pub returns-clause-err : goal.returns-clause-err
returns-clause-err g c =
    let means = g.B.Board.means in
    let old = c.args.board.now in
    subst (λ (p : ℕ). OnErr c.program.result (TellsFlash means old
    → Fails (only_page p) (means.flash old) (means.flash c.program.new.self)))
    (page_number c.args.self.first c.args.at) c.program.ensures.err

pub returns-clause-others : goal.returns-clause-others
returns-clause-others g c told =
    let means = g.B.Board.means in
    let old = c.args.board.now in
    let new = c.program.new.self in
    subst (λ (p : ℕ). SameElsewhere (only_page p) (means.flash old) (means.flash new))
    (page_number c.args.self.first c.args.at)
    (program_elsewhere c.program.result (TellsFlash means old)
    (only_page (256 * (c.args.self.first + c.args.at / 256) + c.args.at % 256))
    (λ _. c.args.from.now)
    (means.flash old) (means.flash new) c.program.ensures.ok c.program.ensures.err told)

pub returns-clause-touches : goal.returns-clause-touches
returns-clause-touches g c =
    subst (λ (p : ℕ). Touches g.B.Board.means
    (only_page p) 1 0 0 c.args.board.now c.program.new.self)
    (page_number c.args.self.first c.args.at) c.program.ensures.touches
