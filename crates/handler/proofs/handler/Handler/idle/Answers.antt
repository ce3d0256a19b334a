use Rattle.std.proofs.Common.{◌≡◌, ◌∙◌, true, ap, subst, rules}
use Rattle.handler.proofs.Handlers.{idle_as}
use Rattle.handler.specs.Carrying.{Held, IsReady}
use Rattle.handler.proofs.handler.Handler.idle.Goals as goal
use Rattle.handler.proofs.handler.Handler.idle.Goals.{in-Err, in-Ok}

pub returns-clause-answers : goal.returns-clause-answers
returns-clause-answers g c =
    let means = g.B.Board.means in
    let old = c.args.board.now in
    let was : c.self.inside.is_open ≡ true = ap (λ (h : Held). h.is_open) c.self.view_is ∙ c.requires.is_open in
    let vault : c.self.inside.vault ≡ c.args.self.now.vault = ap (λ (h : Held). h.vault) c.self.view_is in
    let ready : IsReady c.args.self.now.vault = subst IsReady vault (c.self.invariant was) in
    elim c.match-idle.branch [
      | in-Ok w ↦
          idle_as means old c.idle.new.board c.args.self.now c.idle.new.self c.self.inside.is_open w.default.result c.match-idle.result
          c.idle.ensures.board (c.idle.ensures.same ∙ vault) was c.requires.is_open w.result-is ready.sound c.requires.board
          (λ image told left. g.met.B.Board.images_now old image told left) (search rules)
      | in-Err w ↦ absurd (cc (c.idle.ensures.ok, w.in-Err.is))
    ]
