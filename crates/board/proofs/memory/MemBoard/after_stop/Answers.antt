use Rattle.std.proofs.Common.{◌∙◌, sym, subst, arith}
use Rattle.board.specs.declared.history.History.{History}
use Rattle.board.specs.Flash.{IsImage}
use Rattle.board.specs.Memory.{firm_at, flash_at}
use Rattle.board.proofs.Steps.{flash_in}
use Rattle.board.proofs.Walks.{begun, stopped_image}
use Rattle.board.proofs.memory.MemBoard.after_stop.Goals as goal

pub returns-clause-image : goal.returns-clause-image
returns-clause-image c =
    let board = c.args.self.now in
    let blocks = board.history.blocks in
    let flash = flash_at board c.args.moment in
    let firm = firm_at board c.args.moment in
    let begins = c.in_ok-history.ensures in
    subst (λ (history : History). IsImage blocks flash (flash_in history).content) (sym c.with_history.ensures.history)
    (stopped_image blocks c.args.torn flash firm c.in_ok-history.history begins.blocks_are (λ p lt.
    begun c.in_ok-history.history blocks _ _ begins p lt
    ∙ c.in_ok-pages.ensures.left flash firm p (omega (arith, c.in_ok-walk.ensures.pages.loose)) (c.in_ok-walk.ensures.shows p lt)))
