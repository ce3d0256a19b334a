use Rattle.std.proofs.Common.{◌<◌, ◌*◌, ℕ, take}
use Rattle.board.specs.History.{first_flash, flash_after}
use Rattle.board.specs.Stopped.{HasPages, Shows, firm_after}
use Rattle.board.proofs.stop.walk_to.Given as goal

abbrev pub invariant-loop-index : goal.invariant-loop-index
invariant-loop-index l = record {
  pages : HasPages (256 * l.history.blocks) l.walk;
  shows : (p : ℕ) → p < 256 * l.history.blocks → Shows (flash_after (take l.index l.history.steps.items) (first_flash l.history.first)) (firm_after (take l.index l.history.steps.items) (first_flash l.history.first)) l.walk p;
}
