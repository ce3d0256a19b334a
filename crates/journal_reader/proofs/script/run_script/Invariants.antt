use Rattle.board.specs.Memory.{flash_of}
use Rattle.meta_journal.specs.Standing.{StandsFor}
use Rattle.journal_reader.proofs.script.run_script.Given as goal

abbrev pub invariant-loop-place : goal.invariant-loop-place
invariant-loop-place l = StandsFor l.opened.journal (flash_of l.board)
