use Rattle.board.specs.Memory.{flash_of}
use Rattle.meta_journal.specs.Standing.{StandsFor}
use Rattle.journal_reader.proofs.script.fill.Given as goal

abbrev pub invariant-loop : goal.invariant-loop
invariant-loop l = StandsFor l.opened.journal (flash_of l.board)
