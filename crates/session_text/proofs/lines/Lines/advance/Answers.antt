use Rattle.session_text.specs.Lending.{reader_of}
use Rattle.session_text.specs.Turns.{Ended}
use Rattle.session_text.proofs.Advances.{Asks-none}
use Rattle.session_text.proofs.Steps.{passes_none, passes_on, passes_last, passes_then, asks_then}
use Rattle.session_text.proofs.lines.Lines.advance.Goals as goal

pub returns-in-Ok-End-clause-moves : goal.returns-in-Ok-End-clause-moves
returns-in-Ok-End-clause-moves g c =
    passes_last (reader_of c.args.self.now) (reader_of c.lines.self) (reader_of c.pass_line.new.self) _ _ _ _ _ Ended c.lines.invariant.same c.lines.invariant.passes
    (rw c.in-Ok-End.field-0-is at c.in-Ok-End.ensures.moves)
