use Rattle.std.proofs.Common.{◌-◌, ◌≡◌}
use Rattle.session_text.specs.Lending.{reader_of}
use Rattle.session_text.specs.Reader.{IsDecided}
use Rattle.session_text.specs.Turns.{Asks}
use Rattle.session_text.proofs.Steps.{Passes}
use Rattle.session_text.proofs.lines.Lines.advance.Given as goal

abbrev pub invariant-lines : goal.invariant-lines
invariant-lines g l =
    let input = g.S.Source.means in
    record {
      passes : Passes (reader_of l.fn.self) (reader_of l.self) (input.tells l.fn.source) (input.left l.fn.source) (input.left l.source);
      asks : Asks (reader_of l.fn.self) (reader_of l.self) (input.tells l.fn.source) (input.left l.fn.source) (input.left l.source) (input.takes l.fn.source) (input.takes l.source);
      still : IsDecided (reader_of l.fn.self) → l.source ≡ l.fn.source;
      decided : IsDecided (reader_of l.fn.self) → IsDecided (reader_of l.self);
      same : input.tells l.source ≡ input.tells l.fn.source;
      faults : input.faults l.source ≡ input.faults l.fn.source;
    }

abbrev pub decreases-lines : goal.decreases-lines
decreases-lines g l = (reader_of l.self).limit - (reader_of l.self).place
