-- What a call of a reader answers and leaves.
use Rattle.std.specs.Prelude.{ℕ, Bool, List, Option, Some, None, Result, Ok, Err, ⊤}
use Rattle.std.specs.Borrow.{MutBor, Fml}
use Rattle.std.specs.Io.BufRead.{Rests}
use Rattle.session_text.specs.declared.command.Command.{Command as View}
use Rattle.session_text.specs.declared.fault.LineEnd.{LineEnd}
use Rattle.session_text.specs.declared.fault.LineEnd.TheVariants as ends
use Rattle.session_text.specs.declared.lines.Lines.{Lines}
use Rattle.session_text.specs.declared.lines.Passed.{Passed}
use Rattle.session_text.specs.declared.lines.Passed.TheVariants as passed
use Rattle.session_text.specs.contracts.lines.Lines.{the_row}
use Rattle.pst_model.specs.Command.{Command}
use Rattle.session_text.specs.Read.{IsHeld, command_in}
use Rattle.session_text.specs.Reader.{Reader}
use Rattle.session_text.specs.Shown.{command_of}
use Rattle.session_text.specs.Turns.{Asks, Ended, Failed, MovesOn, Nothing, Said, Turn, Wrong}

-- what an answer comes to, whose command shown says
abbrev pub turn_by : {X : Type 0} → (X → Command) → Result (Option X) LineEnd → Turn
turn_by shown (Ok (Some command)) = Said (shown command)
turn_by shown (Ok None) = Ended
turn_by shown (Err (ends.Bad line why)) = Wrong line why
turn_by shown (Err ends.Source) = Failed

abbrev pub turn_of : Result (Option View) LineEnd → Turn
turn_of result = turn_by command_of result

-- what one line comes to, whose packet is kept
abbrev pub line_turn : List ℕ → Result Passed LineEnd → Turn
line_turn packet (Ok (passed.Said form)) = Said (command_in packet form)
line_turn packet (Ok passed.Nothing) = Nothing
line_turn packet (Ok passed.End) = Ended
line_turn packet (Err (ends.Bad line why)) = Wrong line why
line_turn packet (Err ends.Source) = Failed

abbrev pub IsPassed : List ℕ → Passed → Type 0
IsPassed packet (passed.Said form) = IsHeld packet form
IsPassed packet passed.Nothing = ⊤
IsPassed packet passed.End = ⊤

abbrev pub reader_of : Lines → Reader
reader_of lines = record {
  limit = lines.limit;
  place = lines.place;
  number = lines.number;
  pending = lines.held;
  closed = lines.closed;
  live = lines.live;
}

-- The lender ends as a reader that moved on, and asked the source.
abbrev pub RestsMoved : MutBor Lines → Bool → (before after : List ℕ) → (takes takes' : ℕ) → Result (Option View) LineEnd → Fml
RestsMoved lender told before after takes takes' result =
    Rests the_row lender (λ new. MovesOn (reader_of lender.now) (reader_of new) told before after (turn_of result) × Asks (reader_of lender.now) (reader_of new) told before after takes takes')
