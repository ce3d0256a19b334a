-- What a step of a reader comes to, and what it leaves.
use Rattle.std.specs.Prelude.{◌≡◌, ◌≤◌, ◌<◌, ◌+◌, ◌++◌, ℕ, Bool, true, false, List, [], ◌∷◌, length, Contains, IsTrue, Some, ⊤}
use Rattle.pst_model.specs.Command.{Command}
use Rattle.pst_model.specs.declared.faults.LineFault.{LineFault}
use Rattle.pst_model.specs.Text.{commands_of, first_bad}
use Rattle.session_text.specs.Progress.{HasRead}
use Rattle.session_text.specs.Reader.{Reader, spare}

pub data Turn : Type 0 where
  -- a line that says a command, or nothing
  Said : Command → Turn
  Nothing : Turn
  -- the end of the text
  Ended : Turn
  -- the line with this number is bad
  Wrong : (line : ℕ) → LineFault → Turn
  -- the source failed
  Failed : Turn

abbrev pub goes_on : Turn → Bool
goes_on (Said command) = true
goes_on Nothing = true
goes_on Ended = true
goes_on (Wrong line why) = false
goes_on Failed = false

-- a line was read
abbrev pub OnLine : Turn → Type 0 → Type 0
OnLine (Said command) P = P
OnLine Nothing P = P
OnLine Ended P = ⊤
OnLine (Wrong line why) P = ⊤
OnLine Failed P = ⊤

abbrev pub OnNothing : Turn → Type 0 → Type 0
OnNothing (Said command) P = ⊤
OnNothing Nothing P = P
OnNothing Ended P = ⊤
OnNothing (Wrong line why) P = ⊤
OnNothing Failed P = ⊤

abbrev pub OnFailed : Turn → Type 0 → Type 0
OnFailed (Said command) P = ⊤
OnFailed Nothing P = ⊤
OnFailed Ended P = ⊤
OnFailed (Wrong line why) P = ⊤
OnFailed Failed P = P

abbrev pub UnlessFailed : Turn → Type 0 → Type 0
UnlessFailed (Said command) P = P
UnlessFailed Nothing P = P
UnlessFailed Ended P = P
UnlessFailed (Wrong line why) P = P
UnlessFailed Failed P = ⊤

-- The text of which these commands were read, and what the step says of it: one command more, nothing pending or
-- left at its end, the first bad line behind all its commands, or no whole line pending where the source failed.
abbrev pub Reads : (text : List ℕ) (done : List Command) (reader : Reader) (left : List ℕ) → Turn → Type 0
Reads text done reader left (Said command) = HasRead text (done ++ command ∷ []) reader left
Reads text done reader left Nothing = HasRead text done reader left
Reads text done reader left Ended = HasRead text done reader left × (reader.pending ++ left ≡ [])
Reads text done reader left (Wrong line why) =
    HasRead text done reader left × (commands_of reader.limit text ≡ done) × (first_bad reader.limit text ≡ Some (line, why))
Reads text done reader left Failed =
    HasRead text done reader left × ¬ (Contains reader.pending 10) × (reader.closed ≡ false)

-- The reader moves on by one step, and nothing of the text is lost: of a text of which it had read some commands it
-- has read these and what the step says.
pub record MovesOn (old new : Reader) (told : Bool) (before after : List ℕ) (turn : Turn) : Type 0 where
  pub limit : new.limit ≡ old.limit
  pub live : new.live ≡ goes_on turn
  pub progress : OnLine turn (old.place < new.place)
  pub within : new.place ≤ new.limit
  pub reads : IsTrue told → (text : List ℕ) (done : List Command) → HasRead text done old before
      → Reads text done new after turn

-- How often a source was asked between two states of a reader: each take gave an octet, but for the spare one.
pub record Asks (old new : Reader) (told : Bool) (before after : List ℕ) (takes takes' : ℕ) : Type 0 where
  pub rises : takes ≤ takes'
  pub most : IsTrue told
      → takes' + length after + spare new ≤ takes + length before + spare old
