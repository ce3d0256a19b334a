-- How far a reader has come in a text.
use Rattle.std.specs.Prelude.{◌≡◌, ◌+◌, ◌++◌, ℕ, false, List, [], filter, IsTrue}
use Rattle.pst_model.specs.Command.{Command}
use Rattle.session_text.specs.Reader.{Reader}
use Rattle.pst_model.specs.Text.{Line, bad_read, commands_from, commands_of, commands_read, first_bad, first_bad_from, lines_in}

-- The reader has read these commands of the text, of which the source has so much left: what it holds and
-- what is left spell the other commands. Before the end of the text it stands at the begin of a line: whatever
-- more is taken spells the other commands of what was taken.
pub record HasRead (text : List ℕ) (done : List Command) (reader : Reader) (left : List ℕ) : Type 0 where
  -- the octets of the lines that were read
  pub behind : List ℕ
  pub split : text ≡ behind ++ (reader.pending ++ left)
  pub commands : commands_of reader.limit text ≡ done ++ commands_from reader.limit reader.place (lines_in (reader.pending ++ left))
  pub bad : first_bad reader.limit text ≡ first_bad_from reader.limit reader.place (reader.number + 1) (lines_in (reader.pending ++ left))
  pub at_end : IsTrue reader.closed → reader.pending ++ left ≡ []
  pub commands_taken : reader.closed ≡ false → (more : List ℕ)
      → commands_read reader.limit (behind ++ more) ≡ done ++ commands_from reader.limit reader.place (filter (λ (line : Line). line.ended) (lines_in more))
  pub bad_taken : reader.closed ≡ false → (more : List ℕ)
      → bad_read reader.limit (behind ++ more) ≡ first_bad_from reader.limit reader.place (reader.number + 1) (filter (λ (line : Line). line.ended) (lines_in more))
