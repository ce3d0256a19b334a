-- How far a reader has come: at the start, one line further, and at a bad line.
use Rattle.std.proofs.Common.{◌≡◌, ◌≢◌, ℕ, ◌+◌, ◌-◌, Bool, true, false, List, [], ◌∷◌, ◌++◌, length, take, Option, Some, None, Ok, Err, refl, sym, ◌∙◌, ap, arith, append_assoc, length-append}
use Rattle.std.proofs.lemmas.List.{append-nil, take_at}
use Rattle.std.specs.Prelude.{Contains, IsTrue, filter}
use Rattle.pst_model.specs.declared.faults.LineFault.{LineFault}
use Rattle.pst_model.specs.Command.{Command}
use Rattle.pst_model.specs.Forms.{Reading}
use Rattle.pst_model.specs.Text.{Line, bad_by, bad_read, behind_reading, commands_from, commands_of, commands_read, first_bad, first_bad_from, line_reading, lines_in, size_of, whole_lines}
use Rattle.session_text.specs.Progress.{HasRead}
use Rattle.session_text.specs.Reader.{Reader}
use Rattle.pst_model.proofs.Texts.{lines_in-ended, lines_in-unended, whole_lines-none}

-- the commands that a line says
abbrev pub said_more : Option Command → List Command
said_more (Some command) = command ∷ []
said_more None = []

behind_said : (said : Option Command) (commands : List Command) → behind_reading (Ok said) commands ≡ said_more said ++ commands
behind_said (Some command) commands = refl
behind_said None commands = refl

-- the commands of lines, and the first bad one, behind a line that is not bad
commands_more : (limit place : ℕ) (line : Line) (lines : List Line) (said : Option Command) → line_reading limit place line ≡ Ok said
    → commands_from limit place (line ∷ lines) ≡ said_more said ++ commands_from limit (place + size_of line) lines
commands_more limit place line lines said reading =
    ap (λ (r : Reading). behind_reading r (commands_from limit (place + size_of line) lines)) reading ∙ behind_said said (commands_from limit (place + size_of line) lines)

bad_more : (limit place number : ℕ) (line : Line) (lines : List Line) (said : Option Command) → line_reading limit place line ≡ Ok said
    → first_bad_from limit place number (line ∷ lines) ≡ first_bad_from limit (place + size_of line) (number + 1) lines
bad_more limit place number line lines said reading = ap (λ (r : Reading). bad_by number r (first_bad_from limit (place + size_of line) (number + 1) lines)) reading

-- the same of lines of which this is the first
commands_on : (limit place : ℕ) (done : List Command) (lines others : List Line) (line : Line) (said : Option Command) → lines ≡ line ∷ others → line_reading limit place line ≡ Ok said
    → done ++ commands_from limit place lines ≡ (done ++ said_more said) ++ commands_from limit (place + size_of line) others
commands_on limit place done lines others line said front reading =
    ap (λ (ls : List Line). done ++ commands_from limit place ls) front
    ∙ ap (λ (cs : List Command). done ++ cs) (commands_more limit place line others said reading)
    ∙ sym (append_assoc done (said_more said) (commands_from limit (place + size_of line) others))

bad_on : (limit place number : ℕ) (lines others : List Line) (line : Line) (said : Option Command) → lines ≡ line ∷ others → line_reading limit place line ≡ Ok said
    → first_bad_from limit place number lines ≡ first_bad_from limit (place + size_of line) (number + 1) others
bad_on limit place number lines others line said front reading = ap (first_bad_from limit place number) front ∙ bad_more limit place number line others said reading

-- at the start
pub has_read_none : (limit : ℕ) (text : List ℕ) → HasRead text [] (record { limit = limit; place = 0; number = 0; pending = []; closed = false; live = true }) text
has_read_none limit text = record { behind = []; split = refl; commands = refl; bad = refl; at_end = λ is. absurd cc; commands_taken = λ before more. refl; bad_taken = λ before more. refl }

-- with octets that were taken
pub has_read_held : (text : List ℕ) (done : List Command) (old : Reader) (before held left : List ℕ) → HasRead text done old before → held ++ left ≡ old.pending ++ before
    → HasRead text done (record old { pending = held }) left
has_read_held text done old before held left has same = record {
  behind = has.behind;
  split = has.split ∙ ap (λ (t : List ℕ). has.behind ++ t) (sym same);
  commands = has.commands ∙ ap (λ (t : List ℕ). done ++ commands_from old.limit old.place (lines_in t)) (sym same);
  bad = has.bad ∙ ap (λ (t : List ℕ). first_bad_from old.limit old.place (old.number + 1) (lines_in t)) (sym same);
  at_end = λ closed. same ∙ has.at_end closed;
  commands_taken = has.commands_taken;
  bad_taken = has.bad_taken;
}

-- at the end
pub has_read_closed : (text : List ℕ) (done : List Command) (reader : Reader) (left : List ℕ) (closed live : Bool) → HasRead text done reader left → (IsTrue closed → reader.pending ++ left ≡ []) → (closed ≡ false → reader.closed ≡ false)
    → HasRead text done (record reader { closed = closed; live = live }) left
has_read_closed text done reader left closed live has none before = record {
  behind = has.behind;
  split = has.split;
  commands = has.commands;
  bad = has.bad;
  at_end = none;
  commands_taken = λ is. has.commands_taken (before is);
  bad_taken = λ is. has.bad_taken (before is);
}

-- the octets of a line behind others, with more behind it
line_behind : (behind line more : List ℕ) → (behind ++ line ++ 10 ∷ []) ++ more ≡ behind ++ (line ++ 10 ∷ more)
line_behind behind line more = simp append_assoc

line_left : (line rest left : List ℕ) → (line ++ 10 ∷ rest) ++ left ≡ line ++ 10 ∷ (rest ++ left)
line_left line rest left = simp append_assoc

-- behind a line with its LF
pub has_read_line : (text : List ℕ) (done : List Command) (mid : Reader) (left line rest : List ℕ) (said : Option Command)
    → HasRead text done mid left → mid.pending ≡ line ++ 10 ∷ rest → ¬ (Contains line 10) → line_reading mid.limit mid.place (record { octets = line; ended = true }) ≡ Ok said
    → HasRead text (done ++ said_more said) (record mid { place = mid.place + (length line + 1); number = mid.number + 1; pending = rest }) left
has_read_line text done mid left line rest said has is none reading =
    let front : mid.pending ++ left ≡ line ++ 10 ∷ (rest ++ left) = ap (λ (t : List ℕ). t ++ left) is ∙ line_left line rest left in
    let first : Line = record { octets = line; ended = true } in record {
      behind = has.behind ++ line ++ 10 ∷ [];
      split = has.split ∙ ap (λ (t : List ℕ). has.behind ++ t) front ∙ sym (line_behind has.behind line (rest ++ left));
      commands = has.commands ∙ commands_on mid.limit mid.place done (lines_in (mid.pending ++ left)) (lines_in (rest ++ left)) first said (ap lines_in front ∙ lines_in-ended line (rest ++ left) none) reading;
      bad = has.bad ∙ bad_on mid.limit mid.place (mid.number + 1) (lines_in (mid.pending ++ left)) (lines_in (rest ++ left)) first said (ap lines_in front ∙ lines_in-ended line (rest ++ left) none) reading;
      at_end = λ closed. absurd (some line (rest ++ left) (sym front ∙ has.at_end closed));
      commands_taken = λ before more.
          ap (commands_read mid.limit) (line_behind has.behind line more) ∙ has.commands_taken before (line ++ 10 ∷ more)
          ∙ commands_on mid.limit mid.place done (whole_lines (line ++ 10 ∷ more)) (whole_lines more) first said (ap (filter (λ (l : Line). l.ended)) (lines_in-ended line more none)) reading;
      bad_taken = λ before more.
          ap (bad_read mid.limit) (line_behind has.behind line more) ∙ has.bad_taken before (line ++ 10 ∷ more)
          ∙ bad_on mid.limit mid.place (mid.number + 1) (whole_lines (line ++ 10 ∷ more)) (whole_lines more) first said (ap (filter (λ (l : Line). l.ended)) (lines_in-ended line more none)) reading;
    }
  where
    some : (xs ys : List ℕ) → xs ++ 10 ∷ ys ≡ [] → ⊥
    some [] ys is = cc
    some (x ∷ xs) ys is = cc

-- behind the last line, which has no LF
pub has_read_last : (text : List ℕ) (done : List Command) (mid : Reader) (left : List ℕ) (said : Option Command)
    → HasRead text done mid left → left ≡ [] → mid.pending ≢ [] → ¬ (Contains mid.pending 10) → line_reading mid.limit mid.place (record { octets = mid.pending; ended = false }) ≡ Ok said
    → HasRead text (done ++ said_more said) (record mid { place = mid.place + length mid.pending; number = mid.number + 1; pending = []; closed = true }) left
has_read_last text done mid left said has end some none reading =
    let whole : mid.pending ++ left ≡ mid.pending = ap (λ (t : List ℕ). mid.pending ++ t) end ∙ append-nil mid.pending in
    let first : Line = record { octets = mid.pending; ended = false } in
    let front : lines_in (mid.pending ++ left) ≡ first ∷ [] = ap lines_in whole ∙ lines_in-unended mid.pending none some in
    let nothing : lines_in left ≡ [] = ap lines_in end in
    let size : mid.place + (length mid.pending + 0) ≡ mid.place + length mid.pending = omega arith in record {
      behind = has.behind ++ mid.pending;
      split = has.split ∙ sym (append_assoc has.behind mid.pending left);
      commands = has.commands ∙ commands_on mid.limit mid.place done (lines_in (mid.pending ++ left)) [] first said front reading
          ∙ ap (λ (n : ℕ). (done ++ said_more said) ++ commands_from mid.limit n []) size
          ∙ sym (ap (λ (ls : List Line). (done ++ said_more said) ++ commands_from mid.limit (mid.place + length mid.pending) ls) nothing);
      bad = has.bad ∙ bad_on mid.limit mid.place (mid.number + 1) (lines_in (mid.pending ++ left)) [] first said front reading
          ∙ ap (λ (n : ℕ). first_bad_from mid.limit n (mid.number + 1 + 1) []) size
          ∙ sym (ap (first_bad_from mid.limit (mid.place + length mid.pending) (mid.number + 1 + 1)) nothing);
      at_end = λ closed. end;
      commands_taken = λ before. absurd cc;
      bad_taken = λ before. absurd cc;
    }

-- at a bad line
pub has_read_bad : (text : List ℕ) (done : List Command) (reader : Reader) (left : List ℕ) (line : Line) (lines : List Line) (why : LineFault) → HasRead text done reader left
    → lines_in (reader.pending ++ left) ≡ line ∷ lines → line_reading reader.limit reader.place line ≡ Err why
    → (commands_of reader.limit text ≡ done) × (first_bad reader.limit text ≡ Some (reader.number + 1, why))
has_read_bad text done reader left line lines why has front reading = (
  has.commands ∙ ap (λ (ls : List Line). done ++ commands_from reader.limit reader.place ls) front
      ∙ ap (λ (r : Reading). done ++ behind_reading r (commands_from reader.limit (reader.place + size_of line) lines)) reading ∙ append-nil done,
  has.bad ∙ ap (first_bad_from reader.limit reader.place (reader.number + 1)) front
      ∙ ap (λ (r : Reading). bad_by (reader.number + 1) r (first_bad_from reader.limit (reader.place + size_of line) (reader.number + 1 + 1) lines)) reading,
)

-- at the end each command of the text was read, and no line is bad
pub has_read_end : (text : List ℕ) (done : List Command) (reader : Reader) (left : List ℕ) → HasRead text done reader left → reader.pending ++ left ≡ []
    → (commands_of reader.limit text ≡ done) × (first_bad reader.limit text ≡ None)
has_read_end text done reader left has none = (
  has.commands ∙ ap (λ (t : List ℕ). done ++ commands_from reader.limit reader.place (lines_in t)) none ∙ append-nil done,
  has.bad ∙ ap (λ (t : List ℕ). first_bad_from reader.limit reader.place (reader.number + 1) (lines_in t)) none,
)

-- What was taken of the text, of which so much is left: the commands read stand in front of all its commands, and before the
-- end of the text of those of its whole lines.
pub has_read_taken : (text : List ℕ) (done : List Command) (reader : Reader) (left : List ℕ) (has : HasRead text done reader left)
    → (text ≡ (has.behind ++ reader.pending) ++ left) × ((rest : List Command) × (done ++ rest ≡ commands_of reader.limit text))
has_read_taken text done reader left has = (
  has.split ∙ sym (append_assoc has.behind reader.pending left),
  (commands_from reader.limit reader.place (lines_in (reader.pending ++ left)), sym has.commands),
)

pub has_read_whole : (text : List ℕ) (done : List Command) (reader : Reader) (left : List ℕ) (has : HasRead text done reader left) → reader.closed ≡ false
    → (rest : List Command) × (done ++ rest ≡ commands_read reader.limit (has.behind ++ reader.pending))
has_read_whole text done reader left has before = (commands_from reader.limit reader.place (whole_lines reader.pending), sym (has.commands_taken before reader.pending))

-- where no whole line is pending, they are all the commands of the whole lines that were taken
pub has_read_unended : (text : List ℕ) (done : List Command) (reader : Reader) (left : List ℕ) (has : HasRead text done reader left) → reader.closed ≡ false → ¬ (Contains reader.pending 10)
    → (commands_read reader.limit (has.behind ++ reader.pending) ≡ done) × (bad_read reader.limit (has.behind ++ reader.pending) ≡ None)
has_read_unended text done reader left has before none = (
  has.commands_taken before reader.pending ∙ ap (λ (ls : List Line). done ++ commands_from reader.limit reader.place ls) (whole_lines-none reader.pending none) ∙ append-nil done,
  has.bad_taken before reader.pending ∙ ap (first_bad_from reader.limit reader.place (reader.number + 1)) (whole_lines-none reader.pending none),
)

-- what was taken is known by what is left
pub taken_is : (text taken left : List ℕ) → text ≡ taken ++ left → take (length text - length left) text ≡ taken
taken_is text taken left is =
    ap (take (length text - length left)) is ∙ take_at taken left (length text - length left) (omega (arith, ap length is, length-append taken left))
