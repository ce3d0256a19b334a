-- The commands read of a text stand in front of all its commands.
use Rattle.std.proofs.Common.{◌≡◌, ℕ, ◌+◌, Bool, true, false, List, [], ◌∷◌, ◌++◌, Some, None, Ok, Err, refl, sym, ◌∙◌, ap}
use Rattle.std.proofs.lemmas.Bool.{false≢true, cond-true, cond-false}
use Rattle.std.proofs.lemmas.List.{append-nil}
use Rattle.std.specs.Prelude.{filter, ◌==◌, if◌then◌else◌}
use Rattle.station.specs.Reading.{read_of, taken_of, text_limit}
use Rattle.pst_model.specs.Command.{Command}
use Rattle.pst_model.specs.Forms.{Reading}
use Rattle.pst_model.specs.Text.{Line, behind_reading, commands_from, commands_of, commands_read, in_front, line_reading, lines_in, size_of, whole_lines}

-- a list in front of another one
abbrev Front : {A : Type 0} → (front whole : List A) → Type 0
Front {A} front whole = (rest : List A) × (front ++ rest ≡ whole)

module _ (limit : ℕ) where
  commands_front : (place : ℕ) (lines more : List Line) → Front (commands_from limit place lines) (commands_from limit place (lines ++ more))
  commands_front place [] more = (commands_from limit place more, refl)
  commands_front place (line ∷ lines) more = by (line_reading limit place line) (commands_front (place + size_of line) lines more)
    where
      by : (reading : Reading) → Front (commands_from limit (place + size_of line) lines) (commands_from limit (place + size_of line) (lines ++ more))
          → Front (behind_reading reading (commands_from limit (place + size_of line) lines)) (behind_reading reading (commands_from limit (place + size_of line) (lines ++ more)))
      by (Ok (Some command)) (rest, is) = (rest, ap (λ (commands : List Command). command ∷ commands) is)
      by (Ok None) front = front
      by (Err why) front = ([], refl)

abbrev ended_of : List Line → Bool
ended_of [] = false
ended_of (line ∷ lines) = line.ended

abbrev rest_of : List Line → List Line
rest_of [] = []
rest_of (line ∷ lines) = lines

-- an empty line with its LF
abbrev empty_line : Line
empty_line = record { octets = []; ended = true }

-- only the last line of a text may lack its LF
last_unended : (text : List ℕ) (line : Line) (lines : List Line) → lines_in text ≡ line ∷ lines → line.ended ≡ false → lines ≡ []
last_unended [] line lines is ended = absurd cc
last_unended (octet ∷ text) line lines is ended = by (octet == 10) is (λ next others same unended. last_unended text next others same unended)
  where
    behind : (next : List Line) → lines_in text ≡ next → in_front octet next ≡ line ∷ lines → ((next : Line) (others : List Line) → lines_in text ≡ next ∷ others → next.ended ≡ false → others ≡ []) → lines ≡ []
    behind [] same here again = sym (ap rest_of here)
    behind (next ∷ others) same here again = sym (ap rest_of here) ∙ again next others same (ap ended_of here ∙ ended)

    by : (b : Bool) → (if b then empty_line ∷ lines_in text else in_front octet (lines_in text)) ≡ line ∷ lines → ((next : Line) (others : List Line) → lines_in text ≡ next ∷ others → next.ended ≡ false → others ≡ []) → lines ≡ []
    by true here again = absurd (false≢true (sym ended ∙ sym (ap ended_of here)))
    by false here again = behind (lines_in text) refl here again

abbrev ended_lines : List Line → List Line
ended_lines = filter (λ (line : Line). line.ended)

-- the whole lines of what was taken are the first ones of the text
whole_front : (taken left : List ℕ) → Front (whole_lines taken) (lines_in (taken ++ left))
whole_front [] left = (lines_in left, refl)
whole_front (octet ∷ taken) left = by (octet == 10) (whole_front taken left)
  where
    by_end : (line : Line) (lines : List Line) → lines_in taken ≡ line ∷ lines → Front (whole_lines taken) (lines_in (taken ++ left)) → (b : Bool) → line.ended ≡ b
        → Front (ended_lines (record { octets = octet ∷ line.octets; ended = line.ended } ∷ lines)) (in_front octet (lines_in (taken ++ left)))
    by_end line lines same (rest, is) true ended =
        let first : line ∷ ended_lines lines ≡ whole_lines taken = sym (ap ended_lines same ∙ cond-true line.ended _ _ ended) in
        (rest, ap (λ (ls : List Line). ls ++ rest) (cond-true line.ended _ _ ended) ∙ ap (in_front octet) (ap (λ (ls : List Line). ls ++ rest) first ∙ is))
    by_end line lines same front false ended =
        (in_front octet (lines_in (taken ++ left)), ap (λ (ls : List Line). ls ++ in_front octet (lines_in (taken ++ left))) (cond-false line.ended _ _ ended ∙ ap ended_lines (last_unended taken line lines same ended)))

    other : (lines : List Line) → lines_in taken ≡ lines → Front (whole_lines taken) (lines_in (taken ++ left)) → Front (ended_lines (in_front octet lines)) (in_front octet (lines_in (taken ++ left)))
    other [] same front = (in_front octet (lines_in (taken ++ left)), refl)
    other (line ∷ lines) same front = by_end line lines same front line.ended refl

    by : (b : Bool) → Front (whole_lines taken) (lines_in (taken ++ left))
        → Front (ended_lines (if b then empty_line ∷ lines_in taken else in_front octet (lines_in taken))) (if b then empty_line ∷ lines_in (taken ++ left) else in_front octet (lines_in (taken ++ left)))
    by true (rest, is) = (rest, ap (λ (ls : List Line). empty_line ∷ ls) is)
    by false front = other (lines_in taken) refl front

-- the commands of what was taken are the first ones of the text
read_front : (limit : ℕ) (taken left : List ℕ) → Front (commands_read limit taken) (commands_of limit (taken ++ left))
read_front limit taken left =
    let (lines, whole) = whole_front taken left in
    let (rest, is) = commands_front limit 0 (whole_lines taken) lines in
    (rest, is ∙ ap (commands_from limit 0) whole)

-- those that were read of a text stand in front of all that it has
pub commands_stand_in_front : (text left : List ℕ) → text ≡ taken_of text left ++ left → (rest : List Command) × (read_of text left ++ rest ≡ commands_of text_limit text)
commands_stand_in_front text [] split = ([], append-nil (commands_of text_limit text))
commands_stand_in_front text (octet ∷ left) split =
    let (rest, is) = read_front text_limit (taken_of text (octet ∷ left)) (octet ∷ left) in
    (rest, is ∙ ap (commands_of text_limit) (sym split))
