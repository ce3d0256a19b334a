-- What comes next in a text, by the octets that are held of it, and what a reader becomes behind it.
use Rattle.std.proofs.Common.{◌≡◌, ◌≢◌, ℕ, ◌+◌, ◌-◌, ◌≤◌, ◌<◌, Bool, true, false, List, [], ◌∷◌, ◌++◌, length, take, drop, refl, sym, ap, ◌∙◌, subst, arith, append_assoc, inl, inr, Option, Some, None, Ok, Err, length-take, length-append}
use Rattle.std.proofs.lemmas.Bool.{cases_lt, lt-ltb, le-ltb, ltb-true}
use Rattle.std.proofs.lemmas.Bool.Decides.{nat_tests}
use Rattle.std.proofs.lemmas.List.{append-nil, drop_at, drop_all, take_all}
use Rattle.std.specs.Prelude.{Contains, IsTrue, ◌⊎◌, ◌&&◌, not, nat_lt, min, if◌then◌else◌}
use Rattle.pst_model.specs.declared.faults.LineFault.{LineFault}
use Rattle.pst_model.specs.declared.faults.LineFault.TheVariants.{LongLine, TextLimit}
use Rattle.pst_model.specs.Command.{Command}
use Rattle.pst_model.specs.Text.{Line, is_cut, line_reading, lines_in, size_of}
use Rattle.pst_model.proofs.FaultyLines.{reading_cut, reading_long}
use Rattle.pst_model.proofs.Texts.{lines_in-ended, lines_in-front, lines_in-unended}
use Rattle.session_text.specs.Find.{is_past}
use Rattle.session_text.specs.Progress.{HasRead}
use Rattle.session_text.specs.Reader.{Reader, moved_on, past_fault, reading_held, spare}
use Rattle.session_text.specs.Turns.{Asks, Ended, Failed, MovesOn, Nothing, OnLine, Reads, Said, Turn, Wrong, goes_on}
use Rattle.session_text.proofs.Progressing.{has_read_bad, has_read_closed, has_read_held, has_read_last, has_read_line, said_more}

-- In front of these octets stands a line of so many octets with its LF.
pub record IsLine (held : List ℕ) (count : ℕ) : Type 0 where
  pub split : (rest : List ℕ) × (held ≡ take count held ++ 10 ∷ rest)
  pub none : ¬ (Contains (take count held) 10)

pub length-line : (held : List ℕ) (count : ℕ) → IsLine held count → (length (take count held) ≡ count) × (count + 1 ≤ length held)
length-line held count line =
    let size : length held ≡ length (take count held) + length (10 ∷ line.split.0) = ap length line.split.1 ∙ length-append (take count held) (10 ∷ line.split.0) in (
      omega (arith, size, length-take count held),
      omega (arith, size, length-take count held),
    )

-- what is behind it
pub behind_line : (held : List ℕ) (count : ℕ) (line : IsLine held count) → drop (count + 1) held ≡ line.split.0
behind_line held count line =
    ap (drop (count + 1)) (line.split.1 ∙ sym (append_assoc (take count held) (10 ∷ []) line.split.0))
    ∙ drop_at (take count held ++ 10 ∷ []) line.split.0 (count + 1) (length-append (take count held) (10 ∷ []) ∙ ap (λ (n : ℕ). n + 1) (length-line held count line).0)

-- the lines of a text that begins with it
pub lines_of-line : (held left : List ℕ) (count : ℕ) (line : IsLine held count)
    → lines_in (held ++ left) ≡ record { octets = take count held; ended = true } ∷ lines_in (line.split.0 ++ left)
lines_of-line held left count line =
    ap (λ (l : List ℕ). lines_in (l ++ left)) line.split.1 ∙ ap lines_in (append_assoc (take count held) (10 ∷ line.split.0) left)
    ∙ lines_in-ended (take count held) (line.split.0 ++ left) line.none

-- what a line that says a command, or nothing, comes to
abbrev pub turn_said : Option Command → Turn
turn_said (Some command) = Said command
turn_said None = Nothing

goes_said : (said : Option Command) → goes_on (turn_said said) ≡ true
goes_said (Some command) = refl
goes_said None = refl

on_said : (said : Option Command) (P : Type 0) → P → OnLine (turn_said said) P
on_said (Some command) P p = p
on_said None P p = p

reads_said : (text : List ℕ) (done : List Command) (reader : Reader) (left : List ℕ) (said : Option Command) → HasRead text (done ++ said_more said) reader left → Reads text done reader left (turn_said said)
reads_said text done reader left (Some command) has = has
reads_said text done reader left None has = subst (λ (commands : List Command). HasRead text commands reader left) (append-nil done) has

-- Behind a line with its LF.

line_on : (text : List ℕ) (done : List Command) (old : Reader) (held left before : List ℕ) (count : ℕ) (said : Option Command)
    → HasRead text done old before → held ++ left ≡ old.pending ++ before → (line : IsLine held count)
    → reading_held (record old { pending = held }) count true ≡ Ok said
    → HasRead text (done ++ said_more said) (moved_on (record old { pending = held }) (count + 1)) left
line_on text done old held left before count said has same line reading =
    let size = (length-line held count line).0 in
    let mid : Reader = record old { pending = held } in
    subst (λ (n : ℕ). HasRead text (done ++ said_more said) (record mid { place = old.place + (n + 1); number = old.number + 1; pending = drop (count + 1) held }) left) size
    (subst (λ (p : List ℕ). HasRead text (done ++ said_more said) (record mid { place = old.place + (length (take count held) + 1); number = old.number + 1; pending = p }) left) (sym (behind_line held count line))
    (has_read_line text done mid left (take count held) line.split.0 said (has_read_held text done old before held left has same) line.split.1 line.none reading))

pub MovesOn-line : (old new : Reader) (told : Bool) (held left before : List ℕ) (count : ℕ) (said : Option Command)
    → IsLine held count → (IsTrue told → held ++ left ≡ old.pending ++ before)
    → reading_held (record old { pending = held }) count true ≡ Ok said
    → new ≡ moved_on (record old { pending = held }) (count + 1)
    → IsTrue old.live → new.place ≤ new.limit
    → MovesOn old new told before left (turn_said said)
MovesOn-line old new told held left before count said line same reading moved live within =
    let place : new.place ≡ old.place + (count + 1) = ap (λ (r : Reader). r.place) moved in record {
      limit = ap (λ (r : Reader). r.limit) moved;
      live = ap (λ (r : Reader). r.live) moved ∙ live ∙ sym (goes_said said);
      progress = on_said said (old.place < new.place) (omega arith);
      within = within;
      reads = λ tells text done has. reads_said text done new left said
          (subst (λ (r : Reader). HasRead text (done ++ said_more said) r left) (sym moved) (line_on text done old held left before count said has (same tells) line reading));
    }

-- Behind the last line, which has no LF.

last_on : (text : List ℕ) (done : List Command) (old : Reader) (held left before : List ℕ) (count : ℕ) (said : Option Command)
    → HasRead text done old before → held ++ left ≡ old.pending ++ before → left ≡ [] → held ≢ [] → ¬ (Contains held 10) → count ≡ length held
    → reading_held (record old { pending = held }) count false ≡ Ok said
    → HasRead text (done ++ said_more said) (record (moved_on (record old { pending = held }) (count + 0)) { closed = true }) left
last_on text done old held left before count said has same end some none size reading =
    let mid : Reader = record old { pending = held } in
    let all : take count held ≡ held = take_all count held (omega arith) in
    let nothing : drop (count + 0) held ≡ [] = drop_all (count + 0) held (omega arith) in
    let places : old.place + length held ≡ old.place + (count + 0) = omega arith in
    subst (λ (p : List ℕ). HasRead text (done ++ said_more said) (record mid { place = old.place + (count + 0); number = old.number + 1; pending = p; closed = true }) left) (sym nothing)
    (subst (λ (n : ℕ). HasRead text (done ++ said_more said) (record mid { place = n; number = old.number + 1; pending = []; closed = true }) left) places
    (has_read_last text done mid left said (has_read_held text done old before held left has same) end some none
    (sym (ap (λ (l : List ℕ). line_reading old.limit old.place (record { octets = l; ended = false })) all) ∙ reading)))

pub MovesOn-last : (old new : Reader) (told : Bool) (held left before : List ℕ) (count : ℕ) (said : Option Command)
    → held ≢ [] → ¬ (Contains held 10) → count ≡ length held → (IsTrue told → left ≡ []) → (IsTrue told → held ++ left ≡ old.pending ++ before)
    → reading_held (record old { pending = held }) count false ≡ Ok said
    → new ≡ record (moved_on (record old { pending = held }) (count + 0)) { closed = true }
    → IsTrue old.live → new.place ≤ new.limit
    → MovesOn old new told before left (turn_said said)
MovesOn-last old new told held left before count said some none size end same reading moved live within =
    let place : new.place ≡ old.place + (count + 0) = ap (λ (r : Reader). r.place) moved in record {
      limit = ap (λ (r : Reader). r.limit) moved;
      live = ap (λ (r : Reader). r.live) moved ∙ live ∙ sym (goes_said said);
      progress = on_said said (old.place < new.place) (omega (arith, length_some held some));
      within = within;
      reads = λ tells text done has. reads_said text done new left said
          (subst (λ (r : Reader). HasRead text (done ++ said_more said) r left) (sym moved)
          (last_on text done old held left before count said has (same tells) (end tells) some none size reading));
    }
  where
    length_some : (xs : List ℕ) → xs ≢ [] → 0 < length xs
    length_some [] more = absurd (more refl)
    length_some (x ∷ xs) more = omega arith

-- At a bad line, at which the reading ends.

pub MovesOn-bad : (old new : Reader) (told : Bool) (held left before : List ℕ) (why : LineFault)
    → (IsTrue told → held ++ left ≡ old.pending ++ before) → (IsTrue told → (line : Line) × (lines : List Line) × (lines_in (held ++ left) ≡ line ∷ lines) × (line_reading old.limit old.place line ≡ Err why))
    → new ≡ record old { pending = held; live = false }
    → old.place ≤ old.limit
    → MovesOn old new told before left (Wrong (old.number + 1) why)
MovesOn-bad old new told held left before why same first moved within = record {
  limit = ap (λ (r : Reader). r.limit) moved;
  live = ap (λ (r : Reader). r.live) moved;
  progress = tt;
  within = subst (λ (r : Reader). r.place ≤ r.limit) (sym moved) within;
  reads = λ tells text done has. subst (λ (r : Reader). Reads text done r left (Wrong (old.number + 1) why)) (sym moved) (at tells text done has);
}
  where
    at : IsTrue told → (text : List ℕ) (done : List Command) → HasRead text done old before → Reads text done (record old { pending = held; live = false }) left (Wrong (old.number + 1) why)
    at tells text done has =
        let mid = has_read_held text done old before held left has (same tells) in
        let front = first tells in
        let bad = has_read_bad text done (record old { pending = held }) left front.0 front.1 why mid front.2 front.3 in (
          has_read_closed text done (record old { pending = held }) left old.closed false mid mid.at_end (λ is. is),
          bad.0,
          bad.1,
        )

-- the first line of what is held and left, by where it ends

pub first-line : (old : Reader) (held left : List ℕ) (count : ℕ) (why : LineFault) → IsLine held count → reading_held (record old { pending = held }) count true ≡ Err why
    → (line : Line) × (lines : List Line) × (lines_in (held ++ left) ≡ line ∷ lines) × (line_reading old.limit old.place line ≡ Err why)
first-line old held left count why line reading = (record { octets = take count held; ended = true }, lines_in (line.split.0 ++ left), lines_of-line held left count line, reading)

pub first-last : (old : Reader) (held left : List ℕ) (count : ℕ) (why : LineFault) → held ≢ [] → ¬ (Contains held 10) → count ≡ length held → left ≡ []
    → reading_held (record old { pending = held }) count false ≡ Err why
    → (line : Line) × (lines : List Line) × (lines_in (held ++ left) ≡ line ∷ lines) × (line_reading old.limit old.place line ≡ Err why)
first-last old held left count why some none size end reading = (
  record { octets = held; ended = false },
  [],
  ap lines_in (ap (λ (t : List ℕ). held ++ t) end ∙ append-nil held) ∙ lines_in-unended held none some,
  sym (ap (λ (l : List ℕ). line_reading old.limit old.place (record { octets = l; ended = false })) (take_all count held (omega arith))) ∙ reading,
)

-- a line that is too long, whatever comes behind what is held of it
past_cut : (limit place held size octets : ℕ) → is_past (limit - place) held ≡ true → held ≤ octets → octets ≤ size → limit - place < 131201 → place ≤ limit → limit < place + min size 131201
past_cut limit place held size octets past le more room within = grind (arith, nat_tests)

past_whole : (limit place size : ℕ) → 131201 ≤ limit - place → place + min size 131201 ≤ limit
past_whole limit place size room = omega arith

past_long : (limit place held octets : ℕ) → is_past (limit - place) held ≡ true → held ≤ octets → 131201 ≤ limit - place → 131200 < octets
past_long limit place held octets past le room = grind (arith, nat_tests)

size_least : (line : Line) → length line.octets ≤ size_of line
size_least line = by line.ended
  where
    by : (ended : Bool) → length line.octets ≤ length line.octets + (if ended then 1 else 0)
    by true = omega arith
    by false = omega arith

past_reading : (limit place held : ℕ) (line : Line) → is_past (limit - place) held ≡ true → held ≤ length line.octets → place ≤ limit → line_reading limit place line ≡ Err (past_fault (limit - place))
past_reading limit place held line past le within = by (cases_lt (limit - place) 131201)
  where
    by : (limit - place < 131201) ⊎ (131201 ≤ limit - place) → line_reading limit place line ≡ Err (past_fault (limit - place))
    by (inl room) =
        reading_cut limit place line (lt-ltb _ _ (past_cut limit place held (size_of line) (length line.octets) past le (size_least line) room within))
        ∙ ap (λ (b : Bool). Err (if b then TextLimit else LongLine)) (sym (lt-ltb (limit - place) 131201 room))
    by (inr room) =
        reading_long limit place line (le-ltb _ _ (past_whole limit place (size_of line) room)) (past_long limit place held (length line.octets) past le room)
        ∙ ap (λ (b : Bool). Err (if b then TextLimit else LongLine)) (sym (le-ltb (limit - place) 131201 room))

pub first-past : (old : Reader) (held left : List ℕ) → held ≢ [] → ¬ (Contains held 10) → is_past (old.limit - old.place) (length held) ≡ true → old.place ≤ old.limit
    → (line : Line) × (lines : List Line) × (lines_in (held ++ left) ≡ line ∷ lines) × (line_reading old.limit old.place line ≡ Err (past_fault (old.limit - old.place)))
first-past old held left some none past within =
    let front = lines_in-front held left none some in (front.0, front.1, front.2, past_reading old.limit old.place (length held) front.0 past front.3 within)

-- At the end of the text, and where the source failed.

pub MovesOn-end : (old new : Reader) (told : Bool) (held left before : List ℕ) → held ≡ [] → (IsTrue told → left ≡ []) → (IsTrue told → held ++ left ≡ old.pending ++ before)
    → new ≡ record old { pending = held; closed = true } → IsTrue old.live → old.closed ≡ false → old.place ≤ old.limit → MovesOn old new told before left Ended
MovesOn-end old new told held left before none end same moved live opened within = record {
  limit = ap (λ (r : Reader). r.limit) moved;
  live = ap (λ (r : Reader). r.live) moved ∙ live;
  progress = tt;
  within = subst (λ (r : Reader). r.place ≤ r.limit) (sym moved) within;
  reads = λ tells text done has.
      let nothing : held ++ left ≡ [] = ap (λ (l : List ℕ). l ++ left) none ∙ end tells in
      subst (λ (r : Reader). Reads text done r left Ended) (sym moved)
      (has_read_closed text done (record old { pending = held }) left true old.live (has_read_held text done old before held left has (same tells)) (λ is. nothing) (λ is. opened), nothing);
}

pub MovesOn-closed : (old : Reader) (told : Bool) (before : List ℕ) → IsTrue old.closed → IsTrue old.live → old.place ≤ old.limit → MovesOn old old told before before Ended
MovesOn-closed old told before closed live within = record {
  limit = refl;
  live = live;
  progress = tt;
  within = within;
  reads = λ tells text done has. (has, has.at_end closed);
}

pub MovesOn-failed : (old new : Reader) (told : Bool) (held left before : List ℕ) → ¬ (Contains held 10) → (IsTrue told → held ++ left ≡ old.pending ++ before)
    → new ≡ record old { pending = held; live = false } → old.closed ≡ false → old.place ≤ old.limit → MovesOn old new told before left Failed
MovesOn-failed old new told held left before none same moved opened within = record {
  limit = ap (λ (r : Reader). r.limit) moved;
  live = ap (λ (r : Reader). r.live) moved;
  progress = tt;
  within = subst (λ (r : Reader). r.place ≤ r.limit) (sym moved) within;
  reads = λ tells text done has.
      let mid = has_read_held text done old before held left has (same tells) in
      subst (λ (r : Reader). Reads text done r left Failed) (sym moved)
      (has_read_closed text done (record old { pending = held }) left old.closed false mid mid.at_end (λ is. is), none, opened);
}

-- How often the source was asked.

abbrev spared : (live closed : Bool) → ℕ
spared live closed = if live && not closed then 1 else 0

spare_open : (reader : Reader) → IsTrue reader.live → reader.closed ≡ false → spare reader ≡ 1
spare_open reader live opened = rw (live, opened) refl

pub spare_most : (reader : Reader) → spare reader ≤ 1
spare_most reader = by reader.live reader.closed
  where
    by : (live closed : Bool) → spared live closed ≤ 1
    by true true = omega arith
    by true false = omega arith
    by false closed = omega arith

pub spare_closed : (reader : Reader) → reader.closed ≡ true → spare reader ≡ 0
spare_closed reader closed = by reader.live reader.closed closed
  where
    by : (live shut : Bool) → shut ≡ true → spared live shut ≡ 0
    by true true is = refl
    by true false is = absurd cc
    by false shut is = refl

pub spare_dead : (reader : Reader) → reader.live ≡ false → spare reader ≡ 0
spare_dead reader dead = rw dead refl

pub Asks-found : (old new : Reader) (told : Bool) (held before after : List ℕ) (takes takes' empty : ℕ) → IsTrue old.live → old.closed ≡ false
    → (IsTrue told → held ++ after ≡ old.pending ++ before) → takes ≤ takes' → takes' + length old.pending ≤ takes + length held + empty → empty + spare new ≤ 1
    → Asks old new told before after takes takes'
Asks-found old new told held before after takes takes' empty live opened same rises most few = record {
  rises = rises;
  most = λ tells. sums (spare old) (spare_open old live opened) (sym (length-append held after) ∙ ap length (same tells) ∙ length-append old.pending before);
}
  where
    sums : (one : ℕ) → one ≡ 1 → length held + length after ≡ length old.pending + length before → takes' + length after + spare new ≤ takes + length before + one
    sums one is sizes = omega arith

pub Asks-none : (old : Reader) (told : Bool) (before : List ℕ) (takes : ℕ) → Asks old old told before before takes takes
Asks-none old told before takes = record { rises = omega arith; most = λ tells. omega arith }
