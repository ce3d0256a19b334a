-- What a line says by its fields is what it says by its front.
use Rattle.std.proofs.Common.{◌≡◌, ◌≢◌, ◌⊎◌, inl, inr, ℕ, zero, suc, ◌+◌, ◌-◌, ◌<◌, ◌≤◌, ◌==◌, Bool, true, false, List, [], ◌∷◌, ◌++◌, length, take, drop, get_or, refl, sym, ◌∙◌, ap, subst, arith, append_assoc, Option, Some, None, Result, Ok, Err, length-append, length-take}
use Rattle.std.proofs.lemmas.Bool.{and_parts, cases_eq, cases_lt, cond-false, cond-true, eqb-true, false≢true, le-ltb, lt-ltb, ltb-true, ne_eqb}
use Rattle.std.proofs.lemmas.List.{append-nil, drop_at, get_or-take, get_or_at, take_at, take_rest}
use Rattle.std.proofs.lemmas.List.Elements.{All-append, All-cons, All-head, All-nil, All-tail}
use Rattle.std.specs.Prelude.{All, if◌then◌else◌, ◌&&◌, ◌||◌, nat_lt, slice_index, slice_range}
use Rattle.hex.specs.Hex.{decode_of, is_hex_digit}
use Rattle.hex.specs.declared.error.FromHexError.{FromHexError}
use Rattle.hex.proofs.HexLemmas.{decode_of-ok}
use Rattle.pst_model.specs.declared.faults.LineFault.{LineFault}
use Rattle.pst_model.specs.declared.faults.LineFault.TheVariants.{Form}
use Rattle.pst_model.specs.Command.{Command, Arrival, Request, Grant, Idle}
use Rattle.pst_model.specs.Fields.{AreFields, IsBlank, IsSolid, fields_of, is_blank}
use Rattle.pst_model.specs.Forms.{Reading, command_by, command_in, decoded_moment, decoded_packet, moment_in, packet_in, reading_behind, reading_by, reading_in, timed_by}
use Rattle.pst_model.proofs.SplitFields.{are_fields, fields_are, fields_of-blank, fields_of-field}
use Rattle.session_text.specs.Fronts.{front_reading, letter_reading, places_in, trimmed}

-- a blank is no solid octet
blank_solid : (octet : ℕ) → IsBlank octet → IsSolid octet → ⊥
blank_solid octet blank solid = false≢true (sym solid ∙ blank)

-- Blanks in front and behind change none of the fields of a line.

trimmed_by : (octet : ℕ) (line : List ℕ) (blank : Bool) → is_blank octet ≡ blank → trimmed (octet ∷ line) ≡ (if blank then trimmed line else octet ∷ line)
trimmed_by octet line blank is = ap (λ (b : Bool). if b then trimmed line else octet ∷ line) is

fields_of-trimmed : (line : List ℕ) → fields_of (trimmed line) ≡ fields_of line
fields_of-trimmed [] = refl
fields_of-trimmed (octet ∷ line) = by (fields_of-trimmed line) (is_blank octet) refl
  where
    by : fields_of (trimmed line) ≡ fields_of line → (blank : Bool) → is_blank octet ≡ blank → fields_of (trimmed (octet ∷ line)) ≡ fields_of (octet ∷ line)
    by rest true is = ap fields_of (trimmed_by octet line true is) ∙ rest ∙ sym (fields_of-blank octet line is)
    by rest false is = ap fields_of (trimmed_by octet line false is)

first_behind : (rest blanks : List ℕ) → All IsBlank blanks → (rest ≡ []) ⊎ IsBlank (slice_index rest 0) → (rest ++ blanks ≡ []) ⊎ IsBlank (slice_index (rest ++ blanks) 0)
first_behind (octet ∷ rest) blanks all (inl none) = absurd cc
first_behind (octet ∷ rest) blanks all (inr blank) = inr blank
first_behind [] [] all behind = inl refl
first_behind [] (octet ∷ blanks) all behind = inr (All-head IsBlank octet blanks all)

more_behind : (fields : List (List ℕ)) (line blanks : List ℕ) → All IsBlank blanks → AreFields fields line → AreFields fields (line ++ blanks)
more_behind [] line blanks all are = All-append IsBlank line blanks are all
more_behind (field ∷ fields) line blanks all are =
    let first = are.1 in (
      are.0 ++ blanks,
      record {
        blanks = first.blanks;
        split = ap (λ (l : List ℕ). l ++ blanks) first.split ∙ simp append_assoc;
        before = first.before;
        some = first.some;
        solid = first.solid;
        behind = first_behind are.0 blanks all first.behind;
      },
      more_behind fields are.0 blanks all are.2,
    )

pub fields_of-end : (line blanks : List ℕ) → All IsBlank blanks → fields_of (line ++ blanks) ≡ fields_of line
fields_of-end line blanks all = fields_are (fields_of line) (line ++ blanks) (more_behind (fields_of line) line blanks all (are_fields line))

-- A line ends with no blank.

abbrev pub Ends : List ℕ → Type 0
Ends [] = Unit {0}
Ends (octet ∷ []) = IsSolid octet
Ends (octet ∷ next ∷ line) = Ends (next ∷ line)

pub ends_if : (line : List ℕ) → (line ≡ []) ⊎ IsSolid (slice_index line (length line - 1)) → Ends line
ends_if [] last = tt
ends_if (octet ∷ line) (inl none) = absurd cc
ends_if (octet ∷ []) (inr last) = last
ends_if (octet ∷ next ∷ line) (inr last) =
    let behind : length (octet ∷ next ∷ line) - 1 ≡ suc (length (next ∷ line) - 1) = omega arith in
    ends_if (next ∷ line) (inr (subst (λ (k : ℕ). IsSolid (slice_index (octet ∷ next ∷ line) k)) behind last))

ends_rest : (octet : ℕ) (line : List ℕ) → Ends (octet ∷ line) → Ends line
ends_rest octet [] ends = tt
ends_rest octet (next ∷ line) ends = ends

ends_behind : (front line : List ℕ) → Ends (front ++ line) → Ends line
ends_behind [] line ends = ends
ends_behind (octet ∷ front) line ends = ends_behind front line (ends_rest octet (front ++ line) ends)

pub ends_trimmed : (line : List ℕ) → Ends line → Ends (trimmed line)
ends_trimmed [] ends = tt
ends_trimmed (octet ∷ line) ends = by (ends_trimmed line (ends_rest octet line ends)) (is_blank octet) refl
  where
    by : Ends (trimmed line) → (blank : Bool) → is_blank octet ≡ blank → Ends (trimmed (octet ∷ line))
    by rest true is = subst Ends (sym (trimmed_by octet line true is)) rest
    by rest false is = subst Ends (sym (trimmed_by octet line false is)) ends

-- without the blanks in front it begins with none, and is some line where it was one
pub trimmed_first : (line : List ℕ) → (trimmed line ≡ []) ⊎ IsSolid (slice_index (trimmed line) 0)
trimmed_first [] = inl refl
trimmed_first (octet ∷ line) = by (trimmed_first line) (is_blank octet) refl
  where
    by : (trimmed line ≡ []) ⊎ IsSolid (slice_index (trimmed line) 0) → (blank : Bool) → is_blank octet ≡ blank → (trimmed (octet ∷ line) ≡ []) ⊎ IsSolid (slice_index (trimmed (octet ∷ line)) 0)
    by rest true is = subst (λ (l : List ℕ). (l ≡ []) ⊎ IsSolid (slice_index l 0)) (sym (trimmed_by octet line true is)) rest
    by rest false is = inr (subst (λ (l : List ℕ). IsSolid (slice_index l 0)) (sym (trimmed_by octet line false is)) is)

trimmed_some : (line : List ℕ) → line ≢ [] → Ends line → trimmed line ≢ []
trimmed_some [] some ends none = absurd (some refl)
trimmed_some (octet ∷ []) some ends none = let is : octet ∷ [] ≡ [] = sym (trimmed_by octet [] false ends) ∙ none in cc
trimmed_some (octet ∷ next ∷ line) some ends none = by (trimmed_some (next ∷ line) (λ e. cc) ends) (is_blank octet) refl
  where
    by : trimmed (next ∷ line) ≢ [] → (blank : Bool) → is_blank octet ≡ blank → ⊥
    by rest true is = rest (sym (trimmed_by octet (next ∷ line) true is) ∙ none)
    by rest false is = let no : octet ∷ next ∷ line ≡ [] = sym (trimmed_by octet (next ∷ line) false is) ∙ none in cc

-- what a line has up to its first blank
record Front (line : List ℕ) : Type 0 where
  field : List ℕ
  rest : List ℕ
  split : line ≡ field ++ rest
  solid : All IsSolid field
  behind : (rest ≡ []) ⊎ IsBlank (slice_index rest 0)

front_of : (line : List ℕ) → Front line
front_of [] = record { field = []; rest = []; split = refl; solid = All-nil IsSolid; behind = inl refl }
front_of (octet ∷ line) = by (is_blank octet) refl (front_of line)
  where
    by : (blank : Bool) → is_blank octet ≡ blank → Front line → Front (octet ∷ line)
    by true is front = record { field = []; rest = octet ∷ line; split = refl; solid = All-nil IsSolid; behind = inr is }
    by false is front = record {
      field = octet ∷ front.field;
      rest = front.rest;
      split = ap (λ (l : List ℕ). octet ∷ l) front.split;
      solid = All-cons IsSolid octet front.field is front.solid;
      behind = front.behind;
    }

-- the first field of a line that begins and ends with no blank
record First (line : List ℕ) : Type 0 where
  field : List ℕ
  rest : List ℕ
  split : line ≡ field ++ rest
  solid : All IsSolid field
  behind : (rest ≡ []) ⊎ IsBlank (slice_index rest 0)
  fields : fields_of line ≡ field ∷ fields_of rest
  ends : Ends rest

first_by : (line field rest : List ℕ) → line ≡ field ++ rest → All IsSolid field → (rest ≡ []) ⊎ IsBlank (slice_index rest 0) → line ≢ [] → IsSolid (slice_index line 0) → Ends line → First line
first_by line [] rest split solid (inl none) some first ends = absurd (some (split ∙ none))
first_by line [] rest split solid (inr blank) some first ends = absurd (blank_solid (slice_index rest 0) blank (subst (λ (l : List ℕ). IsSolid (slice_index l 0)) split first))
first_by line (octet ∷ field) rest split solid behind some first ends = record {
  field = octet ∷ field;
  rest = rest;
  split = split;
  solid = solid;
  behind = behind;
  fields = ap fields_of split ∙ fields_of-field (octet ∷ field) rest (λ e. cc) solid behind;
  ends = ends_behind (octet ∷ field) rest (subst Ends split ends);
}

first_of : (line : List ℕ) → line ≢ [] → IsSolid (slice_index line 0) → Ends line → First line
first_of line some first ends = let front = front_of line in first_by line front.field front.rest front.split front.solid front.behind some first ends

solid_first : (line : List ℕ) → line ≢ [] → (line ≡ []) ⊎ IsSolid (slice_index line 0) → IsSolid (slice_index line 0)
solid_first line some (inl none) = absurd (some none)
solid_first line some (inr solid) = solid

-- the field behind blanks
next_of : (line : List ℕ) → line ≢ [] → Ends line → First (trimmed line)
next_of line some ends =
    let others = trimmed_some line some ends in
    first_of (trimmed line) others (solid_first (trimmed line) others (trimmed_first line)) (ends_trimmed line ends)

fields_some : (line : List ℕ) → line ≢ [] → Ends line → (field : List ℕ) × (fields : List (List ℕ)) × (fields_of line ≡ field ∷ fields)
fields_some line some ends = let next = next_of line some ends in (next.field, fields_of next.rest, sym (fields_of-trimmed line) ∙ next.fields)

-- No digit is a blank, so what has a blank neither is a moment nor spells a packet.

digit_solid : (octet : ℕ) → is_hex_digit octet ≡ true → IsSolid octet
digit_solid octet digit = by (cases_eq octet 32) (cases_eq octet 9)
  where
    by : (octet ≡ 32) ⊎ (octet ≡ 32 → ⊥) → (octet ≡ 9) ⊎ (octet ≡ 9 → ⊥) → IsSolid octet
    by (inl space) tab = let no : false ≡ true = subst (λ (o : ℕ). is_hex_digit o ≡ true) space digit in absurd cc
    by (inr other) (inl tab) = let no : false ≡ true = subst (λ (o : ℕ). is_hex_digit o ≡ true) tab digit in absurd cc
    by (inr other) (inr another) = ap (λ (b : Bool). b || (octet == 9)) (ne_eqb octet 32 other) ∙ ne_eqb octet 9 another

all_right : (front line : List ℕ) → All IsSolid (front ++ line) → All IsSolid line
all_right [] line all = all
all_right (octet ∷ front) line all = all_right front line (All-tail IsSolid octet (front ++ line) all)

not_solid : (front line : List ℕ) → line ≢ [] → IsBlank (slice_index line 0) → All IsSolid (front ++ line) → ⊥
not_solid front [] some blank all = some refl
not_solid front (octet ∷ line) some blank all = blank_solid octet blank (All-head IsSolid octet line (all_right front (octet ∷ line) all))

undecoded : (front line : List ℕ) → line ≢ [] → IsBlank (slice_index line 0) → (fault : FromHexError) × (decode_of (front ++ line) ≡ Err fault)
undecoded front line some blank = by (decode_of (front ++ line)) refl
  where
    by : (decoded : Result (List ℕ) FromHexError) → decode_of (front ++ line) ≡ decoded → (fault : FromHexError) × (decode_of (front ++ line) ≡ Err fault)
    by (Err fault) is = (fault, is)
    by (Ok octets) is =
        let digits = (decode_of-ok (front ++ line) octets is).1 in absurd (not_solid front line some blank (λ k d l. digit_solid (get_or (front ++ line) k d) (digits k d l)))

no_moment : (front line : List ℕ) → line ≢ [] → IsBlank (slice_index line 0) → moment_in (front ++ line) ≡ None
no_moment front line some blank = let fault = undecoded front line some blank in ap (λ (d : Result (List ℕ) FromHexError). if length (front ++ line) == 12 then decoded_moment d else None) fault.1 ∙ by (length (front ++ line) == 12)
  where
    nothing : Option ℕ
    nothing = None

    by : (twelve : Bool) → (if twelve then nothing else nothing) ≡ nothing
    by true = refl
    by false = refl

no_packet : (front line : List ℕ) → line ≢ [] → IsBlank (slice_index line 0) → packet_in (front ++ line) ≡ Err Form
no_packet front line some blank = let fault = undecoded front line some blank in ap (λ (d : Result (List ℕ) FromHexError). if nat_lt (length (front ++ line)) 2 then Err Form else decoded_packet d) fault.1 ∙ by (nat_lt (length (front ++ line)) 2)
  where
    formless : Result (List ℕ) LineFault
    formless = Err Form

    by : (short : Bool) → (if short then formless else formless) ≡ formless
    by true = refl
    by false = refl

-- What stands behind the letter.

long_field : (field rest : List ℕ) → All IsSolid field → 12 < length field → IsSolid (slice_index (field ++ rest) 12)
long_field field rest all long = subst IsSolid (sym (at field 12 long)) (all 12 0 long)
  where
    at : (xs : List ℕ) (k : ℕ) → k < length xs → slice_index (xs ++ rest) k ≡ get_or xs k 0
    at [] k within = absurd (omega arith)
    at (x ∷ xs) zero within = refl
    at (x ∷ xs) (suc k) within = at xs k (omega arith)

-- no blank stands behind twelve octets
no_places : (make : ℕ → List ℕ → Command) (rest : List ℕ) → (nat_lt 12 (length rest) && is_blank (slice_index rest 12)) ≡ false → places_in make rest ≡ Err Form
no_places make rest is = cond-false (nat_lt 12 (length rest) && is_blank (slice_index rest 12)) (command_in make (moment_in (take 12 rest)) (trimmed (drop 13 rest))) (Err Form) is

solid_there : (long : Bool) (octet : ℕ) → IsSolid octet → (long && is_blank octet) ≡ false
solid_there true octet solid = solid
solid_there false octet solid = refl

not_long : (field : List ℕ) → All IsSolid field → (nat_lt 12 (length field) && is_blank (slice_index field 12)) ≡ false
not_long field all = by (cases_lt 12 (length field))
  where
    by : (12 < length field) ⊎ (length field ≤ 12) → (nat_lt 12 (length field) && is_blank (slice_index field 12)) ≡ false
    by (inl long) = solid_there (nat_lt 12 (length field)) (slice_index field 12) (all 12 0 long)
    by (inr short) = ap (λ (b : Bool). b && is_blank (slice_index field 12)) (le-ltb 12 (length field) short)

take_within : (n : ℕ) (front : List ℕ) (octet : ℕ) (line : List ℕ) → length front < n → (more : List ℕ) × (take n (front ++ octet ∷ line) ≡ front ++ octet ∷ more)
take_within zero front octet line within = absurd (omega arith)
take_within (suc n) [] octet line within = (take n line, refl)
take_within (suc n) (first ∷ front) octet line within =
    let rest = take_within n front octet line (omega arith) in (rest.0, ap (λ (l : List ℕ). first ∷ l) rest.1)

no_twelve : (field : List ℕ) → (length field ≡ 12 → ⊥) → moment_in field ≡ None
no_twelve field other = cond-false (length field == 12) (decoded_moment (decode_of field)) None (ne_eqb (length field) 12 other)

-- the moment is the first field, and the other fields are those of the packet
places_are : (make : ℕ → List ℕ → Command) (field : List ℕ) (octet : ℕ) (rest : List ℕ) → All IsSolid field → IsBlank octet
    → places_in make (field ++ octet ∷ rest) ≡ command_in make (moment_in field) (trimmed rest)
places_are make field octet rest all blank = by (cases_eq (length field) 12)
  where
    other : (length field < 12) ⊎ (12 ≤ length field) → (length field ≡ 12 → ⊥) → places_in make (field ++ octet ∷ rest) ≡ Err Form
    other (inl below) unlike =
        let front = take_within 12 field octet rest below in
        tests (nat_lt 12 (length (field ++ octet ∷ rest)) && is_blank (slice_index (field ++ octet ∷ rest) 12)) refl
        (ap moment_in front.1 ∙ no_moment field (octet ∷ front.0) (λ e. cc) blank)
      where
        tests : (there : Bool) → (nat_lt 12 (length (field ++ octet ∷ rest)) && is_blank (slice_index (field ++ octet ∷ rest) 12)) ≡ there → moment_in (take 12 (field ++ octet ∷ rest)) ≡ None
            → places_in make (field ++ octet ∷ rest) ≡ Err Form
        tests true is none =
            cond-true (nat_lt 12 (length (field ++ octet ∷ rest)) && is_blank (slice_index (field ++ octet ∷ rest) 12)) (command_in make (moment_in (take 12 (field ++ octet ∷ rest))) (trimmed (drop 13 (field ++ octet ∷ rest)))) (Err Form) is
            ∙ ap (λ (m : Option ℕ). command_in make m (trimmed (drop 13 (field ++ octet ∷ rest)))) none
        tests false is none = no_places make (field ++ octet ∷ rest) is
    other (inr above) unlike = no_places make (field ++ octet ∷ rest) (solid_there (nat_lt 12 (length (field ++ octet ∷ rest))) (slice_index (field ++ octet ∷ rest) 12) (long_field field (octet ∷ rest) all (omega arith)))

    by : (length field ≡ 12) ⊎ (length field ≡ 12 → ⊥) → places_in make (field ++ octet ∷ rest) ≡ command_in make (moment_in field) (trimmed rest)
    by (inl is) =
        let long : nat_lt 12 (length (field ++ octet ∷ rest)) ≡ true = lt-ltb 12 (length (field ++ octet ∷ rest)) (omega (arith, length-append field (octet ∷ rest))) in
        let there : is_blank (slice_index (field ++ octet ∷ rest) 12) ≡ true = ap is_blank (get_or_at field octet rest 0 12 is) ∙ blank in
        let behind : drop 13 (field ++ octet ∷ rest) ≡ rest = ap (drop 13) (split_one field octet rest) ∙ drop_at (field ++ octet ∷ []) rest 13 (length-append field (octet ∷ []) ∙ ap (λ (n : ℕ). n + 1) is) in
        cond-true (nat_lt 12 (length (field ++ octet ∷ rest)) && is_blank (slice_index (field ++ octet ∷ rest) 12)) _ (Err Form) (ap (λ (b : Bool). b && is_blank (slice_index (field ++ octet ∷ rest) 12)) long ∙ there)
        ∙ ap (λ (d : List ℕ). command_in make (moment_in d) (trimmed (drop 13 (field ++ octet ∷ rest)))) (take_at field (octet ∷ rest) 12 is)
        ∙ ap (λ (h : List ℕ). command_in make (moment_in field) (trimmed h)) behind
      where
        split_one : (front : List ℕ) (o : ℕ) (line : List ℕ) → front ++ o ∷ line ≡ (front ++ o ∷ []) ++ line
        split_one front o line = simp append_assoc
    by (inr unlike) = other (cases_lt (length field) 12) unlike ∙ sym (ap (λ (m : Option ℕ). command_in make m (trimmed rest)) (no_twelve field unlike))

-- a packet with a blank among its digits
command_blank : (make : ℕ → List ℕ → Command) (moment : Option ℕ) (front line : List ℕ) → line ≢ [] → IsBlank (slice_index line 0) → command_in make moment (front ++ line) ≡ Err Form
command_blank make (Some moment) front line some blank = rw (no_packet front line some blank) refl
command_blank make None front line some blank = refl

-- Each letter has one use.

abbrev Uses : (letter : ℕ) (arrival request grant idle : Reading) → Reading
Uses letter arrival request grant idle =
    if letter == 65 then arrival else if letter == 82 then request else if letter == 71 then grant else if letter == 73 then idle else Err Form

use_timed : (letter : ℕ) (grant idle : Reading) → (if letter == 71 then grant else if letter == 73 then idle else Err Form) ≡ Uses letter (Err Form) (Err Form) grant idle
use_timed letter grant idle = by (cases_eq letter 65) (cases_eq letter 82)
  where
    by : (letter ≡ 65) ⊎ (letter ≡ 65 → ⊥) → (letter ≡ 82) ⊎ (letter ≡ 82 → ⊥)
        → (if letter == 71 then grant else if letter == 73 then idle else Err Form) ≡ Uses letter (Err Form) (Err Form) grant idle
    by (inl is) other = subst (λ (l : ℕ). (if l == 71 then grant else if l == 73 then idle else Err Form) ≡ Uses l (Err Form) (Err Form) grant idle) (sym is) refl
    by (inr other) (inl is) = subst (λ (l : ℕ). (if l == 71 then grant else if l == 73 then idle else Err Form) ≡ Uses l (Err Form) (Err Form) grant idle) (sym is) refl
    by (inr other) (inr none) = sym (cond-false (letter == 65) (Err Form) _ (ne_eqb letter 65 other) ∙ cond-false (letter == 82) (Err Form) _ (ne_eqb letter 82 none))

use_packet : (letter : ℕ) (arrival request : Reading) → (if letter == 65 then arrival else if letter == 82 then request else Err Form) ≡ Uses letter arrival request (Err Form) (Err Form)
use_packet letter arrival request = by (letter == 65) (letter == 82) (letter == 71) (letter == 73)
  where
    by : (a b c d : Bool) → (if a then arrival else if b then request else Err Form) ≡ (if a then arrival else if b then request else if c then Err Form else if d then Err Form else Err Form)
    by true b c d = refl
    by false true c d = refl
    by false false true d = refl
    by false false false true = refl
    by false false false false = refl

abbrev no_form : Reading
no_form = Err Form

use_none : (letter : ℕ) → no_form ≡ Uses letter (Err Form) (Err Form) (Err Form) (Err Form)
use_none letter = by (letter == 65) (letter == 82) (letter == 71) (letter == 73)
  where
    by : (a b c d : Bool) → no_form ≡ (if a then no_form else if b then no_form else if c then no_form else if d then no_form else no_form)
    by true b c d = refl
    by false true c d = refl
    by false false true d = refl
    by false false false true = refl
    by false false false false = refl

uses_same : (letter : ℕ) (a a' r r' g g' i i' : Reading) → a' ≡ a → r' ≡ r → g' ≡ g → i' ≡ i → Uses letter a r g i ≡ Uses letter a' r' g' i'
uses_same letter a a' r r' g g' i i' p q s t = rw (p, q, s, t) refl

-- several fields behind the letter
module _ (letter : ℕ) (rest : List ℕ) (first : First rest) (octet : ℕ) (line : List ℕ) (blank : IsBlank octet) (is : rest ≡ first.field ++ octet ∷ line) (next : First (trimmed line)) where
  others : fields_of (octet ∷ line) ≡ next.field ∷ fields_of next.rest
  others = fields_of-blank octet line blank ∙ sym (fields_of-trimmed line) ∙ next.fields

  place : (make : ℕ → List ℕ → Command) → places_in make rest ≡ command_in make (moment_in first.field) (next.field ++ next.rest)
  place make = ap (places_in make) is ∙ places_are make first.field octet line first.solid blank ∙ ap (command_in make (moment_in first.field)) next.split

  untimed : (make : ℕ → Command) → timed_by make (moment_in rest) ≡ Err Form
  untimed make = ap (λ (l : List ℕ). timed_by make (moment_in l)) is ∙ ap (timed_by make) (no_moment first.field (octet ∷ line) (λ e. cc) blank)

  with_more : (more : List ℕ) → next.rest ≡ more → (more ≡ []) ⊎ IsBlank (slice_index more 0) → Ends more → reading_by letter (first.field ∷ next.field ∷ fields_of more) ≡ letter_reading letter rest
  with_more [] none behind ends =
      let packet = λ (make : ℕ → List ℕ → Command). place make ∙ ap (λ (l : List ℕ). command_in make (moment_in first.field) l) (ap (λ (l : List ℕ). next.field ++ l) none ∙ append-nil next.field) in
      use_packet letter (command_in Arrival (moment_in first.field) next.field) (command_in Request (moment_in first.field) next.field)
      ∙ uses_same letter _ (places_in Arrival rest) _ (places_in Request rest) (Err Form) (timed_by Grant (moment_in rest)) (Err Form) (timed_by Idle (moment_in rest))
      (packet Arrival) (packet Request) (untimed Grant) (untimed Idle)
  with_more (o ∷ more) some (inl none) ends = absurd cc
  with_more (o ∷ more) some (inr there) ends =
      let third = fields_some (o ∷ more) (λ e. cc) ends in
      let packet = λ (make : ℕ → List ℕ → Command). place make ∙ ap (λ (l : List ℕ). command_in make (moment_in first.field) (next.field ++ l)) some ∙ command_blank make (moment_in first.field) next.field (o ∷ more) (λ e. cc) there in
      ap (λ (fs : List (List ℕ)). reading_by letter (first.field ∷ next.field ∷ fs)) third.2
      ∙ use_none letter
      ∙ uses_same letter (Err Form) (places_in Arrival rest) (Err Form) (places_in Request rest) (Err Form) (timed_by Grant (moment_in rest)) (Err Form) (timed_by Idle (moment_in rest))
      (packet Arrival) (packet Request) (untimed Grant) (untimed Idle)

  several : reading_by letter (first.field ∷ fields_of (octet ∷ line)) ≡ letter_reading letter rest
  several = ap (λ (fs : List (List ℕ)). reading_by letter (first.field ∷ fs)) others ∙ with_more next.rest refl next.behind next.ends

-- the fields behind the letter
letter_fields : (letter : ℕ) (rest : List ℕ) → First rest → reading_by letter (fields_of rest) ≡ letter_reading letter rest
letter_fields letter rest first = ap (reading_by letter) first.fields ∙ by first.rest first.behind first.ends first.split
  where
    -- one field
    alone : rest ≡ first.field → reading_by letter (first.field ∷ []) ≡ letter_reading letter rest
    alone is = use_timed letter (timed_by Grant (moment_in first.field)) (timed_by Idle (moment_in first.field))
        ∙ uses_same letter (Err Form) (places_in Arrival rest) (Err Form) (places_in Request rest) (timed_by Grant (moment_in first.field)) (timed_by Grant (moment_in rest)) (timed_by Idle (moment_in first.field)) (timed_by Idle (moment_in rest))
        (ap (places_in Arrival) is ∙ no_places Arrival first.field (not_long first.field first.solid))
        (ap (places_in Request) is ∙ no_places Request first.field (not_long first.field first.solid))
        (ap (λ (l : List ℕ). timed_by Grant (moment_in l)) is)
        (ap (λ (l : List ℕ). timed_by Idle (moment_in l)) is)

    no_end : (octet : ℕ) → IsBlank octet → Ends (octet ∷ []) → ⊥
    no_end octet blank ends = blank_solid octet blank ends

    by : (line : List ℕ) → (line ≡ []) ⊎ IsBlank (slice_index line 0) → Ends line → rest ≡ first.field ++ line → reading_by letter (first.field ∷ fields_of line) ≡ letter_reading letter rest
    by [] behind ends is = alone (is ∙ append-nil first.field)
    by (octet ∷ line) (inl none) ends is = absurd cc
    by (octet ∷ []) (inr blank) ends is = absurd (no_end octet blank ends)
    by (octet ∷ o ∷ line) (inr blank) ends is = several letter rest first octet (o ∷ line) blank is (next_of (o ∷ line) (λ e. cc) ends)

-- The whole line.

comment_or : (letter : ℕ) (a b : Reading) → a ≡ b → (if letter == 35 then Ok None else a) ≡ (if letter == 35 then Ok None else b)
comment_or letter a b is = ap (λ (r : Reading). if letter == 35 then Ok None else r) is

pub front_says : (line : List ℕ) → (line ≡ []) ⊎ IsSolid (slice_index line 0) → Ends line → reading_in (fields_of line) ≡ front_reading line
front_says [] first ends = refl
front_says (letter ∷ rest) (inl none) ends = absurd cc
front_says (letter ∷ rest) (inr solid) ends = by rest refl (is_blank (slice_index rest 0)) refl
  where
    one : All IsSolid (letter ∷ [])
    one = All-cons IsSolid letter [] solid (All-nil IsSolid)

    by : (line : List ℕ) → rest ≡ line → (blank : Bool) → is_blank (slice_index rest 0) ≡ blank → reading_in (fields_of (letter ∷ rest)) ≡ front_reading (letter ∷ rest)
    by [] is blank tests =
        ap (λ (l : List ℕ). reading_in (fields_of (letter ∷ l))) is ∙ ap reading_in (fields_of-field (letter ∷ []) [] (λ e. cc) one (inl refl))
        ∙ sym (ap (λ (l : List ℕ). front_reading (letter ∷ l)) is)
    by (octet ∷ line) is true tests =
        let blank : IsBlank octet = ap (λ (l : List ℕ). is_blank (slice_index l 0)) (sym is) ∙ tests in
        let some : rest ≢ [] = λ none. let no : octet ∷ line ≡ [] = sym is ∙ none in cc in
        ap reading_in (fields_of-field (letter ∷ []) rest (λ e. cc) one (inr tests))
        ∙ comment_or letter (reading_by letter (fields_of rest)) (if is_blank (slice_index rest 0) then letter_reading letter (trimmed rest) else Err Form)
        (ap (reading_by letter) (sym (fields_of-trimmed rest)) ∙ letter_fields letter (trimmed rest) (next_of rest some (ends_rest letter rest ends))
        ∙ sym (cond-true (is_blank (slice_index rest 0)) (letter_reading letter (trimmed rest)) (Err Form) tests))
    by (octet ∷ line) is false tests =
        let second : IsSolid octet = ap (λ (l : List ℕ). is_blank (slice_index l 0)) (sym is) ∙ tests in
        let front = front_of line in
        let solids : All IsSolid (letter ∷ octet ∷ front.field) = All-cons IsSolid letter (octet ∷ front.field) solid (All-cons IsSolid octet front.field second front.solid) in
        ap (λ (l : List ℕ). reading_in (fields_of (letter ∷ l))) (is ∙ ap (λ (l : List ℕ). octet ∷ l) front.split)
        ∙ ap reading_in (fields_of-field (letter ∷ octet ∷ front.field) front.rest (λ e. cc) solids front.behind)
        ∙ comment_or letter (Err Form) (if is_blank (slice_index rest 0) then letter_reading letter (trimmed rest) else Err Form)
        (sym (cond-false (is_blank (slice_index rest 0)) (letter_reading letter (trimmed rest)) (Err Form) tests))

-- the last octet of what is taken of a line
pub last_taken : (line : List ℕ) (to : ℕ) → 0 < to → to ≤ length line → is_blank (slice_index line (to - 1)) ≡ false → IsSolid (slice_index (take to line) (length (take to line) - 1))
last_taken line to some within solid =
    let size : length (take to line) ≡ to = omega (arith, length-take to line) in
    subst (λ (k : ℕ). IsSolid (slice_index (take to line) (k - 1))) (sym size) (ap is_blank (get_or-take to line (to - 1) 0 (omega arith)) ∙ solid)

-- of a line without the blanks behind, and then without those in front
pub line_says : (line rest blanks : List ℕ) → line ≡ rest ++ blanks → All IsBlank blanks → (rest ≡ []) ⊎ IsSolid (slice_index rest (length rest - 1)) → reading_in (fields_of line) ≡ front_reading (trimmed rest)
line_says line rest blanks split all last =
    ap (λ (l : List ℕ). reading_in (fields_of l)) split ∙ ap reading_in (fields_of-end rest blanks all ∙ sym (fields_of-trimmed rest))
    ∙ front_says (trimmed rest) (trimmed_first rest) (ends_trimmed rest (ends_if rest last))

-- the same by the parts that were found in a line

pub places_there : (make : ℕ → List ℕ → Command) (rest hex : List ℕ) (moment : ℕ) → 13 ≤ length rest → is_blank (slice_index rest 12) ≡ true → moment_in (take 12 rest) ≡ Some moment
    → hex ≡ trimmed (slice_range rest 13 (length rest)) → places_in make rest ≡ command_by make moment (packet_in hex)
places_there make rest hex moment long blank time same =
    cond-true (nat_lt 12 (length rest) && is_blank (slice_index rest 12)) (command_in make (moment_in (take 12 rest)) (trimmed (drop 13 rest))) (Err Form)
    (ap (λ (b : Bool). b && is_blank (slice_index rest 12)) (lt-ltb 12 (length rest) (omega arith)) ∙ blank)
    ∙ ap (λ (m : Option ℕ). command_in make m (trimmed (drop 13 rest))) time ∙ ap (λ (h : List ℕ). command_by make moment (packet_in h)) (sym (same ∙ ap trimmed (take_rest rest 13)))

pub front_there : (line rest : List ℕ) → 2 ≤ length line → (slice_index line 0 ≡ 35 → ⊥) → is_blank (slice_index line 1) ≡ true → rest ≡ trimmed (slice_range line 1 (length line))
    → front_reading line ≡ letter_reading (slice_index line 0) rest
front_there [] rest some other blank same = absurd (omega arith)
front_there (letter ∷ line) rest some other blank same =
    cond-false (letter == 35) (Ok None) (if is_blank (slice_index line 0) then letter_reading letter (trimmed line) else Err Form) (ne_eqb letter 35 other)
    ∙ cond-true (is_blank (slice_index line 0)) (letter_reading letter (trimmed line)) (Err Form) blank
    ∙ ap (letter_reading letter) (sym (same ∙ ap trimmed (take_rest (letter ∷ line) 1)))
