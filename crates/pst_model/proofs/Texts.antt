-- How a text falls into lines, at its front.
use Rattle.std.proofs.Common.{◌≡◌, ◌≢◌, inl, inr, ℕ, zero, suc, ◌<◌, ◌≤◌, true, false, List, [], ◌∷◌, ◌++◌, length, get_or, refl, sym, ◌∙◌, ap, subst, arith}
use Rattle.std.proofs.lemmas.Bool.{cases_eq, ne_eqb}
use Rattle.std.specs.Prelude.{Contains, filter, ◌⊎◌}
use Rattle.pst_model.specs.Text.{Line, in_front, lines_in, whole_lines}

pub other_head : (octet : ℕ) (text : List ℕ) → ¬ (Contains (octet ∷ text) 10) → octet ≢ 10
other_head octet text none is = none (0, omega arith, is)

pub other_rest : (octet : ℕ) (text : List ℕ) → ¬ (Contains (octet ∷ text) 10) → ¬ (Contains text 10)
other_rest octet text none held = none (suc held.0, omega arith, held.2)

-- an octet other than LF stands in front of the line behind it
pub lines_in-other : (octet : ℕ) (text : List ℕ) → octet ≢ 10 → lines_in (octet ∷ text) ≡ in_front octet (lines_in text)
lines_in-other octet text other = rw (ne_eqb octet 10 other) refl

pub lines_in-ended : (line rest : List ℕ) → ¬ (Contains line 10) → lines_in (line ++ 10 ∷ rest) ≡ record { octets = line; ended = true } ∷ lines_in rest
lines_in-ended [] rest none = refl
lines_in-ended (octet ∷ line) rest none =
    lines_in-other octet (line ++ 10 ∷ rest) (other_head octet line none) ∙ ap (in_front octet) (lines_in-ended line rest (other_rest octet line none))

pub lines_in-unended : (text : List ℕ) → ¬ (Contains text 10) → text ≢ [] → lines_in text ≡ record { octets = text; ended = false } ∷ []
lines_in-unended [] none some = absurd (some refl)
lines_in-unended (octet ∷ []) none some = lines_in-other octet [] (other_head octet [] none)
lines_in-unended (octet ∷ next ∷ text) none some =
    lines_in-other octet (next ∷ text) (other_head octet (next ∷ text) none) ∙ ap (in_front octet) (lines_in-unended (next ∷ text) (other_rest octet (next ∷ text) none) (λ is. cc))

-- there is a line behind an octet
pub in_front-some : (octet : ℕ) (behind : List Line) → (line : Line) × (lines : List Line) × (in_front octet behind ≡ line ∷ lines) × (1 ≤ length line.octets)
in_front-some octet [] = (record { octets = octet ∷ []; ended = false }, [], refl, omega arith)
in_front-some octet (line ∷ lines) = (record { octets = octet ∷ line.octets; ended = line.ended }, lines, refl, omega arith)

-- a text without lines is empty
pub lines_in-none : (text : List ℕ) → lines_in text ≡ [] → text ≡ []
lines_in-none [] is = refl
lines_in-none (octet ∷ text) is = absurd (by (cases_eq octet 10))
  where
    by : (octet ≡ 10) ⊎ (octet ≡ 10 → ⊥) → ⊥
    by (inl same) = let no : record { octets = []; ended = true } ∷ lines_in text ≡ [] = subst (λ (o : ℕ). lines_in (o ∷ text) ≡ []) same is in cc
    by (inr other) = let first = in_front-some octet (lines_in text) in let no : first.0 ∷ first.1 ≡ [] = sym first.2 ∙ sym (lines_in-other octet text other) ∙ is in cc

pub lines_in-front : (front rest : List ℕ) → ¬ (Contains front 10) → front ≢ [] → (line : Line) × (lines : List Line) × (lines_in (front ++ rest) ≡ line ∷ lines) × (length front ≤ length line.octets)
lines_in-front [] rest none some = absurd (some refl)
lines_in-front (octet ∷ []) rest none some =
    let first = in_front-some octet (lines_in rest) in (first.0, first.1, lines_in-other octet rest (other_head octet [] none) ∙ first.2, first.3)
lines_in-front (octet ∷ next ∷ front) rest none some =
    let behind = lines_in-front (next ∷ front) rest (other_rest octet (next ∷ front) none) (λ is. cc) in (
      record { octets = octet ∷ behind.0.octets; ended = behind.0.ended },
      behind.1,
      lines_in-other octet (next ∷ front ++ rest) (other_head octet (next ∷ front) none) ∙ ap (in_front octet) behind.2,
      omega (arith, behind.3),
    )

-- the line is what the text has up to its first LF, and the lines are those behind it
abbrev Begins : List ℕ → Line → List Line → Type 0
Begins text line lines = (rest : List ℕ) × (text ≡ line.octets ++ 10 ∷ rest) × ¬ (Contains line.octets 10) × (lines ≡ lines_in rest)

pub none_more : (octet : ℕ) (text : List ℕ) → octet ≢ 10 → ¬ (Contains text 10) → ¬ (Contains (octet ∷ text) 10)
none_more octet text other none held = at held.0 held.1 held.2
  where
    at : (k : ℕ) → k < length (octet ∷ text) → get_or (octet ∷ text) k 10 ≡ 10 → ⊥
    at zero within is = other is
    at (suc k) within is = none (k, omega arith, is)

begins_empty : (text : List ℕ) (line : Line) (lines : List Line) → record { octets = []; ended = true } ∷ lines_in text ≡ line ∷ lines → Begins (10 ∷ text) line lines
begins_empty text line lines is =
    let first : record { octets = []; ended = true } ≡ line = cc in
    let behind : lines_in text ≡ lines = cc in
    let empty : [] ≡ line.octets = ap (λ (l : Line). l.octets) first in (
      text,
      subst (λ (front : List ℕ). 10 ∷ text ≡ front ++ 10 ∷ text) empty refl,
      subst (λ (front : List ℕ). ¬ (Contains front 10)) empty (λ held. omega (arith, held.1)),
      sym behind,
    )

begins_more : (octet : ℕ) (text : List ℕ) (line next : Line) (lines behind : List Line) → octet ≢ 10 → record { octets = octet ∷ next.octets; ended = next.ended } ∷ behind ≡ line ∷ lines → Begins text next behind → Begins (octet ∷ text) line lines
begins_more octet text line next lines behind other is begins =
    let first : record { octets = octet ∷ next.octets; ended = next.ended } ≡ line = cc in
    let same : behind ≡ lines = cc in
    let octets : octet ∷ next.octets ≡ line.octets = ap (λ (l : Line). l.octets) first in (
      begins.0,
      subst (λ (front : List ℕ). octet ∷ text ≡ front ++ 10 ∷ begins.0) octets (ap (λ (t : List ℕ). octet ∷ t) begins.1),
      subst (λ (front : List ℕ). ¬ (Contains front 10)) octets (none_more octet next.octets other begins.2),
      sym same ∙ begins.3,
    )

-- by what stands behind the first octet
begins_other : (octet : ℕ) (text : List ℕ) (line : Line) (lines : List Line) → octet ≢ 10 → line.ended ≡ true
    → (behind : List Line) → ((next : Line) (others : List Line) → behind ≡ next ∷ others → next.ended ≡ true → Begins text next others) → in_front octet behind ≡ line ∷ lines → Begins (octet ∷ text) line lines
begins_other octet text line lines other ended [] each is =
    let first : record { octets = octet ∷ []; ended = false } ≡ line = cc in
    let no : false ≡ true = ap (λ (l : Line). l.ended) first ∙ ended in absurd cc
begins_other octet text line lines other ended (next ∷ behind) each is =
    let first : record { octets = octet ∷ next.octets; ended = next.ended } ≡ line = cc in
    begins_more octet text line next lines behind other is (each next behind refl (ap (λ (l : Line). l.ended) first ∙ ended))

begins_by : (octet : ℕ) (text : List ℕ) (line : Line) (lines : List Line) → line.ended ≡ true → ((next : Line) (others : List Line) → lines_in text ≡ next ∷ others → next.ended ≡ true → Begins text next others)
    → lines_in (octet ∷ text) ≡ line ∷ lines → (octet ≡ 10) ⊎ (octet ≡ 10 → ⊥) → Begins (octet ∷ text) line lines
begins_by octet text line lines ended each is (inl same) =
    subst (λ (o : ℕ). Begins (o ∷ text) line lines) (sym same) (begins_empty text line lines (subst (λ (o : ℕ). lines_in (o ∷ text) ≡ line ∷ lines) same is))
begins_by octet text line lines ended each is (inr other) =
    begins_other octet text line lines other ended (lines_in text) each (sym (lines_in-other octet text other) ∙ is)

-- an ended first line is what the text has up to its first LF
pub first_line : (text : List ℕ) (line : Line) (lines : List Line) → lines_in text ≡ line ∷ lines → line.ended ≡ true → (rest : List ℕ) × (text ≡ line.octets ++ 10 ∷ rest) × ¬ (Contains line.octets 10) × (lines ≡ lines_in rest)
first_line [] line lines is ended = absurd cc
first_line (octet ∷ text) line lines is ended = begins_by octet text line lines ended (first_line text) is (cases_eq octet 10)

pub whole_lines-none : (held : List ℕ) → ¬ (Contains held 10) → whole_lines held ≡ []
whole_lines-none [] none = refl
whole_lines-none (octet ∷ held) none = ap (filter (λ (line : Line). line.ended)) (lines_in-unended (octet ∷ held) none (λ is. cc))
