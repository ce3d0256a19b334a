-- What a search for the next LF in the octets that are held tells.
use Rattle.std.proofs.Common.{◌≡◌, ℕ, ◌+◌, ◌-◌, ◌≤◌, ◌<◌, Bool, List, [], ◌∷◌, ◌++◌, length, take, drop, get_or, sym, ap, ◌∙◌, arith, append_assoc, subst, inl, inr, length-take, length-drop, length-append}
use Rattle.std.proofs.lemmas.Bool.{cases_lt, eq-eqb, eqb-true}
use Rattle.std.proofs.lemmas.List.{append-nil, get_or-take, get_or-drop, get_or_default, take_all, take-append-drop, take-append-le, drop_more, take_rest, nil_from_length}
use Rattle.std.specs.Prelude.{Contains, IsTrue, Some, None, slice_range, ◌⊎◌}
use Rattle.memchr.specs.Find.{IsFirstByte, NoneBefore, Nowhere, Passes, is_byte}
use Rattle.session_text.specs.Gain.{Gains}

-- No octet up to a place is LF, where none of those that were seen is and a search behind them found none.
pub unended-up_to : (held : List ℕ) (seen more : ℕ) → seen + more ≤ length held → ¬ (Contains (take seen held) 10)
    → Nowhere (Passes (is_byte 10) (drop seen held)) 0 more → ¬ (Contains (take (seen + more) held) 10)
unended-up_to held seen more within none nowhere found = either (cases_lt found.0 seen)
  where
    inside : found.0 < seen + more
    inside = let below = found.1 in omega (arith, below, length-take (seen + more) held)

    octet : get_or held found.0 10 ≡ 10
    octet = sym (get_or-take (seen + more) held found.0 10 inside) ∙ found.2

    either : (found.0 < seen) ⊎ (seen ≤ found.0) → ⊥
    either (inl below) = none (found.0, omega (arith, length-take seen held), get_or-take seen held found.0 10 below ∙ octet)
    either (inr above) =
        let place : seen + (found.0 - seen) ≡ found.0 = omega arith in
        nowhere (found.0 - seen) (omega arith) (omega (arith, inside))
        (eq-eqb _ _ (get_or-drop seen held (found.0 - seen) 0 ∙ ap (λ k. get_or held k 0) place ∙ get_or_default held found.0 0 10 (omega (arith, inside)) ∙ octet))

-- A search behind the octets that were seen found the LF of the first line.
pub found-line : (held : List ℕ) (seen more : ℕ) → seen ≤ length held → ¬ (Contains (take seen held) 10)
    → NoneBefore (Passes (is_byte 10) (drop seen held)) 0 (length (drop seen held)) more → Passes (is_byte 10) (drop seen held) more
    → ((rest : List ℕ) × (held ≡ take (seen + more) held ++ 10 ∷ rest)) × ¬ (Contains (take (seen + more) held) 10)
found-line held seen more within none first passes =
    let high = first.high in
    let room : seen + more < length held = omega (arith, length-drop seen held) in
    let octet : get_or held (seen + more) 0 ≡ 10 = sym (get_or-drop seen held more 0) ∙ eqb-true _ _ passes in (
      (
        drop (seen + more + 1) held,
        sym (take-append-drop (seen + more) held) ∙ ap (λ (l : List ℕ). take (seen + more) held ++ l) (drop_more held (seen + more) 0 room ∙ ap (λ (o : ℕ). o ∷ drop (seen + more + 1) held) octet),
      ),
      unended-up_to held seen more (omega arith) none first.before,
    )

-- It found none.
pub unended : (held : List ℕ) (seen : ℕ) → seen ≤ length held → ¬ (Contains (take seen held) 10)
    → Nowhere (Passes (is_byte 10) (drop seen held)) 0 (length (drop seen held)) → ¬ (Contains held 10)
unended held seen within none nowhere =
    let total : seen + length (drop seen held) ≡ length held = omega (arith, length-drop seen held) in
    subst (λ (l : List ℕ). ¬ (Contains l 10)) (ap (λ n. take n held) total ∙ take_all (length held) held (omega arith))
    (unended-up_to held seen (length (drop seen held)) (omega arith) none nowhere)

-- Nothing was gained, since nothing is left.
pub Gains-none : (old new : List ℕ) (count : ℕ) (told : Bool) (before after : List ℕ) → Gains old new count told before after → count ≡ 0
    → (new ≡ old) × (IsTrue told → after ≡ [])
Gains-none old new count told before after gains none =
    let nothing : gains.gained ≡ [] = nil_from_length gains.gained (gains.size ∙ none) in (
      gains.behind ∙ ap (λ (l : List ℕ). old ++ l) nothing ∙ append-nil old,
      λ tells. sym (gains.taken tells ∙ ap (λ (l : List ℕ). l ++ after) nothing) ∙ (gains.end tells).0 none,
    )

-- What was held stands in front, and the text stays.
pub Gains-front : (old new : List ℕ) (count : ℕ) (told : Bool) (before after : List ℕ) → Gains old new count told before after
    → (take (length old) new ≡ old) × (length old ≤ length new) × (IsTrue told → new ++ after ≡ old ++ before)
Gains-front old new count told before after gains = (
  ap (take (length old)) gains.behind ∙ take-append-le (length old) old gains.gained (omega arith) ∙ take_all (length old) old (omega arith),
  omega (arith, ap length gains.behind, length-append old gains.gained),
  λ tells.
      ap (λ (l : List ℕ). l ++ after) gains.behind ∙ append_assoc old gains.gained after
      ∙ ap (λ (l : List ℕ). old ++ l) (sym (gains.taken tells)),
)

-- The same of a search in the octets as a slice gives them.
pub searched-some : (octets held : List ℕ) (seen more : ℕ) → octets ≡ held → seen ≤ length held → ¬ (Contains (take seen held) 10)
    → IsFirstByte (is_byte 10) (slice_range octets seen (length octets)) (Some more)
    → ((rest : List ℕ) × (held ≡ take (seen + more) held ++ 10 ∷ rest)) × ¬ (Contains (take (seen + more) held) 10)
searched-some octets held seen more same within none found =
    let first = subst (λ (l : List ℕ). IsFirstByte (is_byte 10) l (Some more)) (take_rest octets seen ∙ ap (drop seen) same) found in found-line held seen more within none first.0 first.1

pub searched-none : (octets held : List ℕ) (seen : ℕ) → octets ≡ held → seen ≤ length held → ¬ (Contains (take seen held) 10)
    → IsFirstByte (is_byte 10) (slice_range octets seen (length octets)) None → ¬ (Contains held 10)
searched-none octets held seen same within none found =
    unended held seen within none (subst (λ (l : List ℕ). IsFirstByte (is_byte 10) l None) (take_rest octets seen ∙ ap (drop seen) same) found)
