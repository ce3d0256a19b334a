-- A text is its lines, joined, and is split in one way.
use Rattle.std.proofs.Common.{◌≡◌, ◌≢◌, inl, inr, ℕ, Bool, true, false, List, [], ◌∷◌, ◌++◌, refl, sym, ◌∙◌, ap, subst, arith, append_assoc}
use Rattle.std.proofs.lemmas.Bool.{cases_eq}
use Rattle.std.proofs.lemmas.List.{append-nil}
use Rattle.std.specs.Prelude.{◌⊎◌, IsTrue}
use Rattle.pst_model.specs.Text.{AreLines, Line, in_front, joined, lines_in}
use Rattle.pst_model.proofs.Texts.{lines_in-ended, lines_in-other, lines_in-unended, none_more}

joined_front : (octet : ℕ) (lines : List Line) → joined (in_front octet lines) ≡ octet ∷ joined lines
joined_front octet [] = refl
joined_front octet (line ∷ lines) = refl

pub joined_lines : (text : List ℕ) → joined (lines_in text) ≡ text
joined_lines [] = refl
joined_lines (octet ∷ text) = by (joined_lines text) (cases_eq octet 10)
  where
    by : joined (lines_in text) ≡ text → (octet ≡ 10) ⊎ (octet ≡ 10 → ⊥) → joined (lines_in (octet ∷ text)) ≡ octet ∷ text
    by rest (inl same) = subst (λ (o : ℕ). joined (lines_in (o ∷ text)) ≡ o ∷ text) (sym same) (ap (λ (t : List ℕ). 10 ∷ t) rest)
    by rest (inr other) = ap joined (lines_in-other octet text other) ∙ joined_front octet (lines_in text) ∙ ap (λ (t : List ℕ). octet ∷ t) rest

are_front : (octet : ℕ) → octet ≢ 10 → (lines : List Line) → AreLines lines → AreLines (in_front octet lines)
are_front octet other [] are = (none_more octet [] other (λ held. omega (arith, held.1)), inr ((λ is. cc), refl), tt)
are_front octet other (line ∷ lines) are = (none_more octet line.octets other are.0, by are.1, are.2)
  where
    by : (IsTrue line.ended ⊎ ((line.octets ≢ []) × (lines ≡ []))) → IsTrue line.ended ⊎ ((octet ∷ line.octets ≢ []) × (lines ≡ []))
    by (inl ended) = inl ended
    by (inr last) = inr ((λ is. cc), last.1)

pub are_lines : (text : List ℕ) → AreLines (lines_in text)
are_lines [] = tt
are_lines (octet ∷ text) = by (are_lines text) (cases_eq octet 10)
  where
    by : AreLines (lines_in text) → (octet ≡ 10) ⊎ (octet ≡ 10 → ⊥) → AreLines (lines_in (octet ∷ text))
    by rest (inl same) = subst (λ (o : ℕ). AreLines (lines_in (o ∷ text))) (sym same) ((λ held. omega (arith, held.1)), inl refl, rest)
    by rest (inr other) = subst AreLines (sym (lines_in-other octet text other)) (are_front octet other (lines_in text) rest)

-- by whether the first line has its LF
first_joined : (octets : List ℕ) (ended : Bool) (lines : List Line) → AreLines (record { octets = octets; ended = ended } ∷ lines) → lines_in (joined lines) ≡ lines
    → lines_in (joined (record { octets = octets; ended = ended } ∷ lines)) ≡ record { octets = octets; ended = ended } ∷ lines
first_joined octets true lines are rest =
    ap lines_in (append_assoc octets (10 ∷ []) (joined lines)) ∙ lines_in-ended octets (joined lines) are.0 ∙ ap (λ (ls : List Line). record { octets = octets; ended = true } ∷ ls) rest
first_joined octets false lines are rest = by are.1
  where
    by : (false ≡ true) ⊎ ((octets ≢ []) × (lines ≡ [])) → lines_in (joined (record { octets = octets; ended = false } ∷ lines)) ≡ record { octets = octets; ended = false } ∷ lines
    by (inl told) = absurd cc
    by (inr last) =
        subst (λ (ls : List Line). lines_in (joined (record { octets = octets; ended = false } ∷ ls)) ≡ record { octets = octets; ended = false } ∷ ls) (sym last.1)
        (ap lines_in (append-nil (octets ++ []) ∙ append-nil octets) ∙ lines_in-unended octets are.0 last.0)

pub lines_joined : (lines : List Line) → AreLines lines → lines_in (joined lines) ≡ lines
lines_joined [] are = refl
lines_joined (line ∷ lines) are = first_joined line.octets line.ended lines are (lines_joined lines are.2)
