-- One page more at the end of a list of pages.
use Rattle.std.proofs.Common.{◌≡◌, inl, inr, ℕ, ◌+◌, ◌<◌, List, [], ◌∷◌, ◌++◌, length, get_or, sym, ◌∙◌, subst, ap, arith}
use Rattle.std.proofs.lemmas.Bool.{cases_eq}
use Rattle.std.proofs.lemmas.List.{get_or_at, get_or_append_left, length_push}

-- what is known of each page, and of the new one
pub each_push : (P : ℕ → List ℕ → Type 0) (pages new : List (List ℕ)) (page : List ℕ) (n : ℕ) → new ≡ pages ++ page ∷ [] → length pages ≡ n
    → ((p : ℕ) → p < n → P p (get_or pages p [])) → P n page → (p : ℕ) → p < n + 1 → P p (get_or new p [])
each_push P pages new page n is long known last p lt = elim (cases_eq p n) [
  | inl end ↦
      let here : get_or new p [] ≡ page = ap (λ (all : List (List ℕ)). get_or all p []) is ∙ get_or_at pages page [] [] p (long ∙ sym end) in
      subst (λ (q : List ℕ). P p q) (sym here) (subst (λ (q : ℕ). P q page) (sym end) last)
  | inr other ↦
      let there : get_or new p [] ≡ get_or pages p [] = ap (λ (all : List (List ℕ)). get_or all p []) is ∙ get_or_append_left pages (page ∷ []) [] p (omega (arith, long)) in
      subst (λ (q : List ℕ). P p q) (sym there) (known p (omega arith))
]

pub count_push : (pages new : List (List ℕ)) (page : List ℕ) (n : ℕ) → new ≡ pages ++ page ∷ [] → length pages ≡ n → length new ≡ n + 1
count_push pages new page n is long = omega (arith, ap length is, length_push pages page, long)
