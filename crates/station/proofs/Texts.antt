-- What one word is.
use Rattle.std.proofs.Common.{◌≡◌, ℕ, Bool, List, [], ◌∷◌, length, get_or, sym, ◌∙◌, ap, arith}
use Rattle.std.proofs.lemmas.Slice.Eq.{bytes_eq-Decides}
use Rattle.std.specs.Prelude.{IsTrue, map}
use Rattle.std.specs.Str.{bytes_eq}
use Rattle.std.specs.String.{string_bytes}
use Rattle.std.specs.declared.string.String.{String}
use Rattle.std.specs.declared.alloc.Global.{Global}

pub one_word : (words : List (String Global)) (first : String Global) (text : List ℕ) (same : Bool) → length words ≡ 1 → first ≡ get_or words 0 first → same ≡ bytes_eq (string_bytes first) text
    → (IsTrue same → map string_bytes words ≡ text ∷ []) × (map string_bytes words ≡ text ∷ [] → IsTrue same)
one_word [] first text same one is test = absurd (omega arith)
one_word (word ∷ other ∷ words) first text same one is test = absurd (omega arith)
one_word (word ∷ []) first text same one is test =
    let decides = bytes_eq-Decides (string_bytes first) text in (
      λ true. ap (λ (t : List ℕ). t ∷ []) (ap string_bytes (sym is) ∙ decides.0 (sym test ∙ true)),
      λ e. test ∙ decides.1 (ap string_bytes is ∙ ap (λ (texts : List (List ℕ)). get_or texts 0 []) e),
    )
