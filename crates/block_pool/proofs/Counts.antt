-- What a count of marks shows.
use Rattle.std.proofs.Common.{◌≡◌, ℕ, suc, ◌<◌, Bool, false, count_by, List, [], ◌∷◌, length, get_or, refl, arith}

-- marks none of which is set
pub no_mark : (marks : List Bool)
    → ((i : ℕ) → i < length marks → get_or marks i false ≡ false)
    → count_by (λ mark. mark) marks ≡ 0
no_mark [] none = refl
no_mark (mark ∷ marks) none =
    let off : mark ≡ false = none 0 (omega arith) in
    let rest : count_by (λ mark. mark) marks ≡ 0 =
    no_mark marks (λ i lt. none (suc i) (omega arith)) in
    rw off rest
