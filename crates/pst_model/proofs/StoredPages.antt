-- The pages of stored packets.
use Rattle.std.proofs.Common.{◌≡◌, ◌+◌, List, [], ◌∷◌, ◌++◌, arith}
use Rattle.pst_model.specs.Table.{Stored, content_in}

pub content_in-append : (xs ys : List Stored) → content_in (xs ++ ys) ≡ content_in xs + content_in ys
content_in-append [] ys = omega arith
content_in-append (x ∷ xs) ys = omega (arith, content_in-append xs ys)
