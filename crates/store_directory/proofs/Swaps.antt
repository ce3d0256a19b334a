-- The last link of a list, and another one in its place.
use Rattle.std.proofs.Common.{◌≡◌, ℕ, zero, suc, List, [], ◌∷◌, length, slice_set, refl, arith}
use Rattle.std.specs.Prelude.{Some, None}
use Rattle.record_view.specs.declared.link.Link.{Link}
use Rattle.store_directory.specs.Directory.{swap_last}

-- the swapped list is the one that is written at the last place
pub swap_last-is : (new : Link) (links : List Link) (last : ℕ) → length links ≡ suc last → swap_last new links ≡ Some (slice_set links last new)
swap_last-is new [] last some = absurd (omega arith)
swap_last-is new (link ∷ []) zero some = refl
swap_last-is new (link ∷ []) (suc last) some = absurd (omega arith)
swap_last-is new (link ∷ next ∷ links) zero some = absurd (omega arith)
swap_last-is new (link ∷ next ∷ links) (suc last) some = rw (swap_last-is new (next ∷ links) last (omega (arith, some))) refl

pub swap_last-none : (new : Link) (links : List Link) → length links ≡ 0 → swap_last new links ≡ None
swap_last-none new [] none = refl
swap_last-none new (link ∷ links) none = absurd (omega arith)
