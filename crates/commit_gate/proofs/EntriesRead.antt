-- The entries that an area has, and those that are read from it.
use Rattle.std.proofs.Common.{◌≡◌, ◌⊎◌, inl, inr, ⊎_elim, ℕ, zero, suc, ◌+◌, ◌*◌, ◌≤◌, List, []}
use Rattle.std.proofs.Common.{◌∷◌, ◌++◌, Option, Some, None, option_map, refl, sym, ◌∙◌, ap, subst}
use Rattle.std.proofs.Common.{arith}
use Rattle.std.proofs.lemmas.Option.{none-some, same_Some}
use Rattle.board.specs.Flash.{Flash}
use Rattle.commit_gate.specs.Entries.{Damaged, End, Entry, EntryAt, HasEntries, area_of}
use Rattle.commit_gate.specs.Entries.{entries_from, entry_at, with_rest}
use Rattle.commit_gate.specs.Commits.{IsBeforeOrAfter}
use Rattle.commit_gate.proofs.AreaEntries.{at_le, entry_fits}

-- one page of a reader's way
pub from_end : (fuel : ℕ) (area : ℕ → List ℕ) (at : ℕ) → entry_at area at ≡ End
    → entries_from (suc fuel) area at ≡ Some []
unfolding entries_from
from_end fuel area at e = rw e refl

pub from_damage : (fuel : ℕ) (area : ℕ → List ℕ) (at len : ℕ) → entry_at area at ≡ Damaged len
    → entries_from (suc fuel) area at ≡ None
unfolding entries_from
from_damage fuel area at len e = rw e refl

pub from_entry : (fuel : ℕ) (area : ℕ → List ℕ) (at : ℕ) (text : List ℕ) (next : ℕ)
    → entry_at area at ≡ Entry text next
    → entries_from (suc fuel) area at ≡ option_map (λ entries. text ∷ entries)
    (entries_from fuel area next)
unfolding entries_from
from_entry fuel area at text next e = rw e refl

-- what the area has is read, where there is fuel for it
has_read : (area : ℕ → List ℕ) (fuel at : ℕ) (entries : List (List ℕ)) (end : ℕ)
    → HasEntries area at entries end → end + 2 ≤ at + 2 * fuel
    → entries_from fuel area at ≡ Some entries
has_read area zero at entries end has enough = let le = at_le area at entries end has in
    absurd (omega arith)
has_read area (suc fuel) at [] end has enough =
    from_end fuel area at (subst (λ (x : ℕ). entry_at area x ≡ End) (sym has.0) has.1)
has_read area (suc fuel) at (entry ∷ entries) end has enough =
    let fits = entry_fits area at entry has.0 has.1 in
    from_entry fuel area at entry has.0 has.1
    ∙ ap (option_map (λ rest. entry ∷ rest)) (has_read area fuel has.0 entries end has.2
    (omega (arith, fits.0)))

end_within : (area : ℕ → List ℕ) (at : ℕ) (entries : List (List ℕ)) (end : ℕ)
    → HasEntries area at entries end → (at ≡ end) ⊎ (end ≤ 512)
end_within area at [] end has = inl has.0
end_within area at (entry ∷ entries) end has =
    let fits = entry_fits area at entry has.0 has.1 in
    ⊎_elim (λ same. inr (omega (arith, fits.1))) (λ within. inr within)
    (end_within area has.0 entries end has.2)

pub entries_read : (area : ℕ → List ℕ) (at : ℕ) (entries : List (List ℕ)) (end : ℕ)
    → HasEntries area at entries end → entries_from 512 area at ≡ Some entries
entries_read area at entries end has = has_read area 512 at entries end has
    (enough (end_within area at entries end has))
  where
    enough : (at ≡ end) ⊎ (end ≤ 512) → end + 2 ≤ at + 2 * 512
    enough (inl same) = omega arith
    enough (inr within) = omega arith

-- what is read the area has
mapped : (entry : List ℕ) (rest : Option (List (List ℕ))) (entries : List (List ℕ))
    → option_map (λ others. entry ∷ others) rest ≡ Some entries
    → (others : List (List ℕ)) × (rest ≡ Some others) × (entry ∷ others ≡ entries)
mapped entry None entries e = absurd (none-some entries e)
mapped entry (Some others) entries e = (others, refl, same_Some (entry ∷ others) entries e)

found : (area : ℕ → List ℕ) (at : ℕ) (rest : ℕ → Option (List (List ℕ)))
    → ((next : ℕ) (entries : List (List ℕ)) → rest next ≡ Some entries
    → (end : ℕ) × HasEntries area next entries end)
    → (here : EntryAt) → entry_at area at ≡ here → (entries : List (List ℕ))
    → with_rest here rest ≡ Some entries → (end : ℕ) × HasEntries area at entries end
found area at rest more End is entries e =
    (at, subst (λ (l : List (List ℕ)). HasEntries area at l at) (same_Some [] entries e) (refl, is))
found area at rest more (Damaged len) is entries e = absurd (none-some entries e)
found area at rest more (Entry text next) is entries e =
    let parts = mapped text (rest next) entries e in
    let behind = more next parts.0 parts.1 in (
      behind.0,
      subst (λ (l : List (List ℕ)). HasEntries area at l behind.0) parts.2
          (next, is, behind.1),
    )

pub entries_found : (fuel : ℕ) (area : ℕ → List ℕ) (at : ℕ) (entries : List (List ℕ))
    → entries_from fuel area at ≡ Some entries → (end : ℕ) × HasEntries area at entries end
unfolding entries_from
entries_found zero area at entries e = absurd (none-some entries e)
entries_found (suc fuel) area at entries e =
    found area at (λ next. entries_from fuel area next)
    (λ next rest h. entries_found fuel area next rest h) (entry_at area at) refl entries e

-- what is read of what a stop leaves
pub either_read : (blocks : ℕ) (flash : Flash) (base start : ℕ) (entries : List (List ℕ)) (at : ℕ)
    (entry : List ℕ) (image : ℕ → List ℕ) → IsBeforeOrAfter blocks flash base start entries at entry
    image
    → (entries_from 512 (area_of base image) start ≡ Some entries)
    ⊎ (entries_from 512 (area_of base image) start ≡ Some (entries ++ entry ∷ []))
either_read blocks flash base start entries at entry image (inl before) =
    inl (entries_read (area_of base image) start entries at before.has)
either_read blocks flash base start entries at entry image (inr after) =
    inr (entries_read (area_of base image) start (entries ++ entry ∷ []) _ after.has)
