-- The entries from a page on, folded one after another.
use Rattle.std.proofs.Common.{◌≡◌, ℕ, Bool, true, false, List, [], ◌∷◌, Option, Some, None, option_map, refl, sym, ◌∙◌, ap, subst}
use Rattle.std.proofs.lemmas.Bool.{false≢true}
use Rattle.std.proofs.lemmas.Option.{none-some}
use Rattle.commit_gate.specs.Entries.{Damaged, End, Entry, EntryAt, HasEntries, entries_from, entry_at}
use Rattle.commit_gate.proofs.EntriesRead.{entries_found, entries_read, from_damage, from_end}
use Rattle.store_directory.specs.Directory.{Directory}
use Rattle.store_directory.specs.Folds.{fold_entries, fold_entry}
use Rattle.store_directory.specs.Options.{◌>>=◌}
use Rattle.journal_reader.specs.Steps.{IsRefusedBy, folded_from}

-- entries in a row, folded over a directory
abbrev over : Directory → Option (List (List ℕ)) → Option Directory
over d found = found >>= λ entries. fold_entries d entries

-- what stands at a page is one thing
abbrev is_end : EntryAt → Bool
is_end (Entry text next) = false
is_end End = true
is_end (Damaged length) = false

abbrev page_behind : EntryAt → ℕ
page_behind (Entry text next) = next
page_behind End = 0
page_behind (Damaged length) = 0

-- the entries from a page on are the one there with those behind it
behind_entry : (area : ℕ → List ℕ) (at : ℕ) (text : List ℕ) (next : ℕ) → entry_at area at ≡ Entry text next
    → entries_from 512 area at ≡ option_map (λ entries. text ∷ entries) (entries_from 512 area next)
behind_entry area at text next is = both (entries_from 512 area next) refl (entries_from 512 area at) refl
  where
    none : (entries : List (List ℕ)) (end : ℕ) → HasEntries area at entries end → entries_from 512 area next ≡ None → ⊥
    none [] end has lacks = ends (sym is ∙ subst (λ p. entry_at area p ≡ End) (sym has.0) has.1)
      where
        ends : Entry text next ≡ End → ⊥
        ends e = false≢true (ap is_end e)
    none (first ∷ rest) end has lacks =
        let page : has.0 ≡ next = ap page_behind (sym has.1 ∙ is) in
        none-some rest (sym lacks ∙ subst (λ p. entries_from 512 area p ≡ Some rest) page (entries_read area has.0 rest end has.2))

    both : (behind : Option (List (List ℕ))) → entries_from 512 area next ≡ behind → (here : Option (List (List ℕ))) → entries_from 512 area at ≡ here
        → entries_from 512 area at ≡ option_map (λ entries. text ∷ entries) (entries_from 512 area next)
    both (Some entries) some here found =
        let has = entries_found 512 area next entries some in
        entries_read area at (text ∷ entries) has.0 (next, is, has.1) ∙ ap (option_map (λ es. text ∷ es)) (sym some)
    both None lacks None found = found ∙ ap (option_map (λ es. text ∷ es)) (sym lacks)
    both None lacks (Some entries) found =
        let has = entries_found 512 area at entries found in
        absurd (none entries has.0 has.1 lacks)

-- an entry with those behind it
over_more : (d e : Directory) (text : List ℕ) (behind : Option (List (List ℕ))) → fold_entry d text ≡ Some e → over d (option_map (λ entries. text ∷ entries) behind) ≡ over e behind
over_more d e text None folds = refl
over_more d e text (Some entries) folds = ap (λ (f : Option Directory). f >>= λ next. fold_entries next entries) folds

over_none : (d : Directory) (text : List ℕ) (behind : Option (List (List ℕ))) → fold_entry d text ≡ None → over d (option_map (λ entries. text ∷ entries) behind) ≡ None
over_none d text None lacks = refl
over_none d text (Some entries) lacks = ap (λ (f : Option Directory). f >>= λ next. fold_entries next entries) lacks

pub rest_next : (area : ℕ → List ℕ) (at : ℕ) (text : List ℕ) (next : ℕ) (d e : Directory) → entry_at area at ≡ Entry text next → fold_entry d text ≡ Some e
    → folded_from area next e ≡ folded_from area at d
rest_next area at text next d e is folds = sym (ap (over d) (behind_entry area at text next is) ∙ over_more d e text (entries_from 512 area next) folds)

pub rest_end : (area : ℕ → List ℕ) (at : ℕ) (d : Directory) → entry_at area at ≡ End → folded_from area at d ≡ Some d
rest_end area at d is = ap (over d) (from_end 511 area at is)

pub rest_refused : (area : ℕ → List ℕ) (at : ℕ) (d : Directory) → IsRefusedBy d (entry_at area at) → folded_from area at d ≡ None
rest_refused area at d refused = by (entry_at area at) refl refused
  where
    by : (here : EntryAt) → entry_at area at ≡ here → IsRefusedBy d here → folded_from area at d ≡ None
    by (Entry text next) is lacks = ap (over d) (behind_entry area at text next is) ∙ over_none d text (entries_from 512 area next) lacks
    by End is lacks = absurd lacks
    by (Damaged length) is lacks = ap (over d) (from_damage 511 area at length is)
