-- The entries of a half, folded one after another.
use Rattle.std.specs.Prelude.{◌≡◌, ℕ, ◌-◌, ◌<◌, ◌≤◌, Bool, true, false, List, Option, Some, None, ⊤}
use Rattle.std.specs.Prelude.{Result, Ok}
use Rattle.commit_gate.specs.Entries.{Damaged, End, Entry, EntryAt, entries_from, entry_at}
use Rattle.store_directory.specs.Directory.{Directory}
use Rattle.store_directory.specs.Folds.{fold_entries, fold_entry}
use Rattle.store_directory.specs.Options.{◌>>=◌}
use Rattle.journal_reader.specs.declared.folding.Step.{Step}
use Rattle.journal_reader.specs.declared.folding.Step.TheVariants as steps

-- a directory with the entries from a page of a half on folded over it
abbrev pub folded_from : (area : ℕ → List ℕ) → (at : ℕ) → Directory → Option Directory
folded_from area at d = do
  entries ← entries_from 512 area at
  fold_entries d entries

-- what stands at a page is neither the end nor an entry that can be folded
abbrev pub IsRefusedBy : Directory → EntryAt → Type 0
IsRefusedBy d (Entry text next) = fold_entry d text ≡ None
IsRefusedBy d End = ⊥
IsRefusedBy d (Damaged length) = ⊤

-- One page of the reader's way: an entry is folded, or the entries end, or they cannot be folded.
abbrev pub StepsFrom : (area : ℕ → List ℕ) → (at : ℕ) → (old new : Directory) → Step → Type 0
StepsFrom area at old new (steps.Next next) =
    (text : List ℕ) × (entry_at area at ≡ Entry text next) × (fold_entry old text ≡ Some new)
StepsFrom area at old new steps.End = (entry_at area at ≡ End) × (new ≡ old)
StepsFrom area at old new steps.Refused = IsRefusedBy old (entry_at area at)

-- the same of the text of an entry, which ends before the page `next`
abbrev pub FoldsTo : (text : List ℕ) → (next : ℕ) → (old new : Directory) → Step → Type 0
FoldsTo text next old new (steps.Next behind) = (behind ≡ next) × (fold_entry old text ≡ Some new)
FoldsTo text next old new steps.End = ⊥
FoldsTo text next old new steps.Refused = fold_entry old text ≡ None

-- an entry's pages end in the half
abbrev pub IsForward : (at : ℕ) → Step → Type 0
IsForward at (steps.Next next) = (at < next) × (next ≤ 512)
IsForward at _ = ⊤

-- the pages that are read for a step at most: those of the half that are left
abbrev pub step_reads : {E : Type 0} → (at : ℕ) → Result Step E → ℕ
step_reads at (Ok (steps.Next next)) = next - at
step_reads at _ = 512 - at

-- what is left in a directory, where all entries were folded
abbrev pub kept_if : Bool → Directory → Option Directory
kept_if true d = Some d
kept_if false d = None

-- the pages that are read for the front of a half
abbrev pub front_reads : {A E : Type 0} → Result (Option (A × ℕ)) E → ℕ
front_reads (Ok (Some front)) = front.1
front_reads _ = 80
