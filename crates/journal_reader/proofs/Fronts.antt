-- A half by its checkpoint.
use Rattle.std.proofs.Common.{◌≡◌, ◌≢◌, ◌⊎◌, inl, inr, ℕ, ◌+◌, ◌<◌, Bool, false, List, Option, Some, None, refl, sym, ◌∙◌, ap, arith}
use Rattle.std.specs.Prelude.{IfOk, MatchOption, Result, Ok, Err, ◌&&◌, nat_le}
use Rattle.std.proofs.lemmas.Bool.Decides.{nat_tests}
use Rattle.commit_gate.specs.Entries.{Damaged, Entry, EntryAt, entries_from, is_lawful, length_in, payload_pages, text_at}
use Rattle.commit_gate.proofs.AreaEntries.{at_damage}
use Rattle.meta_journal.specs.Directories.{directory_at, directory_in}
use Rattle.meta_journal.specs.Shown.{HasNoCheckpoint}
use Rattle.store_directory.specs.Checkpoints as checkpoints
use Rattle.store_directory.specs.Checkpoints.{Checkpoint, checkpoint_in, read_checkpoint}
use Rattle.store_directory.specs.Directory.{Directory}
use Rattle.store_directory.specs.Folds.{IsNoCheckpoint, IsUnlawful, fold_entries}
use Rattle.store_directory.specs.Kept.{Kept}
use Rattle.store_directory.specs.Options.{◌>>=◌, given}
use Rattle.store_directory.specs.declared.fault.FoldFault.{FoldFault}
use Rattle.store_directory.specs.declared.fault.FoldFault.TheVariants.{NoMemory, Spelling, Unfit}
use Rattle.journal_reader.specs.Steps.{folded_from}
use Rattle.journal_reader.specs.declared.stop.ReadStop.{ReadStop}

-- a text that spells no checkpoint, or one that is not lawful
unlawful : (found : Option Checkpoint) → IsUnlawful found → (found >>= λ checkpoint. given (checkpoints.is_lawful checkpoint.directory) >>= λ _. Some checkpoint) ≡ None
unlawful None is = absurd is
unlawful (Some checkpoint) is = ap (λ (lawful : Bool). given lawful >>= λ _. Some checkpoint) is

pub no_checkpoint : (fault : FoldFault) (blocks : ℕ) (text : List ℕ) → fault ≢ NoMemory → IsNoCheckpoint fault blocks text → read_checkpoint blocks text ≡ None
unfolding read_checkpoint
no_checkpoint (Spelling place) blocks text other is = ap (λ (found : Option Checkpoint). found >>= λ checkpoint. given (checkpoints.is_lawful checkpoint.directory) >>= λ _. Some checkpoint) is.1
no_checkpoint (Unfit place) blocks text other is = unlawful (checkpoint_in blocks text) is.1
no_checkpoint NoMemory blocks text other is = absurd (other refl)

-- no entries are folded over no checkpoint
abbrev nothing : Option Directory
nothing = None

over_none : (found : Option (List (List ℕ))) → (found >>= λ entries. nothing) ≡ nothing
over_none None = refl
over_none (Some entries) = refl

module _ (blocks : ℕ) (area : ℕ → List ℕ) where
  front : (here : EntryAt) → text_at 20476 area 0 ≡ here → directory_in blocks area ≡ directory_at blocks here (λ next. entries_from 512 area next)
  unfolding directory_in
  front here is = ap (λ (e : EntryAt). directory_at blocks e (λ next. entries_from 512 area next)) is

  -- the length in front is 0, or too great
  not_lawful : (len : ℕ) → (len ≡ 0) ⊎ (20476 < len) → is_lawful 20476 0 len ≡ false
  not_lawful len is = tests (0 + payload_pages len) is
    where
      tests : (end : ℕ) → (len ≡ 0) ⊎ (20476 < len) → (nat_le 1 len && nat_le len 20476 && nat_le end 512) ≡ false
      tests end (inl none) = grind (arith, nat_tests)
      tests end (inr long) = grind (arith, nat_tests)

  pub no_front : HasNoCheckpoint area → directory_in blocks area ≡ None
  no_front lacks = front (Damaged (length_in (area 0))) (at_damage 20476 area 0 (length_in (area 0)) refl (not_lawful (length_in (area 0)) lacks))

  module _ (text : List ℕ) (next : ℕ) (is : text_at 20476 area 0 ≡ Entry text next) where
    spelled_front : (checkpoint : Checkpoint) → read_checkpoint blocks text ≡ Some checkpoint → directory_in blocks area ≡ folded_from area next checkpoint.directory
    spelled_front checkpoint reads =
        front (Entry text next) is
        ∙ ap (λ (found : Option Checkpoint). entries_from 512 area next >>= λ entries. found >>= λ c. fold_entries c.directory entries) reads

    unspelled_front : read_checkpoint blocks text ≡ None → directory_in blocks area ≡ None
    unspelled_front lacks =
        front (Entry text next) is
        ∙ ap (λ (found : Option Checkpoint). entries_from 512 area next >>= λ entries. found >>= λ c. fold_entries c.directory entries) lacks
        ∙ over_none (entries_from 512 area next)

  -- what was read of the text of a checkpoint, as what the half holds
  pub front_held : (Told : Type 0) (text : List ℕ) (next : ℕ) (wear : List ℕ) (answer : Result (Option (Kept × ℕ)) ReadStop) → (Told → text_at 20476 area 0 ≡ Entry text next)
      → IfOk answer (λ found. MatchOption found (read_checkpoint blocks text ≡ None)
      (λ read. (read_checkpoint blocks text ≡ Some (record { directory = read.0.directory; wear = wear })) × (read.1 ≡ next)))
      → IfOk answer (λ found. Told → MatchOption found (directory_in blocks area ≡ None) (λ read. directory_in blocks area ≡ folded_from area read.1 read.0.directory))
  front_held Told text next wear (Ok None) is spelled = λ told. unspelled_front text next (is told) spelled
  front_held Told text next wear (Ok (Some read)) is spelled = λ told.
      spelled_front text next (is told) (record { directory = read.0.directory; wear = wear }) spelled.0 ∙ ap (λ at. folded_from area at read.0.directory) (sym spelled.1)
  front_held Told text next wear (Err stop) is spelled = tt
