-- The change of an instruction takes no memory.
use Rattle.std.proofs.Common.{◌≡◌, ℕ, ◌≤◌, ◌==◌, Bool, true, false, List, [], ◌∷◌, Option, Some, None, refl, sym, ◌∙◌, ap, subst, arith}
use Rattle.std.specs.Prelude.{if◌then◌else◌}
use Rattle.std.specs.Option.{option_map}
use Rattle.std.proofs.lemmas.Bool.{eqb-true}
use Rattle.std.proofs.lemmas.Option.{none-some, same_Some}
use Rattle.control_defs.specs.declared.instructions.Instruction.{Instruction}
use Rattle.control_defs.specs.declared.instructions.Instruction.TheVariants.{ForwardAdd, ForwardDelete, ForwardReport, Enable, Disable, AddTypes, DeleteTypes, ReportTypes, StartRange, DeleteUpTo, Summary, OpenFrom, Resume, Suspend, Abort, Status, Create, Remove, Configuration, Copy, Resize, ToCircular, ToBounded, Channel}
use Rattle.control_defs.specs.declared.instructions.StoreKind.TheVariants.{Circular, Bounded}
use Rattle.retrieval.specs.Picks.{opened_row, ranged_row}
use Rattle.store_directory.specs.Changes.{Change, Forward, Gone, Put, Types}
use Rattle.store_directory.specs.Directory.{Directory, Listed, find_store}
use Rattle.store_directory.specs.Kept.{NeedsRoom}
use Rattle.store_directory.specs.Slots.{size_of}
use Rattle.store_directory.specs.declared.row.Row.{Row}
use Rattle.time_index.specs.TimeIndex.{TimeIndex}
use Rattle.request_laws.specs.Changing.{change_by, deleted_row, index_for, put_by, with_channel, with_kind, with_open, with_storage, without_range}

-- a store that is found has the identifier
pub found_own : (identifier : ℕ) (listed : List Listed) (s : Listed) → find_store identifier listed ≡ Some s → identifier ≡ s.identifier
found_own identifier [] s is = absurd (none-some s is)
found_own identifier (l ∷ listed) s is = by (identifier == l.identifier) refl (found_own identifier listed s) is
  where
    by : (test : Bool) → (identifier == l.identifier) ≡ test → (find_store identifier listed ≡ Some s → identifier ≡ s.identifier)
        → (if test then Some l else find_store identifier listed) ≡ Some s → identifier ≡ s.identifier
    by true same rest is = eqb-true identifier l.identifier same ∙ ap (λ (x : Listed). x.identifier) (same_Some l s is)
    by false same rest is = rest is

module _ (d : Directory) (indexes : List TimeIndex) (change : Change) (largest : ℕ → ℕ) (had : (identifier : ℕ) → size_of (find_store identifier d.stores) ≤ largest identifier) where
  -- the change that the row of a store makes, which keeps its size, and any other one
  by_store : (identifier : ℕ) (by : Listed → Change) → ((s : Listed) → s.size ≤ largest s.identifier → NeedsRoom (by s) largest → ⊥)
      → option_map by (find_store identifier d.stores) ≡ Some change → NeedsRoom change largest → ⊥
  by_store identifier by each is needs = go (find_store identifier d.stores) refl is
    where
      go : (found : Option Listed) → find_store identifier d.stores ≡ found → option_map by found ≡ Some change → ⊥
      go None found is = none-some change is
      go (Some s) found is =
          let own = found_own identifier d.stores s found in
          let size : s.size ≤ largest identifier = subst (λ (o : Option Listed). size_of o ≤ largest identifier) found (had identifier) in
          each s (subst (λ (n : ℕ). s.size ≤ largest n) own size) (subst (λ (c : Change). NeedsRoom c largest) (sym (same_Some (by s) change is)) needs)

  -- a put of a row that keeps its identifier and its size
  put_none : (identifier : ℕ) (next : Row → Row) → ((row : Row) → ((next row).identifier ≡ row.identifier) × ((next row).size ≡ row.size))
      → put_by next (find_store identifier d.stores) ≡ Some change → NeedsRoom change largest → ⊥
  put_none identifier next keeps =
      by_store identifier (λ (s : Listed). Put (next s.row))
      (λ s within more.
      let named : largest (next s.row).identifier ≡ largest s.identifier = ap largest (keeps s.row).0 in
      omega (arith, within, more, named, (keeps s.row).1))

  none_here : (item : Instruction) → change_by d indexes item ≡ Some change → NeedsRoom change largest → ⊥
  none_here (ForwardAdd pattern) is needs = subst (λ (c : Change). NeedsRoom c largest) (sym (same_Some (Forward true pattern) change is)) needs
  none_here (ForwardDelete pattern) is needs = subst (λ (c : Change). NeedsRoom c largest) (sym (same_Some (Forward false pattern) change is)) needs
  none_here (Enable store) is needs = put_none store (with_storage true) (λ row. (refl, refl)) is needs
  none_here (Disable store) is needs = put_none store (with_storage false) (λ row. (refl, refl)) is needs
  none_here (AddTypes store pattern) is needs = by_store store (λ (s : Listed). Types store true pattern) (λ s within more. more) is needs
  none_here (DeleteTypes store pattern) is needs = by_store store (λ (s : Listed). Types store false pattern) (λ s within more. more) is needs
  none_here (Resume store) is needs = put_none store (with_open true) (λ row. (refl, refl)) is needs
  none_here (Suspend store) is needs = put_none store (with_open false) (λ row. (refl, refl)) is needs
  none_here ForwardReport is needs = none-some change is
  none_here (ReportTypes store) is needs = none-some change is
  none_here (StartRange store t1 t2) is needs = put_none store (ranged_row t1 t2 (index_for store d.stores indexes)) (λ row. (refl, refl)) is needs
  none_here (DeleteUpTo store t) is needs = put_none store (deleted_row t (index_for store d.stores indexes)) (λ row. (refl, refl)) is needs
  none_here (Summary store) is needs = none-some change is
  none_here (OpenFrom store t) is needs = put_none store (opened_row t (index_for store d.stores indexes)) (λ row. (refl, refl)) is needs
  none_here (Abort store) is needs = put_none store without_range (λ row. (refl, refl)) is needs
  none_here Status is needs = none-some change is
  none_here (Create store kind size channel) is needs = none-some change is
  none_here (Remove store) is needs = by_store store (λ (_ : Listed). Gone store) (λ s within more. more) is needs
  none_here Configuration is needs = none-some change is
  none_here (Copy from to t1 t2) is needs = none-some change is
  none_here (Resize store size) is needs = none-some change is
  none_here (ToCircular store) is needs = put_none store (with_kind Circular) (λ row. (refl, refl)) is needs
  none_here (ToBounded store) is needs = put_none store (with_kind Bounded) (λ row. (refl, refl)) is needs
  none_here (Channel store channel) is needs = put_none store (with_channel channel) (λ row. (refl, refl)) is needs

pub no_room : (d : Directory) (indexes : List TimeIndex) (item : Instruction) (change : Change) (largest : ℕ → ℕ) → ((identifier : ℕ) → size_of (find_store identifier d.stores) ≤ largest identifier)
    → change_by d indexes item ≡ Some change → NeedsRoom change largest → ⊥
no_room d indexes item change largest had is needs = none_here d indexes change largest had item is needs
