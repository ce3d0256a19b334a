-- The instructions of a request in memory, one after another.
use Rattle.std.proofs.Common.{◌≡◌, ℕ, Bool, true, false, ◌+◌, ◌*◌, ◌≤◌, List, [], ◌∷◌, ◌++◌, Option, None, Some, Result, Ok, Err, append-nil, length, length-append, refl, sym, ◌∙◌, ap, subst, arith}
use Rattle.std.specs.Prelude.{if◌then◌else◌, slice_get}
use Rattle.std.proofs.lemmas.Grind.{flat_map-append}
use Rattle.std.proofs.lemmas.List.{map-append}
use Rattle.octet_fields.specs.Fields.{Writes}
use Rattle.octet_fields.proofs.Splices.{Writes-from_front, Writes-then}
use Rattle.control_defs.specs.declared.instructions.Instruction.{Instruction}
use Rattle.pst_model.specs.Instructions.{instruct}
use Rattle.pst_model.specs.Requests.{are_alone}
use Rattle.pst_model.specs.Table.{Table}
use Rattle.request_laws.specs.Carrying.{HasCarried, HasChanged, HasPassed, IsViewWith, carried_up_to}
use Rattle.request_laws.specs.Changing.{HasIndexes, IsTableOf, change_by}
use Rattle.request_laws.specs.Counting.{CanBeCarried}
use Rattle.request_laws.proofs.Indexed.{has_indexes}
use Rattle.request_laws.proofs.ShownTables.{shown_so_far}
use Rattle.request_laws.proofs.Tables.{of_shown, one_shown}
use Rattle.request_laws.proofs.Walking.{asks, begins, effects, fails}
use Rattle.store_directory.specs.Changes.{Change}
use Rattle.store_directory.specs.Directory.{Directory, IsDirectory}
use Rattle.store_directory.specs.Entries.{change_octets, entry_octets}
use Rattle.store_load.specs.Claims.{may_share}
use Rattle.store_policy.specs.Agreement.{Agrees}
use Rattle.store_policy.specs.Codes.{code_of}
use Rattle.store_policy.specs.Shown.{AreAllTogether, AreShown, IsTableShown}
use Rattle.store_policy.specs.declared.refusal.Refusal.{Refusal}
use Rattle.store_policy.specs.declared.view.View.{View}
use Rattle.time_index.specs.TimeIndex.{TimeIndex}
use Rattle.vault.proofs.Keeping.{all_begin, all_together}
use Rattle.vault.proofs.Moving.{moved, moved_on, unmoved}
use Rattle.vault.specs.Following.{HasMoved, Stores}
use Rattle.vault.specs.Memory.{EachStore, IsSoundStore}
use Rattle.vault.specs.Requests.{AreCarriedOut, MakesChange, MakesNone, OfShown, TakesEffect, failure_of}

-- what is shown of a directory and indexes
abbrev pub view_of : Directory → List TimeIndex → View
view_of d indexes = record {
  directory = record { ref_ptr = (0, 0); now = record { directory = d; sizes = [] } };
  indexes = record { ref_ptr = (0, 0); now = indexes };
  blocks = 0;
}

pub is_view_of : (d : Directory) (indexes : List TimeIndex) → IsViewWith d indexes (view_of d indexes)
is_view_of d indexes = record { directory = refl; indexes = refl }

-- one request has 32 instructions at most
pub few_items : (items : List Instruction) → CanBeCarried items → length items ≤ 32
few_items items can = by (are_alone items) can.asked.few
  where
    by : (alone : Bool) → length items ≤ (if alone then 1 else 32) → length items ≤ 32
    by true few = omega (arith, few)
    by false few = omega (arith, few)

-- at least one table is shown
pub some_table : (d : Directory) (indexes : List TimeIndex) → AreAllTogether d.stores indexes → (P : Table → Type 0) → OfShown d indexes P → (table : Table) × P table
some_table d indexes together P each =
    let (table, shown) = one_shown (view_of d indexes) together in (table, each table (view_of d indexes) (is_view_of d indexes) shown)

-- a table that is shown of them is shown by each view of them
pub shown_as : (table : Table) (d : Directory) (indexes : List TimeIndex) (view other : View) → IsViewWith d indexes view → IsViewWith d indexes other → IsTableShown table view
    → IsTableShown table other
shown_as table d indexes view other is too shown =
    let same : view.directory.now.directory ≡ other.directory.now.directory = is.directory ∙ sym too.directory in
    record {
      now = shown.now ∙ ap (λ (e : Directory). e.now) same;
      reports = shown.reports ∙ ap (λ (e : Directory). e.reports) same;
      forward = shown.forward ∙ ap (λ (e : Directory). e.forward) same;
      stores =
          subst (AreShown table.stores other.directory.now.stores) (is.indexes ∙ sym too.indexes)
          (subst (λ (e : Directory). AreShown table.stores e.stores view.indexes.now) same shown.stores);
    }

-- what an instruction does, by its check

failed : (refusal : Refusal) (outcome : Result Table ℕ) → Agrees (Err refusal) outcome → outcome ≡ Err (code_of refusal)
failed refusal (Ok table) agrees = absurd agrees
failed refusal (Err code) agrees = ap Err (sym agrees)

succeeded : (outcome : Result Table ℕ) → Agrees (Ok tt) outcome → (table : Table) × (outcome ≡ Ok table)
succeeded (Ok table) agrees = (table, refl)
succeeded (Err code) agrees = absurd agrees

-- What is in memory before the request fits together.
pub record AreSound (blocks : ℕ) (old : Stores) : Type 0 where
  pub directory : IsDirectory old.directory
  pub share : may_share 240 blocks old.directory.stores ≡ true
  pub stores : EachStore (IsSoundStore old.directory.now) old.directory.stores old.indexes old.lasts

module _ (blocks : ℕ) (items : List Instruction) (old : Stores) (sound : AreSound blocks old) where
  abbrev d : Directory
  d = old.directory

  pub together_first : AreAllTogether d.stores old.indexes
  together_first = all_together d.now d.stores old.indexes old.lasts sound.stores

  -- before the first one
  pub none_carried_out : (out : List ℕ) → AreCarriedOut blocks items 0 old old [] 0 out out
  none_carried_out out = record {
    changes = [];
    size_is = refl;
    written = Writes-from_front out out [] (omega arith) refl;
    moved = unmoved blocks old;
    carried = λ table view is shown.
        begins blocks d table items old.indexes sound.directory sound.share (subst (IsTableOf table) is.directory (of_shown table view shown))
        (subst (λ (e : Directory). HasIndexes table e old.indexes) is.directory
        (subst (HasIndexes table view.directory.now.directory) is.indexes
        (has_indexes table view shown
        (subst (λ (e : Directory). AreAllTogether e.stores view.indexes.now) (sym is.directory)
        (subst (AreAllTogether d.stores) (sym is.indexes) together_first)))));
    refusals = λ table view is shown. refl;
  }

  module _ (at : ℕ) (now : Stores) (refused : List (ℕ × Refusal)) (size : ℕ) (before text : List ℕ) (so_far : AreCarriedOut blocks items at old now refused size before text) where
    pub some_carried : (table : Table) × HasCarried blocks d table items at so_far.changes now.directory now.indexes
    some_carried =
        some_table d old.indexes together_first (λ (table : Table). HasCarried blocks d table items at so_far.changes now.directory now.indexes) so_far.carried

    pub carried_stores : EachStore (IsSoundStore d.now) now.directory.stores now.indexes now.lasts
    carried_stores = so_far.moved.sound d.now sound.stores

    pub carried_share : may_share 240 blocks now.directory.stores ≡ true
    carried_share = let (table, walk) = some_carried in walk.share

    pub carried_size : size ≤ 30 * at
    carried_size = let (table, walk) = some_carried in omega (arith, walk.short, so_far.size_is)

    together_now : AreAllTogether now.directory.stores now.indexes
    together_now = all_together d.now now.directory.stores now.indexes now.lasts carried_stores

    module _ (can : CanBeCarried items) (item : Instruction) (here : slice_get items at ≡ Some item) where
      -- what the instructions made of each table is shown of the directory as it is now
      now_shown : (table : Table) (view : View) → IsViewWith d old.indexes view → IsTableShown table view
          → IsTableShown (carried_up_to blocks items at table).table (view_of now.directory now.indexes)
      now_shown table view is shown =
          shown_so_far blocks d table items at so_far.changes now.directory now.indexes (so_far.carried table view is shown) (view_of now.directory now.indexes)
          (is_view_of now.directory now.indexes)

      pub refuse_on : (refusal : Refusal) → OfShown now.directory now.indexes (λ table. Agrees (Err refusal) (instruct blocks item table))
          → AreCarriedOut blocks items (at + 1) old now (refused ++ (at + 1, refusal) ∷ []) size before text
      refuse_on refusal agrees = record {
        changes = so_far.changes;
        size_is = so_far.size_is;
        written = so_far.written;
        moved = so_far.moved;
        carried = λ table view is shown. (passed table view is shown).walk;
        refusals = λ table view is shown. map-append failure_of refused ((at + 1, refusal) ∷ [])
            ∙ ap (λ (l : List (ℕ × ℕ)). l ++ (at + 1, code_of refusal) ∷ []) (so_far.refusals table view is shown)
            ∙ sym (passed table view is shown).failures;
      }
        where
          passed : (table : Table) (view : View) → IsViewWith d old.indexes view → IsTableShown table view
              → HasPassed blocks d table items at so_far.changes now.directory now.indexes ((at + 1, code_of refusal) ∷ [])
          passed table view is shown =
              fails blocks d table items at so_far.changes now.directory now.indexes item (so_far.carried table view is shown) here (code_of refusal)
              (failed refusal (instruct blocks item (carried_up_to blocks items at table).table)
              (agrees (carried_up_to blocks items at table).table (view_of now.directory now.indexes) (is_view_of now.directory now.indexes) (now_shown table view is shown)))

      module _ (agrees : OfShown now.directory now.indexes (λ table. Agrees (Ok tt) (instruct blocks item table))) (next : Stores) (end : ℕ) (new : List ℕ) where
        went_well : (table : Table) (view : View) → IsViewWith d old.indexes view → IsTableShown table view
            → (made : Table) × (instruct blocks item (carried_up_to blocks items at table).table ≡ Ok made)
        went_well table view is shown =
            succeeded (instruct blocks item (carried_up_to blocks items at table).table)
            (agrees (carried_up_to blocks items at table).table (view_of now.directory now.indexes) (is_view_of now.directory now.indexes) (now_shown table view is shown))

        ask_on : change_by now.directory now.indexes item ≡ None → MakesNone now next size end text new
            → AreCarriedOut blocks items (at + 1) old next refused end before new
        ask_on none makes = record {
          changes = so_far.changes;
          size_is = makes.place ∙ so_far.size_is;
          written = subst (λ (l : List ℕ). Writes before l 0 (entry_octets so_far.changes)) (sym makes.written) so_far.written;
          moved = subst (HasMoved blocks old) (sym makes.made) so_far.moved;
          carried = λ table view is shown.
              subst (λ (s : Stores). HasCarried blocks d table items (at + 1) so_far.changes s.directory s.indexes) (sym makes.made) (passed table view is shown).walk;
          refusals = λ table view is shown. so_far.refusals table view is shown
              ∙ sym ((passed table view is shown).failures ∙ append-nil (carried_up_to blocks items at table).failures);
        }
          where
            passed : (table : Table) (view : View) → IsViewWith d old.indexes view → IsTableShown table view
                → HasPassed blocks d table items at so_far.changes now.directory now.indexes []
            passed table view is shown =
                let (made, ok) = went_well table view is shown in
                asks blocks d table items at so_far.changes now.directory now.indexes item (so_far.carried table view is shown) here can made ok none

        change_on : (change : Change) → change_by now.directory now.indexes item ≡ Some change → MakesChange item change now next size end text new
            → AreCarriedOut blocks items (at + 1) old next refused end before new
        change_on change by makes =
            let more : entry_octets (so_far.changes ++ change ∷ []) ≡ entry_octets so_far.changes ++ change_octets change =
            flat_map-append change_octets so_far.changes (change ∷ [])
            ∙ ap (λ (l : List ℕ). entry_octets so_far.changes ++ l) (append-nil (change_octets change)) in
            record {
              changes = so_far.changes ++ change ∷ [];
              size_is = makes.place ∙ ap (λ (n : ℕ). n + length (change_octets change)) so_far.size_is
                  ∙ sym (length-append (entry_octets so_far.changes) (change_octets change)) ∙ ap length (sym more);
              written = subst (Writes before new 0) (sym more) (Writes-then so_far.written makes.written (omega (arith, so_far.size_is)));
              moved = moved_there;
              carried = λ table view is shown. let has = changed table view is shown in
                  subst (λ (s : Stores). HasCarried blocks d table items (at + 1) (so_far.changes ++ change ∷ []) s.directory s.indexes)
                  (sym (makes.made has.next has.applied)) has.walk;
              refusals = λ table view is shown. so_far.refusals table view is shown ∙ sym (changed table view is shown).failures;
            }
          where
            changed : (table : Table) (view : View) → IsViewWith d old.indexes view → IsTableShown table view
                → HasChanged blocks d table items at so_far.changes now.directory now.indexes item change
            changed table view is shown =
                let (made, ok) = went_well table view is shown in
                effects blocks d table items at so_far.changes now.directory now.indexes item (so_far.carried table view is shown) here can made ok
                (all_begin d.now now.directory.stores now.indexes now.lasts carried_stores) change by

            moved_there : HasMoved blocks old next
            moved_there =
                let (table, has) = some_table d old.indexes together_first
                (λ (table : Table). HasChanged blocks d table items at so_far.changes now.directory now.indexes item change) changed in
                let (other, walk) = some_carried in
                moved_on blocks old now next so_far.moved
                (subst (HasMoved blocks now) (sym (makes.made has.next has.applied)) (moved blocks now walk.directory walk.share together_now item has.next has.step))

        pub effect_on : TakesEffect item (change_by now.directory now.indexes item) now next size end text new
            → AreCarriedOut blocks items (at + 1) old next refused end before new
        effect_on effect = pick (change_by now.directory now.indexes item) refl effect
          where
            pick : (found : Option Change) → change_by now.directory now.indexes item ≡ found → TakesEffect item found now next size end text new
                → AreCarriedOut blocks items (at + 1) old next refused end before new
            pick None is effect = ask_on is effect
            pick (Some change) is effect = change_on change is effect
