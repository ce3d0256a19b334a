-- A request goes on by one instruction.
use Rattle.std.proofs.Common.{◌≡◌, ℕ, ◌+◌, List, [], ◌∷◌, ◌++◌, append-nil, length, length-append, true, Some, None, Ok, Err, refl, sym, ◌∙◌, ap, subst, arith}
use Rattle.std.specs.Prelude.{All, slice_get}
use Rattle.std.specs.Option.{option_and_then}
use Rattle.std.proofs.lemmas.Grind.{flat_map-append}
use Rattle.std.proofs.lemmas.List.Elements.{All-append, All-cons, All-nil}
use Rattle.control_defs.specs.Instructions.{IsInstruction}
use Rattle.control_defs.specs.declared.instructions.Instruction.{Instruction}
use Rattle.pst_model.specs.Answers.{Carried, is_carried}
use Rattle.pst_model.specs.Instructions.{instruct}
use Rattle.pst_model.specs.Items.{HasOctets}
use Rattle.pst_model.specs.Table.{Table}
use Rattle.store_directory.specs.Changes.{Change, apply_all}
use Rattle.store_directory.specs.Directory.{Directory, IsDirectory}
use Rattle.store_directory.specs.Entries.{FitsChange, change_octets, entry_octets}
use Rattle.store_directory.proofs.Folded.{apply_all-append}
use Rattle.store_load.specs.Claims.{may_share}
use Rattle.request_laws.specs.Carrying.{HasCarried, HasChanged, HasPassed, carried_up_to}
use Rattle.time_index.specs.TimeIndex.{TimeIndex}
use Rattle.request_laws.specs.Changing.{BeginsWell, HasIndexes, IsTableOf, StepsBy, change_by, indexes_by}
use Rattle.request_laws.specs.Counting.{CanBeCarried}
use Rattle.request_laws.proofs.Moves.{Moves}
use Rattle.request_laws.proofs.Effects.{only_asks, takes_effect}
use Rattle.request_laws.proofs.Stepping.{all_here, went_well, went_wrong}

pub begins : (blocks : ℕ) (d : Directory) (table : Table) (items : List Instruction) (indexes : List TimeIndex) → IsDirectory d → may_share 240 blocks d.stores ≡ true → IsTableOf table d
    → HasIndexes table d indexes → HasCarried blocks d table items 0 [] d indexes
begins blocks d table items indexes directory share is_of has = record {
  made = refl;
  written = All-nil FitsChange;
  short = omega arith;
  directory = directory;
  share = share;
  is_of = is_of;
  has = has;
  now = refl;
  reports = refl;
  held = λ image pages held. held;
}

-- one change more in an entry

pub entry_more : (changes : List Change) (change : Change) → length (entry_octets (changes ++ change ∷ [])) ≡ length (entry_octets changes) + length (change_octets change)
entry_more changes change =
    ap length (flat_map-append change_octets changes (change ∷ []))
    ∙ length-append (entry_octets changes) (entry_octets (change ∷ []))
    ∙ ap (λ (l : List ℕ). length (entry_octets changes) + length l) (append-nil (change_octets change))

pub made_more : (d before next : Directory) (changes : List Change) (more : List Change) → apply_all d changes ≡ Some before → apply_all before more ≡ Some next
    → apply_all d (changes ++ more) ≡ Some next
made_more d before next changes more made applied =
    apply_all-append d changes more ∙ ap (option_and_then (λ (e : Directory). apply_all e more)) made ∙ applied

module _ (blocks : ℕ) (d : Directory) (table : Table) (items : List Instruction) (at : ℕ) (changes : List Change) (before : Directory) (indexes : List TimeIndex) (item : Instruction)
    (walk : HasCarried blocks d table items at changes before indexes) (there : slice_get items at ≡ Some item) where
  abbrev so_far : Carried
  so_far = carried_up_to blocks items at table

  -- nothing was changed
  passes : (failures : List (ℕ × ℕ)) → carried_up_to blocks items (at + 1) table ≡ record { table = so_far.table; failures = so_far.failures ++ failures }
      → HasPassed blocks d table items at changes before indexes failures
  passes failures is =
      let same : so_far.table ≡ (carried_up_to blocks items (at + 1) table).table = ap (λ (c : Carried). c.table) (sym is) in
      record {
        walk = record {
          made = walk.made;
          written = walk.written;
          short = omega (arith, walk.short);
          directory = walk.directory;
          share = walk.share;
          is_of = subst (λ (t : Table). IsTableOf t before) same walk.is_of;
          has = subst (λ (t : Table). HasIndexes t before indexes) same walk.has;
          now = walk.now;
          reports = walk.reports;
          held = λ image pages held. walk.held image pages held ∙ ap Some same;
        };
        failures = ap (λ (c : Carried). c.failures) is;
      }

  pub fails : (code : ℕ) → instruct blocks item so_far.table ≡ Err code → HasPassed blocks d table items at changes before indexes ((at + 1, code) ∷ [])
  fails code err = passes ((at + 1, code) ∷ []) (went_wrong blocks items at table item there code err)

  module _ (request : CanBeCarried items) (made : Table) (ok : instruct blocks item so_far.table ≡ Ok made) where
    pub asks : change_by before indexes item ≡ None → HasPassed blocks d table items at changes before indexes []
    asks none =
        let carried = all_here (λ (i : Instruction). is_carried i ≡ true) items at item request.carried there in
        let same : so_far.table ≡ made = only_asks blocks before so_far.table indexes walk.is_of item made carried ok none in
        passes []
        (went_well blocks items at table item there made ok
        ∙ (λ i. record { table = sym same i; failures = sym (append-nil so_far.failures) i }))

    -- a change was made
    pub changed : (change : Change) → Moves blocks before so_far.table made (λ (next : Directory). StepsBy item before indexes next) change (indexes_by before indexes item)
        → HasChanged blocks d table items at changes before indexes item change
    changed change makes =
        let is = went_well blocks items at table item there made ok in
        let same : made ≡ (carried_up_to blocks items (at + 1) table).table = ap (λ (c : Carried). c.table) (sym is) in
        record {
          next = makes.next;
          applied = makes.applied;
          fits = makes.fits;
          can_be_written = makes.can_be_written;
          in_range = makes.in_range;
          step = makes.step;
          walk = record {
            made = made_more d before makes.next changes (change ∷ []) walk.made (ap (option_and_then (λ (e : Directory). Some e)) makes.applied);
            written = All-append FitsChange changes (change ∷ []) walk.written (All-cons FitsChange change [] makes.fits (All-nil FitsChange));
            short = omega (arith, walk.short, makes.short, entry_more changes change);
            directory = makes.directory;
            share = makes.share;
            is_of = subst (λ (t : Table). IsTableOf t makes.next) same makes.is_of;
            has = subst (λ (t : Table). HasIndexes t makes.next (indexes_by before indexes item)) same makes.has;
            now = makes.now ∙ walk.now;
            reports = makes.reports ∙ walk.reports;
            held = λ image pages held. makes.held image pages (walk.held image pages held) ∙ ap Some same;
          };
          failures = ap (λ (c : Carried). c.failures) is;
        }

    pub effects : All BeginsWell before.stores → (change : Change) → change_by before indexes item ≡ Some change → HasChanged blocks d table items at changes before indexes item change
    effects begin change by =
        let lawful = all_here IsInstruction items at item request.asked.lawful there in
        let octets = all_here HasOctets items at item request.asked.fit there in
        changed change (takes_effect blocks before so_far.table indexes walk.is_of walk.directory begin walk.share walk.has item made change lawful octets ok by)
