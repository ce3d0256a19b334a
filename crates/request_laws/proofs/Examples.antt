-- A request of three instructions, of which the second one names no store: two stores end their storage.
-- So the premises of the laws can be met.
use Rattle.std.proofs.Common.{◌≡◌, ℕ, ◌<◌, ◌^◌, Bool, true, false, List, [], ◌∷◌, ◌++◌, length, Some, None, refl, sym, ◌∙◌, subst, arith}
use Rattle.std.specs.Prelude.{All, drop}
use Rattle.std.proofs.lemmas.List.Elements.{All-cons, All-nil}
use Rattle.std.proofs.lemmas.Option.{same_Some}
use Rattle.board.specs.Flash.{IsContent}
use Rattle.board.proofs.Pages.{blank_page}
use Rattle.control_defs.specs.Instructions.{IsInstruction}
use Rattle.control_defs.specs.Lists.{IsPatternList}
use Rattle.control_defs.specs.Patterns.{IsPattern}
use Rattle.control_defs.specs.declared.instructions.Instruction.{Instruction}
use Rattle.control_defs.specs.declared.instructions.Instruction.TheVariants.{Disable, ForwardAdd, Status, Summary}
use Rattle.control_defs.specs.declared.patterns.Pattern.TheVariants.{App, Every}
use Rattle.control_defs.proofs.Tested.{lawful-from_test}
use Rattle.image_table.specs.Table.{table_by}
use Rattle.pst_model.specs.Answers.{carry_out, is_carried, reports_on}
use Rattle.pst_model.specs.Failures.{unknown_store}
use Rattle.pst_model.specs.Items.{HasOctets, kind_asked}
use Rattle.pst_model.specs.Requests.{request_packet}
use Rattle.pst_model.specs.Table.{Store, Table, boot_store}
use Rattle.store_directory.specs.Changes.{Change, Clock, Forward, Put, apply, apply_all}
use Rattle.store_directory.specs.Checkpoints.{is_lawful}
use Rattle.store_directory.specs.Directory.{Directory, FitsLink, IsDirectory, IsListed, Listed}
use Rattle.store_directory.specs.Entries.{entry_octets}
use Rattle.store_directory.specs.Folds.{fold_entry}
use Rattle.store_directory.specs.Format.{first_row}
use Rattle.store_directory.specs.declared.row.Row.{Row}
use Rattle.store_load.specs.Kept.{kept_of}
use Rattle.store_load.proofs.KeptRows.{image_of}
use Rattle.request_laws.specs.Carrying.{count_of}
use Rattle.store_policy.specs.Shown.{AreIndexed, AreTogether}
use Rattle.time_index.specs.TimeIndex.{TimeIndex}
use Rattle.request_laws.specs.Changing.{BeginsWell, HasIndexes, change_by}
use Rattle.request_laws.specs.Counting.{CanBeCarried, reports_made}
use Rattle.request_laws.proofs.Ends as ending
use Rattle.request_laws.proofs.ShownTables as showing
use Rattle.request_laws.proofs.Tables.{begin_held, of_held}
use Rattle.request_laws.proofs.Walking as walking

-- two stores as a format makes them

abbrev row_of : (identifier : ℕ) → Row
row_of identifier = record first_row { identifier = identifier }

abbrev listed_of : (identifier : ℕ) → Listed
listed_of identifier = record { row = row_of identifier; patterns = Every ∷ []; links = [] }

abbrev off : (identifier : ℕ) → Row
off identifier = record (row_of identifier) { storage = false }

abbrev d : Directory
d = record { now = 5; reports = 16382; forward = []; stores = listed_of 1 ∷ listed_of 2 ∷ [] }

abbrev store_of : (identifier : ℕ) → Store
store_of identifier = record boot_store { identifier = identifier }

abbrev table : Table
table = record { now = 5; reports = 16382; forward = []; stores = store_of 1 ∷ store_of 2 ∷ [] }

abbrev image : ℕ → List ℕ
image = image_of []

held : table_by 16 image d ≡ Some table
unfolding table_by kept_of is_lawful
held = refl

content : IsContent 16 image
content p low = blank_page

abbrev items : List Instruction
items = Disable 1 ∷ Disable 3 ∷ Disable 2 ∷ []

-- the stores hold no packets

abbrev indexes : List TimeIndex
indexes = record { first = 0; entries = []; size = 64 } ∷ record { first = 0; entries = []; size = 64 } ∷ []

-- what the model makes of it

abbrev after : Table
after = record table { stores = record (store_of 1) { storage = false } ∷ record (store_of 2) { storage = false } ∷ [] }

carried : carry_out 16 items table ≡ record { table = after; failures = (2, unknown_store) ∷ [] }
carried = refl

-- with the flags of acceptance and completion [1,1], [1,4] and [1,8] answer it
abbrev packet : List ℕ
packet = request_packet 0 9 15 2 0 items

three : length (reports_on packet items (carry_out 16 items table)) ≡ 3
three = refl

three_made : reports_made 9 items 1 ≡ 3
three_made = refl

-- other numbers of reports: all that is asked for; a content report; and none where all failed

all_asked : reports_made 15 (ForwardAdd Every ∷ []) 0 ≡ 3
all_asked = refl

nothing_asked : reports_made 0 (ForwardAdd Every ∷ []) 0 ≡ 0
nothing_asked = refl

with_content : reports_made 0 (Summary 1 ∷ Summary 9 ∷ []) 1 ≡ 3
with_content = refl

without_content : reports_made 0 (Summary 8 ∷ Summary 9 ∷ []) 2 ≡ 3
without_content = refl

abbrev between : Table
between = record table { stores = record (store_of 1) { storage = false } ∷ store_of 2 ∷ [] }

-- the changes, and the directory behind them

first_change : change_by d indexes (Disable 1) ≡ Some (Put (off 1))
first_change = refl

no_change : change_by d indexes (Disable 3) ≡ None
no_change = refl

asks_only : change_by d indexes Status ≡ None
asks_only = refl

forward_change : change_by d indexes (ForwardAdd (App 3)) ≡ Some (Forward true (App 3))
forward_change = refl

abbrev changes : List Change
changes = Put (off 1) ∷ Put (off 2) ∷ []

sixty_nine : length (entry_octets (changes ++ Clock 5 1 ∷ [])) ≡ 69
sixty_nine = refl

all_made : apply_all d (changes ++ Clock 5 1 ∷ [])
    ≡ Some (record d { reports = 1; stores = record (listed_of 1) { row = off 1 } ∷ record (listed_of 2) { row = off 2 } ∷ [] })
unfolding apply
all_made = refl

abbrev made : Directory
made = record d { stores = record (listed_of 1) { row = off 1 } ∷ listed_of 2 ∷ [] }

put_one : apply d (Put (off 1)) ≡ Some made
unfolding apply
put_one = refl

-- the laws on it

every_fits : IsPatternList (Every ∷ [])
every_fits = lawful-from_test (Every ∷ []) (All-cons IsPattern Every [] tt (All-nil IsPattern)) refl

listed : (identifier : ℕ) → identifier < 2 ^ 16 → IsListed (listed_of identifier)
listed identifier low = record {
  lawful = refl;
  fits = record {
    identifier = low;
    size = omega arith;
    channel = omega arith;
    first = omega arith;
    count = omega arith;
    behind = omega arith;
    next = omega arith;
    end = omega arith;
  };
  patterns = every_fits;
  links = omega arith;
  fitting = All-nil FitsLink;
}

kept : IsDirectory d
kept = record {
  now = omega arith;
  reports = omega arith;
  forward = lawful-from_test [] (All-nil IsPattern) refl;
  stores = record {
    few = omega arith;
    reserved = omega arith;
    distinct = refl;
    each = All-cons IsListed (listed_of 1) (listed_of 2 ∷ []) (listed 1 (omega arith)) (All-cons IsListed (listed_of 2) [] (listed 2 (omega arith)) (All-nil IsListed));
  };
}

none_indexed : AreIndexed [] []
none_indexed = record { times = refl; lengths = refl }

together : (identifier : ℕ) (storage : Bool) → AreTogether (record (row_of identifier) { storage = storage }) (record { first = 0; entries = []; size = 64 })
together identifier storage = record { first = refl; count = refl; size = refl }

has : HasIndexes table d indexes
has = record { packets = (none_indexed, (none_indexed, tt)); together = (together 1 true, (together 2 true, tt)) }

begin_between : All BeginsWell made.stores
begin_between =
    All-cons BeginsWell (record (listed_of 1) { row = off 1 }) (listed_of 2 ∷ []) refl (All-cons BeginsWell (listed_of 2) [] refl (All-nil BeginsWell))

each_one : (P : Instruction → Type 0) → ((store : ℕ) → store < 2 ^ 16 → P (Disable store)) → All P items
each_one P is =
    All-cons P (Disable 1) (drop 1 items) (is 1 (omega arith))
    (All-cons P (Disable 3) (drop 2 items) (is 3 (omega arith)) (All-cons P (Disable 2) [] (is 2 (omega arith)) (All-nil P)))

request : CanBeCarried items
request = record {
  asked = record {
    kind = each_one (λ (item : Instruction). kind_asked item ≡ (15, 2)) (λ store low. refl);
    lawful = each_one IsInstruction (λ store low. tt);
    fit = each_one HasOctets (λ store low. (low, tt));
    some = omega arith;
    few = omega arith;
  };
  carried = each_one (λ (item : Instruction). is_carried item ≡ true) (λ store low. refl);
}

-- the entry makes a directory, by which the image holds the table behind the request
ended : (next last : Directory) × (apply_all d changes ≡ Some next) × (fold_entry d (entry_octets (changes ++ count_of 16 9 items table next ∷ [])) ≡ Some last)
    × (table_by 16 image last ≡ Some (record after { reports = 1 }))
ended =
    let begun = walking.begins 16 d table items indexes kept refl (of_held 16 image d table held) has in
    let one = walking.effects 16 d table items 0 [] d indexes (Disable 1) begun refl request between refl (begin_held 16 image d table held) (Put (off 1)) refl in
    let two = walking.fails 16 d table items 1 (Put (off 1) ∷ []) one.next indexes (Disable 3) one.walk refl unknown_store refl in
    let three = walking.effects 16 d table items 2 (Put (off 1) ∷ []) one.next indexes (Disable 2) two.walk refl request after refl (begin_behind one.next one.applied) (Put (off 2)) (found one.next one.applied) in
    let end = ending.ends 16 9 d table items changes three.next indexes request three.walk in (
      three.next,
      end.last,
      three.walk.made,
      end.folded,
      showing.held_behind 16 d table items 3 changes three.next indexes three.walk 9 refl end image content held,
    )
  where
    begin_behind : (next : Directory) → apply d (Put (off 1)) ≡ Some next → All BeginsWell next.stores
    begin_behind next applied = subst (λ (x : Directory). All BeginsWell x.stores) (same_Some made next (sym put_one ∙ applied)) begin_between

    found : (next : Directory) → apply d (Put (off 1)) ≡ Some next → change_by next indexes (Disable 2) ≡ Some (Put (off 2))
    found next applied = subst (λ (x : Directory). change_by x indexes (Disable 2) ≡ Some (Put (off 2))) (same_Some made next (sym put_one ∙ applied)) refl
