-- A request ends with the change of the clock.
use Rattle.std.proofs.Common.{◌≡◌, ℕ, ◌+◌, ◌<◌, ◌≤◌, true, false, Bool, List, [], ◌∷◌, ◌++◌, length, Option, Some, refl, sym, ◌∙◌, ap, subst, arith}
use Rattle.std.specs.Prelude.{All, if◌then◌else◌}
use Rattle.std.specs.Option.{option_and_then}
use Rattle.std.proofs.lemmas.Bool.{lt-ltb}
use Rattle.std.proofs.lemmas.List.Elements.{All-append, All-cons, All-nil}
use Rattle.control_defs.specs.declared.instructions.Instruction.{Instruction}
use Rattle.pst_model.specs.Answers.{Carried, carry_out}
use Rattle.pst_model.specs.Reports.{count_behind}
use Rattle.pst_model.specs.Requests.{are_alone}
use Rattle.pst_model.specs.Table.{Table}
use Rattle.store_directory.specs.Changes.{Change, Clock, apply, apply_all}
use Rattle.store_directory.specs.Directory.{Directory}
use Rattle.store_directory.specs.Entries.{FitsChange, entry_octets}
use Rattle.store_directory.specs.Folds.{fold_entry}
use Rattle.store_directory.specs.Options.{◌>>=◌}
use Rattle.store_directory.proofs.WrittenChanges.{changes_in-octets}
use Rattle.time_index.specs.TimeIndex.{TimeIndex}
use Rattle.request_laws.specs.Carrying.{HasCarried, HasEnded, count_of}
use Rattle.request_laws.specs.Changing.{IsTableOf}
use Rattle.request_laws.specs.Counting.{CanBeCarried, reports_on_table}
use Rattle.request_laws.proofs.Reporting.{reports_stay}
use Rattle.request_laws.proofs.Stepping.{all_of}
use Rattle.request_laws.proofs.Walking.{entry_more, made_more}

clock_applies : (d : Directory) (now reports : ℕ) → reports < 16384 → apply d (Clock now reports) ≡ Some (record d { now = now; reports = reports })
unfolding apply
clock_applies d now reports low = rw (lt-ltb reports 16384 low) refl

folds : (d last : Directory) (changes : List Change) → All FitsChange changes → apply_all d changes ≡ Some last → fold_entry d (entry_octets changes) ≡ Some last
unfolding fold_entry
folds d last changes written made = ap (λ (o : Option (List Change)). o >>= apply_all d) (changes_in-octets changes written) ∙ made

-- one request has 32 instructions at most
few_items : (items : List Instruction) → CanBeCarried items → length items ≤ 32
few_items items request = by (are_alone items) request.asked.few
  where
    by : (alone : Bool) → length items ≤ (if alone then 1 else 32) → length items ≤ 32
    by true few = omega (arith, few)
    by false few = few

counted_low : (count reports : ℕ) → count_behind count reports < 16384
counted_low count reports = omega arith

pub ends : (blocks acks : ℕ) (d : Directory) (table : Table) (items : List Instruction) (changes : List Change) (next : Directory) (indexes : List TimeIndex) → CanBeCarried items
    → HasCarried blocks d table items (length items) changes next indexes → HasEnded blocks d table acks items changes next
ends blocks acks d table items changes next indexes request walk =
    let n = reports_on_table blocks acks items table in
    let count = count_behind next.reports n in
    let change = count_of blocks acks items table next in
    let last : Directory = record next { reports = count } in
    let applied : apply next change ≡ Some last = clock_applies next next.now count (counted_low next.reports n) in
    let fits : FitsChange change = (walk.directory.now, omega (arith, counted_low next.reports n)) in
    let made = made_more d next last changes (change ∷ []) walk.made (ap (option_and_then (λ (e : Directory). Some e)) applied) in
    let written = All-append FitsChange changes (change ∷ []) walk.written (All-cons FitsChange change [] fits (All-nil FitsChange)) in
    let long : length (entry_octets (changes ++ change ∷ [])) ≡ length (entry_octets changes) + 9 = entry_more changes change in
    let few = few_items items request in
    let is : IsTableOf (carry_out blocks items table).table next = subst (λ (c : Carried). IsTableOf c.table next) (all_of blocks items table) walk.is_of in
    record {
      last = last;
      applied = applied;
      fits = fits;
      can_be_written = walk.directory.now;
      in_range = walk.directory.now;
      made = made;
      folded = folds d last (changes ++ change ∷ []) written made;
      shortest = omega (arith, long);
      longest = omega (arith, long, walk.short, few);
      directory = record { now = walk.directory.now; reports = counted_low next.reports n; forward = walk.directory.forward; stores = walk.directory.stores };
      stores = refl;
      now = walk.now;
      is_of = record {
        now = is.now;
        reports = ap (λ (r : ℕ). count_behind r n) (sym (reports_stay blocks table items) ∙ is.reports);
        forward = is.forward;
        stores = is.stores;
      };
    }
