-- A request whose instructions were carried out and whose reports are counted, in memory.
use Rattle.std.proofs.Common.{◌≡◌, ℕ, ◌+◌, ◌≤◌, List, [], ◌∷◌, ◌++◌, Some, append-nil, length, length-append, map, take, refl, sym, ◌∙◌, ap, subst, arith}
use Rattle.std.proofs.lemmas.Bool.{lt-ltb}
use Rattle.std.proofs.lemmas.Grind.{flat_map-append}
use Rattle.std.proofs.lemmas.List.{length-map}
use Rattle.std.proofs.lemmas.Option.{same_Some}
use Rattle.octet_fields.specs.Fields.{Writes}
use Rattle.octet_fields.proofs.Splices.{Writes-then}
use Rattle.control_defs.specs.declared.instructions.Instruction.{Instruction}
use Rattle.image_table.specs.Granting.{counted}
use Rattle.image_table.specs.Table.{table_by}
use Rattle.meta_journal.proofs.FirstDirectory.{front_written}
use Rattle.pst_model.specs.Answers.{Carried, carry_out}
use Rattle.pst_model.specs.Reports.{count_behind}
use Rattle.pst_model.specs.Table.{Table}
use Rattle.request_laws.specs.Carrying.{HasEnded, count_of}
use Rattle.request_laws.specs.Counting.{CanBeCarried, reports_made}
use Rattle.request_laws.proofs.Ends.{ends}
use Rattle.request_laws.proofs.ShownTables.{held_behind, shown_behind}
use Rattle.request_laws.proofs.Stepping.{all_of}
use Rattle.store_directory.specs.Changes.{Change, apply}
use Rattle.store_directory.specs.Directory.{Directory, IsDirectory}
use Rattle.store_directory.specs.Entries.{change_octets, entry_octets}
use Rattle.store_directory.specs.Folds.{fold_entry}
use Rattle.store_load.specs.Claims.{may_share}
use Rattle.store_policy.specs.declared.refusal.Refusal.{Refusal}
use Rattle.vault.proofs.CarriedOut.{AreSound, carried_share, some_table, together_first}
use Rattle.vault.proofs.Moving.{moved_to}
use Rattle.vault.specs.Following.{Stores}
use Rattle.vault.specs.Requests.{AreCarriedOut, IsPrepared, OfShown, failure_of}

-- the change that counts reports fits
pub count_made : (d : Directory) (made : ℕ) → apply d (counted made d) ≡ Some (record d { reports = count_behind d.reports made })
unfolding apply
count_made d made = rw (lt-ltb (count_behind d.reports made) 16384 (omega arith)) refl

module _ (blocks acks : ℕ) (items : List Instruction) (old next : Stores) (refused : List (ℕ × Refusal)) (size : ℕ) (before text : List ℕ)
    (sound : AreSound blocks old) (all : AreCarriedOut blocks items (length items) old next refused size before text) (can : CanBeCarried items)
    (made : ℕ) (made_is : made ≡ reports_made acks items (length refused)) (last : Directory) (applied : apply next.directory (counted made next.directory) ≡ Some last)
    (new : List ℕ) (end : ℕ) (written : Writes text new size (change_octets (counted made next.directory))) (end_is : end ≡ size + length (change_octets (counted made next.directory))) where
  abbrev d : Directory
  d = old.directory

  abbrev clock : Change
  clock = counted made next.directory

  abbrev entry : List ℕ
  entry = entry_octets (all.changes ++ clock ∷ [])

  more : entry ≡ entry_octets all.changes ++ change_octets clock
  more =
      flat_map-append change_octets all.changes (clock ∷ []) ∙ ap (λ (l : List ℕ). entry_octets all.changes ++ l) (append-nil (change_octets clock))

  text_is : take end new ≡ entry
  text_is =
      front_written before new entry end (subst (Writes before new 0) (sym more) (Writes-then all.written written (omega (arith, all.size_is))))
      (end_is ∙ ap (λ (n : ℕ). n + length (change_octets clock)) all.size_is ∙ sym (length-append (entry_octets all.changes) (change_octets clock)) ∙ ap length (sym more))

  -- the failures of each table are those that were refused
  failures_are : OfShown d old.indexes (λ table. map failure_of refused ≡ (carry_out blocks items table).failures)
  failures_are table view is shown =
      all.refusals table view is shown ∙ ap (λ (c : Carried). c.failures) (all_of blocks items table)

  -- so each table ends with this clock
  record Ends (table : Table) : Type 0 where
    ended : HasEnded blocks d table acks items all.changes next.directory
    last_is : ended.last ≡ last
    folded : fold_entry d entry ≡ Some last
    shortest : 9 ≤ length entry
    longest : length entry ≤ 969

  ends_so : OfShown d old.indexes Ends
  ends_so table view is shown =
      let ended = ends blocks acks d table items all.changes next.directory next.indexes can (all.carried table view is shown) in
      let many : length refused ≡ length (carry_out blocks items table).failures =
      sym (length-map refused failure_of) ∙ ap length (failures_are table view is shown) in
      let same : clock ≡ count_of blocks acks items table next.directory = ap (λ (n : ℕ). counted n next.directory) (made_is ∙ ap (reports_made acks items) many) in
      let last_is : ended.last ≡ last = same_Some ended.last last (sym ended.applied ∙ ap (apply next.directory) (sym same) ∙ applied) in
      let entry_is : entry_octets (all.changes ++ count_of blocks acks items table next.directory ∷ []) ≡ entry =
      ap (λ (change : Change). entry_octets (all.changes ++ change ∷ [])) (sym same) in
      record {
        ended = ended;
        last_is = last_is;
        folded = ap (fold_entry d) (sym entry_is) ∙ ended.folded ∙ ap Some last_is;
        shortest = subst (λ (l : List ℕ). 9 ≤ length l) entry_is ended.shortest;
        longest = subst (λ (l : List ℕ). length l ≤ 969) entry_is ended.longest;
      }

  pub prepared : IsPrepared blocks acks items old (record { directory = last; indexes = next.indexes; lasts = next.lasts }) refused (take end new)
  prepared =
      let (table, it) = some_table d old.indexes (together_first blocks items old sound) Ends ends_so in
      let ended = it.ended in
      let long = ap length text_is in
      let stores : last.stores ≡ next.directory.stores = ap (λ (e : Directory). e.stores) (sym it.last_is) ∙ ended.stores in
      record {
        folded = ap (fold_entry d) text_is ∙ it.folded;
        shortest = omega (arith, long, it.shortest);
        longest = omega (arith, long, it.longest);
        directory = subst IsDirectory it.last_is ended.directory;
        share = ap (may_share 240 blocks) stores ∙ carried_share blocks items old sound (length items) next refused size before text all;
        now = ap (λ (e : Directory). e.now) (sym it.last_is) ∙ ended.now;
        moved = moved_to blocks old next.directory last next.indexes next.lasts stores all.moved;
        refusals = failures_are;
        held = λ table view is shown image content loads.
            let of_it = ends_so table view is shown in
            ap (table_by blocks image) (sym of_it.last_is)
            ∙ held_behind blocks d table items (length items) all.changes next.directory next.indexes (all.carried table view is shown) acks refl of_it.ended image content loads;
        shown = λ table view after is behind shown.
            let of_it = ends_so table view is shown in
            shown_behind blocks d table items (length items) all.changes next.directory next.indexes (all.carried table view is shown) acks refl of_it.ended after
            (record { directory = behind.directory ∙ sym of_it.last_is; indexes = behind.indexes });
      }
