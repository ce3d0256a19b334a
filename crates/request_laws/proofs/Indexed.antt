-- The index of a store that an instruction names, and the numbers of packets that it counts.
use Rattle.std.proofs.Common.{◌≡◌, ℕ, ◌≤◌, ◌==◌, Bool, true, false, List, [], ◌∷◌, Some, refl, sym, ◌∙◌, subst, arith}
use Rattle.std.specs.Prelude.{find, nat_le, nat_lt}
use Rattle.std.proofs.lemmas.Bool.{cond-false, cond-true}
use Rattle.std.proofs.lemmas.List.Sums.{count_by-le-length}
use Rattle.std.proofs.lemmas.Option.{none-some, same_Some}
use Rattle.pst_model.specs.Changes.{is_named}
use Rattle.pst_model.specs.Ranges as model
use Rattle.pst_model.specs.Table.{Store, Table}
use Rattle.store_directory.specs.Directory.{Listed, find_store}
use Rattle.store_policy.specs.Shown.{AreAllIndexed, AreAllTogether, AreIndexed, AreTogether, IsTableShown}
use Rattle.store_policy.specs.declared.view.View.{View}
use Rattle.store_policy.proofs.Copied.{counted}
use Rattle.store_policy.proofs.Indexed.{table_indexed}
use Rattle.time_index.specs.TimeIndex.{TimeIndex, count_below, count_up_to, stamp_of}
use Rattle.time_index.specs.declared.entry.Entry.{Entry}
use Rattle.request_laws.specs.Changing.{AreListedAs, HasIndexes, index_for}
use Rattle.request_laws.proofs.Finding.{named_as}

-- An index is that of a store and of what is listed of it.
pub record IndexedAs (index : TimeIndex) (store : Store) (s : Listed) : Type 0 where
  pub packets : AreIndexed store.packets index.entries
  pub together : AreTogether s.row index

pub indexed_as : (identifier : ℕ) (stores : List Store) (listed : List Listed) (indexes : List TimeIndex) (store : Store) (s : Listed) → AreListedAs stores listed
    → AreAllIndexed stores indexes → AreAllTogether listed indexes → find (is_named identifier) stores ≡ Some store → find_store identifier listed ≡ Some s
    → IndexedAs (index_for identifier listed indexes) store s
indexed_as identifier [] [] indexes store s are packets together is found = absurd (none-some store is)
indexed_as identifier (x ∷ stores) (l ∷ listed) (index ∷ indexes) store s are packets together is found =
    by (is_named identifier x) refl (indexed_as identifier stores listed indexes store s are.1 packets.1 together.1)
  where
    by : (test : Bool) → is_named identifier x ≡ test
        → (find (is_named identifier) stores ≡ Some store → find_store identifier listed ≡ Some s → IndexedAs (index_for identifier listed indexes) store s)
        → IndexedAs (index_for identifier (l ∷ listed) (index ∷ indexes)) store s
    by true named rest =
        let same = named_as identifier x l true are.0 named in
        let this : x ≡ store = same_Some x store (sym (cond-true (is_named identifier x) (Some x) (find (is_named identifier) stores) named) ∙ is) in
        let that : l ≡ s = same_Some l s (sym (cond-true (identifier == l.identifier) (Some l) (find_store identifier listed) same) ∙ found) in
        subst (λ (i : TimeIndex). IndexedAs i store s) (sym (cond-true (identifier == l.identifier) index (index_for identifier listed indexes) same))
        (record {
          packets = subst (λ (y : Store). AreIndexed y.packets index.entries) this packets.0;
          together = subst (λ (y : Listed). AreTogether y.row index) that together.0;
        })
    by false named rest =
        let other = named_as identifier x l false are.0 named in
        subst (λ (i : TimeIndex). IndexedAs i store s) (sym (cond-false (identifier == l.identifier) index (index_for identifier listed indexes) other))
        (rest (sym (cond-false (is_named identifier x) (Some x) (find (is_named identifier) stores) named) ∙ is)
        (sym (cond-false (identifier == l.identifier) (Some l) (find_store identifier listed) other) ∙ found))
indexed_as identifier [] (l ∷ listed) indexes store s are packets together is found = absurd are
indexed_as identifier (x ∷ stores) [] indexes store s are packets together is found = absurd are
indexed_as identifier (x ∷ stores) (l ∷ listed) [] store s are packets together is found = absurd packets

module _ (index : TimeIndex) (store : Store) (s : Listed) (indexed : IndexedAs index store s) where
  pub below_is : (t : ℕ) → model.count_below t store.packets ≡ count_below index.entries t
  below_is t = counted store.packets index.entries indexed.packets (λ n. nat_lt n t)

  pub up_to_is : (t : ℕ) → model.count_up_to t store.packets ≡ count_up_to index.entries t
  up_to_is t = counted store.packets index.entries indexed.packets (λ n. nat_le n t)

  pub below_within : (t : ℕ) → count_below index.entries t ≤ s.count
  below_within t = omega (arith, count_by-le-length (λ (entry : Entry). nat_lt (stamp_of entry) t) index.entries, indexed.together.count)

  pub up_to_within : (t : ℕ) → count_up_to index.entries t ≤ s.count
  up_to_within t = omega (arith, count_by-le-length (λ (entry : Entry). nat_le (stamp_of entry) t) index.entries, indexed.together.count)

-- what memory shows
pub has_indexes : (table : Table) (view : View) → IsTableShown table view → AreAllTogether view.directory.now.stores view.indexes.now
    → HasIndexes table view.directory.now.directory view.indexes.now
has_indexes table view shown together = record { packets = table_indexed table view shown; together = together }
