-- How many packets leave, by the model and by the entries.
use Rattle.std.proofs.Common.{◌≡◌, ◌≤◌, ◌<◌, ◌+◌, ◌-◌, ℕ, Bool, List, Some, true, false, length, drop, ap, ◌∙◌, arith, refl, subst, sym}
use Rattle.std.proofs.lemmas.Option.{get_or_from_slice_get}
use Rattle.std.proofs.lemmas.List.Sums.{sum_by-drop_more}
use Rattle.std.proofs.lemmas.Bool.{lt-leb, ltb-false, ltb-true}
use Rattle.std.specs.Prelude.{nat_le, nat_lt, slice_get}
use Rattle.pst_model.specs.Least.{IsLeast}
use Rattle.pst_model.specs.Rules.{free_of, has_room, to_drop}
use Rattle.pst_model.specs.Table.{Store}
use Rattle.pst_model.proofs.Leasts.{least-is}
use Rattle.store_directory.specs.declared.row.Row.{Row}
use Rattle.store_policy.specs.Plans.{has_room_behind}
use Rattle.store_policy.specs.Shown.{AreTogether, IsShown}
use Rattle.store_policy.proofs.Stored.{content-behind, packets-counted}
use Rattle.time_index.proofs.Entries.{cost}
use Rattle.time_index.specs.TimeIndex.{TimeIndex, pages_of}
use Rattle.time_index.specs.declared.entry.Entry.{Entry}

module _ (store : Store) (row : Row) (index : TimeIndex) (shown : IsShown store row index) (together : AreTogether row index) where
  same_room : (need n : ℕ) → has_room store need n ≡ has_room_behind index need n
  same_room need n =
      ap (λ (content : ℕ). nat_le (content + need) store.size) (content-behind store.packets index.entries shown.packets n)
      ∙ ap (λ (size : ℕ). nat_le (pages_of (drop n index.entries) + need) size) (shown.size ∙ sym together.size)

  pub free_of-index : free_of store ≡ index.size - pages_of index.entries
  free_of-index = omega (arith, content-behind store.packets index.entries shown.packets 0, shown.size, together.size)

  pub to_drop-is : (need leaving : ℕ) → leaving ≤ length index.entries → IsLeast (has_room_behind index need) leaving → leaving ≡ to_drop store need
  to_drop-is need leaving within least =
      sym (least-is (has_room store need) (length store.packets) leaving
      (omega (arith, within, packets-counted store.packets index.entries shown.packets))
      (same_room need leaving ∙ least.passes)
      (λ n lt. same_room need n ∙ least.first n lt))

-- the pages of one entry more that is gone
pub one-gone : (entries : List Entry) (i : ℕ) (entry : Entry) → slice_get entries i ≡ Some entry → i < length entries
    → pages_of (drop i entries) ≡ cost entry + pages_of (drop (i + 1) entries)
one-gone entries i entry at within =
    omega (arith, sum_by-drop_more cost entries i entry within, ap cost (get_or_from_slice_get entries i entry entry at))

-- there is no room behind any of these and one more
pub none-before : (index : TimeIndex) (need count : ℕ)
    → ((n : ℕ) → n < count → has_room_behind index need n ≡ false)
    → index.size < pages_of (drop count index.entries) + need
    → (n : ℕ) → n < count + 1 → has_room_behind index need n ≡ false
none-before index need count before lacks n lt = by (nat_lt n count) refl
  where
    by : (below : Bool) → nat_lt n count ≡ below → has_room_behind index need n ≡ false
    by true is = before n (ltb-true n count is)
    by false is =
        let past = ltb-false n count is in
        let same : count ≡ n = omega (arith, past, lt) in
        subst (λ (m : ℕ). has_room_behind index need m ≡ false) same
        (lt-leb (pages_of (drop count index.entries) + need) index.size lacks)
