-- Windows of packets, as a time index shows them.
use Rattle.std.proofs.Common.{◌≡◌, ◌≤◌, ◌<◌, ℕ, ◌-◌, Bool, true, false, cond, List, [], ◌∷◌, length, drop, take, get_or, refl, sym, ◌∙◌, ap, arith}
use Rattle.std.proofs.lemmas.Bool.{leb-false, leb-true}
use Rattle.std.proofs.lemmas.List.{drop-map, get_or-map, length-drop, length-take, take-map}
use Rattle.std.proofs.lemmas.List.Sums.{count_by-le-length, sum_by-cons}
use Rattle.std.specs.Prelude.{count_by, map, nat_le, nat_lt, sum_by}
use Rattle.std.specs.List.Sorted.{IsNonDecreasingBy}
use Rattle.space_packet.specs.Charge.{charge_of}
use Rattle.pst_model.specs.Copies.{is_empty}
use Rattle.pst_model.specs.Laws.{time_of}
use Rattle.pst_model.specs.Ranges as model
use Rattle.pst_model.specs.Ranges.{window_of}
use Rattle.pst_model.specs.Table.{Stored, content_in}
use Rattle.pst_model.proofs.Windows.{window}
use Rattle.store_policy.specs.Shown.{AreIndexed, length_of, octets_in}
use Rattle.store_policy.specs.Checks.{entries_between}
use Rattle.store_policy.proofs.Stored.{content-sum, packets-counted, pages-sum}
use Rattle.time_index.specs.TimeIndex.{IsInOrder, count_below, count_up_to, pages_of, stamp_of}
use Rattle.time_index.specs.declared.entry.Entry.{Entry}

-- a test of a number of each element
count-map : {X : Type 0} (number : X → ℕ) (test : ℕ → Bool) (xs : List X) → count_by (λ x. test (number x)) xs ≡ count_by test (map number xs)
count-map number test [] = refl
count-map number test (x ∷ xs) =
    omega (
      arith,
      count-map number test xs,
      sum_by-cons (λ y. cond (test (number y)) 1 0) x xs,
      sum_by-cons (λ n. cond (test n) 1 0) (number x) (map number xs),
    )

pub empty-is : (packets : List Stored) → length packets ≡ 0 → is_empty packets ≡ true
empty-is [] is = refl
empty-is (stored ∷ packets) is = absurd (omega arith)

pub filled-is : (packets : List Stored) → 0 < length packets → is_empty packets ≡ false
filled-is [] is = absurd (omega arith)
filled-is (stored ∷ packets) is = refl

module _ (packets : List Stored) (entries : List Entry) (shown : AreIndexed packets entries) where
  pub counted : (test : ℕ → Bool) → count_by (λ (stored : Stored). test (time_of stored)) packets ≡ count_by (λ (entry : Entry). test (stamp_of entry)) entries
  counted test = count-map time_of test packets ∙ ap (count_by test) shown.times ∙ sym (count-map stamp_of test entries)

  between-content : (n m : ℕ) → content_in (take n (drop m packets)) ≡ pages_of (take n (drop m entries))
  between-content n m =
      content-sum (take n (drop m packets))
      ∙ ap (sum_by charge_of) (sym (take-map octets_in n (drop m packets)) ∙ ap (take n) (sym (drop-map octets_in m packets) ∙ ap (drop m) shown.lengths ∙ drop-map length_of m entries) ∙ take-map length_of n (drop m entries))
      ∙ sym (pages-sum (take n (drop m entries)))

  in-order : IsInOrder entries → IsNonDecreasingBy time_of packets
  in-order order i j d le lt =
      let e : Entry = record { stamp = time_of d; block = 0; page = 0; length = 0 } in
      let same = packets-counted packets entries shown in
      omega (
        arith,
        order i j e le (omega arith),
        get_or-map time_of packets i d (time_of d) (omega arith),
        get_or-map time_of packets j d (time_of d) lt,
        get_or-map stamp_of entries i e (time_of d) (omega arith),
        get_or-map stamp_of entries j e (time_of d) (omega arith),
        ap (λ (l : List ℕ). get_or l i (time_of d)) shown.times,
        ap (λ (l : List ℕ). get_or l j (time_of d)) shown.times,
      )

  module _ (t1 t2 : ℕ) (le : t1 ≤ t2) (order : IsInOrder entries) where
    below-is : model.count_below t1 packets ≡ count_below entries t1
    below-is = counted (λ n. nat_lt n t1)

    up_to-is : model.count_up_to t2 packets ≡ count_up_to entries t2
    up_to-is = counted (λ n. nat_le n t2)

    window-is : window_of t1 t2 packets ≡ take (count_up_to entries t2 - count_below entries t1) (drop (count_below entries t1) packets)
    window-is =
        window t1 t2 packets le (in-order order)
        ∙ ap (λ (n : ℕ). take (n - model.count_below t1 packets) (drop (model.count_below t1 packets) packets)) up_to-is
        ∙ ap (λ (n : ℕ). take (count_up_to entries t2 - n) (drop n packets)) below-is

    pub window-content : content_in (window_of t1 t2 packets) ≡ pages_of (entries_between t1 t2 entries)
    window-content = ap content_in window-is ∙ between-content (count_up_to entries t2 - count_below entries t1) (count_below entries t1)

    window-length : length (window_of t1 t2 packets) ≡ count_up_to entries t2 - count_below entries t1
    window-length =
        ap length window-is
        ∙ omega (
          arith,
          length-take (count_up_to entries t2 - count_below entries t1) (drop (count_below entries t1) packets),
          length-drop (count_below entries t1) packets,
          packets-counted packets entries shown,
          count_by-le-length (λ (entry : Entry). nat_le (stamp_of entry) t2) entries,
        )

    pub window-empty : is_empty (window_of t1 t2 packets) ≡ nat_le (count_up_to entries t2) (count_below entries t1)
    window-empty = by (nat_le (count_up_to entries t2) (count_below entries t1)) refl
      where
        by : (none : Bool) → nat_le (count_up_to entries t2) (count_below entries t1) ≡ none → is_empty (window_of t1 t2 packets) ≡ none
        by true is = empty-is (window_of t1 t2 packets) (omega (arith, window-length, leb-true (count_up_to entries t2) (count_below entries t1) is))
        by false is = filled-is (window_of t1 t2 packets) (omega (arith, window-length, leb-false (count_up_to entries t2) (count_below entries t1) is))
