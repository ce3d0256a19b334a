-- Along times that never fall, what has times below one, or up to it, stands in front.
use Rattle.std.proofs.Common.{◌≡◌, ◌≤◌, ℕ, suc, ◌-◌, Bool, true, false, List, [], ◌∷◌, drop, take, refl, sym, ◌∙◌, ap, arith}
use Rattle.std.proofs.lemmas.Bool.{cond-false, cond-true, false_from_ne_true, true≢false, le-leb, le-ltb, leb-false, leb-true, lt-leb, lt-ltb, ltb-false, ltb-true, not_from_false, not_from_true}
use Rattle.std.proofs.lemmas.List.Elements.{All-cons, All-head, All-tail, All-weaker, filter_agree}
use Rattle.std.proofs.lemmas.List.Sums.{sum_by-cons}
use Rattle.std.specs.Prelude.{All, ◌&&◌, count_by, filter, if◌then◌else◌, nat_le, nat_lt, not}
use Rattle.std.specs.List.Sorted.{IsNonDecreasingBy}
use Rattle.pst_model.specs.Laws.{time_of}
use Rattle.pst_model.specs.Ranges.{count_below, count_up_to, window_of}
use Rattle.pst_model.specs.Table.{Stored}

-- the first has no later time than those behind it, whose times never fall
order_head : (first : Stored) (packets : List Stored) → IsNonDecreasingBy time_of (first ∷ packets) → All (λ (stored : Stored). first.time ≤ stored.time) packets
order_head first packets order = λ k d lt. order 0 (suc k) d (omega arith) (omega arith)

order_tail : (first : Stored) (packets : List Stored) → IsNonDecreasingBy time_of (first ∷ packets) → IsNonDecreasingBy time_of packets
order_tail first packets order = λ i j d le lt. order (suc i) (suc j) d (omega arith) (omega arith)

filter_all : (test : Stored → Bool) (packets : List Stored) → All (λ stored. test stored ≡ true) packets → filter test packets ≡ packets
filter_all test [] all = refl
filter_all test (stored ∷ packets) all =
    cond-true (test stored) (stored ∷ filter test packets) (filter test packets) (All-head (λ s. test s ≡ true) stored packets all)
    ∙ ap (λ (l : List Stored). stored ∷ l) (filter_all test packets (All-tail (λ s. test s ≡ true) stored packets all))

filter_none : (test : Stored → Bool) (packets : List Stored) → All (λ stored. test stored ≡ false) packets → filter test packets ≡ []
filter_none test [] all = refl
filter_none test (stored ∷ packets) all =
    cond-false (test stored) (stored ∷ filter test packets) (filter test packets) (All-head (λ s. test s ≡ false) stored packets all)
    ∙ filter_none test packets (All-tail (λ s. test s ≡ false) stored packets all)

module _ (test : Stored → Bool) where
  count_yes : (stored : Stored) (packets : List Stored) → test stored ≡ true → count_by test (stored ∷ packets) ≡ suc (count_by test packets)
  count_yes stored packets passes =
      let one : ◌≡◌ {A = ℕ} (if test stored then 1 else 0) 1 = cond-true (test stored) 1 0 passes in
      sum_by-cons (λ (s : Stored). if test s then 1 else 0) stored packets ∙ omega (arith, one)

  count_no : (stored : Stored) (packets : List Stored) → test stored ≡ false → count_by test (stored ∷ packets) ≡ count_by test packets
  count_no stored packets fails =
      let none : ◌≡◌ {A = ℕ} (if test stored then 1 else 0) 0 = cond-false (test stored) 1 0 fails in
      sum_by-cons (λ (s : Stored). if test s then 1 else 0) stored packets ∙ omega (arith, none)

  count_none : (packets : List Stored) → All (λ stored. test stored ≡ false) packets → count_by test packets ≡ 0
  count_none [] all = refl
  count_none (stored ∷ packets) all =
      count_no stored packets (All-head (λ s. test s ≡ false) stored packets all) ∙ count_none packets (All-tail (λ s. test s ≡ false) stored packets all)

  -- a test that an earlier time passes where a later one does
  module _ (closed : (a b : Stored) → a.time ≤ b.time → test b ≡ true → test a ≡ true) where
    fails_behind : (first : Stored) (packets : List Stored) → test first ≡ false → IsNonDecreasingBy time_of (first ∷ packets) → All (λ stored. test stored ≡ false) packets
    fails_behind first packets fails order =
        All-weaker (λ (stored : Stored). first.time ≤ stored.time) (λ stored. test stored ≡ false)
        (λ stored le. false_from_ne_true (test stored) (λ passes. true≢false (sym (closed first stored le passes) ∙ fails))) packets (order_head first packets order)

    -- those that pass stand in front
    pub take_passing : (packets : List Stored) → IsNonDecreasingBy time_of packets → take (count_by test packets) packets ≡ filter test packets
    take_passing [] order = refl
    take_passing (first ∷ packets) order = by (test first) refl (take_passing packets (order_tail first packets order))
      where
        by : (passes : Bool) → test first ≡ passes → take (count_by test packets) packets ≡ filter test packets → take (count_by test (first ∷ packets)) (first ∷ packets) ≡ filter test (first ∷ packets)
        by true passes behind =
            ap (λ (n : ℕ). take n (first ∷ packets)) (count_yes first packets passes) ∙ ap (λ (l : List Stored). first ∷ l) behind
            ∙ sym (cond-true (test first) (first ∷ filter test packets) (filter test packets) passes)
        by false fails behind =
            let none = fails_behind first packets fails order in
            ap (λ (n : ℕ). take n (first ∷ packets)) (count_no first packets fails ∙ count_none packets none)
            ∙ sym (cond-false (test first) (first ∷ filter test packets) (filter test packets) fails ∙ filter_none test packets none)

    -- and those that fail behind them
    pub drop_passing : (packets : List Stored) → IsNonDecreasingBy time_of packets → drop (count_by test packets) packets ≡ filter (λ stored. not (test stored)) packets
    drop_passing [] order = refl
    drop_passing (first ∷ packets) order = by (test first) refl (drop_passing packets (order_tail first packets order))
      where
        by : (passes : Bool) → test first ≡ passes → drop (count_by test packets) packets ≡ filter (λ stored. not (test stored)) packets
            → drop (count_by test (first ∷ packets)) (first ∷ packets) ≡ filter (λ stored. not (test stored)) (first ∷ packets)
        by true passes behind =
            ap (λ (n : ℕ). drop n (first ∷ packets)) (count_yes first packets passes) ∙ behind
            ∙ sym (cond-false (not (test first)) (first ∷ filter (λ stored. not (test stored)) packets) (filter (λ stored. not (test stored)) packets) (not_from_true (test first) passes))
        by false fails behind =
            let none = fails_behind first packets fails order in
            let all = All-weaker (λ stored. test stored ≡ false) (λ stored. not (test stored) ≡ true) (λ stored fail. not_from_false (test stored) fail) packets none in
            ap (λ (n : ℕ). drop n (first ∷ packets)) (count_no first packets fails ∙ count_none packets none)
            ∙ sym (cond-true (not (test first)) (first ∷ filter (λ stored. not (test stored)) packets) (filter (λ stored. not (test stored)) packets) (not_from_false (test first) fails)
            ∙ ap (λ (l : List Stored). first ∷ l) (filter_all (λ stored. not (test stored)) packets all))

below_closed : (t : ℕ) (a b : Stored) → a.time ≤ b.time → nat_lt b.time t ≡ true → nat_lt a.time t ≡ true
below_closed t a b le passes = lt-ltb a.time t (omega (arith, ltb-true b.time t passes))

up_to_closed : (t : ℕ) (a b : Stored) → a.time ≤ b.time → nat_le b.time t ≡ true → nat_le a.time t ≡ true
up_to_closed t a b le passes = le-leb a.time t (omega (arith, leb-true b.time t passes))

-- a test and its opposite
not_below : (t n : ℕ) → not (nat_lt n t) ≡ nat_le t n
not_below t n = by (nat_lt n t) refl
  where
    by : (below : Bool) → nat_lt n t ≡ below → not (nat_lt n t) ≡ nat_le t n
    by true below = not_from_true (nat_lt n t) below ∙ sym (lt-leb t n (ltb-true n t below))
    by false below = not_from_false (nat_lt n t) below ∙ sym (le-leb t n (ltb-false n t below))

not_up_to : (t n : ℕ) → not (nat_le n t) ≡ nat_lt t n
not_up_to t n = by (nat_le n t) refl
  where
    by : (up_to : Bool) → nat_le n t ≡ up_to → not (nat_le n t) ≡ nat_lt t n
    by true up_to = not_from_true (nat_le n t) up_to ∙ sym (le-ltb t n (leb-true n t up_to))
    by false up_to = not_from_false (nat_le n t) up_to ∙ sym (lt-ltb t n (leb-false n t up_to))

pub deleted : (t : ℕ) (packets : List Stored) → IsNonDecreasingBy time_of packets → drop (count_up_to t packets) packets ≡ filter (λ (stored : Stored). nat_lt t stored.time) packets
deleted t packets order =
    drop_passing (λ (stored : Stored). nat_le stored.time t) (up_to_closed t) packets order
    ∙ filter_agree (λ (stored : Stored). not (nat_le stored.time t)) (λ (stored : Stored). nat_lt t stored.time) (λ stored. not_up_to t stored.time) packets

pub ahead : (t : ℕ) (packets : List Stored) → IsNonDecreasingBy time_of packets → drop (count_below t packets) packets ≡ filter (λ (stored : Stored). nat_le t stored.time) packets
ahead t packets order =
    drop_passing (λ (stored : Stored). nat_lt stored.time t) (below_closed t) packets order
    ∙ filter_agree (λ (stored : Stored). not (nat_lt stored.time t)) (λ (stored : Stored). nat_le t stored.time) (λ stored. not_below t stored.time) packets

-- a window of packets that are all at its first time or later
from_first : (t1 t2 : ℕ) (packets : List Stored) → All (λ (stored : Stored). t1 ≤ stored.time) packets → window_of t1 t2 packets ≡ filter (λ (stored : Stored). nat_le stored.time t2) packets
from_first t1 t2 [] all = refl
from_first t1 t2 (stored ∷ packets) all =
    let here : nat_le t1 stored.time ≡ true = le-leb t1 stored.time (All-head (λ (s : Stored). t1 ≤ s.time) stored packets all) in
    let behind = from_first t1 t2 packets (All-tail (λ (s : Stored). t1 ≤ s.time) stored packets all) in
    ap (λ (b : Bool). if b && nat_le stored.time t2 then stored ∷ window_of t1 t2 packets else window_of t1 t2 packets) here
    ∙ ap (λ (l : List Stored). if nat_le stored.time t2 then stored ∷ l else l) behind

pub window : (t1 t2 : ℕ) (packets : List Stored) → t1 ≤ t2 → IsNonDecreasingBy time_of packets
    → window_of t1 t2 packets ≡ take (count_up_to t2 packets - count_below t1 packets) (drop (count_below t1 packets) packets)
window t1 t2 [] le order = refl
window t1 t2 (first ∷ packets) le order = by (nat_lt first.time t1) refl (window t1 t2 packets le (order_tail first packets order))
  where
    below : Stored → Bool
    below stored = nat_lt stored.time t1

    up_to : Stored → Bool
    up_to stored = nat_le stored.time t2

    by : (early : Bool) → nat_lt first.time t1 ≡ early → window_of t1 t2 packets ≡ take (count_up_to t2 packets - count_below t1 packets) (drop (count_below t1 packets) packets)
        → window_of t1 t2 (first ∷ packets) ≡ take (count_up_to t2 (first ∷ packets) - count_below t1 (first ∷ packets)) (drop (count_below t1 (first ∷ packets)) (first ∷ packets))
    by true early behind =
        let before = ltb-true first.time t1 early in
        let one : count_below t1 (first ∷ packets) ≡ suc (count_below t1 packets) = count_yes (λ (s : Stored). nat_lt s.time t1) first packets early in
        let other : count_up_to t2 (first ∷ packets) ≡ suc (count_up_to t2 packets) = count_yes (λ (s : Stored). nat_le s.time t2) first packets (le-leb first.time t2 (omega arith)) in
        let less : count_up_to t2 packets - count_below t1 packets ≡ count_up_to t2 (first ∷ packets) - count_below t1 (first ∷ packets) = omega (arith, one, other) in
        ap (λ (b : Bool). if b && nat_le first.time t2 then first ∷ window_of t1 t2 packets else window_of t1 t2 packets) (lt-leb t1 first.time before)
        ∙ behind
        ∙ ap (λ (n : ℕ). take n (drop (count_below t1 packets) packets)) less
        ∙ ap (λ (n : ℕ). take (count_up_to t2 (first ∷ packets) - count_below t1 (first ∷ packets)) (drop n (first ∷ packets))) (sym one)
    by false late behind =
        let from : t1 ≤ first.time = ltb-false first.time t1 late in
        let none = fails_behind (λ (s : Stored). nat_lt s.time t1) (below_closed t1) first packets late order in
        let zero_below : count_below t1 (first ∷ packets) ≡ 0 = count_no (λ (s : Stored). nat_lt s.time t1) first packets late ∙ count_none (λ (s : Stored). nat_lt s.time t1) packets none in
        let all : All (λ (s : Stored). t1 ≤ s.time) (first ∷ packets) = at_least from in
        from_first t1 t2 (first ∷ packets) all
        ∙ sym (take_passing (λ (s : Stored). nat_le s.time t2) (up_to_closed t2) (first ∷ packets) order)
        ∙ ap (λ (n : ℕ). take n (first ∷ packets)) (omega (arith, zero_below))
        ∙ ap (λ (n : ℕ). take (count_up_to t2 (first ∷ packets) - count_below t1 (first ∷ packets)) (drop n (first ∷ packets))) (sym zero_below)
      where
        at_least : t1 ≤ first.time → All (λ (s : Stored). t1 ≤ s.time) (first ∷ packets)
        at_least from = All-cons (λ (s : Stored). t1 ≤ s.time) first packets from
            (All-weaker (λ (s : Stored). first.time ≤ s.time) (λ (s : Stored). t1 ≤ s.time) (λ s later. omega arith) packets (order_head first packets order))
