-- A grant of the model by the pick of the rows of its stores.
use Rattle.std.proofs.Common.{◌≡◌, ℕ, zero, suc, ◌+◌, Bool, true, false, List, [], ◌∷◌, Option, Some, None, slice_set, refl, sym, ◌∙◌, ap, subst, arith}
use Rattle.std.proofs.lemmas.Bool.{cond-false, cond-true}
use Rattle.std.proofs.lemmas.Option.{none-some, same_Some}
use Rattle.std.specs.Prelude.{◌↔◌, find, is_some, slice_get, if◌then◌else◌}
use Rattle.std.specs.Option.{option_or}
use Rattle.pst_model.specs.Rules as model
use Rattle.pst_model.specs.Rules.{Output, Retrieved, Step, at_first, grant, grant_open, grant_range, packet_at, range_next, range_sent, retrieved}
use Rattle.pst_model.specs.Table.{Store, Table}
use Rattle.store_directory.specs.Directory.{Listed}
use Rattle.store_directory.specs.declared.row.Row.{Row}
use Rattle.retrieval.specs.Grants.{AreByRows, IsByRow, IsRowAt, Sends, sends_nothing, with_positions}
use Rattle.retrieval.specs.Picks.{first_pick, has_ahead, has_range, open_pick, pick_of, range_pick, sent_row}
use Rattle.retrieval.specs.declared.pick.Pick.{Pick}
use Rattle.retrieval.proofs.Firsts.{IsFirstRow, of_first, picked_there, row_there}

-- a test of stores is that of their rows
abbrev Agree : (Store → Bool) → (Row → Bool) → Type 0
Agree test by_row = (store : Store) (row : Row) → IsByRow store row → test store ≡ by_row row

range_agrees : Agree model.has_range has_range
range_agrees store row is = ap is_some is.range

ahead_agrees : Agree model.has_ahead has_ahead
ahead_agrees store row is = rw (is.open_on, is.behind, is.count) refl

-- the first store that passes stands in the place of the first row that does
record IsThere (test : Store → Bool) (stores : List Store) (at : ℕ) (row : Row) : Type 0 where
  store : Store
  there : slice_get stores at ≡ Some store
  found : find test stores ≡ Some store
  changed : (change : Store → Store) → at_first test change stores ≡ slice_set stores at (change store)
  is : IsByRow store row

module _ (test : Store → Bool) (by_row : Row → Bool) (agree : Agree test by_row) where
  none_found : (stores : List Store) (rows : List Listed) (pick : (at : ℕ) → Row → Pick) (from : ℕ) → AreByRows stores rows → first_pick by_row pick from rows ≡ None → find test stores ≡ None
  none_found [] [] pick from are is = refl
  none_found (store ∷ stores) (s ∷ rows) pick from are is = by (none_found stores rows pick (from + 1) are.1) (by_row s.row) refl is
    where
      by : (first_pick by_row pick (from + 1) rows ≡ None → find test stores ≡ None) → (passes : Bool) → by_row s.row ≡ passes → (if passes then Some (pick from s.row) else first_pick by_row pick (from + 1) rows) ≡ None → find test (store ∷ stores) ≡ None
      by deeper true same is = absurd (none-some (pick from s.row) (sym is))
      by deeper false same is =
          cond-false (test store) (Some store) (find test stores) (agree store s.row are.0 ∙ same) ∙ deeper is
  none_found _ _ pick from are is = absurd are

  there_too : (stores : List Store) (rows : List Listed) (at : ℕ) (s : Listed) → AreByRows stores rows → IsFirstRow by_row rows at → slice_get rows at ≡ Some s → IsThere test stores at s.row
  there_too [] [] at s are first there = absurd first
  there_too (store ∷ stores) (x ∷ rows) zero s are first there =
      let passes = agree store x.row are.0 ∙ first in
      record {
        store = store;
        there = refl;
        found = cond-true (test store) (Some store) (find test stores) passes;
        changed = λ change. cond-true (test store) (change store ∷ stores) (store ∷ at_first test change stores) passes;
        is = subst (λ (y : Listed). IsByRow store y.row) (same_Some x s there) are.0;
      }
  there_too (store ∷ stores) (x ∷ rows) (suc at) s are first there =
      let fails = agree store x.row are.0 ∙ first.0 in
      let rest = there_too stores rows at s are.1 first.1 there in
      record {
        store = rest.store;
        there = rest.there;
        found = cond-false (test store) (Some store) (find test stores) fails ∙ rest.found;
        changed = λ change.
            cond-false (test store) (change store ∷ stores) (store ∷ at_first test change stores) fails
            ∙ ap (λ (l : List Store). store ∷ l) (rest.changed change);
        is = rest.is;
      }
  there_too _ _ at s are first there = absurd are

-- what goes out for a pick
abbrev packet_sent : (number : ℕ) → Store → Pick → List Output
packet_sent number store pick =
    record { command = number; kind = Retrieved; channel = pick.channel; packet = packet_at store pick.position } ∷ []

-- A way in which a grant serves the first store that passes: by its range, or by open retrieval.
record Way (number : ℕ) : Type 0 where
  test : Store → Bool
  by_row : Row → Bool
  agree : Agree test by_row
  pick : (at : ℕ) → Row → Pick
  place : (at : ℕ) (row : Row) → (pick at row).at ≡ at
  change : Store → Store
  moved : (at : ℕ) (store : Store) (row : Row) → IsByRow store row → change store ≡ with_positions (sent_row (pick at row).range row) store
  position : Store → ℕ
  sent : (at : ℕ) (store : Store) (row : Row) → IsByRow store row → retrieved number store (position store) ≡ packet_sent number store (pick at row)

-- the step of a way that serves a store
abbrev step_of : (number : ℕ) → Way number → Table → Store → Step
step_of number way table store = record {
  table = record table { stores = at_first way.test way.change table.stores };
  outputs = retrieved number store (way.position store);
}

by_range : (number : ℕ) → Way number
by_range number = record {
  test = model.has_range;
  by_row = has_range;
  agree = range_agrees;
  pick = range_pick;
  place = λ at row. refl;
  change = λ store. record store { range = range_sent store.range };
  moved = λ at store row is i. record store { behind = is.behind i; range = range_sent (is.range i) };
  position = λ store. range_next store.range;
  sent = λ at store row is i. record { command = number; kind = Retrieved; channel = is.channel i; packet = packet_at store (range_next (is.range i)) } ∷ [];
}

by_open : (number : ℕ) → Way number
by_open number = record {
  test = model.has_ahead;
  by_row = has_ahead;
  agree = ahead_agrees;
  pick = open_pick;
  place = λ at row. refl;
  change = λ store. record store { behind = store.behind + 1 };
  moved = λ at store row is i. record store { behind = is.behind i + 1; range = is.range i };
  position = λ store. store.behind;
  sent = λ at store row is i. record { command = number; kind = Retrieved; channel = is.channel i; packet = packet_at store (is.behind i) } ∷ [];
}

module _ (number : ℕ) (table : Table) (rows : List Listed) (are : AreByRows table.stores rows) where
  -- the step of a way is that of the pick
  module _ (way : Way number) (s : Listed) (pick : Pick) (picked : first_pick way.by_row way.pick 0 rows ≡ Some pick) (there : slice_get rows pick.at ≡ Some s)
      (step : (store : Store) → find way.test table.stores ≡ Some store → grant number table ≡ step_of number way table store) where
    way_sends : Sends number table pick (sent_row pick.range s.row) (grant number table)
    way_sends =
        let first = of_first way.by_row way.pick 0 rows pick picked in
        let row = first.listed.row in
        let from : 0 + first.at ≡ first.at = omega arith in
        let is : way.pick first.at row ≡ pick = ap (λ (k : ℕ). way.pick k row) (sym from) ∙ first.is in
        let at : first.at ≡ pick.at = sym (way.place first.at row) ∙ ap (λ (p : Pick). p.at) is in
        let listed : first.listed ≡ s = same_Some first.listed s (sym first.there ∙ ap (slice_get rows) at ∙ there) in
        let here = there_too way.test way.by_row way.agree table.stores rows first.at first.listed are first.first first.there in
        let made = step here.store here.found in
        let moved : way.change here.store ≡ with_positions (sent_row pick.range s.row) here.store =
        way.moved first.at here.store row here.is
        ∙ ap (λ (p : Pick). with_positions (sent_row p.range row) here.store) is
        ∙ ap (λ (l : Listed). with_positions (sent_row pick.range l.row) here.store) listed in
        record {
          store = here.store;
          there = ap (slice_get table.stores) (sym at) ∙ here.there;
          outputs = ap (λ (x : Step). x.outputs) made ∙ way.sent first.at here.store row here.is ∙ ap (packet_sent number here.store) is;
          moved =
              ap (λ (x : Step). x.table) made
              ∙ ap (λ (l : List Store). record table { stores = l })
              (here.changed way.change ∙ ap (slice_set table.stores first.at) moved ∙ ap (λ (k : ℕ). slice_set table.stores k (with_positions (sent_row pick.range s.row) here.store)) at);
        }

  no_range : first_pick has_range range_pick 0 rows ≡ None → grant number table ≡ grant_open number table (find model.has_ahead table.stores)
  no_range is = ap (grant_range number table) (none_found model.has_range has_range range_agrees table.stores rows range_pick 0 are is)

  pub sent_by : (pick : Pick) (s : Listed) → pick_of rows ≡ Some pick → slice_get rows pick.at ≡ Some s
      → Sends number table pick (sent_row pick.range s.row) (grant number table)
  unfolding by_open by_range
  sent_by pick s picked there = by (first_pick has_range range_pick 0 rows) refl picked
    where
      by : (found : Option Pick) → first_pick has_range range_pick 0 rows ≡ found → option_or found (first_pick has_ahead open_pick 0 rows) ≡ Some pick
          → Sends number table pick (sent_row pick.range s.row) (grant number table)
      by (Some other) is same =
          way_sends (by_range number) s pick (is ∙ same) there (λ store found. ap (grant_range number table) found)
      by None is same =
          way_sends (by_open number) s pick same there (λ store found. no_range is ∙ ap (grant_open number table) found)

  pub sent : (pick : Pick) (row : Row) → pick_of rows ≡ Some pick → IsRowAt rows pick.at row → Sends number table pick (sent_row pick.range row) (grant number table)
  sent pick row picked here =
      let there = picked_there rows pick picked in
      subst (λ (r : Row). Sends number table pick (sent_row pick.range r) (grant number table)) (sym (row_there rows pick.at row there.0 here there.1))
      (sent_by pick there.0 picked there.1)

  nothing : pick_of rows ≡ None → grant number table ≡ sends_nothing table
  nothing picked = by (first_pick has_range range_pick 0 rows) refl picked
    where
      by : (found : Option Pick) → first_pick has_range range_pick 0 rows ≡ found → option_or found (first_pick has_ahead open_pick 0 rows) ≡ None
          → grant number table ≡ sends_nothing table
      by (Some other) is same = absurd (none-some other (sym same))
      by None is same =
          no_range is ∙ ap (grant_open number table) (none_found model.has_ahead has_ahead ahead_agrees table.stores rows open_pick 0 are same)

  -- a pick has a store
  something : (pick : Pick) → pick_of rows ≡ Some pick → grant number table ≡ sends_nothing table → ⊥
  something pick picked none = by (slice_get rows pick.at) refl
    where
      by : (found : Option Listed) → slice_get rows pick.at ≡ found → ⊥
      by (Some s) is = let sends = sent_by pick s picked is in some_outputs (sym sends.outputs ∙ ap (λ (x : Step). x.outputs) none)
        where
          some_outputs : {output : Output} {outputs : List Output} → output ∷ outputs ≡ [] → ⊥
          some_outputs is = cc
      by None is = let place = picked_there rows pick picked in none-some place.0 (sym is ∙ place.1)

  pub nothing_if : (pick_of rows ≡ None) ↔ (grant number table ≡ sends_nothing table)
  nothing_if = (nothing, back)
    where
      back : grant number table ≡ sends_nothing table → pick_of rows ≡ None
      back none = by (pick_of rows) refl
        where
          by : (found : Option Pick) → pick_of rows ≡ found → found ≡ None
          by None is = refl
          by (Some pick) is = absurd (something pick is none)
