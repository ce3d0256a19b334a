-- Packets by their storage times: windows, ranges and deletion (ECSS-E-ST-70-41C, 6.15.3), and the
-- checks of each instruction, in their order.
use Rattle.std.specs.Prelude.{ℕ, ◌&&◌, nat_le, nat_lt, not, Bool, false, if◌then◌else◌, List, [], ◌∷◌, count_by, filter, Option, Some, None, Result}
use Rattle.pst_model.specs.Failures.{already_so, open_is_on, range_stands, times_reversed, unless}
use Rattle.pst_model.specs.Rules.{has_range}
use Rattle.pst_model.specs.Table.{Store, Stored, drop_front}

-- the packets with times from the first one to the second
abbrev pub window_of : (t1 t2 : ℕ) → List Stored → List Stored
window_of t1 t2 packets =
    filter (λ (stored : Stored). nat_le t1 stored.time && nat_le stored.time t2) packets

-- how many packets have times below t
abbrev pub count_below : (t : ℕ) → List Stored → ℕ
count_below t packets = count_by (λ (stored : Stored). nat_lt stored.time t) packets

-- how many packets have times of at most t
abbrev pub count_up_to : (t : ℕ) → List Stored → ℕ
count_up_to t packets = count_by (λ (stored : Stored). nat_le stored.time t) packets

-- the positions from the first one up to, and not including, the second: none where there are none
abbrev pub range_between : (next end : ℕ) → Option (ℕ × ℕ)
range_between next end = if nat_lt next end then Some (next, end) else None

abbrev pub start_checks : (t1 t2 : ℕ) → Store → List (Bool × ℕ)
start_checks t1 t2 store =
    (nat_lt t2 t1, times_reversed) ∷ (has_range store, range_stands) ∷ []

-- A store with a range retrieval of the packets of a window.
abbrev pub start_range : (t1 t2 : ℕ) → Store → Result Store ℕ
start_range t1 t2 store =
    unless (start_checks t1 t2 store)
    (record store {
      range = range_between (count_below t1 store.packets) (count_up_to t2 store.packets);
    })

abbrev pub abort_checks : Store → List (Bool × ℕ)
abort_checks store = (not (has_range store), already_so) ∷ []

-- A store without its range retrieval.
abbrev pub abort_range : Store → Result Store ℕ
abort_range store = unless (abort_checks store) (record store { range = None })

abbrev pub delete_checks : Store → List (Bool × ℕ)
delete_checks store = (store.open_on, open_is_on) ∷ (has_range store, range_stands) ∷ []

-- A store without the packets with times of at most t.
abbrev pub delete_up_to : (t : ℕ) → Store → Result Store ℕ
delete_up_to t store =
    unless (delete_checks store)
    (record (drop_front store (count_up_to t store.packets)) { told = false })

abbrev pub open_checks : Store → List (Bool × ℕ)
open_checks store = (store.open_on, open_is_on) ∷ []

-- A store whose open retrieval goes on from t.
abbrev pub open_from : (t : ℕ) → Store → Result Store ℕ
open_from t store =
    unless (open_checks store) (record store { behind = count_below t store.packets })
