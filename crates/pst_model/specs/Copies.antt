-- Copies of packets from one store into another (ECSS-E-ST-70-41C, 6.15.3).
use Rattle.std.specs.Prelude.{ℕ, ◌==◌, nat_lt, Bool, true, false, not, List, [], ◌∷◌, Result}
use Rattle.pst_model.specs.Changes.{change_store, of_store}
use Rattle.pst_model.specs.Failures.{empty_window, holds_a_packet, same_store, times_reversed, unless, window_too_large}
use Rattle.pst_model.specs.Ranges.{window_of}
use Rattle.pst_model.specs.Table.{Store, Stored, Table, content_in}

abbrev pub is_empty : List Stored → Bool
is_empty [] = true
is_empty (stored ∷ packets) = false

-- the checks behind those that find both stores, in their order
abbrev pub copy_checks : (source : Store) → (t1 t2 : ℕ) → (destination : Store) → List (Bool × ℕ)
copy_checks source t1 t2 destination =
    let window = window_of t1 t2 source.packets in
    (source.identifier == destination.identifier, same_store)
    ∷ (nat_lt t2 t1, times_reversed)
    ∷ (not (is_empty destination.packets), holds_a_packet)
    ∷ (is_empty window, empty_window)
    ∷ (nat_lt destination.size (content_in window), window_too_large) ∷ []

-- A store that takes over a window of another one's packets, with their times.
abbrev pub take_window : (source : Store) → (t1 t2 : ℕ) → (destination : Store) → Result Store ℕ
take_window source t1 t2 destination =
    unless (copy_checks source t1 t2 destination)
    (record destination { packets = window_of t1 t2 source.packets; told = false })

-- The packets of a window of one store become those of another one.
abbrev pub copy : (source destination t1 t2 : ℕ) → Table → Result Table ℕ
copy source destination t1 t2 table = of_store source table (λ store.
    change_store destination table (take_window store t1 t2))
