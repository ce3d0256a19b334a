-- What goes out on a grant, and whose move that is.
use Rattle.std.specs.Prelude.{◌≡◌, ◌≢◌, ◌⊎◌, ℕ, List, [], ◌∷◌, Some}
use Rattle.pst_model.specs.Rules.{Output, retrieved}
use Rattle.pst_model.specs.Table.{Store, Table}
use Rattle.pst_laws.specs.Moves.{Move, OpenSends, RangeSends, store_named}

-- The moves of stores on a grant: none has any, and nothing goes out; or one store sends the packet
-- at a position, which alone goes out, and no other store has a move.
pub data IsGranted (number : ℕ) (table : Table) (moves : (identifier : ℕ) → List Move)
    (outputs : List Output) : Type 0 where
  Nothing : outputs ≡ [] → ((identifier : ℕ) → moves identifier ≡ [])
      → IsGranted number table moves outputs
  One : (store : Store) (position : ℕ) → store_named store.identifier table ≡ Some store
      → outputs ≡ retrieved number store position
      → (moves store.identifier ≡ RangeSends position ∷ [])
      ⊎ (moves store.identifier ≡ OpenSends position ∷ [])
      → ((other : ℕ) → store.identifier ≢ other → moves other ≡ [])
      → IsGranted number table moves outputs
