-- What each move keeps, moves one behind another keep.
use Rattle.std.proofs.Common.{List, [], ◌∷◌, Option}
use Rattle.pst_laws.specs.Moves.{Move}
use Rattle.pst_laws.specs.Places.{Halted, Moved, MovedAlong, MovedBy, Onward, Place, Still, Then}
use Rattle.pst_laws.specs.Trails.{Trail, follow, follow_all, followed}

module _ (P : Trail → Option Place → Type 0) (keeps : (move : Move) (before behind : Option Place) (trail : Trail) → Moved move before behind → P trail before → P (followed move trail) behind) where
  by_moves : (moves : List Move) (before behind : Option Place) (trail : Trail) → MovedBy moves before behind → P trail before → P (follow moves trail) behind
  by_moves [] before _ trail (Still _) holds = holds
  by_moves (move ∷ moves) before behind trail (Then _ _ _ next _ moved rest) holds = by_moves moves next behind (followed move trail) rest (keeps move before next trail moved holds)

  pub along : (moves : List (List Move)) (before behind : Option Place) (trail : Trail) → MovedAlong moves before behind → P trail before → P (follow_all moves trail) behind
  along [] before _ trail (Halted _) holds = holds
  along (moves ∷ others) before behind trail (Onward _ _ _ next _ moved rest) holds = along others next behind (follow moves trail) rest (by_moves moves before next trail moved holds)
