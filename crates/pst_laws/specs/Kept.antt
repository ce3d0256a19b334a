-- What holds of the packets that the retrievals of a store sent.
use Rattle.std.specs.Prelude.{◌≡◌, ◌≤◌, ◌<◌, ◌⊎◌, ⊤, ℕ, ◌+◌, false, All, AllPairs, Contains, drop, length, List, Option, Some, None}
use Rattle.pst_model.specs.Table.{Stored}
use Rattle.pst_laws.specs.Places.{Place}
use Rattle.pst_laws.specs.Trails.{Trail}

-- The packets of a store are the numbered ones but those that left, so that the one at a position
-- has the number of this position and those that left.
pub record AreNumbered (trail : Trail) (packets : List Stored) : Type 0 where
  pub within : trail.gone ≤ length trail.numbered
  pub rest : packets ≡ drop trail.gone trail.numbered

-- each number is below the next ones
abbrev pub AreRising : List ℕ → Type 0
AreRising numbers = AllPairs (λ a b. a < b) numbers

abbrev pub IsFrom : (first end : ℕ) → ℕ → Type 0
IsFrom first end number = (first ≤ number) × (number < end)

abbrev pub range_at : Option Place → Option (ℕ × ℕ)
range_at None = None
range_at (Some place) = place.range

-- whether a number is still one of the range
abbrev pub IsAhead : (gone number : ℕ) → Option (ℕ × ℕ) → Type 0
IsAhead gone number None = ⊥
IsAhead gone number (Some (next, end)) = IsFrom (gone + next) (gone + end) number

abbrev pub IsNumberedAt : Trail → Option Place → Type 0
IsNumberedAt trail None = ⊤
IsNumberedAt trail (Some place) = AreNumbered trail place.packets

-- A range retrieval sends packets that were selected at its start, in rising order. As long as it
-- is not aborted, each selected packet was sent, or left the front without that, or is still ahead.
pub record IsRangeKept (trail : Trail) (place : Option Place) : Type 0 where
  pub rising : AreRising trail.range.sent
  pub selected : All (IsFrom trail.range.first trail.range.end) trail.range.sent
  pub each : trail.range.aborted ≡ false → (number : ℕ)
      → IsFrom trail.range.first trail.range.end number
      → Contains trail.range.sent number ⊎ (number < trail.gone)
      ⊎ IsAhead trail.gone number (range_at place)

-- each number from the first one up to the end was sent, or left the front
abbrev pub ArePassed : (gone first end : ℕ) → (sent : List ℕ) → Type 0
ArePassed gone first end sent =
    (number : ℕ) → IsFrom first end number → Contains sent number ⊎ (number < gone)

-- what open retrieval has passed, where the store stands
abbrev pub IsPassedAt : Trail → Option Place → Type 0
IsPassedAt trail None = ⊤
IsPassedAt trail (Some place) =
    ArePassed trail.gone trail.ahead.first (trail.gone + place.behind) trail.ahead.sent

-- Open retrieval sends packets in rising order, from where it went on. Each number that it passed
-- over, before one that it sent and before the one at which it stands, left the front.
pub record IsOpenKept (trail : Trail) (place : Option Place) : Type 0 where
  pub rising : AreRising trail.ahead.sent
  pub from : All (λ number. trail.ahead.first ≤ number) trail.ahead.sent
  pub passed : (later : ℕ) → Contains trail.ahead.sent later
      → ArePassed trail.gone trail.ahead.first later trail.ahead.sent
  pub present : IsPassedAt trail place
