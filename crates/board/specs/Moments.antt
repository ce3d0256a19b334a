-- What a stop at any moment of a run of calls leaves, and what had been sent by each moment.
use Rattle.std.specs.Prelude.{◌≡◌, ℕ, ◌≤◌, ◌<◌, List, ◌++◌}
use Rattle.board.specs.Meaning.{BoardMeaning}

abbrev pub IsPrefixOf : List ℕ → List ℕ → Type 0
IsPrefixOf front whole = (rest : List ℕ) × (front ++ rest ≡ whole)

-- The octets are those from before with a prefix of the whole behind them.
pub record GainsFront (before whole octets : List ℕ) : Type 0 where
  pub front : List ℕ
  pub prefix : IsPrefixOf front whole
  pub gained : octets ≡ before ++ front

-- At each moment from old to new, what had been sent has P.
pub record SendsOnly {B : Type 0} (means : BoardMeaning B) (old new : B) (P : List ℕ → Type 0) : Type 0 where
  pub later : means.moment old ≤ means.moment new
  pub each : (t : ℕ) → means.moment old ≤ t → t ≤ means.moment new → P (means.sent new t)
  -- what was sent by a moment that was reached never changes
  pub past : (t : ℕ) → t ≤ means.moment old → means.sent new t ≡ means.sent old t

-- a run that sends nothing
abbrev pub SendsNothing : {B : Type 0} → BoardMeaning B → B → B → Type 0
SendsNothing means old new = SendsOnly means old new (λ octets. octets ≡ means.sent old (means.moment old))

-- At each moment from old to new, each image that a stop leaves has P.
pub record LeavesOnly {B : Type 0} (means : BoardMeaning B) (old new : B) (P : (ℕ → List ℕ) → Type 0) : Type 0 where
  pub later : means.moment old ≤ means.moment new
  pub each : (t : ℕ) (image : ℕ → List ℕ) → means.moment old ≤ t → t ≤ means.moment new → means.images new t image → P image
  -- the images of a moment that was reached never change
  pub past : (t : ℕ) (image : ℕ → List ℕ) → t ≤ means.moment old → means.images new t image → means.images old t image
  pub kept : (t : ℕ) (image : ℕ → List ℕ) → t ≤ means.moment old → means.images old t image → means.images new t image

-- There is a moment of the run up to which each image has P, and behind which each has Q.
pub record LeavesInTurn {B : Type 0} (means : BoardMeaning B) (old new : B) (P Q : (ℕ → List ℕ) → Type 0) : Type 0 where
  pub turn : ℕ
  pub from : means.moment old ≤ turn
  pub to : turn ≤ means.moment new
  pub until : (t : ℕ) (image : ℕ → List ℕ) → means.moment old ≤ t → t ≤ turn → means.images new t image → P image
  pub since : (t : ℕ) (image : ℕ → List ℕ) → turn < t → t ≤ means.moment new → means.images new t image → Q image

-- From this moment on each image has P.
pub record LeavesFrom {B : Type 0} (means : BoardMeaning B) (start : ℕ) (new : B) (P : (ℕ → List ℕ) → Type 0) : Type 0 where
  pub reached : start ≤ means.moment new
  pub each : (t : ℕ) (image : ℕ → List ℕ) → start ≤ t → t ≤ means.moment new → means.images new t image → P image

-- At each moment from old to new, each image that a stop leaves has P together with what had been sent by then.
pub record Shows {B : Type 0} (means : BoardMeaning B) (old new : B) (P : List ℕ → (ℕ → List ℕ) → Type 0) : Type 0 where
  pub later : means.moment old ≤ means.moment new
  pub each : (t : ℕ) (image : ℕ → List ℕ) → means.moment old ≤ t → t ≤ means.moment new → means.images new t image
      → P (means.sent new t) image
  -- the images of a moment that was reached never change, and what was sent by it neither
  pub past : (t : ℕ) (image : ℕ → List ℕ) → t ≤ means.moment old → means.images new t image → means.images old t image
  pub kept : (t : ℕ) (image : ℕ → List ℕ) → t ≤ means.moment old → means.images old t image → means.images new t image
  pub past_sent : (t : ℕ) → t ≤ means.moment old → means.sent new t ≡ means.sent old t
