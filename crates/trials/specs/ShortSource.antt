-- What a text that comes in short pieces means, and what its calls change.
use Rattle.std.specs.Prelude.{◌≡◌, ◌+◌, ℕ, Bool, true, List, Option, None, min}
use Rattle.board.specs.Meaning.{SourceMeaning}
use Rattle.board.specs.MemorySource as text
use Rattle.trials.specs.declared.short_source.ShortSource.{ShortSource}

-- it tells what is left
abbrev pub tells_left : ShortSource → Bool
tells_left source = text.tells_left source.text

-- the octets that are still to come
abbrev pub left_of : ShortSource → List ℕ
left_of source = text.left_of source.text

-- the most octets that a take gives
abbrev pub most_of : ShortSource → ℕ
most_of source = source.most

-- how many takes there were, those that failed among them
abbrev pub takes_made : ShortSource → ℕ
takes_made source = text.takes_made source.text

-- the number of the take that is to fail
abbrev pub planned_take : ShortSource → Option ℕ
planned_take source = text.planned_take source.text

-- how often it has failed
abbrev pub faults_of : ShortSource → ℕ
faults_of source = text.faults_of source.text

-- all of it as one value
abbrev pub short_means : SourceMeaning ShortSource
short_means = record { tells = tells_left; left = left_of; faults = faults_of; takes = takes_made }

-- A text of which nothing was taken.
pub record IsNewSource (bytes : List ℕ) (at_most : ℕ) (source : ShortSource) : Type 0 where
  pub tells : tells_left source ≡ true
  pub left : left_of source ≡ bytes
  pub most : most_of source ≡ at_most
  pub made : takes_made source ≡ 0
  pub planned : planned_take source ≡ None
  pub faults : faults_of source ≡ 0

-- Nothing changes but what is to fail.
pub record SameButPlan (old new : ShortSource) : Type 0 where
  pub tells : tells_left new ≡ tells_left old
  pub left : left_of new ≡ left_of old
  pub most : most_of new ≡ most_of old
  pub made : takes_made new ≡ takes_made old
  pub faults : faults_of new ≡ faults_of old

-- A take is counted, and its most octets and the plan stay.
pub record CountsTake (old new : ShortSource) : Type 0 where
  pub most : most_of new ≡ most_of old
  pub made : takes_made new ≡ min (takes_made old + 1) 18446744073709551615
  pub planned : planned_take new ≡ planned_take old
