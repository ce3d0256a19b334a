-- What a text in memory means, and what its calls change.
use Rattle.std.specs.Prelude.{◌≡◌, ◌+◌, ℕ, Bool, true, List, Option, None, drop, min}
use Rattle.board.specs.Meaning.{SourceMeaning}
use Rattle.board.specs.declared.memory_source.MemSource.{MemSource}

-- it tells what is left
abbrev pub tells_left : MemSource → Bool
tells_left source = true

-- the octets that are still to come
abbrev pub left_of : MemSource → List ℕ
left_of source = drop source.at source.bytes.items

-- how many takes there were, those that failed among them
abbrev pub takes_made : MemSource → ℕ
takes_made source = source.made

-- the number of the take that is to fail
abbrev pub planned_take : MemSource → Option ℕ
planned_take source = source.planned

-- how often it has failed
abbrev pub faults_of : MemSource → ℕ
faults_of source = source.faults

-- all of it as one value
abbrev pub text_means : SourceMeaning MemSource
text_means = record { tells = tells_left; left = left_of; faults = faults_of; takes = takes_made }

-- A text of which nothing was taken.
pub record IsNewSource (bytes : List ℕ) (source : MemSource) : Type 0 where
  pub tells : tells_left source ≡ true
  pub left : left_of source ≡ bytes
  pub made : takes_made source ≡ 0
  pub planned : planned_take source ≡ None
  pub faults : faults_of source ≡ 0

-- Nothing changes but what is to fail.
pub record SameButPlan (old new : MemSource) : Type 0 where
  pub tells : tells_left new ≡ tells_left old
  pub left : left_of new ≡ left_of old
  pub made : takes_made new ≡ takes_made old
  pub faults : faults_of new ≡ faults_of old

-- A take is counted, and the plan stays.
pub record CountsTake (old new : MemSource) : Type 0 where
  pub made : takes_made new ≡ min (takes_made old + 1) 18446744073709551615
  pub planned : planned_take new ≡ planned_take old
