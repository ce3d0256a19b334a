-- What traffic means as a source.
use Rattle.std.specs.Prelude.{◌≡◌, ◌++◌, ℕ, Bool, true, List, slice_range}
use Rattle.board.specs.Meaning.{SourceMeaning}
use Rattle.traffic_gen.specs.declared.traffic.Traffic.{Traffic}
use Rattle.traffic_gen.specs.Lines.{text_of}
use Rattle.traffic_gen.specs.Steps.{behind}
use Rattle.traffic_gen.specs.Traffic.{traffic_text}

-- it tells what is left
abbrev pub tells_left : Traffic → Bool
tells_left traffic = true

-- the octets that are still to come: what is left of the lines that are made, and the lines behind them
abbrev pub left_of : Traffic → List ℕ
left_of traffic =
    slice_range traffic.lines traffic.from traffic.to
    ++ text_of (behind traffic.total traffic.state traffic.made)

-- it has not failed
abbrev pub faults_of : Traffic → ℕ
faults_of traffic = 0

-- how many takes there were
abbrev pub takes_made : Traffic → ℕ
takes_made traffic = traffic.takes

-- all of it as one value
abbrev pub traffic_means : SourceMeaning Traffic
traffic_means = record { tells = tells_left; left = left_of; faults = faults_of; takes = takes_made }

-- The traffic of a number with so many arrivals, of which nothing was taken.
pub record IsNewTraffic (number total : ℕ) (traffic : Traffic) : Type 0 where
  pub tells : tells_left traffic ≡ true
  pub left : left_of traffic ≡ traffic_text number total
  pub faults : faults_of traffic ≡ 0
  pub takes : takes_made traffic ≡ 0
