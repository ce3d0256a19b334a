use Rattle.std.proofs.Common.{arith}
use Rattle.traffic_gen.specs.Traffic.{traffic_of}
use Rattle.traffic_gen.proofs.CommandCounts.{length-traffic}
use Rattle.traffic_gen.proofs.LawfulTraffic.{lawful-traffic}
use Rattle.traffic_gen.proofs.ReadBack.{commands-back, length-lawful, none-bad}
use Rattle.traffic_gen.proofs.laws.traffic_reads_back.Goals as goal

pub returns-clause-good : goal.returns-clause-good
returns-clause-good c limit number total few within = none-bad limit 0 1 (traffic_of number total) (lawful-traffic number total few) (omega arith)

pub returns-clause-commands : goal.returns-clause-commands
returns-clause-commands c limit number total few within = commands-back limit 0 (traffic_of number total) (lawful-traffic number total few) (omega arith)

pub returns-clause-count : goal.returns-clause-count
returns-clause-count c number total some = length-traffic number total some

pub returns-clause-size : goal.returns-clause-size
returns-clause-size c number total some few =
    let count = length-traffic number total some in
    let size = length-lawful (traffic_of number total) (lawful-traffic number total few) in
    omega arith
