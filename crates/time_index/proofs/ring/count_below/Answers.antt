use Rattle.std.proofs.Common.{rules, of_calls, nat_lt}
use Rattle.std.proofs.lemmas.List.Sorted.{IsPartitionPoint-from_clause, IsPartitionedBy-ltb}
use Rattle.time_index.specs.TimeIndex.{stamp_of}
use Rattle.time_index.proofs.Entries.{count_by-point}
use Rattle.time_index.proofs.ring.count_below.Goals as goal

pub returns-clause-count : goal.returns-clause-count
returns-clause-count c =
    let entries = c.args.entries.now in
    let t = c.args.t in
    let found = c.partition_point.result in
    count_by-point (λ entry. nat_lt (stamp_of entry) t) entries found c.partition_point.ensures.bound
    (IsPartitionPoint-from_clause (λ entry. nat_lt (stamp_of entry) t) entries found
    c.partition_point.ensures.partitioned (IsPartitionedBy-ltb stamp_of entries t c.requires)
    (λ a r f k. search (rules, of_calls)))
