use Rattle.std.proofs.Common.{◌≡◌, ℕ, ◌+◌, ◌*◌, arith, length, replicate, take}
use Rattle.store_directory.proofs.FirstCheckpoints.{first_written, length-first, length-no_counts, no_counts}
use Rattle.store_directory.proofs.first_checkpoint.write_first_checkpoint.Goals as goal

pub returns-clause-whole : goal.returns-clause-whole
returns-clause-whole c =
    let head = c.put_head-place.ensures.place in
    let patterns = c.put_patterns-place.ensures.place in
    let store = c.put_store-place.ensures.place in
    let counts : c.put_counts.result ≡ c.put_store-place.result + 4 * length (take c.args.blocks (replicate {A = ℕ} 512 0)) = c.put_counts.ensures.place in
    omega (arith, head, patterns, store, counts, length-no_counts c.args.blocks c.requires.most, length-first c.args.blocks)

pub returns-clause-written : goal.returns-clause-written
returns-clause-written c =
    let head = c.put_head-place.ensures.place in
    let patterns = c.put_patterns-place.ensures.place in
    let store = c.put_store-place.ensures.place in
    first_written c.first_row.result (take {A = ℕ} c.args.blocks (replicate {A = ℕ} 512 0)) c.args.blocks c.first_row.ensures (no_counts c.args.blocks c.requires.most)
    c.put_head-place.ensures.written c.put_patterns-place.ensures.written c.put_u8.ensures c.put_store-place.ensures.written c.put_counts.ensures.written
    (omega (arith, head)) (omega (arith, head, patterns)) (omega (arith, head, patterns))
    (omega (arith, head, patterns, store))
