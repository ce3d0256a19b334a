use Rattle.std.proofs.Common.{◌≡◌, ◌+◌, ◌&&◌, nat_le, true, length, sym, ◌∙◌, ap}
use Rattle.std.specs.List.{list_all}
use Rattle.block_pool.specs.Blocks.{blocks_of}
use Rattle.store_load.specs.Claims.{all_links, are_apart, is_within, reserved_at}
use Rattle.store_load.specs.Taking.{take_each}
use Rattle.store_load.proofs.Taking.{all_three, answer_is, apart_if, marks_taken}
use Rattle.store_load.proofs.claiming.claim.Goals as goal

pub returns-then-may_reserve-clause-answer : goal.returns-then-may_reserve-clause-answer
returns-then-may_reserve-clause-answer c =
    let pool = c.args.pool.now in
    let stores = c.args.directory.now.directory.stores in
    let links = all_links stores in
    let blocks : length c.wear.result.now ≡ blocks_of pool = ap length c.wear.ensures.counts in
    let may : (nat_le (reserved_at c.args.rule.least stores + 8) (blocks_of pool)
    && list_all (is_within c.args.rule.least) stores) ≡ true =
    ap (λ n. nat_le (reserved_at c.args.rule.least stores + 8) n && list_all (is_within c.args.rule.least) stores) (sym blocks)
    ∙ sym c.may_reserve.ensures ∙ c.if-may_reserve.true in
    answer_is (take_each pool.free links) c.take_all.new.pool.free c.take_all.result
    c.take_all.ensures.taken c.take_all.ensures.refused
    ∙ apart_if pool c.wear.ensures.lawful c.requires.free links
    ∙ all_three (nat_le (reserved_at c.args.rule.least stores + 8) (blocks_of pool))
    (list_all (is_within c.args.rule.least) stores) (are_apart (blocks_of pool) links) may

pub returns-then-may_reserve-clause-taken : goal.returns-then-may_reserve-clause-taken
returns-then-may_reserve-clause-taken c = λ yes.
    marks_taken c.args.pool.now.free c.take_all.new.pool.free (all_links c.args.directory.now.directory.stores)
    (c.take_all.ensures.taken yes)
