use Rattle.std.proofs.Common.{◌≡◌, ◌+◌, ◌<◌, ◌&&◌, nat_le, Bool, true, false, suc, length, drop, sym, ◌∙◌, ap, arith}
use Rattle.std.specs.List.{list_all}
use Rattle.std.proofs.lemmas.Bool.Decides.{nat_tests}
use Rattle.store_load.specs.Claims.{is_within}
use Rattle.store_load.proofs.Claims.{within_from}
use Rattle.store_load.proofs.claiming.are_within.Goals as goal

pub returns-then-links-blocks_of_store : goal.returns-then-links-blocks_of_store
returns-then-links-blocks_of_store c =
    let at = c.loop-at.at in
    let stores = c.args.directory.now.stores in
    let within : at < length stores = omega (arith, c.len-at-end.ensures.len) in
    let here = within_from c.args.least stores at c.links.result.now c.blocks_of_store.result within c.links.ensures
    c.blocks_of_store.ensures.blocks in
    let many : nat_le (length c.links.result.now) c.blocks_of_store.result ≡ false = grind (arith, nat_tests, c.if-links-blocks_of_store.true) in
    sym (ap (λ (b : Bool). b && list_all (is_within c.args.least) (drop (suc at) stores)) many) ∙ sym here ∙ c.loop-at.invariant

pub loop-at-preserved : goal.loop-at-preserved
loop-at-preserved c =
    let at = c.loop-at.at in
    let stores = c.args.directory.now.stores in
    let more : at + 1 ≡ suc at = omega arith in
    let within : at < length stores = omega (arith, c.len-at-end.ensures.len) in
    let here = within_from c.args.least stores at c.links.result.now c.blocks_of_store.result within c.links.ensures
    c.blocks_of_store.ensures.blocks in
    let few : nat_le (length c.links.result.now) c.blocks_of_store.result ≡ true = grind (arith, nat_tests, c.if-links-blocks_of_store.false) in
    ap (λ n. list_all (is_within c.args.least) (drop n stores)) more
    ∙ sym (ap (λ (b : Bool). b && list_all (is_within c.args.least) (drop (suc at) stores)) few) ∙ sym here ∙ c.loop-at.invariant
