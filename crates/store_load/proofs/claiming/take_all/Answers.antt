use Rattle.std.proofs.Common.{◌≡◌, ◌+◌, ◌<◌, suc, length, drop, sym, ◌∙◌, ap, arith, rules}
use Rattle.store_load.specs.Claims.{all_links}
use Rattle.store_load.specs.Taking.{take_each}
use Rattle.store_load.proofs.Claims.{links_from}
use Rattle.store_load.proofs.Taking.{refused_then, taken_then}
use Rattle.store_load.proofs.claiming.take_all.Goals as goal

pub returns-then-not-take_links-clause-refused : goal.returns-then-not-take_links-clause-refused
returns-then-not-take_links-clause-refused c = λ is.
    let at = c.loop-at.at in
    let stores = c.args.directory.now.stores in
    let within : at < length stores = omega (arith, c.len-at-end.ensures.len) in
    let links = c.links.result.now in
    sym c.loop-at.invariant.rest
    ∙ ap (take_each c.loop-at.pool.free) (links_from stores at links within c.links.ensures)
    ∙ refused_then c.loop-at.pool.free links (all_links (drop (suc at) stores)) (c.take_links.ensures.refused (search rules))

pub loop-at-preserved : goal.loop-at-preserved
loop-at-preserved c =
    let at = c.loop-at.at in
    let stores = c.args.directory.now.stores in
    let more : at + 1 ≡ suc at = omega arith in
    let within : at < length stores = omega (arith, c.len-at-end.ensures.len) in
    let links = c.links.result.now in
    record {
      rest =
          ap (λ n. take_each c.take_links.new.pool.free (all_links (drop n stores))) more
          ∙ sym (taken_then c.loop-at.pool.free c.take_links.new.pool.free links (all_links (drop (suc at) stores))
          (c.take_links.ensures.taken (search rules)))
          ∙ sym (ap (take_each c.loop-at.pool.free) (links_from stores at links within c.links.ensures))
          ∙ c.loop-at.invariant.rest;
      ready = c.take_links.ensures.ready ∙ c.loop-at.invariant.ready;
      wear = c.take_links.ensures.wear ∙ c.loop-at.invariant.wear;
    }
