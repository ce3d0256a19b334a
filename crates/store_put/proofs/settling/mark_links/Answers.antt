use Rattle.std.proofs.Common.{◌≡◌, ℕ, suc, ◌+◌, ◌<◌, ◌||◌, true, length, take, get_or, set, Some, ◌∙◌, ap, arith}
use Rattle.std.specs.Prelude.{slice_get}
use Rattle.std.proofs.lemmas.List.{length-set}
use Rattle.std.proofs.lemmas.Option.{slice_get-get_or}
use Rattle.record_view.specs.declared.link.Link.{Link}
use Rattle.store_put.proofs.Naming.{marked_more}
use Rattle.store_put.specs.Pools.{is_named}
use Rattle.store_put.proofs.settling.mark_links.Goals as goal

pub loop-link-preserved : goal.loop-link-preserved
loop-link-preserved c = λ block within.
    let links = c.args.links.now in
    let at = c.loop-link.link-index in
    let none : Link = record { block = 0; first = 0 } in
    let link : Link = get_or links at none in
    let old = get_or c.args.named.now block true in
    let is : slice_get links at ≡ Some link = slice_get-get_or links at none c.loop-link-test.true in
    let long = length-set c.loop-link.named c.from.result true in
    let fits : link.block < length c.args.named.now = c.requires.within at none c.loop-link-test.true in
    let next : suc at ≡ at + 1 = omega arith in
    ap (λ (n : ℕ). get_or (set c.loop-link.named n true) block true) c.from.ensures
    ∙ marked_more c.loop-link.named old links at link block is (omega (arith, fits, c.loop-link.auto.named))
    (c.loop-link.invariant block (omega (arith, within, long)))
    ∙ ap (λ (n : ℕ). old || is_named block (take n links)) next
