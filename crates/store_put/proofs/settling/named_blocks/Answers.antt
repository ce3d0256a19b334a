use Rattle.std.proofs.Common.{◌≡◌, ℕ, suc, ◌+◌, ◌||◌, Bool, true, false, All, take, sym, ◌∙◌, ap, ap₂, subst, arith}
use Rattle.std.specs.Prelude.{slice_get}
use Rattle.std.proofs.lemmas.List.{get_or-replicate}
use Rattle.store_directory.specs.Directory.{Listed}
use Rattle.store_load.specs.Claims.{all_links}
use Rattle.store_put.proofs.Made.{some_at, some_gives}
use Rattle.store_put.proofs.Naming.{links_at, links_more, named_both}
use Rattle.store_put.specs.Pools.{IsBelow, is_named}
use Rattle.store_put.proofs.settling.named_blocks.Goals as goal

pub loop-at-init : goal.loop-at-init
loop-at-init c = λ block within. get_or-replicate 512 block false true within

pub mark_links-requires : goal.mark_links-requires
mark_links-requires c =
    let stores = c.args.directory.now.directory.stores in
    let (s, there) = some_at stores c.loop-at.at (let len = c.len-at-end.ensures.len in omega (arith, len, c.loop-at-test.true)) in
    let links_are : c.links.result.now ≡ s.links =
    some_gives (slice_get stores c.loop-at.at) (λ (s : Listed). c.links.result.now ≡ s.links) s c.links.ensures there in
    record {
      within =
          subst (λ (n : ℕ). All (IsBelow n) c.links.result.now) (sym c.links.array_long)
          (subst (All (IsBelow 512)) (sym links_are) (links_at (IsBelow 512) stores c.loop-at.at s c.requires there));
    }

pub loop-at-preserved : goal.loop-at-preserved
loop-at-preserved c = λ block within.
    let stores = c.args.directory.now.directory.stores in
    let at = c.loop-at.at in
    let (s, there) = some_at stores at (let len = c.len-at-end.ensures.len in omega (arith, len, c.loop-at-test.true)) in
    let links_are : c.links.result.now ≡ s.links =
    some_gives (slice_get stores at) (λ (s : Listed). c.links.result.now ≡ s.links) s c.links.ensures there in
    let next : suc at ≡ at + 1 = omega arith in
    c.mark_links.ensures block (omega (arith, within, c.links.array_long))
    ∙ ap₂ (λ (a b : Bool). a || b) (c.loop-at.invariant block within) (ap (is_named block) links_are)
    ∙ sym (named_both block (all_links (take at stores)) s.links)
    ∙ ap (is_named block) (sym (links_more stores at s there))
    ∙ ap (λ (n : ℕ). is_named block (all_links (take n stores))) next
