use Rattle.std.proofs.Common.{◌≡◌, refl}
use Rattle.board.specs.Flash.{blank}
use Rattle.board.proofs.Pushes.{count_push, each_push}
use Rattle.board.proofs.cache.blank_pages.Goals as goal

pub loop-page-preserved : goal.loop-page-preserved
unfolding blank
loop-page-preserved c =
    let so_far = c.loop-page.invariant in
    let items = c.in_ok-push.ensures.items in
    record {
      count = count_push c.loop-page.pages.items _ _ c.loop-page._page items so_far.count;
      blank = each_push (λ p page. page ≡ blank) c.loop-page.pages.items _ _ c.loop-page._page items so_far.count so_far.blank refl;
    }
