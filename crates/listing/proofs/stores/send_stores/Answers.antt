use Rattle.std.proofs.Common.{◌≤◌, ◌+◌, ℕ, true, List, refl, sym, ◌∙◌, ap, subst, arith}
use Rattle.board.specs.Moments.{IsPrefixOf}
use Rattle.listing.specs.Lists.{ToldTable}
use Rattle.listing.specs.Parts.{all_pages, lines_of, one_at, store_at, stores_to}
use Rattle.listing.proofs.Places.{all_pages-fewer, all_pages-more, lines-fewer, lines-more, stores-front, stores-more}
use Rattle.listing.proofs.Runs.{breaks_on, breaks_within, lists_as, lists_none, lists_on}
use Rattle.listing.proofs.Told.{others_none, others_on, told_on}
use Rattle.vault.specs.Memory.{InMemory}
use Rattle.listing.proofs.stores.send_stores.Goals as goal

pub loop-at-init : goal.loop-at-init
loop-at-init g c =
    let means = g.B.Board.means in
    let old = c.args.board.now in
    let told = ToldTable means c.args.vault.now old in
    record {
      lists = lists_none means told old (λ image told left. g.met.B.Board.images_now old image told left);
      others = others_none c.args.vault.now c.requires.is_open;
      same = refl;
    }

pub returns-in-Err-clause-err : goal.returns-in-Err-clause-err
returns-in-Err-clause-err g c =
    let means = g.B.Board.means in
    let old = c.args.board.now in
    let mid = c.loop-at.board in
    let new = c.send_store.new.board in
    let vault = c.args.vault.now in
    let told = ToldTable means vault old in
    let so_far = c.loop-at.invariant in
    let at = c.loop-at.at in
    let count = c.args.count in
    let le : at + 1 ≤ count = omega arith in
    let pages = all_pages-more at vault.indexes in
    let lines = lines-more at vault.directory.stores vault.indexes in
    let here = ap (λ (v : InMemory). all_pages (one_at v.indexes at)) so_far.others in
    let there = ap (λ (v : InMemory). lines_of (one_at v.directory.stores at) (one_at v.indexes at)) so_far.others in
    breaks_within means told told (λ table here. here) old new _ (stores_to count)
    (λ table here. subst (λ (l : List ℕ). IsPrefixOf l (stores_to count table)) (stores-more at table) (stores-front (at + 1) count table le))
    (omega (arith, pages, here, all_pages-fewer (at + 1) count vault.indexes le))
    (omega (arith, lines, there, lines-fewer (at + 1) count vault.directory.stores vault.indexes le))
    (breaks_on means told (ToldTable means c.loop-at.vault mid)
    (told_on means c.fetches_keep_the_table.ensures vault c.loop-at.vault true old mid so_far.others so_far.lists.runs.same so_far.lists.runs.stays)
    old mid new (stores_to at) (store_at at) so_far.lists c.in-Err.ensures.err)

pub loop-at-preserved : goal.loop-at-preserved
loop-at-preserved g c =
    let means = g.B.Board.means in
    let old = c.args.board.now in
    let mid = c.loop-at.board in
    let new = c.send_store.new.board in
    let vault = c.args.vault.now in
    let told = ToldTable means vault old in
    let so_far = c.loop-at.invariant in
    let at = c.loop-at.at in
    let pages = all_pages-more at vault.indexes in
    let lines = lines-more at vault.directory.stores vault.indexes in
    let here = ap (λ (v : InMemory). all_pages (one_at v.indexes at)) so_far.others in
    let there = ap (λ (v : InMemory). lines_of (one_at v.directory.stores at) (one_at v.indexes at)) so_far.others in
    record {
      lists =
          lists_as means told told (λ table here. here) old new _ (stores_to (at + 1)) (λ table here. sym (stores-more at table))
          (omega (arith, pages, here)) (omega (arith, lines, there))
          (lists_on means told (ToldTable means c.loop-at.vault mid)
          (told_on means c.fetches_keep_the_table.ensures vault c.loop-at.vault true old mid so_far.others so_far.lists.runs.same so_far.lists.runs.stays)
          old mid new (stores_to at) (store_at at) so_far.lists c.in-Ok.ensures.ok);
      others = others_on vault c.loop-at.vault c.send_store.new.vault true true so_far.others c.in-Ok.ensures.after;
      same = c.in-Ok.ensures.same ∙ so_far.same;
    }
