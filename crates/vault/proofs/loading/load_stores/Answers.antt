use Rattle.std.proofs.Common.{◌≡◌, ◌*◌, ◌+◌, ℕ, List, length, slice_get, take, suc, [], refl, sym, ◌∙◌, ap, subst, arith}
use Rattle.board.specs.Flash.{Flash}
use Rattle.board.specs.Meaning.{TellsFlash}
use Rattle.board.specs.Reads.{ReadsOnly}
use Rattle.board.proofs.Reading.{reads_most, reads_none, reads_on}
use Rattle.board.proofs.Works.{tells_too}
use Rattle.store_directory.specs.Directory.{Listed}
use Rattle.store_load.specs.Claims.{all_links}
use Rattle.time_index.specs.TimeIndex.{TimeIndex}
use Rattle.vault.specs.Loading.{GainsStore, IsLoadedStore, IsUnlawful, links_at}
use Rattle.vault.specs.Memory.{EachStore}
use Rattle.vault.specs.declared.last_block.LastBlock.{LastBlock}
use Rattle.vault.proofs.EachStores.{each_then}
use Rattle.vault.proofs.Loads.{links_more, links_within, loaded_since, no_store, not_held}
use Rattle.vault.proofs.Places.{of_some, some_at}
use Rattle.vault.proofs.loading.load_stores.Goals as goal

pub loop-at-init : goal.loop-at-init
loop-at-init g c =
    let means = g.B.Board.means in
    let old = c.args.board.now in
    record {
      loaded =
          let P = IsLoadedStore (TellsFlash means old) (means.flash old).content c.args.directory.now.directory.now in
          subst (λ (l : List TimeIndex). EachStore P [] l c.new-stores.result.lasts.items) (sym c.new-stores.ensures.indexes)
          (subst (λ (l : List LastBlock). EachStore P [] [] l) (sym c.new-stores.ensures.lasts) tt);
      reads = reads_none means old (λ image told left. g.met.B.Board.images_now old image told left);
      no_fault = refl;
    }

pub returns-in-Err-clause-unlawful : goal.returns-in-Err-clause-unlawful
returns-in-Err-clause-unlawful g c =
    let means = g.B.Board.means in
    let old = c.args.board.now in
    let so_far = c.loop-at.invariant in
    let d = c.args.directory.now.directory in
    let at = c.loop-at.at in
    let (s, is) = some_at d.stores at (omega (arith, c.loop-at-test.true, c.len-at-end.ensures.len)) in
    not_held c.in-Err.fault
    (λ none told.
    let flash = (so_far.reads.stays told).flash in
    no_store (means.flash old).content d.now d.stores at s is
    (subst (λ (f : Flash). IsUnlawful f.content d.now s) flash
    (of_some (IsUnlawful (means.flash c.loop-at.board).content d.now) (slice_get d.stores at) s (none (tells_too so_far.reads.same told)) is)))
    c.in-Err.ensures.unlawful

pub returns-in-Err-clause-reads : goal.returns-in-Err-clause-reads
returns-in-Err-clause-reads g c =
    let means = g.B.Board.means in
    let stores = c.args.directory.now.directory.stores in
    let at = c.loop-at.at in
    let (s, is) = some_at stores at (omega (arith, c.loop-at-test.true, c.len-at-end.ensures.len)) in
    let here : links_at (slice_get stores at) ≡ length s.links = ap links_at is in
    let more = links_more stores at s is in
    let all = links_within stores (suc at) in
    reads_most means c.args.board.now c.load_next.new.board
    (reads_on means c.args.board.now c.loop-at.board c.load_next.new.board c.loop-at.invariant.reads c.load_next.ensures.reads)
    (omega (arith, here, more, all))

pub loop-at-preserved : goal.loop-at-preserved
loop-at-preserved g c =
    let means = g.B.Board.means in
    let old = c.args.board.now in
    let mid = c.loop-at.board in
    let so_far = c.loop-at.invariant in
    let d = c.args.directory.now.directory in
    let at = c.loop-at.at in
    let next : suc at ≡ at + 1 = omega arith in
    let (s, is) = some_at d.stores at (omega (arith, c.loop-at-test.true, c.len-at-end.ensures.len)) in
    let P = IsLoadedStore (TellsFlash means old) (means.flash old).content d.now in
    let gains : GainsStore (IsLoadedStore (TellsFlash means mid) (means.flash mid).content d.now s) c.loop-at.stores.indexes.items
    c.loop-at.stores.lasts.items c.load_next.new.stores.indexes.items c.load_next.new.stores.lasts.items =
    of_some (λ (s : Listed). GainsStore (IsLoadedStore (TellsFlash means mid) (means.flash mid).content d.now s) c.loop-at.stores.indexes.items
    c.loop-at.stores.lasts.items c.load_next.new.stores.indexes.items c.load_next.new.stores.lasts.items)
    (slice_get d.stores at) s c.in-Ok.ensures.loaded is in
    let here : links_at (slice_get d.stores at) ≡ length s.links = ap links_at is in
    let more = links_more d.stores at s is in
    record {
      loaded =
          subst (λ (n : ℕ). EachStore P (take n d.stores) c.load_next.new.stores.indexes.items c.load_next.new.stores.lasts.items) {x = suc at} next
          (each_then P d.stores at s c.loop-at.stores.indexes.items c.load_next.new.stores.indexes.items c.loop-at.stores.lasts.items
          c.load_next.new.stores.lasts.items is so_far.loaded
          (record {
            index = gains.index;
            last = gains.last;
            loaded =
                loaded_since (TellsFlash means old) (TellsFlash means mid) (means.flash old).content (means.flash mid).content d.now s gains.index gains.last
                (tells_too so_far.reads.same) (λ told. ap (λ (f : Flash). f.content) (so_far.reads.stays told).flash) gains.loaded;
            indexes = gains.indexes;
            lasts = gains.lasts;
          }));
      reads =
          subst (λ (n : ℕ). ReadsOnly means (256 * length (all_links (take n d.stores))) old c.load_next.new.board) next
          (reads_most means old c.load_next.new.board
          (reads_on means old mid c.load_next.new.board so_far.reads c.load_next.ensures.reads)
          (omega (arith, here, more)));
      no_fault = c.in-Ok.ensures.no_fault ∙ so_far.no_fault;
    }
