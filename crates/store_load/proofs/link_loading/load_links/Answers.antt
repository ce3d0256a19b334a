use Rattle.std.proofs.Common.{◌≡◌, ◌+◌, ◌<◌, ◌||◌, nat_le, suc, length, drop, Err, Some, Bool, true, false, refl, sym, ◌∙◌, ap, subst, arith, ℕ}
use Rattle.board.specs.Device.{Device}
use Rattle.board.specs.Flash.{Flash}
use Rattle.board.proofs.Reading.{reads_most, reads_none, reads_on}
use Rattle.board.proofs.Works.{tells_too}
use Rattle.record_view.specs.declared.link.Link.{Link}
use Rattle.store_load.specs.Extents.{Extent, end_of, extents_of, pages_in, read_extent}
use Rattle.store_load.specs.Loading.{UsedBefore, is_last, load_extents}
use Rattle.store_load.proofs.LinkWalks.{all_at, as_many, extents_at, last_at, next_loaded, not_filled, not_loaded, nothing_left, on_unlawful, used_here}
use Rattle.store_load.proofs.TakenOn.{TakesOn, takes_first, takes_last, takes_next}
use Rattle.store_load.proofs.link_loading.load_links.Goals as goal

pub loop-at-init : goal.loop-at-init
loop-at-init g c =
    let means = g.B.Board.means in
    let old = c.args.board.now in
    record {
      rest = λ told. refl;
      used_is = λ told. refl;
      taken = takes_first c.args.limits c.args.least (extents_of c.args.row.now c.args.links.now) c.args.loading.now;
      size = c.requires.size;
      reads = reads_none means old (λ image told left. g.met.B.Board.images_now old image told left);
      no_fault = refl;
    }

pub load_link-requires-clause-block : goal.load_link-requires-clause-block
load_link-requires-clause-block g c =
    subst (λ (d : Device). c.extent_at-count.result.0.block < d.blocks) (sym c.loop-at.invariant.reads.same)
    (all_at (λ (link : Link). link.block < (g.B.Board.means.device c.args.board.now).blocks) c.args.links.now c.loop-at.at
    c.extent_at-count.result.0 c.requires.blocks c.extent_at-count.ensures.link)

pub returns-clause-loaded : goal.returns-clause-loaded
returns-clause-loaded g c = λ told.
    let means = g.B.Board.means in
    let extents = extents_of c.args.row.now c.args.links.now in
    let many = as_many (end_of c.args.row.now) c.args.links.now in
    sym (c.loop-at.invariant.rest told)
    ∙ nothing_left c.args.limits c.args.least (means.flash c.args.board.now).content extents c.loop-at.at c.loop-at.loading
    (omega (arith, many, c.loop-at-test.false))

pub returns-in-Err-clause-unlawful : goal.returns-in-Err-clause-unlawful
returns-in-Err-clause-unlawful g c =
    let means = g.B.Board.means in
    let old = c.args.board.now in
    let so_far = c.loop-at.invariant in
    let extents = extents_of c.args.row.now c.args.links.now in
    let part = c.extent_at-count.result in
    let extent : Extent = record { block = part.0.block; first = part.0.first; count = part.1 } in
    on_unlawful {A = ℕ} (Err c.in-Err.stop) (λ refused told.
    let flash = (so_far.reads.stays told).flash in
    sym (so_far.rest told)
    ∙ not_loaded c.args.limits c.args.least (means.flash old).content extent (drop (suc c.loop-at.at) extents)
    (drop c.loop-at.at extents) c.loop-at.loading (extents_at extents c.loop-at.at extent c.extent_at-count.ensures.extent)
    (λ records read. refused (tells_too so_far.reads.same told) records
    (ap (λ (f : Flash). read_extent f.content extent) flash ∙ read)))
    c.in-Err.ensures.unlawful

pub returns-then-not-is_filled-clause-unlawful : goal.returns-then-not-is_filled-clause-unlawful
returns-then-not-is_filled-clause-unlawful g c = λ told.
    let means = g.B.Board.means in
    let old = c.args.board.now in
    let so_far = c.loop-at.invariant in
    let extents = extents_of c.args.row.now c.args.links.now in
    let part = c.extent_at-count.result in
    let extent : Extent = record { block = part.0.block; first = part.0.first; count = part.1 } in
    let loaded = c.in-Ok.ensures.loaded in
    let flash = (so_far.reads.stays told).flash in
    let many = as_many (end_of c.args.row.now) c.args.links.now in
    let more : suc c.loop-at.at ≡ c.loop-at.at + 1 = omega arith in
    let filled : (is_last (drop (suc c.loop-at.at) extents) || nat_le c.args.least (pages_in loaded.records)) ≡ false =
    ap (λ (b : Bool). b || nat_le c.args.least (pages_in loaded.records)) (last_at extents (suc c.loop-at.at))
    ∙ (λ i. nat_le (many i) (more i) || nat_le c.args.least (pages_in loaded.records))
    ∙ ap (λ n. nat_le (length c.args.links.now) (c.loop-at.at + 1) || nat_le c.args.least n) (sym loaded.used_is)
    ∙ sym c.is_filled.ensures ∙ c.if-not-is_filled.true in
    sym (so_far.rest told)
    ∙ not_filled c.args.limits c.args.least (means.flash old).content extent (drop (suc c.loop-at.at) extents)
    (drop c.loop-at.at extents) c.loop-at.loading (extents_at extents c.loop-at.at extent c.extent_at-count.ensures.extent)
    loaded.records c.load_link.new.loading
    (sym (ap (λ (f : Flash). read_extent f.content extent) flash) ∙ loaded.read (tells_too so_far.reads.same told))
    loaded.taken filled

pub loop-at-preserved : goal.loop-at-preserved
loop-at-preserved g c =
    let means = g.B.Board.means in
    let old = c.args.board.now in
    let so_far = c.loop-at.invariant in
    let extents = extents_of c.args.row.now c.args.links.now in
    let part = c.extent_at-count.result in
    let extent : Extent = record { block = part.0.block; first = part.0.first; count = part.1 } in
    let loaded = c.in-Ok.ensures.loaded in
    let many = as_many (end_of c.args.row.now) c.args.links.now in
    let more : suc c.loop-at.at ≡ c.loop-at.at + 1 = omega arith in
    let filled : (is_last (drop (suc c.loop-at.at) extents) || nat_le c.args.least (pages_in loaded.records)) ≡ true =
    ap (λ (b : Bool). b || nat_le c.args.least (pages_in loaded.records)) (last_at extents (suc c.loop-at.at))
    ∙ (λ i. nat_le (many i) (more i) || nat_le c.args.least (pages_in loaded.records))
    ∙ ap (λ n. nat_le (length c.args.links.now) (c.loop-at.at + 1) || nat_le c.args.least n) (sym loaded.used_is)
    ∙ sym c.is_filled.ensures ∙ c.if-not-is_filled.false in
    record {
      rest = λ told.
          let flash = (so_far.reads.stays told).flash in
          ap (λ n. load_extents c.args.limits c.args.least (means.flash old).content (drop n extents) c.load_link.new.loading) (sym more)
          ∙ sym (next_loaded c.args.limits c.args.least (means.flash old).content extent (drop (suc c.loop-at.at) extents)
          (drop c.loop-at.at extents) c.loop-at.loading (extents_at extents c.loop-at.at extent c.extent_at-count.ensures.extent)
          loaded.records c.load_link.new.loading
          (sym (ap (λ (f : Flash). read_extent f.content extent) flash) ∙ loaded.read (tells_too so_far.reads.same told))
          loaded.taken filled)
          ∙ so_far.rest told;
      used_is = λ told.
          let flash = (so_far.reads.stays told).flash in
          let read : read_extent (means.flash old).content extent ≡ Some loaded.records =
          sym (ap (λ (f : Flash). read_extent f.content extent) flash) ∙ loaded.read (tells_too so_far.reads.same told) in
          subst (λ n. UsedBefore (means.flash old).content extents n c.in-Ok.pages) more
          (used_here (means.flash old).content extents c.loop-at.at extent loaded.records c.in-Ok.pages c.extent_at-count.ensures.extent read loaded.used_is);
      taken =
          subst (λ n. TakesOn c.args.limits c.args.least extents c.args.loading.now n c.in-Ok.pages c.load_link.new.loading) more
          (takes_next c.args.limits c.args.least extents c.args.loading.now c.loop-at.at c.loop-at.used c.in-Ok.pages c.loop-at.loading
          c.load_link.new.loading extent loaded.records (extents_at extents c.loop-at.at extent c.extent_at-count.ensures.extent)
          loaded.given loaded.taken filled loaded.used_is so_far.taken);
      size = c.in-Ok.ensures.size;
      reads =
          reads_most means old c.load_link.new.board
          (reads_on means old c.loop-at.board c.load_link.new.board so_far.reads c.load_link.ensures.reads)
          (omega arith);
      no_fault = c.in-Ok.ensures.no_fault ∙ so_far.no_fault;
    }

pub returns-clause-used : goal.returns-clause-used
returns-clause-used g c = λ told.
    let means = g.B.Board.means in
    let links = c.args.links.now in
    let extents = extents_of c.args.row.now links in
    let content = (means.flash c.args.board.now).content in
    subst (λ n. UsedBefore content extents n c.loop-at.used) (omega (arith, c.loop-at-test.false, c.loop-at.far-at)) (c.loop-at.invariant.used_is told)

pub returns-clause-taken : goal.returns-clause-taken
returns-clause-taken g c =
    let extents = extents_of c.args.row.now c.args.links.now in
    let many = as_many (end_of c.args.row.now) c.args.links.now in
    takes_last c.args.limits c.args.least extents c.args.loading.now c.loop-at.at c.loop-at.used c.loop-at.loading
    (omega (arith, many, c.loop-at-test.false, c.loop-at.far-at)) c.loop-at.invariant.taken
