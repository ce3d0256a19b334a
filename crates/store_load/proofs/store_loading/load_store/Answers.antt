use Rattle.std.proofs.Common.{◌≡◌, Some, true, ℕ, Err, sym, ◌∙◌, ap, subst, arith}
use Rattle.board.proofs.Reading.{reads_most, reads_none}
use Rattle.board.specs.Flash.{blank}
use Rattle.store_load.specs.Extents.{extents_of}
use Rattle.store_load.specs.Held.{AreTaken}
use Rattle.store_load.specs.Kept as kept
use Rattle.store_load.specs.Loaded.{limits_of, start_of}
use Rattle.store_load.specs.Loading.{Progress, load_extents}
use Rattle.store_load.proofs.Indexed.{loaded_index, not_begun, taken_index, unloaded_index}
use Rattle.store_load.proofs.LinkWalks.{on_unlawful, used_last}
use Rattle.store_load.proofs.TakenOn.{given_many}
use Rattle.store_load.specs.declared.loading.Limits.{Limits}
use Rattle.store_load.proofs.store_loading.load_store.Goals as goal

pub returns-then-not-begins_well-clause-unlawful :
    goal.returns-then-not-begins_well-clause-unlawful
returns-then-not-begins_well-clause-unlawful g c = λ told.
    not_begun c.args.rule (g.B.Board.means.flash c.args.board.now).content c.args.now c.args.row.now c.args.links.now
    (sym c.begins_well.ensures ∙ c.if-not-begins_well.true)

pub returns-then-not-begins_well-clause-reads : goal.returns-then-not-begins_well-clause-reads
returns-then-not-begins_well-clause-reads g c =
    let means = g.B.Board.means in
    let old = c.args.board.now in
    reads_most means old old (reads_none means old (λ image told left. g.met.B.Board.images_now old image told left)) (omega arith)

pub returns-in_default-clause-reads : goal.returns-in_default-clause-reads
returns-in_default-clause-reads g c =
    let means = g.B.Board.means in
    let old = c.args.board.now in
    reads_most means old old (reads_none means old (λ image told left. g.met.B.Board.images_now old image told left)) (omega arith)

pub returns-in-Ok-load_links-clause-index : goal.returns-in-Ok-load_links-clause-index
returns-in-Ok-load_links-clause-index g c = λ told.
    let content = (g.B.Board.means.flash c.args.board.now).content in
    let extents = extents_of c.args.row.now c.args.links.now in
    let begun : kept.begins_well c.args.row.now c.args.links.now ≡ true = sym c.begins_well.ensures ∙ c.if-not-begins_well.false in
    let same : load_extents c.limits_of-limits.result c.args.rule.least content extents c.in-Ok.loading
    ≡ load_extents (limits_of c.args.rule c.args.now c.args.row.now) c.args.rule.least content extents (start_of c.args.row.now c.args.links.now) =
    λ i. load_extents (c.limits_of-limits.ensures i) c.args.rule.least content extents (c.in-Ok.ensures i) in
    loaded_index c.args.rule content c.args.now c.args.row.now c.args.links.now c.load_links.new.loading begun
    (sym same ∙ c.in-Ok-load_links.ensures.loaded told)
    ∙ ap Some (sym c.into_index.ensures)

pub returns-in-Ok-load_links-clause-used : goal.returns-in-Ok-load_links-clause-used
returns-in-Ok-load_links-clause-used g c = λ told.
    used_last (g.B.Board.means.flash c.args.board.now).content c.args.row.now c.args.links.now c.in-Ok-load_links.used
    (c.in-Ok-load_links.ensures.used told)

pub returns-in-Err-clause-unlawful : goal.returns-in-Err-clause-unlawful
returns-in-Err-clause-unlawful g c =
    let content = (g.B.Board.means.flash c.args.board.now).content in
    let extents = extents_of c.args.row.now c.args.links.now in
    let begun : kept.begins_well c.args.row.now c.args.links.now ≡ true = sym c.begins_well.ensures ∙ c.if-not-begins_well.false in
    let same : load_extents c.limits_of-limits.result c.args.rule.least content extents c.in-Ok.loading
    ≡ load_extents (limits_of c.args.rule c.args.now c.args.row.now) c.args.rule.least content extents (start_of c.args.row.now c.args.links.now) =
    λ i. load_extents (c.limits_of-limits.ensures i) c.args.rule.least content extents (c.in-Ok.ensures i) in
    on_unlawful {A = ℕ} (Err c.in-Err.stop)
    (λ refused told. unloaded_index c.args.rule content c.args.now c.args.row.now c.args.links.now begun (sym same ∙ refused told))
    c.in-Err.ensures.unlawful

pub returns-in-Ok-load_links-clause-held : goal.returns-in-Ok-load_links-clause-held
returns-in-Ok-load_links-clause-held g c =
    let row = c.args.row.now in
    let links = c.args.links.now in
    let taken = c.in-Ok-load_links.ensures.taken in
    let are : AreTaken (limits_of c.args.rule c.args.now row) c.args.rule.least (extents_of row links) taken.reads (start_of row links) c.load_links.new.loading =
    subst (λ (p : Progress). AreTaken (limits_of c.args.rule c.args.now row) c.args.rule.least (extents_of row links) taken.reads p c.load_links.new.loading)
    c.in-Ok.ensures
    (subst (λ (l : Limits). AreTaken l c.args.rule.least (extents_of row links) taken.reads c.in-Ok.loading c.load_links.new.loading) c.limits_of-limits.ensures
    taken.taken) in
    record {
      begins = sym c.begins_well.ensures ∙ c.if-not-begins_well.false;
      reads = taken.reads;
      given = taken.given;
      index_is =
          taken_index c.args.rule (λ p. blank) c.args.now row links taken.reads c.load_links.new.loading
          (given_many (extents_of row links) taken.reads taken.given) are
          ∙ ap Some (sym c.into_index.ensures);
      used_is = taken.used_is;
    }
