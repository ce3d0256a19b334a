use Rattle.std.proofs.Common.{get_or, Some, ◌∙◌, ap, sym}
use Rattle.std.proofs.lemmas.Option.{slice_get-get_or}
use Rattle.store_load.specs.Extents.{end_of}
use Rattle.store_load.proofs.LinkWalks.{extent_is}
use Rattle.store_load.proofs.link_loading.extent_at.Goals as goal

pub returns-clause-link : goal.returns-clause-link
returns-clause-link c = slice_get-get_or c.args.links.now c.args.at (record { block = 0; first = 0 }) c.requires

pub returns-clause-extent : goal.returns-clause-extent
returns-clause-extent c =
    let here = get_or c.args.links.now c.args.at (record { block = 0; first = 0 }) in
    extent_is (end_of c.args.row.now) c.args.links.now c.args.at here c.end_at.result
    (slice_get-get_or c.args.links.now c.args.at (record { block = 0; first = 0 }) c.requires) c.end_at.ensures
    ∙ ap (λ n. Some (record { block = here.block; first = here.first; count = n })) (sym c.count_to.ensures)
