use Rattle.board.specs.Meaning.{TellsFlash}
use Rattle.store_load.proofs.LinkLoading.{loaded_of, refused_of}
use Rattle.store_load.proofs.link_loading.load_link.Goals as goal

pub returns-in-Ok-clause-loaded : goal.returns-in-Ok-clause-loaded
returns-in-Ok-clause-loaded g c =
    let means = g.B.Board.means in
    let old = c.args.board.now in
    let link = c.args.link in
    loaded_of c.args.limits (TellsFlash means old) (means.flash old).content
    (record { block = link.block; first = link.first; count = c.args.count }) c.in-Ok.records c.args.loading.now
    c.in-Ok.ensures.records c.in-Ok.ensures.whole c.in-Ok.ensures.asked c.keep_all.new.loading c.keep_all.result c.keep_all.ensures.loaded

pub returns-in-Ok-clause-unlawful : goal.returns-in-Ok-clause-unlawful
returns-in-Ok-clause-unlawful g c =
    let means = g.B.Board.means in
    let old = c.args.board.now in
    let link = c.args.link in
    refused_of c.args.limits (TellsFlash means old) (means.flash old).content
    (record { block = link.block; first = link.first; count = c.args.count }) c.in-Ok.records c.args.loading.now
    c.in-Ok.ensures.records c.in-Ok.ensures.whole c.in-Ok.ensures.asked c.keep_all.result c.keep_all.ensures.unlawful
