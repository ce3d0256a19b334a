use Rattle.std.proofs.Common.{◌≡◌, ◌*◌, drop}
use Rattle.board.specs.Meaning.{TellsFlash}
use Rattle.board.specs.Reads.{ReadsOnly}
use Rattle.store_load.specs.Extents.{extents_of}
use Rattle.store_load.specs.Loading.{UsedBefore, load_extents}
use Rattle.store_load.proofs.TakenOn.{TakesOn}
use Rattle.store_load.proofs.link_loading.load_links.Given as goal

abbrev pub invariant-loop-at : goal.invariant-loop-at
invariant-loop-at g l =
    let means = g.B.Board.means in
    let old = l.fn.board in
    record {
      rest : TellsFlash means old → load_extents l.limits l.least (means.flash old).content (drop l.at (extents_of l.row l.links)) l.loading
          ≡ load_extents l.limits l.least (means.flash old).content (extents_of l.row l.links) l.fn.loading;
      used_is : TellsFlash means old → UsedBefore (means.flash old).content (extents_of l.row l.links) l.at l.used;
      taken : TakesOn l.limits l.least (extents_of l.row l.links) l.fn.loading l.at l.used l.loading;
      size : l.loading.index.size ≡ l.limits.size;
      reads : ReadsOnly means (256 * l.at) old l.board;
      no_fault : (means.counts l.board).flash_faults ≡ (means.counts old).flash_faults;
    }
