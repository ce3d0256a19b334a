use Rattle.std.proofs.Common.{◌≡◌, ◌*◌, length, take}
use Rattle.board.specs.Meaning.{TellsFlash}
use Rattle.board.specs.Reads.{ReadsOnly}
use Rattle.store_load.specs.Claims.{all_links}
use Rattle.vault.specs.Loading.{IsLoadedStore}
use Rattle.vault.specs.Memory.{EachStore}
use Rattle.vault.proofs.loading.load_stores.Given as goal

abbrev pub invariant-loop-at : goal.invariant-loop-at
invariant-loop-at g l =
    let means = g.B.Board.means in
    let old = l.fn.board in
    record {
      loaded :
          EachStore (IsLoadedStore (TellsFlash means old) (means.flash old).content l.directory.directory.now)
          (take l.at l.directory.directory.stores) l.stores.indexes.items l.stores.lasts.items;
      reads : ReadsOnly means (256 * length (all_links (take l.at l.directory.directory.stores))) old l.board;
      no_fault : (means.counts l.board).flash_faults ≡ (means.counts old).flash_faults;
    }
