use Rattle.std.proofs.Common.{◌≡◌, ◌+◌, ◌-◌, drop, take}
use Rattle.board.specs.Flash.{pages_of_block}
use Rattle.board.specs.Meaning.{TellsFlash}
use Rattle.chain_log.specs.Pages.{IsCleanFrom}
use Rattle.time_index.specs.TimeIndex.{pages_of}
use Rattle.store_load.specs.Renewing.{renewed_part}
use Rattle.store_write.specs.Moved.{AreCopiedUpTo}
use Rattle.board.specs.Touches.{ReadsAndTouches}
use Rattle.store_write.proofs.copying.copy_entries.Given as goal

abbrev pub invariant-loop-position : goal.invariant-loop-position
invariant-loop-position g l =
    let means = g.B.Board.means in
    let old = l.fn.board in
    let index = l.fn.index in
    let tail = l.fn.tail in
    let entries = drop l.from index.entries in
    let many = l.position - l.from in
    let pages = pages_of (take many entries) in
    record {
      index_is : l.index ≡ renewed_part l.from many tail.block index;
      tail_is : l.tail ≡ record { block = tail.block; used = pages };
      clean : TellsFlash means old
          → IsCleanFrom (means.flash l.board) tail.block pages;
      copied : TellsFlash means old
          → AreCopiedUpTo many (means.flash old).content (means.flash l.board).content tail.block
          (index.first + l.from) entries;
      rewrites : ReadsAndTouches means (pages_of_block tail.block) pages pages 0 0 old l.board;
      no_fault : (means.counts l.board).flash_faults ≡ (means.counts old).flash_faults;
    }
