use Rattle.std.proofs.Common.{◌≡◌, true, length, take}
use Rattle.listing.specs.Lists.{Lists, ToldTable}
use Rattle.listing.specs.Parts.{all_pages, lines_of, stores_to}
use Rattle.listing.proofs.Told.{Others}
use Rattle.listing.proofs.stores.send_stores.Given as goal

abbrev pub invariant-loop-at : goal.invariant-loop-at
invariant-loop-at g l = record {
  lists :
      Lists g.B.Board.means (ToldTable g.B.Board.means l.fn.vault l.fn.board) (stores_to l.at)
      (all_pages (take l.at l.fn.vault.indexes)) (lines_of (take l.at l.fn.vault.directory.stores) (take l.at l.fn.vault.indexes))
      l.fn.board l.board;
  others : Others l.fn.vault l.vault true;
  same : length l.buffer ≡ length l.fn.buffer;
}
