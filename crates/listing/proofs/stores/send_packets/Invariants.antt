use Rattle.std.proofs.Common.{◌≡◌, true, length}
use Rattle.listing.specs.Lists.{Lists, ToldTable}
use Rattle.listing.specs.Parts.{packets_at, pages_at}
use Rattle.listing.proofs.Told.{Others}
use Rattle.listing.proofs.stores.send_packets.Given as goal

abbrev pub invariant-loop-position : goal.invariant-loop-position
invariant-loop-position g l = record {
  lists :
      Lists g.B.Board.means (ToldTable g.B.Board.means l.fn.vault l.fn.board) (packets_at l.at l.position)
      (pages_at l.at l.position l.fn.vault) l.position l.fn.board l.board;
  others : Others l.fn.vault l.vault true;
  same : length l.buffer ≡ length l.fn.buffer;
}
