-- What a board means that takes lines without sending them.
use Rattle.std.specs.Prelude.{ℕ, false, List, [], ◌∷◌, if◌then◌else◌}
use Rattle.board.specs.Counts.{Counts}
use Rattle.board.specs.Device.{Device}
use Rattle.board.specs.Meaning.{BoardMeaning}
use Rattle.muted_board.specs.declared.muted_board.MutedBoard.{MutedBoard}

-- the other board
abbrev pub board_of : {B : Type 0} → MutedBoard B → B
board_of muted = muted.board.now

module _ {B : Type 0} (inner : BoardMeaning B) where
  -- the octets that a board has sent, where it tells them
  abbrev pub sent_by : B → List ℕ
  sent_by board = if (inner.device board).tells_link then inner.sent board (inner.moment board) else []

  -- The device of the other board, whose link is not told. No call changes what was sent on it.
  abbrev pub device_of : MutedBoard B → Device
  device_of muted = record (inner.device (board_of muted)) {
    tells_link = false;
    over = record {
      name = muted.board.ghost_name;
      tells_link = (inner.device (board_of muted)).tells_link;
      sent = sent_by (board_of muted);
      sends = (inner.counts (board_of muted)).sends;
      link_faults = (inner.counts (board_of muted)).link_faults;
    } ∷ (inner.device (board_of muted)).over;
  }

  -- the counts of the other board's flash, and the lines that were taken
  abbrev pub counts_of : MutedBoard B → Counts
  counts_of muted = record (inner.counts (board_of muted)) { link_faults = 0; sends = muted.sends }

  abbrev pub muted_means : BoardMeaning (MutedBoard B)
  muted_means = record {
    device = device_of;
    flash = λ muted. inner.flash (board_of muted);
    moment = λ muted. inner.moment (board_of muted);
    images = λ muted. inner.images (board_of muted);
    sent = λ muted t. [];
    counts = counts_of;
  }

-- the name of the reference to the other board
abbrev pub name_of : {B : Type 0} → MutedBoard B → ℕ
name_of muted = muted.board.ghost_name
