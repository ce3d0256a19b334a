-- What a board over a file means. It tells neither its flash nor its link: no clause can observe a file.
use Rattle.std.specs.Prelude.{◌≡◌, ℕ, Bool, true, false, []}
use Rattle.std.specs.declared.io.traits.Write as write
use Rattle.board.specs.Counts.{Counts}
use Rattle.board.specs.Device.{Device}
use Rattle.board.specs.Meaning.{BoardMeaning}
use Rattle.image_board.specs.Counting.{counts_in, no_counts}
use Rattle.image_board.specs.Medium.{Call, Logs}
use Rattle.image_board.specs.declared.file_board.FileBoard.{FileBoard}
use Rattle.image_board.specs.declared.medium.Medium as medium

module _ {W M : Type 0} {writes : write.Ghosts W} {calls : medium.Ghosts M} where
  abbrev pub device_of : FileBoard W M writes calls → Device
  device_of board = record { blocks = board.blocks; tells_flash = false; tells_link = false; over = [] }

  abbrev pub counts_of : FileBoard W M writes calls → Counts
  counts_of board = counts_in board.tally

  abbrev pub file_means : BoardMeaning (FileBoard W M writes calls)
  file_means = record {
    device = device_of;
    flash = λ board. record { content = λ p. []; erased = λ p. false; loose = λ p. false };
    moment = λ board. 0;
    images = λ board t image. ⊥;
    sent = λ board t. [];
    counts = counts_of;
  }

  -- whether a barrier has failed
  abbrev pub is_broken : FileBoard W M writes calls → Bool
  is_broken board = board.is_broken

  -- the writer that is its link
  abbrev pub link_of : FileBoard W M writes calls → W
  link_of board = board.out

  -- the medium that holds its pages
  abbrev pub medium_of : FileBoard W M writes calls → M
  medium_of board = board.medium

  -- A board of this many blocks that was just made over this medium and this writer.
  pub record IsNewBoard (medium : M) (blocks : ℕ) (out : W) (board : FileBoard W M writes calls) : Type 0 where
    pub device : (device_of board).blocks ≡ blocks
    pub over : medium_of board ≡ medium
    pub sends_by : link_of board ≡ out
    pub whole : is_broken board ≡ false
    pub counts : counts_of board ≡ no_counts

  -- This one call of the medium was made, and went as the call of the board did.
  abbrev pub Asks : (Bool → Call) → Bool → (old new : FileBoard W M writes calls) → Type 0
  Asks call ok old new = Logs (calls.log (medium_of old)) (calls.log (medium_of new)) (call ok)

  -- So it was, unless a barrier has failed before: then the call fails, and none is made of the medium.
  pub record AsksUnbroken (call : Bool → Call) (ok : Bool) (old new : FileBoard W M writes calls) : Type 0 where
    pub asked : is_broken old ≡ false → Asks call ok old new
    pub refused : is_broken old ≡ true → ok ≡ false
    pub unasked : is_broken old ≡ true → medium_of new ≡ medium_of old

  -- The link was not called, and the board is as broken as it was.
  pub record KeepsOthers (old new : FileBoard W M writes calls) : Type 0 where
    pub link : link_of new ≡ link_of old
    pub broken : is_broken new ≡ is_broken old
