use Rattle.std.proofs.Common.{◌≡◌, ◌≤◌, ◌+◌, ◌*◌, length, map, take}
use Rattle.listing.specs.Words.{spaced, text_of}
use Rattle.octet_fields.specs.Fields.{Writes}
use Rattle.listing.proofs.words.put_words.Given as goal

abbrev pub invariant-loop-word : goal.invariant-loop-word
invariant-loop-word l = record {
  few : l.end ≤ l.at + 21 * l.word-index;
  end : l.end ≡ l.at + length (spaced (map text_of (take l.word-index l.words)));
  writes : Writes l.fn.out l.out l.at (spaced (map text_of (take l.word-index l.words)));
}
