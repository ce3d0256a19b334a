use Rattle.std.proofs.Common.{◌≡◌, ◌∷◌, length, take}
use Rattle.std.specs.Bool.{⊤}
use Rattle.std.specs.List.{flat_map}
use Rattle.listing.specs.Lists.{Lists}
use Rattle.pst_model.specs.Listing.{pattern_words, words_line}
use Rattle.listing.proofs.sending.send_patterns.Given as goal

abbrev pub invariant-loop-pattern : goal.invariant-loop-pattern
invariant-loop-pattern g l = record {
  lists :
      Lists g.B.Board.means (λ _. ⊤)
      (λ _. flat_map (λ pattern. words_line (l.name ∷ pattern_words pattern)) (take l.pattern-index l.patterns))
      0 l.pattern-index l.fn.board l.board;
  same : length l.buffer ≡ length l.fn.buffer;
}
