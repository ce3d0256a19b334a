use Rattle.std.proofs.Common.{◌≡◌, ◌++◌, ◌/◌, List, [], ℕ, Bool, true, false, if◌then◌else◌, length, drop, ap, ◌∙◌}
use Rattle.std.proofs.lemmas.List.{append-nil, take-append-drop}
use Rattle.board.specs.Moments.{IsPrefixOf}
use Rattle.trials.specs.Half.{half_of}
use Rattle.trials.proofs.Steps.{moments_step, stays_step}
use Rattle.trials.proofs.half_board.HalfBoardBoard.send.Goals as goal

-- what a send sends is a prefix of its octets
part : (breaks : Bool) (bytes sent : List ℕ) → sent ≡ (if breaks then half_of bytes else bytes) → IsPrefixOf sent bytes
part true bytes sent is = (drop (length bytes / 2) bytes, ap (λ (xs : List ℕ). xs ++ drop (length bytes / 2) bytes) is ∙ take-append-drop (length bytes / 2) bytes)
part false bytes sent is = ([], append-nil sent ∙ is)

pub returns-in-Ok-clause-stays : goal.returns-in-Ok-clause-stays
returns-in-Ok-clause-stays c told = stays_step c.args.self.now _ (c.send.ensures.stays told)

pub returns-in_default-clause-stays : goal.returns-in_default-clause-stays
returns-in_default-clause-stays c told = stays_step c.args.self.now _ (c.send.ensures.stays told)

pub returns-in_default-clause-any_moment : goal.returns-in_default-clause-any_moment
returns-in_default-clause-any_moment c told =
    moments_step c.args.self.now _ c.args.bytes.now c.part_of.result.now (c.send.ensures.any_moment told)
    (part c.eq-breaks.result c.args.bytes.now c.part_of.result.now c.part_of.ensures)
