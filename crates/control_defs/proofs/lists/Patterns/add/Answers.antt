use Rattle.std.proofs.Common.{refl, sym, ◌∙◌, arith}
use Rattle.control_defs.proofs.Kept.{beside_fits}
use Rattle.control_defs.proofs.Places.{beside_apart, length-with_uncovered}
use Rattle.control_defs.proofs.lists.Patterns.add.Goals as goal

pub returns-then-count_beside-eq64-clause-limit : goal.returns-then-count_beside-eq64-clause-limit
returns-then-count_beside-eq64-clause-limit c =
    let uncovered = sym c.covers_pattern.ensures.some ∙ c.if-covers_pattern.false in
    (λ _. omega (arith, length-with_uncovered c.args.pattern c.args.self.now uncovered), λ _. refl)

pub place-requires-clause-room : goal.place-requires-clause-room
place-requires-clause-room c =
    rw c.remove_covered.ensures (omega (arith, beside_fits c.args.pattern c.args.self.now c.covers_pattern.ensures.lawful))

pub place-requires-clause-apart : goal.place-requires-clause-apart
place-requires-clause-apart c =
    let uncovered = sym c.covers_pattern.ensures.some ∙ c.if-covers_pattern.false in
    rw c.remove_covered.ensures (beside_apart c.args.pattern c.args.self.now uncovered)

pub returns-clause-limit : goal.returns-clause-limit
returns-clause-limit c =
    let uncovered = sym c.covers_pattern.ensures.some ∙ c.if-covers_pattern.false in
    let fits = beside_fits c.args.pattern c.args.self.now c.covers_pattern.ensures.lawful in
    (λ h. cc h, λ more. absurd (omega (arith, length-with_uncovered c.args.pattern c.args.self.now uncovered)))
