use Rattle.std.proofs.Common.{◌≡◌, length, take, sym, ap, ◌∙◌, arith, length-append, length-take}
use Rattle.traffic_gen.specs.Meaning.{left_of}
use Rattle.traffic_gen.proofs.traffic.TrafficSource.take.Goals as goal

pub returns-clause-end : goal.returns-clause-end
returns-clause-end c told =
    let count = c.hand_out-count.result in
    let held = c.refill.new.self in
    let order = held.order in
    let moved = take count c.hand_out-count.new.into in (
      (λ (none : count ≡ 0).
          let same : held.to ≡ held.from = omega (arith, c.hand_out-count.ensures.count, c.requires, order) in
          sym c.refill.ensures.left ∙ c.refill.ensures.some same),
      (λ empty.
          let long = ap length (sym c.hand_out-count.ensures.moved ∙ c.refill.ensures.left ∙ empty) in
          omega (arith, long, length-append moved (left_of c.hand_out-count.new.self), length-take count c.hand_out-count.new.into, c.hand_out-count.ensures.count, c.hand_out-count.auto.into)),
    )
