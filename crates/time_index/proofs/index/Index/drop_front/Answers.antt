use Rattle.std.proofs.Common.{◌<◌, arith, length-drop}
use Rattle.std.proofs.lemmas.List.Sums.{sum_by-take-drop}
use Rattle.std.proofs.lemmas.List.Elements.{All-drop}
use Rattle.space_packet.specs.Charge.{charge_of}
use Rattle.time_index.specs.declared.entry.Entry.{Entry}
use Rattle.time_index.proofs.index.Index.drop_front.Goals as goal

pub invariant_of-self : goal.invariant_of-self
invariant_of-self c =
    let es = c.self.inside.ring.entries in
    let n = c.args.count in
    rw c.drop_front.ensures (
      omega (
        arith,
        c.self.invariant.0,
        c.pages_before.ensures,
        sum_by-take-drop (λ (e : Entry). charge_of e.length) es n,
      ),
      simp length-drop (omega arith),
      c.self.invariant.2,
      All-drop (λ (e : Entry). e.length < 65536) n es c.self.invariant.3,
    )
