use Rattle.std.proofs.Common.{arith, ◌+◌, take, drop, ℕ, ◌-◌, List, ap, sym, ◌∙◌, length-take, subst}
use Rattle.session_text.proofs.Buffers.{Stands, Stands-moved, Stands-kept, Stands-gained, items-put, on_err}
use Rattle.session_text.specs.declared.held.Held.TheInside.{Inside}
use Rattle.session_text.proofs.held.Held.fill.Goals as goal
use Rattle.session_text.proofs.held.Held.fill.Goals.{then-self-eq-ROOM, else-self-eq-ROOM}

pub returns-in_err-count-clause-failed : goal.returns-in_err-count-clause-failed
returns-in_err-count-clause-failed g c =
    let inside = c.if-self-eq-ROOM.self-inside in
    let old : Stands c.self.inside.octets.items c.self.inside.start c.self.inside.end c.args.self.now =
    record { order = c.self.invariant.0; within = omega arith; between = c.self.view_is } in
    let stands : Stands inside.octets.items inside.start inside.end c.args.self.now = elim c.if-self-eq-ROOM.branch [
      | then-self-eq-ROOM w ↦
          subst (λ (i : Inside). Stands i.octets.items i.start i.end c.args.self.now) (sym w.self-inside-is)
          (rw w.copy_within.ensures.items (Stands-moved _ _ _ _ old))
      | else-self-eq-ROOM w ↦ subst (λ (i : Inside). Stands i.octets.items i.start i.end c.args.self.now) (sym w.self-inside-is) old
    ] in
    let lent : Stands c.deref_mut.result.now inside.start inside.end c.args.self.now = rw c.deref_mut.ensures.value stands in
    let put = items-put inside.octets inside.end c.deref_mut.result.now c.take.new.into c.deref_mut.ensures.len c.take.auto.into lent.within in
    on_err c.from_residual.result (ap (λ (l : List ℕ). take (inside.end - inside.start) (drop inside.start l)) put ∙ Stands-kept _ _ _ _ _ lent)

pub returns-clause-gains : goal.returns-clause-gains
returns-clause-gains g c =
    let inside = c.if-self-eq-ROOM.self-inside in
    let old : Stands c.self.inside.octets.items c.self.inside.start c.self.inside.end c.args.self.now =
    record { order = c.self.invariant.0; within = omega arith; between = c.self.view_is } in
    let stands : Stands inside.octets.items inside.start inside.end c.args.self.now = elim c.if-self-eq-ROOM.branch [
      | then-self-eq-ROOM w ↦
          subst (λ (i : Inside). Stands i.octets.items i.start i.end c.args.self.now) (sym w.self-inside-is)
          (rw w.copy_within.ensures.items (Stands-moved _ _ _ _ old))
      | else-self-eq-ROOM w ↦ subst (λ (i : Inside). Stands i.octets.items i.start i.end c.args.self.now) (sym w.self-inside-is) old
    ] in
    let lent : Stands c.deref_mut.result.now inside.start inside.end c.args.self.now = rw c.deref_mut.ensures.value stands in
    let put = items-put inside.octets inside.end c.deref_mut.result.now c.take.new.into c.deref_mut.ensures.len c.take.auto.into lent.within in
    let taken = c.in_ok-count.ensures in
    record {
      gained = take c.in_ok-count.count c.take.new.into;
      size = omega (arith, length-take c.in_ok-count.count c.take.new.into, c.take.auto.into);
      behind =
          ap (λ (l : List ℕ). take (inside.end + c.in_ok-count.count - inside.start) (drop inside.start l)) put ∙ Stands-gained _ _ _ _ _ _ _ lent (omega (arith, c.take.auto.into));
      taken = taken.moved;
      end = taken.end;
    }
