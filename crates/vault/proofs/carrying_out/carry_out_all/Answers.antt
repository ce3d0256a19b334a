use Rattle.std.proofs.Common.{◌≡◌, ◌+◌, ℕ, List, [], ◌∷◌, ◌++◌, length, sym, ◌∙◌, ap, subst, arith}
use Rattle.std.proofs.lemmas.Option.{slice_get-get_or}
use Rattle.store_directory.specs.Kept.{Kept}
use Rattle.store_policy.specs.declared.refusal.Refusal.{Refusal}
use Rattle.vault.proofs.CarriedOut.{AreSound, carried_share, carried_size, carried_stores, effect_on, few_items, none_carried_out, refuse_on}
use Rattle.vault.proofs.EachStores.{as_many_lasts}
use Rattle.vault.proofs.Keeping.{all_together}
use Rattle.vault.proofs.Tables.{shared_parts}
use Rattle.vault.specs.Following.{Stores}
use Rattle.vault.specs.Memory.{IsSoundStore}
use Rattle.vault.specs.Requests.{AreCarriedOut}
use Rattle.vault.proofs.carrying_out.carry_out_all.Goals as goal
use Rattle.vault.proofs.carrying_out.carry_out_all.Goals.{in-Err, in-Ok}

pub loop-at-init : goal.loop-at-init
loop-at-init c =
    let old : Stores = record { directory = c.args.directory.now.directory; indexes = c.args.indexes.now.items; lasts = c.args.lasts.now.items } in
    let sound : AreSound c.args.blocks old = record { directory = c.len.ensures.kept; share = c.requires.share; stores = c.requires.stores } in
    record {
      few = omega (arith, ap length c.new-refused.ensures);
      carried =
          subst (λ (l : List (ℕ × Refusal)). AreCarriedOut c.args.blocks c.args.items.now 0 old old l 0 c.args.out.now c.args.out.now)
          (sym c.new-refused.ensures) (none_carried_out c.args.blocks c.args.items.now old sound c.args.out.now);
    }

pub carry_out-requires-clause-lasts : goal.carry_out-requires-clause-lasts
carry_out-requires-clause-lasts c =
    let old : Stores = record { directory = c.args.directory.now.directory; indexes = c.args.indexes.now.items; lasts = c.args.lasts.now.items } in
    let now : Stores = record { directory = c.loop-at.directory.directory; indexes = c.loop-at.indexes.items; lasts = c.loop-at.lasts.items } in
    let sound : AreSound c.args.blocks old = record { directory = c.len.ensures.kept; share = c.requires.share; stores = c.requires.stores } in
    as_many_lasts (IsSoundStore old.directory.now) now.directory.stores now.indexes now.lasts
    (carried_stores c.args.blocks c.args.items.now old sound c.loop-at.at now c.loop-at.refused.items c.loop-at.size c.args.out.now c.loop-at.out c.loop-at.invariant.carried)

pub carry_out-requires-clause-together : goal.carry_out-requires-clause-together
carry_out-requires-clause-together c =
    let old : Stores = record { directory = c.args.directory.now.directory; indexes = c.args.indexes.now.items; lasts = c.args.lasts.now.items } in
    let now : Stores = record { directory = c.loop-at.directory.directory; indexes = c.loop-at.indexes.items; lasts = c.loop-at.lasts.items } in
    let sound : AreSound c.args.blocks old = record { directory = c.len.ensures.kept; share = c.requires.share; stores = c.requires.stores } in
    all_together old.directory.now now.directory.stores now.indexes now.lasts
    (carried_stores c.args.blocks c.args.items.now old sound c.loop-at.at now c.loop-at.refused.items c.loop-at.size c.args.out.now c.loop-at.out c.loop-at.invariant.carried)

pub carry_out-requires-clause-reserved : goal.carry_out-requires-clause-reserved
carry_out-requires-clause-reserved c =
    let old : Stores = record { directory = c.args.directory.now.directory; indexes = c.args.indexes.now.items; lasts = c.args.lasts.now.items } in
    let now : Stores = record { directory = c.loop-at.directory.directory; indexes = c.loop-at.indexes.items; lasts = c.loop-at.lasts.items } in
    let sound : AreSound c.args.blocks old = record { directory = c.len.ensures.kept; share = c.requires.share; stores = c.requires.stores } in
    (shared_parts c.args.blocks now.directory.stores (carried_share c.args.blocks c.args.items.now old sound c.loop-at.at now c.loop-at.refused.items c.loop-at.size c.args.out.now c.loop-at.out c.loop-at.invariant.carried)).0

pub carry_out-requires-clause-room : goal.carry_out-requires-clause-room
carry_out-requires-clause-room c =
    let old : Stores = record { directory = c.args.directory.now.directory; indexes = c.args.indexes.now.items; lasts = c.args.lasts.now.items } in
    let now : Stores = record { directory = c.loop-at.directory.directory; indexes = c.loop-at.indexes.items; lasts = c.loop-at.lasts.items } in
    let sound : AreSound c.args.blocks old = record { directory = c.len.ensures.kept; share = c.requires.share; stores = c.requires.stores } in
    let size = carried_size c.args.blocks c.args.items.now old sound c.loop-at.at now c.loop-at.refused.items c.loop-at.size c.args.out.now c.loop-at.out c.loop-at.invariant.carried in
    let few = few_items c.args.items.now c.requires.carried in
    omega (arith, size, few, c.loop-at.auto.out, c.requires.room, c.loop-at-test.true)

pub loop-at-preserved : goal.loop-at-preserved
loop-at-preserved c =
    let old : Stores = record { directory = c.args.directory.now.directory; indexes = c.args.indexes.now.items; lasts = c.args.lasts.now.items } in
    let now : Stores = record { directory = c.loop-at.directory.directory; indexes = c.loop-at.indexes.items; lasts = c.loop-at.lasts.items } in
    let sound : AreSound c.args.blocks old = record { directory = c.len.ensures.kept; share = c.requires.share; stores = c.requires.stores } in
    let so_far = c.loop-at.invariant in
    let blocks = c.args.blocks in
    let items = c.args.items.now in
    let at = c.loop-at.at in
    let before = c.args.out.now in
    let new = c.carry_out.new.out in
    let next : Stores = record { directory = c.carry_out.new.directory.directory; indexes = c.carry_out.new.indexes.items; lasts = c.carry_out.new.lasts.items } in
    elim c.match-carry_out.branch [
      | in-Ok w ↦
          record {
            few = omega (arith, so_far.few, ap (λ r. length r.items) w.refused-is);
            carried =
                subst (λ (l : List (ℕ × Refusal)). AreCarriedOut blocks items (at + 1) old next l c.match-carry_out.size before new)
                (sym (ap (λ r. r.items) w.refused-is))
                (subst (λ (n : ℕ). AreCarriedOut blocks items (at + 1) old next c.loop-at.refused.items n before new) (sym w.size-is)
                (effect_on blocks items old sound at now c.loop-at.refused.items c.loop-at.size before c.loop-at.out so_far.carried c.requires.carried _
                (slice_get-get_or items at _ c.loop-at-test.true) w.in-Ok.ensures.agrees next w.in-Ok.end new w.in-Ok.ensures.effect));
          }
      | in-Err w ↦
          let same : next ≡ now =
          (λ i. record { directory = (ap (λ (kept : Kept). kept.directory) w.in-Err.ensures.same) i; indexes = w.in-Err.ensures.indexes i; lasts = w.in-Err.ensures.lasts i }) in
          record {
            few = omega (arith, w.push.ensures.len, so_far.few, ap (λ r. length r.items) w.refused-is);
            carried =
                subst (λ (s : Stores). AreCarriedOut blocks items (at + 1) old s c.match-carry_out.refused.items c.match-carry_out.size before new) (sym same)
                (subst (λ (out : List ℕ). AreCarriedOut blocks items (at + 1) old now c.match-carry_out.refused.items c.match-carry_out.size before out)
                (sym w.in-Err.ensures.text)
                (subst (λ (l : List (ℕ × Refusal)). AreCarriedOut blocks items (at + 1) old now l c.match-carry_out.size before c.loop-at.out)
                (sym (ap (λ r. r.items) w.refused-is ∙ w.push.ensures.items))
                (subst (λ (n : ℕ). AreCarriedOut blocks items (at + 1) old now (c.loop-at.refused.items ++ (at + 1, w.in-Err.refusal) ∷ []) n before c.loop-at.out)
                (sym w.size-is)
                (refuse_on blocks items old sound at now c.loop-at.refused.items c.loop-at.size before c.loop-at.out so_far.carried c.requires.carried _
                (slice_get-get_or items at _ c.loop-at-test.true) w.in-Err.refusal w.in-Err.ensures.agrees))));
          }
    ]

pub returns-clause-size : goal.returns-clause-size
returns-clause-size c =
    let old : Stores = record { directory = c.args.directory.now.directory; indexes = c.args.indexes.now.items; lasts = c.args.lasts.now.items } in
    let now : Stores = record { directory = c.loop-at.directory.directory; indexes = c.loop-at.indexes.items; lasts = c.loop-at.lasts.items } in
    let sound : AreSound c.args.blocks old = record { directory = c.len.ensures.kept; share = c.requires.share; stores = c.requires.stores } in
    let size = carried_size c.args.blocks c.args.items.now old sound c.loop-at.at now c.loop-at.refused.items c.loop-at.size c.args.out.now c.loop-at.out c.loop-at.invariant.carried in
    omega (arith, size, c.loop-at.auto.at-end)
