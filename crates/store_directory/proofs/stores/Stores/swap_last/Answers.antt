use Rattle.std.proofs.Common.{refl, sym}
use Rattle.std.proofs.lemmas.Result.{on_err_weaker, on_ok_weaker}
use Rattle.store_directory.specs.Changes.{with_last}
use Rattle.store_directory.proofs.ChangedSlots.{before, changed-store, missing, refused-store, same-sizes, slots-kept}
use Rattle.store_directory.proofs.stores.Stores.swap_last.Goals as goal

pub returns-in_default-clause-err : goal.returns-in_default-clause-err
returns-in_default-clause-err c = (missing c.args.store (with_last c.args.link) c.args.self.now.stores (sym c.in_default.ensures.place), refl)

pub invariant_of-self : goal.invariant_of-self
invariant_of-self c = slots-kept c.self.inside.slots.entries c.in-Some.at _ _ _ c.pair_mut-slot.ensures.value c.swap_last.ensures.keeps c.self.invariant

pub returns-clause-ok : goal.returns-clause-ok
returns-clause-ok c = on_ok_weaker c.swap_last.result (changed-store c.args.store (with_last c.args.link) _ _ _ _ _ _ (before _ _ _ _ _ _ c.self.view_is (sym c.in-Some.ensures.place) c.pair_mut-slot.ensures.value) c.swap_last.ensures.keeps) c.swap_last.ensures.ok

pub returns-clause-err : goal.returns-clause-err
returns-clause-err c = on_err_weaker c.swap_last.result (refused-store c.args.store (with_last c.args.link) _ _ _ _ _ _ (before _ _ _ _ _ _ c.self.view_is (sym c.in-Some.ensures.place) c.pair_mut-slot.ensures.value)) c.swap_last.ensures.err

pub returns-clause-sizes : goal.returns-clause-sizes
returns-clause-sizes c = same-sizes c.args.store (with_last c.args.link) _ _ _ _ _ _ (before _ _ _ _ _ _ c.self.view_is (sym c.in-Some.ensures.place) c.pair_mut-slot.ensures.value) c.swap_last.ensures.keeps
