use Rattle.std.proofs.Common.{refl, sym}
use Rattle.std.proofs.lemmas.Result.{on_err_weaker, on_ok_weaker}
use Rattle.store_directory.specs.Changes.{with_links}
use Rattle.store_directory.proofs.ChangedSlots.{before, changed-store, missing, refused-store, same-sizes, slots-kept}
use Rattle.store_directory.proofs.Held.{entry-at}
use Rattle.store_directory.proofs.stores.Stores.append.Goals as goal

pub returns-in_default-clause-err : goal.returns-in_default-clause-err
returns-in_default-clause-err g c = (missing c.args.store (with_links (g.L.LinkList.listed c.args.links.now)) c.args.self.now.stores (sym c.in_default.ensures.place), refl)

pub append-requires : goal.append-requires
append-requires g c = (entry-at c.self.inside.slots.entries c.in-Some.at _ _ c.pair_mut-slot.ensures.value c.self.invariant.each).slot

pub invariant_of-self : goal.invariant_of-self
invariant_of-self g c = slots-kept c.self.inside.slots.entries c.in-Some.at _ _ _ c.pair_mut-slot.ensures.value c.append.ensures.keeps c.self.invariant

pub returns-clause-ok : goal.returns-clause-ok
returns-clause-ok g c = on_ok_weaker c.append.result (changed-store c.args.store (with_links (g.L.LinkList.listed c.args.links.now)) _ _ _ _ _ _ (before _ _ _ _ _ _ c.self.view_is (sym c.in-Some.ensures.place) c.pair_mut-slot.ensures.value) c.append.ensures.keeps) c.append.ensures.ok

pub returns-clause-err : goal.returns-clause-err
returns-clause-err g c = on_err_weaker c.append.result (refused-store c.args.store (with_links (g.L.LinkList.listed c.args.links.now)) _ _ _ _ _ _ (before _ _ _ _ _ _ c.self.view_is (sym c.in-Some.ensures.place) c.pair_mut-slot.ensures.value)) c.append.ensures.err

pub returns-clause-sizes : goal.returns-clause-sizes
returns-clause-sizes g c = same-sizes c.args.store (with_links (g.L.LinkList.listed c.args.links.now)) _ _ _ _ _ _ (before _ _ _ _ _ _ c.self.view_is (sym c.in-Some.ensures.place) c.pair_mut-slot.ensures.value) c.append.ensures.keeps
