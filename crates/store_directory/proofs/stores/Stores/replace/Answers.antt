use Rattle.std.proofs.Common.{◌<◌, nat_eq, sym, subst, ap, ◌∙◌, arith}
use Rattle.std.proofs.lemmas.List.{length-map}
use Rattle.std.proofs.lemmas.Result.{on_err_weaker, on_ok_weaker}
use Rattle.store_directory.specs.Directory.{identifiers, place_of}
use Rattle.store_directory.specs.Slots.{listed_of, stores_of}
use Rattle.store_directory.proofs.Held.{entry-at}
use Rattle.store_directory.proofs.Places.{first-position, within-first}
use Rattle.store_directory.proofs.PutSlots.{kept-after, largest-before, puts-after, replaces, same-after, unfit-after}
use Rattle.store_directory.proofs.stores.Stores.replace.Goals as goal

pub pair_mut-slot-requires : goal.pair_mut-slot-requires
pair_mut-slot-requires c =
    let stores = stores_of c.self.inside.slots.entries in
    let place = ap (λ h. place_of c.args.row.identifier h.stores) c.self.view_is ∙ c.requires.stands in
    omega (
      arith,
      within-first (nat_eq c.args.row.identifier) stores c.args.at (first-position (nat_eq c.args.row.identifier) (identifiers stores) c.args.at place),
      length-map c.self.inside.slots.entries (λ e. listed_of e.1),
    )

pub put-requires-clause-slot : goal.put-requires-clause-slot
put-requires-clause-slot c = (entry-at c.self.inside.slots.entries c.args.at _ _ c.pair_mut-slot.ensures.value c.self.invariant.each).slot

pub invariant_of-self : goal.invariant_of-self
invariant_of-self c =
    kept-after c.args.row _ _ c.args.at _ _ _ (replaces _ _ _ _ _ _ c.self.view_is c.self.invariant c.requires.stands c.pair_mut-slot.ensures.value c.requires.blocks) c.put.ensures.all_or_nothing

pub returns-clause-ok : goal.returns-clause-ok
returns-clause-ok c =
    let r = replaces _ _ _ _ _ _ c.self.view_is c.self.invariant c.requires.stands c.pair_mut-slot.ensures.value c.requires.blocks in
    on_ok_weaker c.put.result (puts-after c.args.row _ _ c.args.at _ _ _ r c.requires.lawful) c.put.ensures.ok

pub returns-clause-unfit : goal.returns-clause-unfit
returns-clause-unfit c is =
    let r = replaces _ _ _ _ _ _ c.self.view_is c.self.invariant c.requires.stands c.pair_mut-slot.ensures.value c.requires.blocks in
    unfit-after c.args.row _ _ c.args.at _ _ c.put.new.self r (c.put.ensures.unfit.0 is)

pub returns-clause-memory : goal.returns-clause-memory
returns-clause-memory c is =
    let r = replaces _ _ _ _ _ _ c.self.view_is c.self.invariant c.requires.stands c.pair_mut-slot.ensures.value c.requires.blocks in
    subst (λ n. n < c.args.row.size) (sym (largest-before c.args.row _ _ c.args.at _ _ c.put.new.self r)) (c.put.ensures.memory is)

pub returns-clause-err : goal.returns-clause-err
returns-clause-err c =
    let r = replaces _ _ _ _ _ _ c.self.view_is c.self.invariant c.requires.stands c.pair_mut-slot.ensures.value c.requires.blocks in
    on_err_weaker c.put.result (same-after c.args.row _ _ c.args.at _ _ _ r) c.put.ensures.err
