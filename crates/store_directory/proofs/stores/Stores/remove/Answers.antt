use Rattle.std.proofs.Common.{◌≡◌, true, nat_eq, refl, ap, rules, subst, sym, ◌∙◌}
use Rattle.std.specs.Prelude.{Some, if◌then◌else◌}
use Rattle.store_directory.specs.Directory.{are_distinct, without_store}
use Rattle.store_directory.specs.Slots.{AreSlots, largest_in, sizes_of, stores_of}
use Rattle.store_directory.proofs.Held.{identifiers-keys, stores-removed}
use Rattle.store_directory.proofs.Removed.{none-removed, slots-removed, some-removed}
use Rattle.store_directory.proofs.Sizes.{largest-removed}
use Rattle.store_directory.proofs.stores.Stores.remove.Goals as goal

pub returns-then-is_none-clause-err : goal.returns-then-is_none-clause-err
returns-then-is_none-clause-err c = (none-removed c.args.identifier c.args.self.now.stores (search rules), refl)

pub invariant_of-self : goal.invariant_of-self
invariant_of-self c = subst AreSlots (sym c.shift_remove.ensures.entries) (slots-removed c.args.identifier c.self.inside.slots.entries c.self.invariant)

pub returns-clause-ok : goal.returns-clause-ok
returns-clause-ok c =
    let entries = c.self.inside.slots.entries in
    some-removed c.args.identifier c.args.self.now.stores (search rules)
    ∙ ap (λ h. Some (without_store c.args.identifier h.stores)) (sym c.self.view_is)
    ∙ ap Some (sym (stores-removed c.args.identifier entries c.self.invariant.each))
    ∙ ap (λ es. Some (stores_of es)) (sym c.shift_remove.ensures.entries)

pub returns-clause-largest : goal.returns-clause-largest
returns-clause-largest c other =
    let entries = c.self.inside.slots.entries in
    let distinct = subst (λ l. are_distinct l ≡ true) (identifiers-keys entries c.self.invariant.each) c.self.invariant.distinct in
    ap (λ es. largest_in (sizes_of es) other) c.shift_remove.ensures.entries
    ∙ largest-removed c.args.identifier entries distinct other
    ∙ ap (λ h. if nat_eq other c.args.identifier then 0 else largest_in h.sizes other) c.self.view_is
