use Rattle.std.proofs.Common.{◌≡◌, ◌++◌, ◌∷◌, [], nat_eq, sym, subst, ◌∙◌}
use Rattle.indexmap.proofs.CallerLemmas.{insert_entry-new}
use Rattle.store_directory.specs.Slots.{AddsStore, AreSlots, listed_of}
use Rattle.store_directory.proofs.ChangedSlots.{shown}
use Rattle.store_directory.proofs.PutSlots.{adds-pushed, kept-pushed, no-entry, pushes}
use Rattle.store_directory.proofs.stores.Stores.push.Goals as goal

entries-are : (c : goal.Joined-branch-2) → c.insert.new.self.entries ≡ c.self.inside.slots.entries ++ (c.args.slot.row.identifier, c.args.slot) ∷ []
entries-are c =
    c.in_ok-insert.ensures.entries
    ∙ insert_entry-new nat_eq c.self.inside.slots c.args.slot.row.identifier c.args.slot (no-entry c.args.slot.row.identifier _ _ c.self.view_is c.self.invariant c.requires.fresh)

pub invariant_of-self-2 : goal.invariant_of-self-2
invariant_of-self-2 c =
    let r = pushes _ _ c.args.slot c.self.view_is c.self.invariant c.requires.fresh c.requires.few c.requires.blocks c.requires.slot in
    subst AreSlots (sym (entries-are c)) (kept-pushed _ _ c.args.slot r)

pub returns-clause-ok : goal.returns-clause-ok
returns-clause-ok c =
    let r = pushes _ _ c.args.slot c.self.view_is c.self.invariant c.requires.fresh c.requires.few c.requires.blocks c.requires.slot in
    subst (λ es. AddsStore (listed_of c.args.slot) c.args.slot.largest c.args.self.now (shown es)) (sym (entries-are c)) (adds-pushed _ _ c.args.slot r)
