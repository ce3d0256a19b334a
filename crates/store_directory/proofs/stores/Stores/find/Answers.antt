use Rattle.std.proofs.Common.{nat_eq, ap, sym, ◌∙◌}
use Rattle.std.specs.Map.{keys_of}
use Rattle.store_directory.specs.Directory.{place_of}
use Rattle.store_directory.specs.Slots.{largest_in}
use Rattle.store_directory.proofs.Held.{place-keys}
use Rattle.store_directory.proofs.Places.{absent-position}
use Rattle.store_directory.proofs.Sizes.{largest-absent}
use Rattle.store_directory.proofs.stores.Stores.find.Goals as goal

pub returns-in-Some-clause-place : goal.returns-in-Some-clause-place
returns-in-Some-clause-place c = c.in-Some.ensures.index ∙ place-keys c.args.identifier _ c.self.invariant.each ∙ ap (λ h. place_of c.args.identifier h.stores) c.self.view_is

pub returns-in-None-clause-place : goal.returns-in-None-clause-place
returns-in-None-clause-place c = c.in-None.ensures.index ∙ place-keys c.args.identifier _ c.self.invariant.each ∙ ap (λ h. place_of c.args.identifier h.stores) c.self.view_is

pub returns-in-None-clause-new : goal.returns-in-None-clause-new
returns-in-None-clause-new c =
    ap (λ h. largest_in h.sizes c.args.identifier) (sym c.self.view_is)
    ∙ largest-absent c.args.identifier c.self.inside.slots.entries (absent-position (nat_eq c.args.identifier) (keys_of c.self.inside.slots.entries) (sym c.in-None.ensures.index))
