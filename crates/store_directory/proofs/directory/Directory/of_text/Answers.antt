use Rattle.std.proofs.Common.{subst, rules}
use Rattle.store_directory.specs.Directory.{AreListed}
use Rattle.store_directory.proofs.Kept.{are-listed}
use Rattle.store_directory.proofs.Lawful.{lawful-from_kept}
use Rattle.store_directory.proofs.directory.Directory.of_text.Goals as goal

pub returns-clause-lawful : goal.returns-clause-lawful
returns-clause-lawful c =
    lawful-from_kept _ (
    record {
      now = c.requires;
      reports = search rules;
      forward = c.in-Some.ensures.lawful;
      stores = subst (λ h. AreListed h.stores) c.stores.view_is (are-listed c.stores.inside.slots.entries c.stores.invariant);
    }
    )
