use Rattle.std.proofs.Common.{◌≡◌, ◌<◌, ◌-◌, length, refl, sym, subst, arith, rules}
use Rattle.std.specs.List.{All}
use Rattle.std.proofs.lemmas.List.Elements.{All-set}
use Rattle.store_directory.specs.Directory.{FitsLink}
use Rattle.store_directory.proofs.Swaps.{swap_last-is}
use Rattle.store_directory.proofs.slot.Slot.swap_last.Goals as goal

pub returns-clause-ok : goal.returns-clause-ok
returns-clause-ok c =
    let links = c.args.self.now.links.items in
    let some : 0 < length links = search rules in
    rw (swap_last-is c.args.link links (length links - 1) (omega (arith, some)), c.replace_last.ensures.items, c.in_range.ensures.same) refl

pub returns-clause-keeps : goal.returns-clause-keeps
returns-clause-keeps c =
    let same : length c.replace_last.new.self.items ≡ length c.args.self.now.links.items = search rules in
    record {
      row = refl;
      largest = refl;
      slot = λ slot. record {
        listed = record { lawful = slot.listed.lawful; fits = slot.listed.fits; patterns = slot.listed.patterns; links = omega (arith, slot.listed.links, same); fitting = subst (All FitsLink) (sym c.replace_last.ensures.items) (All-set FitsLink c.args.self.now.links.items (length c.args.self.now.links.items - 1) c.in_range.result c.in_range.ensures.fits slot.listed.fitting) };
        within = slot.within;
        room = omega (arith, slot.room, c.replace_last.ensures.kept);
      };
    }
