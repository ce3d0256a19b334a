use Rattle.std.proofs.Common.{◌≡◌, ◌<◌, ◌+◌, ◌++◌, ◌∷◌, [], List, length, take, ap, sym, ◌∙◌, append_assoc, subst, arith}
use Rattle.std.specs.List.{All}
use Rattle.std.proofs.lemmas.List.Elements.{All-push}
use Rattle.std.proofs.lemmas.List.{take_more}
use Rattle.std.proofs.lemmas.Option.{get_or_from_slice_get, slice_get_within}
use Rattle.record_view.specs.declared.link.Link.{Link}
use Rattle.store_directory.specs.Directory.{FitsLink}
use Rattle.store_directory.proofs.slot.Slot.append.Goals as goal

pub loop-at-preserved : goal.loop-at-preserved
loop-at-preserved g c =
    let links = g.L.LinkList.listed c.args.links.now in
    let link = c.get.result in
    let within : c.loop-at.at < length links = slice_get_within links c.loop-at.at link c.get.ensures.link in
    let more : take (c.loop-at.at + 1) links ≡ take c.loop-at.at links ++ link ∷ [] =
    take_more links c.loop-at.at link within ∙ ap (λ (l : Link). take c.loop-at.at links ++ l ∷ []) (get_or_from_slice_get links c.loop-at.at link link c.get.ensures.link)
    in
    let so_far = c.loop-at.invariant in
    record {
      items =
          c.push.ensures.items ∙ ap (λ (l : List Link). l ++ link ∷ []) so_far.items
          ∙ append_assoc c.args.self.now.links.items (take c.loop-at.at links) (link ∷ []) ∙ ap (λ (l : List Link). c.args.self.now.links.items ++ l) (sym more);
      fitting = subst (All FitsLink) (sym more) (All-push FitsLink (take c.loop-at.at links) link so_far.fitting c.get.ensures.fits);
      room = omega (arith, so_far.room, c.push.ensures.kept);
      row = so_far.row;
      patterns = so_far.patterns;
      largest = so_far.largest;
    }
