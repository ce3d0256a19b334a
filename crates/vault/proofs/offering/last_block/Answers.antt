use Rattle.std.proofs.Common.{◌≡◌, ℕ, ◌-◌, ◌≤◌, List, [], ◌∷◌, length, get_or, refl, ◌∙◌, ap, arith}
use Rattle.record_view.specs.declared.link.Link.{Link}
use Rattle.store_load.specs.Extents.{last_of}
use Rattle.vault.specs.Offering.{IsLastBlock}
use Rattle.vault.proofs.offering.last_block.Goals as goal

last_got : (link : Link) (links : List Link) (none : Link) → get_or (link ∷ links) (length links) none ≡ last_of link links
last_got link [] none = refl
last_got link (next ∷ links) none = last_got next links none

last_is : (links : List Link) (none : Link) → 1 ≤ length links → IsLastBlock links (get_or links (length links - 1) none).block
last_is [] none some = absurd (omega arith)
last_is (link ∷ links) none some = record {
  link = link;
  rest = links;
  some = refl;
  last =
      let same : length (link ∷ links) - 1 ≡ length links = omega arith in
      ap (λ (n : ℕ). (get_or (link ∷ links) n none).block) same ∙ ap (λ (l : Link). l.block) (last_got link links none);
}

pub returns : goal.returns
returns c = last_is c.args.links.now _ c.requires
