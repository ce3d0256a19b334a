use Rattle.std.proofs.Common.{◌≡◌, suc, ◌-◌, List, [], ◌∷◌, length, Some, sym, ◌∙◌, ap, arith}
use Rattle.std.specs.Prelude.{slice_get}
use Rattle.std.proofs.lemmas.Option.{none-some, same_Some}
use Rattle.record_view.specs.declared.link.Link.{Link}
use Rattle.vault.specs.Renewing.{last_block}
use Rattle.vault.proofs.copying.last_block.Goals as goal

last_got : (links : List Link) (link : Link) → Some link ≡ slice_get links (length links - 1) → link.block ≡ last_block links
last_got [] link is = absurd (none-some link (sym is))
last_got (x ∷ []) link is = ap (λ (l : Link). l.block) (same_Some link x is)
last_got (x ∷ next ∷ links) link is =
    let behind : length (x ∷ next ∷ links) - 1 ≡ suc (length (next ∷ links) - 1) = omega arith in
    last_got (next ∷ links) link (is ∙ ap (slice_get (x ∷ next ∷ links)) behind)

pub returns-in-Some : goal.returns-in-Some
returns-in-Some c = c.from.ensures ∙ last_got c.args.links.now c.in-Some.link.now c.in-Some.ensures.value
