use Rattle.std.proofs.Common.{◌≡◌, ◌<◌, length as length_of, get_or, arith, sym, subst, ◌∙◌, length-set}
use Rattle.std.proofs.lemmas.List.Elements.{All-set}
use Rattle.time_index.specs.TimeIndex.{HasLengthAt, TimeIndex}
use Rattle.time_index.specs.declared.entry.Entry.{Entry}
use Rattle.time_index.proofs.Entries.{at_place, pages_of-set}
use Rattle.time_index.proofs.index.Index.replace.Goals as goal

pub invariant_of-self : goal.invariant_of-self
invariant_of-self c =
    let es = c.self.inside.ring.entries in
    let i = c.args.position in
    let length = c.args.entry.length in
    let old : c.args.self.now ≡ c.self.inside.ring = sym c.self.view_is in
    let within : i < length_of es =
    subst (λ (v : TimeIndex). i < length_of v.entries) old c.requires.within in
    let same : HasLengthAt es i length =
    subst (λ (v : TimeIndex). HasLengthAt v.entries i length) old c.requires.length in
    let here : (get_or es i c.args.entry).length ≡ length =
    at_place (λ (e : Entry). e.length ≡ length) es i c.args.entry within same in
    let fits : length < 65536 = omega (arith, here, c.self.invariant.3 i c.args.entry within) in
    rw c.replace.ensures (
      c.self.invariant.0 ∙ sym (pages_of-set es i c.args.entry within same),
      simp length-set (c.self.invariant.1),
      c.self.invariant.2,
      All-set (λ (e : Entry). e.length < 65536) es i c.args.entry fits c.self.invariant.3,
    )
