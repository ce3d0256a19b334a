use Rattle.std.proofs.Common.{◌++◌, ◌∷◌, [], ◌≡◌, ◌≤◌, ◌-◌, length, arith, ap, subst, sym, ◌∙◌, rules, length-append}
use Rattle.std.proofs.lemmas.List.Sorted.{IsNonDecreasingBy-push}
use Rattle.circular_buffer.specs.Buffer.{buffer}
use Rattle.time_index.specs.TimeIndex.{EndsBy, TimeIndex, stamp_of}
use Rattle.time_index.proofs.Entries.{at_place, keep_last-push}
use Rattle.time_index.proofs.ring.Ring.push.Goals as goal

pub invariant_of-self : goal.invariant_of-self
invariant_of-self c =
    let ring = c.self.inside.entries in
    let entry = c.args.entry in
    let order : EndsBy ring.items entry.stamp =
    subst (λ (v : TimeIndex). EndsBy v.entries entry.stamp) (sym c.self.view_is) c.requires.order in
    let xs = ring.items ++ entry ∷ [] in
    let after : c.push_back.new.self ≡ buffer xs ring.capacity =
    c.push_back.ensures.items
    ∙ ap (λ l. buffer l ring.capacity)
    (keep_last-push ring.capacity ring.items entry (search rules)) in
    rw after (
      c.self.invariant.0,
      c.self.invariant.1,
      search (rules, length-append),
      IsNonDecreasingBy-push stamp_of ring.items entry c.self.invariant.3 (λ d some.
          at_place (λ e. stamp_of e ≤ entry.stamp) ring.items (length ring.items - 1) d
          (omega arith) order),
    )
