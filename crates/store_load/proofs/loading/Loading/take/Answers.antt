use Rattle.std.proofs.Common.{◌+◌, ◌<◌, ◌≤◌, ◌&&◌, nat_le, length, sym, ◌∙◌, subst, arith}
use Rattle.std.proofs.lemmas.Bool.{and_parts, leb-true}
use Rattle.time_index.specs.TimeIndex.{EndsBy, TimeIndex, pages_of}
use Rattle.store_load.specs.Loading.{Progress}
use Rattle.store_load.proofs.Filling.{ends_pushed, few_entries, one_page}
use Rattle.store_load.proofs.loading.Loading.take.Goals as goal

pub push-requires-clause-room : goal.push-requires-clause-room
push-requires-clause-room c =
    let now = c.args.self.now in
    let low = nat_le now.last c.args.view.now.stamp in
    let high = nat_le c.args.view.now.stamp c.args.limits.now in
    let fits = nat_le (pages_of now.index.entries + c.charge.result) c.args.limits.size in
    let test = (and_parts (low && high) fits (sym c.may_follow.ensures ∙ c.if-not-may_follow.false)).1 in
    let most : pages_of now.index.entries + c.charge.result ≤ c.args.limits.size = leb-true _ _ test in
    let few = few_entries now.index.entries in
    let size = c.requires.size in
    let some = one_page (length c.bytes.result.now) in
    let room : length now.index.entries < now.index.size =
    omega (arith, most, few, size, c.charge.ensures, some) in
    subst (λ (p : Progress). length p.index.entries < p.index.size) (sym c.self.view_is) room

pub invariant_of-self-2 : goal.invariant_of-self-2
invariant_of-self-2 c =
    subst (λ (i : TimeIndex). EndsBy i.entries c.args.view.now.stamp) (sym c.push.ensures)
    (ends_pushed c.self.inside.index.entries (record {
      stamp = c.args.view.now.stamp;
      block = c.args.block;
      page = c.args.page;
      length = length c.bytes.result.now;
    }))
