use Rattle.std.proofs.Common.{◌≡◌, List, Some, Option, sym, ◌∙◌, ap, subst}
use Rattle.request_laws.specs.Changing.{change_by}
use Rattle.request_laws.proofs.Room.{no_room}
use Rattle.store_directory.specs.Changes.{Change}
use Rattle.store_directory.specs.Kept.{change_of}
use Rattle.store_directory.specs.Slots.{largest_in}
use Rattle.store_put.proofs.Refused.{together_many}
use Rattle.time_index.specs.TimeIndex.{TimeIndex}
use Rattle.vault.proofs.Entered.{made_by}
use Rattle.vault.specs.Following.{Stores}
use Rattle.vault.specs.Requests.{TakesEffect}
use Rattle.vault.proofs.carrying_out.take_effect.Goals as goal

pub returns-clause-effect : goal.returns-clause-effect
returns-clause-effect c =
    let d = c.args.directory.now.directory in
    let indexes = c.args.indexes.now.items in
    let change = change_of c.in-Some.change in
    let old : Stores = record { directory = d; indexes = indexes; lasts = c.args.lasts.now.items } in
    let new : Stores = record { directory = c.apply.new.self.directory; indexes = c.follow.new.indexes.items; lasts = c.follow.new.lasts.items } in
    let by : change_by d indexes c.args.item.now ≡ Some change =
    ap (λ (l : List TimeIndex). change_by d l c.args.item.now) (sym c.deref.ensures.value) ∙ sym c.in-Some.ensures in
    subst (λ (found : Option Change). TakesEffect c.args.item.now found old new c.args.at c.write_change.result c.args.out.now c.write_change.new.out) (sym by)
    (record {
      made =
          λ after applied.
          let same = made_by c.apply.result d c.apply.new.self.directory after change c.apply.ensures.ok c.apply.ensures.unfit
          (λ memory. no_room d indexes c.args.item.now change (largest_in c.args.directory.now.sizes) c.len.ensures.within by (c.apply.ensures.memory memory)) applied in
          (λ i. record { directory = sym same i; indexes = c.follow.ensures.indexes i; lasts = c.follow.ensures.lasts i });
      place = c.write_change.ensures.place;
      written = c.write_change.ensures.written;
    })

pub follow-requires-clause-indexes : goal.follow-requires-clause-indexes
follow-requires-clause-indexes c = together_many c.args.directory.now.directory.stores c.args.indexes.now.items c.requires.together
