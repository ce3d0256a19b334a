use Rattle.std.proofs.Common.{◌≡◌, ◌+◌, ◌<◌, ◌≤◌, ℕ, false, List, [], ◌∷◌, drop, length, get_or, slice_set, Some, sym, ◌∙◌, ap, subst}
use Rattle.std.specs.Prelude.{slice_get}
use Rattle.std.proofs.lemmas.List.{length-set, with_items_is}
use Rattle.std.proofs.lemmas.Option.{get_or_from_slice_get, slice_get_within}
use Rattle.put_laws.specs.Indexes.{index_behind_put}
use Rattle.put_laws.specs.Puts.{row_behind_put}
use Rattle.space_packet.specs.Charge.{charge_of}
use Rattle.store_directory.specs.Changes.{Put}
use Rattle.store_directory.specs.Directory.{Listed}
use Rattle.store_put.specs.Making.{Makes}
use Rattle.time_index.specs.TimeIndex.{EndsBy, TimeIndex, pages_of}
use Rattle.vault.proofs.Places.{of_some}
use Rattle.vault.specs.Memory.{InMemory}
use Rattle.vault.specs.declared.last_block.LastBlock.{LastBlock}
use Rattle.vault.proofs.vault.Vault.count_in.Goals as goal

-- the index at a place of a list that is that of a vault
index_there : (v : InMemory) (items : List TimeIndex) (at : ℕ) (index none : TimeIndex) → items ≡ v.indexes → slice_get v.indexes at ≡ Some index
    → get_or items at none ≡ index
index_there v items at index none is there = get_or_from_slice_get items at index none (ap (λ (l : List TimeIndex). slice_get l at) is ∙ there)

pub count_record-requires-clause-pages : goal.count_record-requires-clause-pages
count_record-requires-clause-pages c =
    let items = c.deref_mut-indexes.ensures.value ∙ ap (λ (v : InMemory). v.indexes) c.self.view_is in
    subst (λ (i : TimeIndex). pages_of (drop c.args.leaving i.entries) + charge_of c.args.entry.length ≤ i.size)
    (sym (index_there c.args.self.now c.deref_mut-indexes.result.now c.args.at c.requires.counted.index _ items c.requires.counted.here.indexed))
    c.requires.counted.pages

pub count_record-requires-clause-order : goal.count_record-requires-clause-order
count_record-requires-clause-order c =
    let items = c.deref_mut-indexes.ensures.value ∙ ap (λ (v : InMemory). v.indexes) c.self.view_is in
    subst (λ (i : TimeIndex). EndsBy (drop c.args.leaving i.entries) c.args.entry.stamp)
    (sym (index_there c.args.self.now c.deref_mut-indexes.result.now c.args.at c.requires.counted.index _ items c.requires.counted.here.indexed))
    c.requires.counted.order

pub bounds-lasts-at : goal.bounds-lasts-at
bounds-lasts-at c =
    let items = c.deref_mut-lasts.ensures.value ∙ ap (λ (v : InMemory). v.lasts) c.self.view_is in
    subst (λ (l : List LastBlock). c.args.at < length l) (sym items)
    (slice_get_within c.args.self.now.lasts c.args.at c.requires.counted.last c.requires.counted.here.known)

pub returns-clause-counted : goal.returns-clause-counted
returns-clause-counted c s index last here =
    let v = c.args.self.now in
    let at = c.args.at in
    let marked : LastBlock = record { used = c.args.used; stale = false } in
    let indexes_are = c.deref_mut-indexes.ensures.value ∙ ap (λ (v : InMemory). v.indexes) c.self.view_is in
    let lasts_are = c.deref_mut-lasts.ensures.value ∙ ap (λ (v : InMemory). v.lasts) c.self.view_is in
    let index_is = index_there v c.deref_mut-indexes.result.now at index c.index-indexes-at.result indexes_are here.indexed in
    let new_index = c.count_record.ensures.index ∙ ap (index_behind_put c.args.leaving c.args.entry) index_is in
    let indexes = with_items_is c.self.inside.indexes (slice_set c.deref_mut-indexes.result.now at c.count_record.new.index)
    (length-set c.deref_mut-indexes.result.now at c.count_record.new.index ∙ c.deref_mut-indexes.ensures.len)
    ∙ (λ i. slice_set (indexes_are i) at (new_index i)) in
    let lasts = with_items_is c.self.inside.lasts (slice_set c.deref_mut-lasts.result.now at marked)
    (length-set c.deref_mut-lasts.result.now at marked ∙ c.deref_mut-lasts.ensures.len)
    ∙ (λ i. slice_set (lasts_are i) at marked) in
    let there = ap (λ (w : InMemory). slice_get w.directory.stores at) c.self.view_is ∙ here.listed in
    let d = c.self.inside.directory.directory in
    let makes = of_some (λ (s : Listed). Makes (Put (row_behind_put c.args.leaving s.row) ∷ []) d c.count_record.new.directory.directory c.args.text.now c.count_record.new.text)
    (slice_get c.self.inside.directory.stores at) s c.count_record.ensures.made there in
    record {
      others = λ i. record (c.self.view_is i) { directory = c.count_record.new.directory; indexes = indexes i; lasts = lasts i };
      makes = subst (λ (w : InMemory). Makes (Put (row_behind_put c.args.leaving s.row) ∷ []) w.directory.directory c.count_record.new.directory.directory c.args.text.now c.count_record.new.text)
          c.self.view_is makes;
    }
