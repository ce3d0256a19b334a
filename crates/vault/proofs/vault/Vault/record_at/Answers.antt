use Rattle.std.proofs.Common.{◌≡◌, ◌<◌, ◌+◌, ◌%◌, ℕ, List, length, Some, slice_get, sym, ◌∙◌, ap, subst}
use Rattle.std.proofs.lemmas.Option.{slice_get-get_or, slice_get_within}
use Rattle.chain_log.specs.Loaded.{IsPlace}
use Rattle.chain_log.specs.declared.place.Place.{Place}
use Rattle.time_index.specs.TimeIndex.{TimeIndex}
use Rattle.vault.specs.Memory.{InMemory, IsSound}
use Rattle.vault.proofs.Positions.{and_some, place_there, record_there_is}
use Rattle.vault.proofs.vault.Vault.record_at.Goals as goal

indexes_are : (c : goal.After-first) → c.deref-indexes.result.now ≡ c.args.self.now.indexes
indexes_are c = c.deref-indexes.ensures.value ∙ ap (λ (v : InMemory). v.indexes) c.self.view_is

index_is : (c : goal.After-first) → slice_get c.args.self.now.indexes c.args.at ≡ Some c.index-indexes-at.result
index_is c =
    let (index, is, within) = and_some (λ (index : TimeIndex). c.args.position < length index.entries) (slice_get c.args.self.now.indexes c.args.at) c.requires.within in
    let here : c.args.at < length c.deref-indexes.result.now =
    subst (λ (l : List TimeIndex). c.args.at < length l) (sym (indexes_are c)) (slice_get_within c.args.self.now.indexes c.args.at index is) in
    sym (ap (λ (l : List TimeIndex). slice_get l c.args.at) (indexes_are c))
    ∙ slice_get-get_or c.deref-indexes.result.now c.args.at c.index-indexes-at.result here ∙ ap Some (sym c.index-indexes-at.is)

place_is : (c : goal.After-first) → ◌≡◌ {A = Place} (record { block = c.from.result; page = c.from-2.result; length = c.from-3.result })
    (record { block = c.entry-entry.result.block; page = c.entry-entry.result.page; length = c.entry-entry.result.length })
place_is c = λ i. record { block = c.from.ensures i; page = c.from-2.ensures i; length = c.from-3.ensures i }

pub returns-clause-place : goal.returns-clause-place
returns-clause-place c =
    let is = c.self.view_is in
    let sound = c.self.invariant.1 (ap (λ (v : InMemory). v.is_open) is ∙ c.requires.is_open) in
    subst (IsPlace c.args.self.now.blocks) (sym (place_is c))
    (place_there c.args.self.now c.args.at c.args.position c.index-indexes-at.result c.entry-entry.result
    (subst IsSound is sound) (index_is c) c.entry-entry.ensures)

pub returns-clause-at : goal.returns-clause-at
returns-clause-at c =
    record_there_is c.args.self.now c.args.at c.args.position c.index-indexes-at.result c.entry-entry.result _ _
    (index_is c) c.entry-entry.ensures (place_is c) (ap (λ (n : ℕ). (n + c.args.position) % 4294967296) c.first.ensures)
