use Rattle.std.proofs.Common.{◌≡◌, ◌≤◌, List, Some, sym, ◌∙◌, ap, subst}
use Rattle.std.specs.Prelude.{slice_get}
use Rattle.std.proofs.lemmas.Option.{get_or_from_slice_get}
use Rattle.store_directory.specs.Directory.{Listed}
use Rattle.store_directory.specs.declared.row.Row.{Row}
use Rattle.store_policy.specs.Shown.{IsShown}
use Rattle.store_put.specs.Plans.{leaving_of}
use Rattle.time_index.specs.TimeIndex.{TimeIndex}
use Rattle.vault.proofs.Places.{of_some}
use Rattle.vault.specs.Memory.{InMemory}
use Rattle.vault.proofs.vault.Vault.plan_at.Goals as goal

pub returns : goal.returns
returns c =
    let stores = c.self.inside.directory.stores in
    let there = λ (s : Listed) (is : slice_get c.args.self.now.directory.stores c.args.at ≡ Some s).
    ap (λ (v : InMemory). slice_get v.directory.stores c.args.at) c.self.view_is ∙ is in
    let row_is = λ (s : Listed) (is : slice_get c.args.self.now.directory.stores c.args.at ≡ Some s).
    of_some (λ (s : Listed). c.row.result.now ≡ s.row) (slice_get stores c.args.at) s c.row.ensures (there s is) in
    record {
      decides = λ s index last here store shown patterns.
          let row = row_is s here.listed in
          let types = of_some (λ (s : Listed). c.patterns.result.now ≡ s.patterns) (slice_get stores c.args.at) s c.patterns.ensures (there s here.listed) in
          let items : c.deref-indexes.result.now ≡ c.args.self.now.indexes = c.deref-indexes.ensures.value ∙ ap (λ (v : InMemory). v.indexes) c.self.view_is in
          let index_is : c.index-indexes-at.result ≡ index =
          c.index-indexes-at.is
          ∙ get_or_from_slice_get c.deref-indexes.result.now c.args.at index _ (ap (λ (l : List TimeIndex). slice_get l c.args.at) items ∙ here.indexed) in
          c.plan_of.ensures.plan c.args.arrival.now.time store
          (subst (λ (r : Row). IsShown store r c.index-indexes-at.result) (sym row) (subst (IsShown store s.row) (sym index_is) shown))
          (patterns ∙ sym types);
      within = λ s index last here.
          subst (λ (r : Row). leaving_of c.plan_of.result ≤ r.count) (row_is s here.listed) c.plan_of.ensures.within;
    }
