use Rattle.std.proofs.Common.{◌≡◌, inr, ◌<◌, ◌≤◌, ◌==◌, ℕ, suc, not, Bool, List, [], ◌∷◌, length, get_or, Some, true, false, refl, sym, ◌∙◌, ap, subst, arith, eqb-true}
use Rattle.std.specs.Prelude.{slice_get}
use Rattle.std.proofs.lemmas.Bool.{false≢true, not-true}
use Rattle.std.proofs.lemmas.Option.{same_Some, slice_get-get_or, slice_get_within}
use Rattle.pst_model.specs.Table.{Store}
use Rattle.record_view.specs.declared.link.Link.{Link}
use Rattle.space_packet.specs.View.{octets_of}
use Rattle.store_directory.specs.Directory.{Listed}
use Rattle.store_directory.specs.declared.row.Row.{Row}
use Rattle.store_policy.specs.Shown.{AreTogether, IsShown}
use Rattle.store_put.specs.Plans.{IsPlanOf}
use Rattle.store_put.specs.Refusals.{at_any_time}
use Rattle.time_index.specs.TimeIndex.{TimeIndex, pages_of}
use Rattle.vault.proofs.EachStores.{as_many_lasts}
use Rattle.vault.proofs.Needing.{needs, spared_else, spared_empty, spared_full}
use Rattle.vault.proofs.Places.{of_some, some_at}
use Rattle.vault.proofs.RenewedMemory.{got_read, store_at}
use Rattle.vault.specs.Memory.{InMemory, IsSound, IsSoundStore, has_link}
use Rattle.vault.specs.declared.last_block.LastBlock.{LastBlock}
use Rattle.vault.proofs.vault.Vault.needs_renewal.Goals as goal
use Rattle.vault.proofs.vault.Vault.needs_renewal.Goals.{After-deref-lasts, After-index-indexes-at, After-plan_of-plan}
use Rattle.vault.proofs.vault.Vault.needs_renewal.Goals.{then-not-last-via-then-not-last, then-not-last-via-else-not-last+then-last-ge-FULL, then-not-last-via-else-not-last+else-last-ge-FULL+then-is_empty}

sound_here : (c : After-deref-lasts) → IsSound c.args.self.now
sound_here c = subst IsSound c.self.view_is (c.self.invariant.1 (ap (λ (v : InMemory). v.is_open) c.self.view_is ∙ c.requires.is_open))

lasts_are : (c : After-deref-lasts) → c.deref-lasts.result.now ≡ c.args.self.now.lasts
lasts_are c = c.deref-lasts.ensures.value ∙ ap (λ (v : InMemory). v.lasts) c.self.view_is

pub bounds-lasts-at : goal.bounds-lasts-at
bounds-lasts-at c =
    let vault = c.args.self.now in
    let many = as_many_lasts (IsSoundStore vault.directory.now) vault.directory.stores vault.indexes vault.lasts (sound_here c).stores in
    let within = c.requires.within in
    subst (λ (l : List LastBlock). c.args.at < length l) (sym (lasts_are c)) (omega (arith, many, within))

listed_read : (c : After-deref-lasts) (s : Listed) → slice_get c.args.self.now.directory.stores c.args.at ≡ Some s
    → slice_get c.self.inside.directory.stores c.args.at ≡ Some s
listed_read c s there = ap (λ (v : InMemory). slice_get v.directory.stores c.args.at) c.self.view_is ∙ there

-- the last block that was read
last_read : (c : After-deref-lasts) (last : LastBlock) → slice_get c.args.self.now.lasts c.args.at ≡ Some last
    → get_or c.deref-lasts.result.now c.args.at (record { used = 0; stale = false }) ≡ last
last_read c last lasting =
    let none : LastBlock = record { used = 0; stale = false } in
    same_Some (get_or c.deref-lasts.result.now c.args.at none) last
    (sym (slice_get-get_or c.deref-lasts.result.now c.args.at none (bounds-lasts-at c))
    ∙ ap (λ (l : List LastBlock). slice_get l c.args.at) (lasts_are c) ∙ lasting)

none_links : (links : List Link) → (length links == 0) ≡ true → links ≡ []
none_links [] is = refl
none_links (link ∷ links) is = absurd (never (length links) is)
  where
    never : (n : ℕ) → (suc n == 0) ≡ true → ⊥
    never n h = let no : suc n ≡ 0 = eqb-true (suc n) 0 h in omega (arith, no)

has_some : (links : List Link) → (length links == 0) ≡ false → has_link links ≡ true
has_some [] is = absurd (false≢true (sym is))
has_some (link ∷ links) is = refl

not_false : (b : Bool) → not b ≡ false → b ≡ true
not_false true h = refl
not_false false h = sym h

pub returns-then-not-last-clause-spared : goal.returns-then-not-last-clause-spared
returns-then-not-last-clause-spared c is s index last there indexed lasting =
    let at = (goal.at.returns-then-not-last-clause-spared c).After-deref-lasts in
    let packet = octets_of c.args.packet.now in
    let read = last_read at last lasting in
    elim c.then-not-last.branch [
      | then-not-last-via-then-not-last w ↦
          (λ store gone shown patterns accepts. inr (ap (λ (l : LastBlock). l.stale) (sym read) ∙ not-true _ w.if-not-last.true))
      | then-not-last-via-else-not-last+then-last-ge-FULL w ↦
          spared_full packet s index last (subst (λ (l : LastBlock). 240 ≤ l.used) read w.if-last-ge-FULL.true)
      | then-not-last-via-else-not-last+else-last-ge-FULL+then-is_empty w ↦
          spared_empty packet s index last
          (subst (λ (l : List Link). l ≡ []) (of_some (λ (s : Listed). w.links.result.now ≡ s.links) _ s w.links.ensures (listed_read at s there))
          (none_links w.links.result.now (sym w.is_empty.ensures ∙ w.if-is_empty.true)))
    ]

-- the store that was read

index_read : (c : After-index-indexes-at) (index : TimeIndex) → slice_get c.args.self.now.indexes c.args.at ≡ Some index
    → c.index-indexes-at.result ≡ index
index_read c index indexed =
    let are : c.deref-indexes.result.now ≡ c.args.self.now.indexes = c.deref-indexes.ensures.value ∙ ap (λ (v : InMemory). v.indexes) c.self.view_is in
    let within : c.args.at < length c.deref-indexes.result.now =
    subst (λ (l : List TimeIndex). c.args.at < length l) (sym are) (slice_get_within c.args.self.now.indexes c.args.at index indexed) in
    same_Some c.index-indexes-at.result index
    (sym (got_read c.deref-indexes.result.now c.args.at c.index-indexes-at.result within c.index-indexes-at.is)
    ∙ ap (λ (l : List TimeIndex). slice_get l c.args.at) are ∙ indexed)

row_read : (c : After-index-indexes-at) (s : Listed) → slice_get c.args.self.now.directory.stores c.args.at ≡ Some s → c.row.result.now ≡ s.row
row_read c s there =
    of_some (λ (s : Listed). c.row.result.now ≡ s.row) (slice_get c.self.inside.directory.stores c.args.at) s c.row.ensures
    (ap (λ (v : InMemory). slice_get v.directory.stores c.args.at) c.self.view_is ∙ there)

patterns_read : (c : After-index-indexes-at) (s : Listed) → slice_get c.args.self.now.directory.stores c.args.at ≡ Some s
    → c.patterns.result.now ≡ s.patterns
patterns_read c s there =
    of_some (λ (s : Listed). c.patterns.result.now ≡ s.patterns) (slice_get c.self.inside.directory.stores c.args.at) s c.patterns.ensures
    (ap (λ (v : InMemory). slice_get v.directory.stores c.args.at) c.self.view_is ∙ there)

pub plan_of-plan-requires-clause-together : goal.plan_of-plan-requires-clause-together
plan_of-plan-requires-clause-together c =
    let at = (goal.at.plan_of-plan-requires-clause-together c).After-deref-lasts in
    let (s, there) = some_at c.args.self.now.directory.stores c.args.at c.requires.within in
    let (index, last, own) = store_at c.args.self.now c.args.at s (sound_here at) there in
    subst (λ (r : Row). AreTogether r c.index-indexes-at.result) (sym (row_read c s there))
    (subst (λ (i : TimeIndex). AreTogether s.row i) (sym (index_read c index own.indexed)) own.is_sound.together)

pub plan_of-plan-requires-clause-filled : goal.plan_of-plan-requires-clause-filled
plan_of-plan-requires-clause-filled c =
    let at = (goal.at.plan_of-plan-requires-clause-filled c).After-deref-lasts in
    let (s, there) = some_at c.args.self.now.directory.stores c.args.at c.requires.within in
    let (index, last, own) = store_at c.args.self.now c.args.at s (sound_here at) there in
    let pages = own.is_sound.in_place.in_range.pages in
    let size = own.is_sound.together.size in
    subst (λ (i : TimeIndex). pages_of i.entries ≤ i.size) (sym (index_read c index own.indexed)) (omega (arith, pages, size))

-- the plan, by the store
is_plan : (c : After-plan_of-plan) (s : Listed) (index : TimeIndex) → c.row.result.now ≡ s.row → c.patterns.result.now ≡ s.patterns
    → c.index-indexes-at.result ≡ index → (store : Store) → IsShown store s.row index → store.patterns ≡ s.patterns
    → IsPlanOf (at_any_time (octets_of c.args.packet.now)) store c.plan_of-plan.result
is_plan c s index row patterns same store shown listed =
    c.plan_of-plan.ensures.plan 0 store
    (subst (λ (r : Row). IsShown store r c.index-indexes-at.result) (sym row) (subst (λ (i : TimeIndex). IsShown store s.row i) (sym same) shown))
    (listed ∙ sym patterns)

pub returns-in-Takes-clause-needed : goal.returns-in-Takes-clause-needed
returns-in-Takes-clause-needed c is s index last there indexed lasting =
    let at = goal.at.returns-in-Takes-clause-needed c in
    let read = last_read at.After-deref-lasts last lasting in
    let same = at.After-index-indexes-at in
    let links = of_some (λ (s : Listed). c.links.result.now ≡ s.links) _ s c.links.ensures (listed_read at.After-deref-lasts s there) in
    needs (octets_of c.args.packet.now) s index last c.plan_of-plan.result
    (is_plan at.After-plan_of-plan s index (row_read same s there) (patterns_read same s there) (index_read same index indexed))
    c.in-Takes.field-0 c.in-Takes.is
    (subst (λ (l : List Link). has_link l ≡ true) links (has_some c.links.result.now (sym c.is_empty.ensures ∙ c.if-is_empty.false)))
    (subst (λ (l : LastBlock). l.used < 240) read c.if-last-ge-FULL.false)
    (ap (λ (l : LastBlock). l.stale) (sym read) ∙ not_false _ c.if-not-last.false)

pub returns-in_default : goal.returns-in_default
returns-in_default c = record {
  needed = λ never. absurd (false≢true never);
  spared = λ is s index last there indexed lasting.
      let at = goal.at.returns-in_default c in
      let same = at.After-index-indexes-at in
      spared_else (octets_of c.args.packet.now) s index last c.plan_of-plan.result
      (is_plan at.After-plan_of-plan s index (row_read same s there) (patterns_read same s there) (index_read same index indexed))
      c.in_default.not-Takes;
}
