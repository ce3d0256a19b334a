use Rattle.std.proofs.Common.{◌≡◌, ◌<◌, ℕ, length, slice_get, sym, ◌∙◌, ap, subst, arith, List, false}
use Rattle.std.proofs.lemmas.Option.{same_Some, slice_get-get_or}
use Rattle.vault.specs.Memory.{InMemory, IsSound, IsSoundStore}
use Rattle.vault.specs.declared.last_block.LastBlock.{LastBlock}
use Rattle.vault.proofs.EachStores.{as_many_lasts}
use Rattle.vault.proofs.Places.{if_some}
use Rattle.vault.proofs.vault.Vault.stale.Goals as goal

lasts_within : (vault : InMemory) (at : ℕ) → IsSound vault → at < length vault.directory.stores → at < length vault.lasts
lasts_within vault at sound within =
    let many = as_many_lasts (IsSoundStore vault.directory.now) vault.directory.stores vault.indexes vault.lasts sound.stores in
    omega (arith, many, within)

pub bounds-lasts-at : goal.bounds-lasts-at
bounds-lasts-at c =
    let is = c.self.view_is in
    let sound = c.self.invariant.1 (ap (λ (v : InMemory). v.is_open) is ∙ c.requires.is_open) in
    subst (λ (l : List LastBlock). c.args.at < length l) (sym c.deref-lasts.ensures.value)
    (lasts_within _ c.args.at sound (subst (λ (v : InMemory). c.args.at < length v.directory.stores) (sym is) c.requires.within))

pub returns : goal.returns
returns c =
    let is = c.self.view_is in
    let none : LastBlock = record { used = 0; stale = false } in
    let here = slice_get-get_or c.deref-lasts.result.now c.args.at none (bounds-lasts-at c) in
    let same : c.deref-lasts.result.now ≡ c.args.self.now.lasts = c.deref-lasts.ensures.value ∙ ap (λ (v : InMemory). v.lasts) is in
    if_some (slice_get c.args.self.now.lasts c.args.at) (λ (last : LastBlock). _ ≡ last.stale)
    (λ last there. ap (λ (l : LastBlock). l.stale) (same_Some _ last (sym here ∙ ap (λ (l : List LastBlock). slice_get l c.args.at) same ∙ there)))
