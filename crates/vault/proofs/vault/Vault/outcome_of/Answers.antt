use Rattle.std.proofs.Common.{◌≡◌, List, All, refl, sym, ◌∙◌, ap, ap₂, subst}
use Rattle.control_defs.specs.Patterns.{any_covers}
use Rattle.space_packet.specs.View.{octets_of}
use Rattle.store_directory.specs.Directory.{Listed}
use Rattle.store_directory.specs.Kept.{Kept}
use Rattle.store_policy.specs.Shown.{AreAllTogether, AreShown}
use Rattle.store_put.specs.Refusals.{IsFilled}
use Rattle.time_index.specs.TimeIndex.{TimeIndex}
use Rattle.vault.proofs.BegunPuts.{all_filled}
use Rattle.vault.proofs.Keeping.{all_together}
use Rattle.vault.proofs.Outcomes.{busy_outcome, idle_outcome}
use Rattle.vault.specs.Memory.{InMemory, IsSound}
use Rattle.vault.specs.declared.vault.Vault.TheInside.{Inside}
use Rattle.vault.proofs.vault.Vault.outcome_of.Goals as goal

-- a vault by its fields
abbrev fields : Inside → InMemory
fields v = record {
  directory = v.directory;
  indexes = v.indexes.items;
  lasts = v.lasts.items;
  pool = v.pool;
  journal = v.journal;
  blocks = v.blocks;
  held = v.held;
  is_open = v.is_open;
}

pub returns-then-is_idle-clause-outcome : goal.returns-then-is_idle-clause-outcome
returns-then-is_idle-clause-outcome c table view is shown =
    idle_outcome (octets_of c.args.packet.now) table _ (sym c.is_idle.ensures ∙ c.if-is_idle.true) refl c.new.ensures

pub refusals_of-requires-clause-together : goal.refusals_of-requires-clause-together
refusals_of-requires-clause-together c =
    let vault = fields c.self.inside in
    let sound : IsSound vault = c.self.invariant.1 (ap (λ (v : InMemory). v.is_open) c.self.view_is ∙ c.requires.is_open) in
    subst (λ (l : List TimeIndex). AreAllTogether vault.directory.stores l) (sym c.deref.ensures.value)
    (all_together vault.directory.now vault.directory.stores vault.indexes vault.lasts sound.stores)

pub refusals_of-requires-clause-filled : goal.refusals_of-requires-clause-filled
refusals_of-requires-clause-filled c =
    let vault = fields c.self.inside in
    let sound : IsSound vault = c.self.invariant.1 (ap (λ (v : InMemory). v.is_open) c.self.view_is ∙ c.requires.is_open) in
    subst (All IsFilled) (sym c.deref.ensures.value)
    (all_filled vault.directory.now vault.directory.stores vault.indexes vault.lasts sound.stores)

pub returns-clause-outcome : goal.returns-clause-outcome
returns-clause-outcome c table view is shown =
    let vault = fields c.self.inside in
    let d : view.directory.now ≡ vault.directory = is.directory ∙ ap (λ (v : InMemory). v.directory) (sym c.self.view_is) in
    let kept : view.indexes.now ≡ c.deref.result.now =
    is.indexes ∙ ap (λ (v : InMemory). v.indexes) (sym c.self.view_is) ∙ sym c.deref.ensures.value in
    let stores : AreShown table.stores vault.directory.stores c.deref.result.now =
    subst (AreShown table.stores vault.directory.stores) kept
    (subst (λ (l : List Listed). AreShown table.stores l view.indexes.now) (ap (λ (k : Kept). k.stores) d) shown.stores) in
    busy_outcome (octets_of c.args.packet.now) table _ (sym c.is_idle.ensures ∙ c.if-is_idle.false)
    (c.covers.ensures
    ∙ ap₂ any_covers (c.forward.ensures ∙ sym (shown.forward ∙ ap (λ (k : Kept). k.forward) d)) c.key_of.ensures)
    (c.refusals_of.ensures table.stores stores)

pub returns-then-is_idle-clause-sound : goal.returns-then-is_idle-clause-sound
returns-then-is_idle-clause-sound c =
    subst IsSound c.self.view_is (c.self.invariant.1 (ap (λ (v : InMemory). v.is_open) c.self.view_is ∙ c.requires.is_open))

pub returns-clause-sound : goal.returns-clause-sound
returns-clause-sound c =
    subst IsSound c.self.view_is (c.self.invariant.1 (ap (λ (v : InMemory). v.is_open) c.self.view_is ∙ c.requires.is_open))
