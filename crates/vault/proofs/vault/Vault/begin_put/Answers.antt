use Rattle.std.proofs.Common.{◌≡◌, ◌<◌, ◌+◌, ◌%◌, ◌++◌, ℕ, false, List, [], ◌∷◌, All, refl, sym, ◌∙◌, ap, subst, arith}
use Rattle.std.specs.Option.{IsSome}
use Rattle.pst_model.specs.Table.{Stored}
use Rattle.put_laws.proofs.Clocks.{clock_applies}
use Rattle.space_packet.specs.View.{octets_of}
use Rattle.store_directory.specs.Changes.{Clock}
use Rattle.store_directory.specs.Entries.{entry_octets}
use Rattle.store_policy.specs.Shown.{AreAllTogether, AreShown}
use Rattle.store_put.specs.Refusals.{IsFilled}
use Rattle.time_index.specs.TimeIndex.{TimeIndex}
use Rattle.vault.proofs.BegunPuts.{all_filled, begins_put}
use Rattle.vault.proofs.Keeping.{all_together}
use Rattle.vault.specs.Memory.{InMemory, IsSound}
use Rattle.vault.specs.Putting.{BeginsPut}
use Rattle.vault.specs.declared.vault.Vault.TheInside.{Inside}
use Rattle.vault.proofs.vault.Vault.begin_put.Goals as goal

-- a vault by its fields
abbrev fields : Inside → InMemory
fields v = record {
  directory = v.directory;
  indexes = v.indexes.items;
  lasts = v.lasts.items;
  pool = v.pool;
  journal = v.journal;
  blocks = v.blocks;
  held = v.held;
  is_open = v.is_open;
}

pub refusals_of-refused-requires-clause-together : goal.refusals_of-refused-requires-clause-together
refusals_of-refused-requires-clause-together c =
    let vault = fields c.self.inside in
    let sound : IsSound vault = c.self.invariant.1 (ap (λ (v : InMemory). v.is_open) c.self.view_is ∙ c.requires.is_open) in
    subst (λ (l : List TimeIndex). AreAllTogether vault.directory.stores l) (sym c.deref.ensures.value)
    (all_together vault.directory.now vault.directory.stores vault.indexes vault.lasts sound.stores)

pub refusals_of-refused-requires-clause-filled : goal.refusals_of-refused-requires-clause-filled
refusals_of-refused-requires-clause-filled c =
    let vault = fields c.self.inside in
    let sound : IsSound vault = c.self.invariant.1 (ap (λ (v : InMemory). v.is_open) c.self.view_is ∙ c.requires.is_open) in
    subst (All IsFilled) (sym c.deref.ensures.value)
    (all_filled vault.directory.now vault.directory.stores vault.indexes vault.lasts sound.stores)

pub make_change-requires-clause-fits : goal.make_change-requires-clause-fits
make_change-requires-clause-fits c =
    let d = c.self.inside.directory.directory in
    let reports = (c.reports.result + c.len.result) % 16384 in
    let few : reports < 16384 = omega arith in
    subst IsSome (sym (clock_applies d c.max-now.result reports few)) refl

pub returns-clause-begins : goal.returns-clause-begins
returns-clause-begins c =
    let vault = fields c.self.inside in
    let next = record vault { directory = c.make_change.new.directory; is_open = false } in
    let sound : IsSound vault = c.self.invariant.1 (ap (λ (v : InMemory). v.is_open) c.self.view_is ∙ c.requires.is_open) in
    let stored : Stored = record { time = c.max-now.result; octets = octets_of c.args.packet.now } in
    let reports = (c.reports.result + c.len.result) % 16384 in
    let written : c.make_change.new.text ≡ entry_octets (Clock stored.time reports ∷ []) =
    c.make_change.ensures.text ∙ ap (λ (l : List ℕ). l ++ entry_octets (Clock stored.time reports ∷ [])) c.requires.empty in
    subst (λ (v : InMemory). BeginsPut v next stored c.make_change.new.text) c.self.view_is
    (subst (BeginsPut vault next stored) (sym written)
    (begins_put vault sound c.wear.ensures.lawful stored c.make_change.new.directory reports c.make_change.ensures.made
    (omega (arith, c.max-now.ensures, c.now.ensures.now))
    (omega (arith, c.max-now.ensures, c.now.ensures.range, c.requires.moment))
    c.refusals_of-refused.result.items
    (λ stores shown. c.refusals_of-refused.ensures stores
    (subst (AreShown stores vault.directory.stores) (sym c.deref.ensures.value) shown))
    (λ i. (c.reports.ensures.reports i + c.len.ensures.value i) % 16384)))
