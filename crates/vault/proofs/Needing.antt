-- Whether a store takes a packet, by its row and its index.
use Rattle.std.proofs.Common.{◌≡◌, inl, inr, ◌<◌, ◌≤◌, ◌⊎◌, ℕ, true, false, List, [], ◌∷◌, map, replicate, refl, sym, ◌∙◌, subst, arith}
use Rattle.std.proofs.lemmas.Bool.{false≢true}
use Rattle.std.proofs.lemmas.List.{length-replicate}
use Rattle.image_table.specs.Table.{store_with}
use Rattle.pst_model.specs.Table.{Store}
use Rattle.record_view.specs.Records.{Meaning}
use Rattle.record_view.specs.declared.link.Link.{Link}
use Rattle.store_directory.specs.Directory.{Listed}
use Rattle.store_load.specs.Loaded.{seen, shown}
use Rattle.store_policy.specs.Shown.{IsShown}
use Rattle.store_put.specs.Plans.{IsPlanOf}
use Rattle.store_put.specs.Ranges.{IsFullBy}
use Rattle.store_put.specs.Refusals.{at_any_time}
use Rattle.store_put.specs.declared.plan.Plan.{Plan}
use Rattle.store_put.specs.declared.plan.Plan.TheVariants as plans
use Rattle.time_index.specs.TimeIndex.{TimeIndex}
use Rattle.time_index.specs.declared.entry.Entry.{Entry}
use Rattle.vault.proofs.Tables.{are_indexed}
use Rattle.vault.specs.Memory.{has_link}
use Rattle.vault.specs.Renewing.{NeedsRenewal}
use Rattle.vault.specs.Storing.{IsFreshFor}
use Rattle.vault.specs.declared.last_block.LastBlock.{LastBlock}

-- a record of an entry's stamp and length
abbrev some_record : Entry → Meaning
some_record entry = record { number = 0; stamp = entry.stamp; packet = replicate entry.length 0 }

same_seen : (entries : List Entry) → map seen entries ≡ map shown (map some_record entries)
same_seen [] = refl
same_seen (e ∷ entries) =
    let long = length-replicate e.length 0 in
    λ i. (e.stamp, sym long i) ∷ same_seen entries i

-- some store is shown by a row and an index
pub record ShownBy (s : Listed) (index : TimeIndex) : Type 0 where
  pub store : Store
  pub shown_is : IsShown store s.row index
  pub patterns : store.patterns ≡ s.patterns

pub some_shown : (s : Listed) (index : TimeIndex) → ShownBy s index
some_shown s index = record {
  store = store_with s (map some_record index.entries);
  shown_is = record {
    identifier = refl;
    kind = refl;
    size = refl;
    channel = refl;
    storage = refl;
    open_on = refl;
    told = refl;
    behind = refl;
    range = refl;
    packets = are_indexed (map some_record index.entries) index.entries (same_seen index.entries);
  };
  patterns = refl;
}

module _ (packet : List ℕ) (s : Listed) (index : TimeIndex) (last : LastBlock) (plan : Plan)
    (is_plan : (store : Store) → IsShown store s.row index → store.patterns ≡ s.patterns → IsPlanOf (at_any_time packet) store plan) where
  -- it takes the packet
  pub needs : (gone : ℕ) → plan ≡ plans.Takes gone → has_link s.links ≡ true → last.used < 240 → last.stale ≡ true
      → NeedsRenewal packet s index last
  needs gone takes linked room stale =
      let by = some_shown s index in
      record {
        store = by.store;
        gone = gone;
        shown = by.shown_is;
        patterns = by.patterns;
        takes = subst (IsPlanOf (at_any_time packet) by.store) takes (is_plan by.store by.shown_is by.patterns);
        linked = linked;
        room = room;
        stale = stale;
      }

  -- it does not
  pub spared_else : ((gone : ℕ) → plan ≡ plans.Takes gone → ⊥) → IsFreshFor packet s index last
  spared_else not_takes store gone shown patterns accepts = pick plan refl
    where
      pick : (p : Plan) → plan ≡ p → IsFullBy last.used s.links ⊎ (last.stale ≡ false)
      pick (plans.Takes gone) is = absurd (not_takes gone is)
      pick plans.Stays is =
          absurd (false≢true (sym (subst (IsPlanOf (at_any_time packet) store) is (is_plan store shown patterns)) ∙ accepts.offered))
      pick (plans.Refuses full) is =
          absurd (false≢true (sym accepts.room ∙ (subst (IsPlanOf (at_any_time packet) store) is (is_plan store shown patterns)).0.refused))

-- what is needed is not fresh
pub needs_not_fresh : (packet : List ℕ) (s : Listed) (index : TimeIndex) (last : LastBlock) → NeedsRenewal packet s index last
    → IsFreshFor packet s index last → ⊥
needs_not_fresh packet s index last needs fresh =
    elim (fresh needs.store needs.gone needs.shown needs.patterns needs.takes) [
      | inl full ↦ by_links s.links needs.linked full
      | inr is ↦ false≢true (sym is ∙ needs.stale)
    ]
  where
    by_links : (links : List Link) → has_link links ≡ true → IsFullBy last.used links → ⊥
    by_links [] linked full = false≢true linked
    by_links (link ∷ links) linked full = let room = needs.room in omega (arith, room, full)

-- a store has no room in its last block, or no such block, or its other pages are clean
pub spared_full : (packet : List ℕ) (s : Listed) (index : TimeIndex) (last : LastBlock) → 240 ≤ last.used → IsFreshFor packet s index last
spared_full packet s index last full store gone shown patterns accepts = inl (by_links s.links)
  where
    by_links : (links : List Link) → IsFullBy last.used links
    by_links [] = tt
    by_links (link ∷ links) = full

pub spared_empty : (packet : List ℕ) (s : Listed) (index : TimeIndex) (last : LastBlock) → s.links ≡ [] → IsFreshFor packet s index last
spared_empty packet s index last none store gone shown patterns accepts = inl (subst (IsFullBy last.used) (sym none) tt)
