-- A packet that arrives, before it is offered to the first store: the clock rose, and the reports are counted.
use Rattle.std.proofs.Common.{◌≡◌, ◌≤◌, ◌<◌, ◌+◌, ◌%◌, ◌^◌, ℕ, true, false, List, [], ◌∷◌, All, length, map, Some, refl, sym, ◌∙◌, ap, subst, arith}
use Rattle.std.specs.Prelude.{flat_map}
use Rattle.std.proofs.lemmas.List.{length-map}
use Rattle.std.proofs.lemmas.List.Elements.{All-cons, All-nil}
use Rattle.std.proofs.lemmas.Option.{same_Some}
use Rattle.block_pool.specs.Blocks.{IsPool}
use Rattle.board.specs.Flash.{Flash}
use Rattle.pst_model.specs.Arrivals.{offer_report}
use Rattle.pst_model.specs.Table.{Store, Stored, Table}
use Rattle.put_laws.proofs.Clocks.{begins, clock_applies}
use Rattle.put_laws.proofs.PlacesOn.{clock_places}
use Rattle.put_laws.specs.Walks.{HasOffered, reports_behind}
use Rattle.store_directory.specs.Changes.{Change, Clock, apply_all}
use Rattle.store_directory.specs.Directory.{Directory, IsDirectory, Listed}
use Rattle.store_directory.specs.Entries.{entry_octets}
use Rattle.store_directory.specs.Kept.{Kept}
use Rattle.store_policy.proofs.Indexed.{table_indexed}
use Rattle.store_policy.specs.Shown.{AreShown, IsTableShown}
use Rattle.store_put.proofs.Refused.{reported}
use Rattle.store_put.proofs.Walked.{walking_begins}
use Rattle.store_put.specs.Refusals.{IsFilled, refusals_of, report_of}
use Rattle.store_put.specs.Walking.{EachInPlace}
use Rattle.store_put.specs.declared.refusals.RefusedPut.{RefusedPut}
use Rattle.time_index.specs.TimeIndex.{TimeIndex}
use Rattle.vault.proofs.EachStores.{each_gives}
use Rattle.vault.proofs.Entered.{here}
use Rattle.vault.proofs.RequestStands.{view_of_vault}
use Rattle.vault.specs.Memory.{EachStore, InMemory, IsSound, IsSoundStore}
use Rattle.vault.specs.Putting.{BeginsPut}
use Rattle.vault.specs.Standing.{IsStoreOf, StandsFor}
use Rattle.vault.specs.Storing.{AreFreshFor, IsFreshened, IsOffering, OffersOn, used_of}
use Rattle.vault.specs.declared.last_block.LastBlock.{LastBlock}

pub each_in_place : (now : ℕ) (stores : List Listed) (indexes : List TimeIndex) (lasts : List LastBlock) → EachStore (IsSoundStore now) stores indexes lasts
    → EachInPlace now stores indexes (map used_of lasts)
each_in_place now [] [] [] each = tt
each_in_place now [] [] (l ∷ lasts) each = absurd each
each_in_place now [] (i ∷ indexes) lasts each = absurd each
each_in_place now (s ∷ stores) [] lasts each = absurd each
each_in_place now (s ∷ stores) (i ∷ indexes) [] each = absurd each
each_in_place now (s ∷ stores) (i ∷ indexes) (l ∷ lasts) each = (each.0.in_place, each_in_place now stores indexes lasts each.1)

pub all_filled : (now : ℕ) (stores : List Listed) (indexes : List TimeIndex) (lasts : List LastBlock) → EachStore (IsSoundStore now) stores indexes lasts → All IsFilled indexes
all_filled now [] [] [] each = All-nil IsFilled
all_filled now [] [] (l ∷ lasts) each = absurd each
all_filled now [] (i ∷ indexes) lasts each = absurd each
all_filled now (s ∷ stores) [] lasts each = absurd each
all_filled now (s ∷ stores) (i ∷ indexes) [] each = absurd each
all_filled now (s ∷ stores) (i ∷ indexes) (l ∷ lasts) each =
    let range = each.0.in_place.in_range in
    let filled : IsFilled i = omega (arith, range.pages, range.size) in
    All-cons IsFilled i indexes filled (all_filled now stores indexes lasts each.1)

-- the clock alone
pub clock_alone : (d : Directory) (now reports : ℕ) → reports < 16384 → apply_all d (Clock now reports ∷ []) ≡ Some (record d { now = now; reports = reports })
clock_alone d now reports low = let applied = clock_applies d now reports low in rw applied refl

-- nothing changed yet
pub none_stale : (packet : List ℕ) (vault : InMemory) → IsFreshened packet 0 vault vault.lasts
none_stale packet vault = record {
  stale = λ place was last before here is. subst (λ (l : LastBlock). l.stale ≡ true) (same_Some last was (sym here ∙ before)) is;
  taken = λ place s index store last below listed has shown takes here. absurd (omega (arith, below));
}

module _ (vault : InMemory) (sound : IsSound vault) (is_pool : IsPool vault.pool) (stored : Stored) (next : Kept) (reports : ℕ)
    (made : apply_all vault.directory.directory (Clock stored.time reports ∷ []) ≡ Some next.directory) (le : vault.directory.now ≤ stored.time) (low : stored.time < 2 ^ 48)
    (refused : List RefusedPut) (are : (stores : List Store) → AreShown stores vault.directory.stores vault.indexes → refused ≡ refusals_of stored.octets stores)
    (count : reports ≡ (vault.directory.reports + length refused) % 16384) where
  abbrev d : Directory
  d = vault.directory.directory

  abbrev now : InMemory
  now = record vault { directory = next; is_open = false }

  abbrev changes : List Change
  changes = Clock stored.time reports ∷ []

  few : reports < 16384
  few = omega (arith, count)

  next_is : next.directory ≡ record d { now = stored.time; reports = reports }
  next_is = same_Some next.directory (record d { now = stored.time; reports = reports }) (sym made ∙ clock_alone d stored.time reports few)

  kept : IsDirectory next.directory
  kept =
      subst IsDirectory (sym next_is)
      (record { now = low; reports = few; forward = sound.kept.forward; stores = sound.kept.stores })

  same_stores : next.directory.stores ≡ d.stores
  same_stores = ap (λ (e : Directory). e.stores) next_is

  pub offering : AreFreshFor stored.octets vault → IsOffering vault now stored 0 changes (entry_octets changes)
  offering fresh = record {
    others = refl;
    walk =
        walking_begins vault.blocks d stored.time next.directory vault.indexes (map used_of vault.lasts) vault.pool sound.kept kept sound.share same_stores
        (ap (λ (e : Directory). e.now) next_is) le (each_in_place d.now d.stores vault.indexes vault.lasts sound.stores) is_pool sound.pool_blocks sound.free;
    made = made;
    spelled = refl;
    begun = omega arith;
    short = omega arith;
    indexes = refl;
    lasts = refl;
    fresh = fresh;
    freshened = none_stale stored.octets vault;
    sound = sound;
  }

  module _ (flash : Flash) (table : Table) (stands : StandsFor vault flash table) where
    shown : IsTableShown table (view_of_vault vault)
    shown = stands.shows (view_of_vault vault) (record { directory = refl; indexes = refl; blocks = refl })

    reports_are : reports ≡ reports_behind stored table
    reports_are =
        let told : map report_of refused ≡ flat_map (offer_report stored) table.stores =
        ap (map report_of) (are table.stores shown.stores) ∙ reported stored table.stores in
        let many : length refused ≡ length (flat_map (offer_report stored) table.stores) =
        sym (length-map refused report_of) ∙ ap length told in
        count ∙ (λ i. (sym shown.reports i + many i) % 16384)

    offered : HasOffered vault.blocks flash.content d table stored 0 changes next.directory
    offered =
        let (e, applied, walk) = begins vault.blocks flash.content d table stored stands.pages sound.kept (here vault flash table sound stands) le low in
        let walk_too : HasOffered vault.blocks flash.content d table stored 0 changes e =
        subst (λ (n : ℕ). HasOffered vault.blocks flash.content d table stored 0 (Clock stored.time n ∷ []) e) (sym reports_are) walk in
        subst (HasOffered vault.blocks flash.content d table stored 0 changes) (same_Some e next.directory (sym walk_too.made ∙ made)) walk_too

    stores_are : EachStore (IsStoreOf flash stored.time) next.directory.stores vault.indexes vault.lasts
    stores_are =
        let e : Directory = record d { now = stored.time; reports = reports_behind stored table } in
        let low_too : reports_behind stored table < 16384 = omega arith in
        subst (λ (l : List Listed). EachStore (IsStoreOf flash stored.time) l vault.indexes vault.lasts) (sym same_stores)
        (each_gives (IsStoreOf flash d.now) (IsStoreOf flash stored.time)
        (λ s index last is. record {
          index_is = clock_places flash.content d table stored e s index (clock_applies d stored.time (reports_behind stored table) low_too) le is.index_is;
          used_is = is.used_is;
          clean = is.clean;
        })
        d.stores vault.indexes vault.lasts stands.stores)

    pub offers_on : OffersOn flash vault now table stored 0 changes
    offers_on = record {
      kept = record { holds = stands.directory; is_firm = stands.firm_journal };
      journal = stands.journal;
      loads = here vault flash table sound stands;
      firm_records = stands.firm_records;
      offered = offered;
      indexed = table_indexed table (view_of_vault vault) shown;
      stores = stores_are;
      ready = stands.ready;
    }

  pub begins_put : BeginsPut vault now stored (entry_octets changes)
  begins_put = record { changes = changes; memory = offering; flash = offers_on }
