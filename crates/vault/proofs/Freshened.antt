-- Which last blocks are stale behind an arriving packet.
use Rattle.std.proofs.Common.{◌≡◌, ◌==◌, ℕ, zero, suc, Bool, true, false, List, [], ◌∷◌, length, slice_set, Some, refl, sym, ◌∙◌, ap, subst, arith}
use Rattle.std.specs.Prelude.{slice_get}
use Rattle.std.proofs.lemmas.Bool.{false≢true}
use Rattle.std.proofs.lemmas.Option.{none-some, same_Some, slice_get_within}
use Rattle.pst_model.specs.Table.{Store, Table}
use Rattle.request_laws.proofs.Tables.{one_shown}
use Rattle.space_packet.specs.Packet.{apid_of}
use Rattle.store_directory.specs.Directory.{Listed}
use Rattle.store_policy.specs.Shown.{AreShown, IsStoreShown, IsTableShown}
use Rattle.store_policy.specs.declared.view.View.{View}
use Rattle.store_put.proofs.Refused.{shown_at}
use Rattle.store_put.proofs.Unlinked.{got_set}
use Rattle.time_index.specs.TimeIndex.{TimeIndex}
use Rattle.vault.proofs.Keeping.{all_together}
use Rattle.vault.proofs.Places.{some_at}
use Rattle.vault.proofs.RequestStands.{view_of_vault}
use Rattle.vault.specs.Arriving.{IsFreshenedBy}
use Rattle.vault.specs.Memory.{InMemory, IsSound, IsViewOf}
use Rattle.vault.specs.Renewing.{KeepFresh, KeepRows}
use Rattle.vault.specs.Storing.{IsFreshened}
use Rattle.vault.specs.declared.last_block.LastBlock.{LastBlock}

-- an idle packet leaves all last blocks as they are
pub idle_freshened : (packet : List ℕ) (old new : InMemory) → (apid_of packet == 2047) ≡ true → new.lasts ≡ old.lasts → IsFreshenedBy packet old new
idle_freshened packet old new idle same = record {
  stale = λ place was last before here is.
      subst (λ (l : LastBlock). l.stale ≡ true) (same_Some last was (sym here ∙ ap (λ (l : List LastBlock). slice_get l place) same ∙ before)) is;
  taken = λ busy place s index store last listed has shown takes here. absurd (false≢true (sym busy ∙ idle));
}

-- the store at a place behind a renewal
record Renewed (news : List Listed) (place : ℕ) (s : Listed) : Type 0 where
  t : Listed
  there : slice_get news place ≡ Some t
  row : t.row ≡ s.row
  patterns : t.patterns ≡ s.patterns

rows_at : (olds news : List Listed) (place : ℕ) (s : Listed) → KeepRows olds news → slice_get olds place ≡ Some s → Renewed news place s
rows_at [] news place s keep is = absurd (none-some s is)
rows_at (x ∷ olds) [] place s keep is = absurd keep
rows_at (x ∷ olds) (y ∷ news) zero s keep is =
    let same = same_Some x s is in
    record { t = y; there = refl; row = keep.0 ∙ ap (λ (l : Listed). l.row) same; patterns = keep.1 ∙ ap (λ (l : Listed). l.patterns) same }
rows_at (x ∷ olds) (y ∷ news) (suc place) s keep is =
    let rest = rows_at olds news place s keep.2 is in
    record { t = rest.t; there = rest.there; row = rest.row; patterns = rest.patterns }

-- and its last block
fresh_at : (olds news : List LastBlock) (place : ℕ) (was : LastBlock) → KeepFresh olds news → slice_get olds place ≡ Some was
    → (mid : LastBlock) × (slice_get news place ≡ Some mid) × (was.stale ≡ false → mid.stale ≡ false)
fresh_at [] news place was keep is = absurd (none-some was is)
fresh_at (x ∷ olds) [] place was keep is = absurd keep
fresh_at (x ∷ olds) (y ∷ news) zero was keep is =
    (y, refl, λ spared. keep.0 (ap (λ (l : LastBlock). l.stale) (same_Some x was is) ∙ spared))
fresh_at (x ∷ olds) (y ∷ news) (suc place) was keep is = fresh_at olds news place was keep.1 is

-- another store that is shown in a place
shown_set : (stores : List Store) (listed : List Listed) (indexes : List TimeIndex) (place : ℕ) (s : Listed) (index : TimeIndex) (store : Store)
    → AreShown stores listed indexes → slice_get listed place ≡ Some s → slice_get indexes place ≡ Some index → IsStoreShown store s index
    → AreShown (slice_set stores place store) listed indexes
shown_set [] [] [] place s index store are is has shown = absurd (none-some s is)
shown_set [] [] (i ∷ indexes) place s index store are is has shown = absurd are
shown_set [] (l ∷ listed) indexes place s index store are is has shown = absurd are
shown_set (x ∷ stores) [] indexes place s index store are is has shown = absurd are
shown_set (x ∷ stores) (l ∷ listed) [] place s index store are is has shown = absurd are
shown_set (x ∷ stores) (l ∷ listed) (i ∷ indexes) zero s index store are is has shown = (
  subst (λ (l : Listed). IsStoreShown store l i) (sym (same_Some l s is)) (subst (IsStoreShown store s) (sym (same_Some i index has)) shown),
  are.1,
)
shown_set (x ∷ stores) (l ∷ listed) (i ∷ indexes) (suc place) s index store are is has shown =
    (are.0, shown_set stores listed indexes place s index store are.1 is has shown)

module _ (was first : InMemory) (rows : KeepRows was.directory.stores first.directory.stores) (fresh : KeepFresh was.lasts first.lasts)
    (sound : IsSound was) (sound_first : IsSound first)
    (renewed : (table : Table) (view after : View) → IsViewOf view was → IsViewOf after first → IsTableShown table view → IsTableShown table after) where
  kept_shown : (place : ℕ) (s t : Listed) (index next : TimeIndex) (store : Store) → slice_get was.directory.stores place ≡ Some s
      → slice_get was.indexes place ≡ Some index → IsStoreShown store s index → slice_get first.directory.stores place ≡ Some t
      → slice_get first.indexes place ≡ Some next → IsStoreShown store t next
  kept_shown place s t index next store listed has shown there here =
      let view = view_of_vault was in
      let after = view_of_vault first in
      let (table, is) = one_shown view (all_together was.directory.now was.directory.stores was.indexes was.lasts sound.stores) in
      let stores = slice_set table.stores place store in
      let other : IsTableShown (record table { stores = stores }) view = record {
        now = is.now;
        reports = is.reports;
        forward = is.forward;
        stores = shown_set table.stores was.directory.stores was.indexes place s index store is.stores listed has shown;
      } in
      let behind =
      renewed (record table { stores = stores }) view after (record { directory = refl; indexes = refl; blocks = refl })
      (record { directory = refl; indexes = refl; blocks = refl }) other in
      let (had, in_table, _) = shown_at table.stores was.directory.stores was.indexes place s index is.stores listed has in
      let (found, got, found_shown) = shown_at stores first.directory.stores first.indexes place t next behind.stores there here in
      let same : found ≡ store = same_Some found store (sym got ∙ got_set table.stores place store had in_table) in
      subst (λ (x : Store). IsStoreShown x t next) same found_shown

  -- a renewal and then a put
  pub freshened_by : (packet : List ℕ) (new : InMemory) → IsFreshened packet (length first.directory.stores) first new.lasts → IsFreshenedBy packet was new
  freshened_by packet new put = record {
    stale = λ place old last before here is.
        let (mid, at_mid, spared) = fresh_at was.lasts first.lasts place old fresh before in
        by old.stale mid.stale spared (put.stale place mid last at_mid here is);
    taken = λ busy place s index store last listed has shown takes here.
        let kept = rows_at was.directory.stores first.directory.stores place s rows listed in
        let within = slice_get_within first.directory.stores place kept.t kept.there in
        let (next, there) = some_at first.indexes place (omega (arith, within, sound_first.as_many)) in
        put.taken place kept.t next store last within kept.there there
        (kept_shown place s kept.t index next store listed has shown kept.there there) takes here;
  }
    where
      by : (a b : Bool) → (a ≡ false → b ≡ false) → b ≡ true → a ≡ true
      by true b spared is = refl
      by false b spared is = absurd (false≢true (sym (spared refl) ∙ is))
