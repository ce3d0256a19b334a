-- What memory shows behind a change of a directory, and where a row was put for what was sent.
use Rattle.std.proofs.Common.{◌≡◌, ℕ, zero, suc, ◌+◌, true, false, Bool, Option, List, [], ◌∷◌, slice_set, Some, refl, sym, ◌∙◌, ap, subst}
use Rattle.std.specs.Prelude.{slice_get}
use Rattle.std.proofs.lemmas.Option.{none-some, same_Some}
use Rattle.pst_model.specs.Rules.{range_sent}
use Rattle.pst_model.specs.Table.{Store, Table}
use Rattle.retrieval.specs.Grants.{with_positions}
use Rattle.retrieval.specs.Picks.{sent_row}
use Rattle.store_directory.specs.Changes.{Change}
use Rattle.store_directory.specs.Directory.{Directory, Listed}
use Rattle.store_policy.specs.Shown.{AreAllTogether, AreShown, AreTogether, IsStoreShown, IsTableShown}
use Rattle.store_policy.specs.declared.view.View.{View}
use Rattle.time_index.specs.TimeIndex.{TimeIndex}
use Rattle.image_table.specs.Granting.{Renews}
use Rattle.image_table.proofs.SentRows.{sent_listed}

-- a store with other positions, beside a row that has them
moved_shown : (behind : ℕ) (range : Option (ℕ × ℕ)) (store : Store) (s : Listed) (index : TimeIndex) → IsStoreShown store s index
    → IsStoreShown (record store { behind = behind; range = range }) (record s { row = record s.row { behind = behind; range = range } }) index
moved_shown behind range store s index shown = record {
  shown = record {
    identifier = shown.shown.identifier;
    kind = shown.shown.kind;
    size = shown.shown.size;
    channel = shown.shown.channel;
    storage = shown.shown.storage;
    open_on = shown.shown.open_on;
    told = shown.shown.told;
    behind = refl;
    range = refl;
    packets = shown.shown.packets;
  };
  patterns = shown.patterns;
}

sent_shown : (range : Bool) (store : Store) (s : Listed) (index : TimeIndex) → IsStoreShown store s index → IsStoreShown (with_positions (sent_row range s.row) store) (sent_listed range s) index
sent_shown true store s index shown = moved_shown s.row.behind (range_sent s.row.range) store s index shown
sent_shown false store s index shown = moved_shown (s.row.behind + 1) s.row.range store s index shown

pub set_shown : (range : Bool) (stores : List Store) (listed : List Listed) (indexes : List TimeIndex) (at : ℕ) (store : Store) (s : Listed)
    → AreShown stores listed indexes → slice_get stores at ≡ Some store → slice_get listed at ≡ Some s
    → AreShown (slice_set stores at (with_positions (sent_row range s.row) store)) (slice_set listed at (sent_listed range s)) indexes
set_shown range [] [] [] at store s shown there_store there = absurd (none-some s there)
set_shown range (x ∷ stores) (l ∷ listed) (index ∷ indexes) zero store s shown there_store there =
    let is : IsStoreShown store s index = subst (λ (y : Store). IsStoreShown y s index) (same_Some x store there_store) (subst (λ (y : Listed). IsStoreShown x y index) (same_Some l s there) shown.0) in
    (sent_shown range store s index is, shown.1)
set_shown range (x ∷ stores) (l ∷ listed) (index ∷ indexes) (suc at) store s shown there_store there =
    (shown.0, set_shown range stores listed indexes at store s shown.1 there_store there)
set_shown range _ _ _ at store s shown there_store there = absurd shown

sent_together : (range : Bool) (s : Listed) (index : TimeIndex) → AreTogether s.row index → AreTogether (sent_row range s.row) index
sent_together true s index together = record { first = together.first; count = together.count; size = together.size }
sent_together false s index together = record { first = together.first; count = together.count; size = together.size }

pub set_together : (range : Bool) (listed : List Listed) (indexes : List TimeIndex) (at : ℕ) (s : Listed) → AreAllTogether listed indexes → slice_get listed at ≡ Some s
    → AreAllTogether (slice_set listed at (sent_listed range s)) indexes
set_together range [] [] at s together there = absurd (none-some s there)
set_together range (l ∷ listed) (index ∷ indexes) zero s together there =
    (sent_together range s index (subst (λ (y : Listed). AreTogether y.row index) (same_Some l s there) together.0), together.1)
set_together range (l ∷ listed) (index ∷ indexes) (suc at) s together there =
    (together.0, set_together range listed indexes at s together.1 there)
set_together range _ _ at s together there = absurd together

-- memory behind a change
module _ (view after : View) (change : Change) (renews : Renews change view after) (next : Directory) (is : next ≡ after.directory.now.directory) where
  pub view_of : (table made : Table) → IsTableShown table view → made.now ≡ next.now → made.reports ≡ next.reports → made.forward ≡ next.forward
      → AreShown made.stores next.stores view.indexes.now → IsTableShown made after
  view_of table made shown now reports forward stores =
      record {
        now = now ∙ ap (λ (x : Directory). x.now) is;
        reports = reports ∙ ap (λ (x : Directory). x.reports) is;
        forward = forward ∙ ap (λ (x : Directory). x.forward) is;
        stores =
            subst (AreShown made.stores after.directory.now.stores) (sym renews.indexes)
            (subst (λ (x : Directory). AreShown made.stores x.stores view.indexes.now) is stores);
      }

  pub together_of : AreAllTogether next.stores view.indexes.now → AreAllTogether after.directory.now.stores after.indexes.now
  together_of together =
      subst (AreAllTogether after.directory.now.stores) (sym renews.indexes)
      (subst (λ (x : Directory). AreAllTogether x.stores view.indexes.now) is together)
