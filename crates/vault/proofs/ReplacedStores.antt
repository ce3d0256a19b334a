-- Stores of which one, with its index and its last block, is replaced.
use Rattle.std.proofs.Common.{◌≡◌, ℕ, zero, suc, false, List, [], ◌∷◌, length, slice_set, Some, refl, sym, ◌∙◌, ap, subst}
use Rattle.std.specs.Prelude.{slice_get}
use Rattle.std.proofs.lemmas.Option.{none-some, same_Some}
use Rattle.pst_model.specs.Table.{Store}
use Rattle.store_directory.specs.Directory.{Listed}
use Rattle.store_load.proofs.Eachs.{EachIs}
use Rattle.store_policy.specs.Shown.{AreShown, IsStoreShown}
use Rattle.time_index.specs.TimeIndex.{TimeIndex}
use Rattle.vault.specs.Memory.{EachStore}
use Rattle.vault.specs.Renewing.{KeepFresh, KeepRows}
use Rattle.vault.specs.declared.last_block.LastBlock.{LastBlock}

-- what stands at the place of a store
pub record Here (P : Listed → TimeIndex → LastBlock → Type 0) (indexes : List TimeIndex) (lasts : List LastBlock) (at : ℕ) (s : Listed) : Type 0 where
  pub index : TimeIndex
  pub last : LastBlock
  pub indexed : slice_get indexes at ≡ Some index
  pub lasting : slice_get lasts at ≡ Some last
  pub is : P s index last

pub each_here : (P : Listed → TimeIndex → LastBlock → Type 0) (stores : List Listed) (indexes : List TimeIndex) (lasts : List LastBlock)
    (at : ℕ) (s : Listed) → EachStore P stores indexes lasts → slice_get stores at ≡ Some s → Here P indexes lasts at s
each_here P [] indexes lasts at s each is = absurd (none-some s is)
each_here P (x ∷ stores) [] lasts at s each is = absurd each
each_here P (x ∷ stores) (i ∷ indexes) [] at s each is = absurd each
each_here P (x ∷ stores) (i ∷ indexes) (l ∷ lasts) zero s each is =
    record { index = i; last = l; indexed = refl; lasting = refl; is = subst (λ (x : Listed). P x i l) (same_Some x s is) each.0 }
each_here P (x ∷ stores) (i ∷ indexes) (l ∷ lasts) (suc at) s each is =
    let rest = each_here P stores indexes lasts at s each.1 is in
    record { index = rest.index; last = rest.last; indexed = rest.indexed; lasting = rest.lasting; is = rest.is }

-- what holds at each place holds of each store
pub each_by_places : (P Q : Listed → TimeIndex → LastBlock → Type 0) (stores : List Listed) (indexes : List TimeIndex) (lasts : List LastBlock)
    → EachStore P stores indexes lasts
    → ((at : ℕ) (s : Listed) (index : TimeIndex) (last : LastBlock) → slice_get stores at ≡ Some s → slice_get indexes at ≡ Some index
    → slice_get lasts at ≡ Some last → Q s index last)
    → EachStore Q stores indexes lasts
each_by_places P Q [] [] [] each by = tt
each_by_places P Q [] [] (l ∷ lasts) each by = absurd each
each_by_places P Q [] (i ∷ indexes) lasts each by = absurd each
each_by_places P Q (x ∷ stores) [] lasts each by = absurd each
each_by_places P Q (x ∷ stores) (i ∷ indexes) [] each by = absurd each
each_by_places P Q (x ∷ stores) (i ∷ indexes) (l ∷ lasts) each by =
    (by 0 x i l refl refl refl, each_by_places P Q stores indexes lasts each.1 (λ at s index last. by (suc at) s index last))

pub each_replaced : (P : Listed → TimeIndex → LastBlock → Type 0) (stores : List Listed) (indexes : List TimeIndex) (lasts : List LastBlock)
    (at : ℕ) (s new : Listed) (index : TimeIndex) (last : LastBlock) → EachStore P stores indexes lasts → slice_get stores at ≡ Some s
    → P new index last → EachStore P (slice_set stores at new) (slice_set indexes at index) (slice_set lasts at last)
each_replaced P [] indexes lasts at s new index last each is here = absurd (none-some s is)
each_replaced P (x ∷ stores) [] lasts at s new index last each is here = absurd each
each_replaced P (x ∷ stores) (i ∷ indexes) [] at s new index last each is here = absurd each
each_replaced P (x ∷ stores) (i ∷ indexes) (l ∷ lasts) zero s new index last each is here = (here, each.1)
each_replaced P (x ∷ stores) (i ∷ indexes) (l ∷ lasts) (suc at) s new index last each is here =
    (each.0, each_replaced P stores indexes lasts at s new index last each.1 is here)

-- the table that they show, where the one at the place shows what the one before did
pub shown_replaced : (found : List Store) (stores : List Listed) (indexes : List TimeIndex) (at : ℕ) (s new : Listed) (index other : TimeIndex)
    → AreShown found stores indexes → slice_get stores at ≡ Some s → slice_get indexes at ≡ Some index
    → ((store : Store) → IsStoreShown store s index → IsStoreShown store new other)
    → AreShown found (slice_set stores at new) (slice_set indexes at other)
shown_replaced found [] indexes at s new index other are is has goes = absurd (none-some s is)
shown_replaced found (x ∷ stores) [] at s new index other are is has goes = absurd (none-some index has)
shown_replaced [] (x ∷ stores) (i ∷ indexes) at s new index other are is has goes = absurd are
shown_replaced (f ∷ found) (x ∷ stores) (i ∷ indexes) zero s new index other are is has goes =
    (goes f (subst (λ (y : Listed). IsStoreShown f y index) (same_Some x s is) (subst (λ (j : TimeIndex). IsStoreShown f x j) (same_Some i index has) are.0)), are.1)
shown_replaced (f ∷ found) (x ∷ stores) (i ∷ indexes) (suc at) s new index other are is has goes =
    (are.0, shown_replaced found stores indexes at s new index other are.1 is has goes)

-- rows and patterns

pub rows_same : (stores : List Listed) → KeepRows stores stores
rows_same [] = tt
rows_same (s ∷ stores) = (refl, refl, rows_same stores)

pub rows_on : (stores others more : List Listed) → KeepRows stores others → KeepRows others more → KeepRows stores more
rows_on [] [] more first second = second
rows_on [] (t ∷ others) more first second = absurd first
rows_on (s ∷ stores) [] more first second = absurd first
rows_on (s ∷ stores) (t ∷ others) [] first second = absurd second
rows_on (s ∷ stores) (t ∷ others) (u ∷ more) first second =
    (second.0 ∙ first.0, second.1 ∙ first.1, rows_on stores others more first.2 second.2)

pub rows_replaced : (stores : List Listed) (at : ℕ) (s new : Listed) → slice_get stores at ≡ Some s → new.row ≡ s.row → new.patterns ≡ s.patterns
    → KeepRows stores (slice_set stores at new)
rows_replaced [] at s new is row patterns = absurd (none-some s is)
rows_replaced (x ∷ stores) zero s new is row patterns =
    let same = same_Some x s is in
    (row ∙ ap (λ (y : Listed). y.row) (sym same), patterns ∙ ap (λ (y : Listed). y.patterns) (sym same), rows_same stores)
rows_replaced (x ∷ stores) (suc at) s new is row patterns = (refl, refl, rows_replaced stores at s new is row patterns)

pub rows_long : (stores others : List Listed) → KeepRows stores others → length others ≡ length stores
rows_long [] [] keep = refl
rows_long [] (t ∷ others) keep = absurd keep
rows_long (s ∷ stores) [] keep = absurd keep
rows_long (s ∷ stores) (t ∷ others) keep = ap suc (rows_long stores others keep.2)

-- last blocks that are not stale

pub fresh_same : (lasts : List LastBlock) → KeepFresh lasts lasts
fresh_same [] = tt
fresh_same (l ∷ lasts) = (λ h. h, fresh_same lasts)

pub fresh_on : (lasts others more : List LastBlock) → KeepFresh lasts others → KeepFresh others more → KeepFresh lasts more
fresh_on [] [] more first second = second
fresh_on [] (t ∷ others) more first second = absurd first
fresh_on (s ∷ lasts) [] more first second = absurd first
fresh_on (s ∷ lasts) (t ∷ others) [] first second = absurd second
fresh_on (s ∷ lasts) (t ∷ others) (u ∷ more) first second =
    (λ h. second.0 (first.0 h), fresh_on lasts others more first.1 second.1)

pub fresh_replaced : (lasts : List LastBlock) (at : ℕ) (new : LastBlock) → new.stale ≡ false → KeepFresh lasts (slice_set lasts at new)
fresh_replaced [] at new is = tt
fresh_replaced (l ∷ lasts) zero new is = (λ h. is, fresh_same lasts)
fresh_replaced (l ∷ lasts) (suc at) new is = (λ h. h, fresh_replaced lasts at new is)

-- what stands at the place
pub got_new : {X : Type 0} (xs : List X) (at : ℕ) (new x : X) → slice_get (slice_set xs at new) at ≡ Some x → x ≡ new
got_new [] at new x is = absurd (none-some x is)
got_new (y ∷ xs) zero new x is = sym (same_Some new x is)
got_new (y ∷ xs) (suc at) new x is = got_new xs at new x is

-- what holds of each store by itself besides
pub each_with : (E : Listed → Type 0) (P Q : Listed → TimeIndex → LastBlock → Type 0)
    → ((s : Listed) (index : TimeIndex) (last : LastBlock) → E s → P s index last → Q s index last)
    → (stores : List Listed) (indexes : List TimeIndex) (lasts : List LastBlock) → EachIs E stores → EachStore P stores indexes lasts
    → EachStore Q stores indexes lasts
each_with E P Q f [] [] [] all each = tt
each_with E P Q f [] [] (l ∷ lasts) all each = absurd each
each_with E P Q f [] (i ∷ indexes) lasts all each = absurd each
each_with E P Q f (x ∷ stores) [] lasts all each = absurd each
each_with E P Q f (x ∷ stores) (i ∷ indexes) [] all each = absurd each
each_with E P Q f (x ∷ stores) (i ∷ indexes) (l ∷ lasts) all each =
    (f x i l all.0 each.0, each_with E P Q f stores indexes lasts all.1 each.1)
