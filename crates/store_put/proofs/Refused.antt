-- Refusals and their reports.
use Rattle.std.proofs.Common.{◌≡◌, ℕ, zero, suc, Bool, true, false, List, [], ◌∷◌, ◌++◌, length, map, take, get_or, Option, Some, None, ◌<◌, ◌≤◌, arith, refl, sym, ◌∙◌, ap, ap₂, subst}
use Rattle.std.specs.Prelude.{if◌then◌else◌, flat_map, slice_get}
use Rattle.std.proofs.lemmas.List.{map-append}
use Rattle.std.specs.Option.{option_to_list}
use Rattle.std.proofs.lemmas.Option.{none-some, same_Some, slice_get-get_or}
use Rattle.pst_model.specs.Arrivals.{is_offered, offer_report, put_report}
use Rattle.pst_model.specs.Reports.{Report, event_report}
use Rattle.pst_model.specs.Rules.{Refused, Taken, free_of, is_refused, to_drop, with_last}
use Rattle.pst_model.specs.Table.{Store, Stored, drop_front}
use Rattle.store_directory.specs.Directory.{Listed}
use Rattle.store_policy.specs.Shown.{AreAllTogether, AreShown, AreTogether, IsStoreShown}
use Rattle.time_index.specs.TimeIndex.{TimeIndex}
use Rattle.put_laws.specs.Puts.{Accepts, Refuses, need_of}
use Rattle.store_put.specs.declared.refusals.RefusedPut.{RefusedPut}
use Rattle.store_put.specs.Refusals.{at_any_time, offer_refusal, put_refusal, refusals_of, report_of}

one_report : (o r : Bool) (store x y : Store) (need free : ℕ)
    → map report_of (if o then put_refusal store (if r then Refused need free else Taken x) else [])
    ≡ (if o then put_report store (if r then Refused need free else Taken y) else [])
one_report false r store x y need free = refl
one_report true false store x y need free = refl
one_report true true store x y need free = told store.told
  where
    told : (t : Bool) → map report_of (if t then [] else record { store = store.identifier; need = need; free = free } ∷ [])
        ≡ (if t then [] else event_report store.identifier need free ∷ [])
    told true = refl
    told false = refl

pub reported : (stored : Stored) (stores : List Store) → map report_of (refusals_of stored.octets stores) ≡ flat_map (offer_report stored) stores
reported stored [] = refl
reported stored (store ∷ stores) =
    map-append report_of (offer_refusal stored.octets store) (refusals_of stored.octets stores)
    ∙ ap₂ (λ (a b : List Report). a ++ b)
    (one_report (is_offered stored.octets store) (is_refused store (need_of stored)) store
    (with_last (drop_front store (to_drop store (need_of stored))) (at_any_time stored.octets))
    (with_last (drop_front store (to_drop store (need_of stored))) stored) (need_of stored) (free_of store))
    (reported stored stores)

-- the refusal of one store, by what it does with the packet

pub none_refused : (octets : List ℕ) (store : Store) → is_offered octets store ≡ false → offer_refusal octets store ≡ []
none_refused octets store is = rw is refl

pub none_taken : (octets : List ℕ) (store : Store) (gone : ℕ) → Accepts store (at_any_time octets) gone → offer_refusal octets store ≡ []
none_taken octets store gone accepts = rw (accepts.offered, accepts.room) refl

pub told_before : (octets : List ℕ) (store : Store) → Refuses store (at_any_time octets) → store.told ≡ true → offer_refusal octets store ≡ []
told_before octets store refuses told = rw (refuses.offered, refuses.refused, told) refl

pub one_refused : (octets : List ℕ) (store : Store) (need free : ℕ) → Refuses store (at_any_time octets) → store.told ≡ false
    → need ≡ need_of (at_any_time octets) → free ≡ free_of store
    → offer_refusal octets store ≡ record { store = store.identifier; need = need; free = free } ∷ []
one_refused octets store need free refuses told needs frees =
    rw (refuses.offered, refuses.refused, told) (λ i. record { store = store.identifier; need = sym needs i; free = sym frees i } ∷ [])

-- the refusals of one store more
pub refusals_more : (octets : List ℕ) (stores : List Store) (at : ℕ) (store : Store) → slice_get stores at ≡ Some store
    → refusals_of octets (take (suc at) stores) ≡ refusals_of octets (take at stores) ++ offer_refusal octets store
refusals_more octets [] at store is = absurd (none-some store is)
refusals_more octets (x ∷ stores) zero store is = no_more (offer_refusal octets x) ∙ ap (offer_refusal octets) (same_Some x store is)
  where
    no_more : (xs : List RefusedPut) → xs ++ [] ≡ xs
    no_more [] = refl
    no_more (y ∷ ys) = ap (λ (l : List RefusedPut). y ∷ l) (no_more ys)
refusals_more octets (x ∷ stores) (suc at) store is =
    ap (λ (l : List RefusedPut). offer_refusal octets x ++ l) (refusals_more octets stores at store is)
    ∙ sym (regroup (offer_refusal octets x) (refusals_of octets (take at stores)) (offer_refusal octets store))
  where
    regroup : (xs ys zs : List RefusedPut) → (xs ++ ys) ++ zs ≡ xs ++ (ys ++ zs)
    regroup [] ys zs = refl
    regroup (y ∷ xs) ys zs = ap (λ (l : List RefusedPut). y ∷ l) (regroup xs ys zs)

-- the store of a table at a place
pub shown_at : (stores : List Store) (listed : List Listed) (indexes : List TimeIndex) (at : ℕ) (s : Listed) (index : TimeIndex)
    → AreShown stores listed indexes → slice_get listed at ≡ Some s → slice_get indexes at ≡ Some index
    → (store : Store) × (slice_get stores at ≡ Some store) × IsStoreShown store s index
shown_at [] [] [] at s index are is has = absurd (none-some s is)
shown_at [] [] (i ∷ indexes) at s index are is has = absurd are
shown_at [] (l ∷ listed) indexes at s index are is has = absurd are
shown_at (x ∷ stores) [] indexes at s index are is has = absurd are
shown_at (x ∷ stores) (l ∷ listed) [] at s index are is has = absurd are
shown_at (x ∷ stores) (l ∷ listed) (i ∷ indexes) zero s index are is has =
    (x, refl, subst (λ (l : Listed). IsStoreShown x l index) (same_Some l s is) (subst (IsStoreShown x l) (same_Some i index has) are.0))
shown_at (x ∷ stores) (l ∷ listed) (i ∷ indexes) (suc at) s index are is has = shown_at stores listed indexes at s index are.1 is has

-- all stores are as many as are listed
pub shown_many : (stores : List Store) (listed : List Listed) (indexes : List TimeIndex) → AreShown stores listed indexes → length stores ≡ length listed
shown_many [] [] [] are = refl
shown_many [] [] (i ∷ indexes) are = absurd are
shown_many [] (l ∷ listed) indexes are = absurd are
shown_many (x ∷ stores) [] indexes are = absurd are
shown_many (x ∷ stores) (l ∷ listed) [] are = absurd are
shown_many (x ∷ stores) (l ∷ listed) (i ∷ indexes) are = ap suc (shown_many stores listed indexes are.1)

-- a row and its index at a place
pub together_at : (listed : List Listed) (indexes : List TimeIndex) (at : ℕ) (s : Listed) (index : TimeIndex) → AreAllTogether listed indexes
    → slice_get listed at ≡ Some s → slice_get indexes at ≡ Some index → AreTogether s.row index
together_at [] indexes at s index are is has = absurd (none-some s is)
together_at (l ∷ listed) [] at s index are is has = absurd are
together_at (l ∷ listed) (i ∷ indexes) zero s index are is has =
    subst (λ (l : Listed). AreTogether l.row index) (same_Some l s is) (subst (λ (i : TimeIndex). AreTogether l.row i) (same_Some i index has) are.0)
together_at (l ∷ listed) (i ∷ indexes) (suc at) s index are is has = together_at listed indexes at s index are.1 is has

pub together_many : (listed : List Listed) (indexes : List TimeIndex) → AreAllTogether listed indexes → length indexes ≡ length listed
together_many [] [] are = refl
together_many [] (i ∷ indexes) are = absurd are
together_many (l ∷ listed) [] are = absurd are
together_many (l ∷ listed) (i ∷ indexes) are = ap suc (together_many listed indexes are.1)

-- the index at a place
pub index_here : (listed : List Listed) (indexes : List TimeIndex) (at : ℕ) (index : TimeIndex) → AreAllTogether listed indexes → at < length listed
    → index ≡ get_or indexes at index → slice_get indexes at ≡ Some index
index_here listed indexes at index together within is =
    slice_get-get_or indexes at index (omega (arith, within, together_many listed indexes together)) ∙ ap Some (sym is)

pub at_most_one : {X : Type 0} (o : Option X) → length (option_to_list o) ≤ 1
at_most_one None = omega arith
at_most_one (Some x) = omega arith
