-- The room of the store whose turn it is.
use Rattle.std.proofs.Common.{◌≡◌, ℕ, zero, suc, ◌+◌, ◌-◌, ◌≤◌, ◌&&◌, ◌||◌, nat_lt, Bool, true, false, List, [], ◌∷◌, ◌++◌, length, drop, refl, sym, ◌∙◌, ap, subst, arith}
use Rattle.std.proofs.lemmas.Bool.{cond-false, cond-true, cond_both, leb-true, ltb-false}
use Rattle.std.proofs.lemmas.List.{length-drop, length-map}
use Rattle.pst_model.specs.Arrivals.{is_offered, offered}
use Rattle.pst_model.specs.Least.{least}
use Rattle.pst_model.specs.Rules.{Refused, Taken, behind_put, free_of, has_room, is_bounded, is_refused, put, to_drop, with_last}
use Rattle.pst_model.specs.Table.{Store, Stored, Table, content_in, drop_front}
use Rattle.pst_model.proofs.Puts.{to_drop-least}
use Rattle.record_view.specs.Records.{Meaning}
use Rattle.store_directory.specs.Directory.{Directory, Listed}
use Rattle.store_load.specs.Extents.{pages_in}
use Rattle.store_load.specs.Keeping.{Keeps}
use Rattle.store_load.proofs.Counting.{counts_records, kept_parts}
use Rattle.store_load.proofs.Filling.{one_page}
use Rattle.image_table.specs.Going.{with_row}
use Rattle.image_table.specs.Table.{store_with, stored_of, table_rule}
use Rattle.image_table.proofs.Stores.{content_stored, store_keeps}
use Rattle.put_laws.specs.Puts.{Accepts, need_of, row_behind_put}
use Rattle.put_laws.proofs.Applies.{found}
use Rattle.put_laws.proofs.Turns.{Turn, kept_is, loaded, spot_listed}

least_within : (test : ℕ → Bool) (bound : ℕ) → least test bound ≤ bound
least_within test zero = omega arith
least_within test (suc bound) =
    cond_both (test 0) 0 (suc (least (λ n. test (suc n)) bound)) (λ (n : ℕ). n ≤ suc bound)
    (λ h. omega arith) (λ h. omega (arith, least_within (λ n. test (suc n)) bound))

-- each packet takes a page
length_content : (packets : List Stored) → length packets ≤ content_in packets
length_content [] = omega arith
length_content (stored ∷ packets) = omega (arith, length_content packets, one_page (length stored.octets))

neither : (a b : Bool) → (a || b) ≡ false → a ≡ false
neither false b h = refl
neither true b h = h

pub need_within : (store : Store) (need : ℕ) → is_refused store need ≡ false → need ≤ store.size
need_within store need is =
    ltb-false store.size need (neither (nat_lt store.size need) (is_bounded store.kind && nat_lt (free_of store) need) is)

-- what an offer makes of a store that takes the packet
pub taking : (stored : Stored) (store : Store) (gone : ℕ) → Accepts store stored gone → offered stored store ≡ with_last (drop_front store gone) stored
taking stored store gone accepts =
    cond-true (is_offered stored.octets store) (behind_put store (put store stored)) store accepts.offered
    ∙ ap (behind_put store)
    (cond-false (is_refused store (need_of stored)) (Refused (need_of stored) (free_of store))
    (Taken (with_last (drop_front store (to_drop store (need_of stored))) stored)) accepts.room)
    ∙ ap (λ (n : ℕ). with_last (drop_front store n) stored) (sym accepts.leaving)

-- and it is the store of the row behind the put
pub taken_row : (stored : Stored) (s : Listed) (records : List Meaning) (store : Store) (gone : ℕ) → store_with s records ≡ store
    → with_row (row_behind_put gone s.row) (drop gone store.packets ++ stored ∷ []) store ≡ with_last (drop_front store gone) stored
taken_row stored s records store gone whole =
    subst (λ (x : Store). with_row (row_behind_put gone s.row) (drop gone x.packets ++ stored ∷ []) x ≡ with_last (drop_front x gone) stored) whole refl

module _ (blocks : ℕ) (image : ℕ → List ℕ) (d : Directory) (table : Table) (stored : Stored) (at : ℕ) (s : Listed) (store : Store)
    (turn : Turn blocks image d table stored at s store) where
  pub keeps_is : (records : List Meaning) × Keeps table_rule blocks image d.now s.row s.links records × (store_with s records ≡ store)
  keeps_is =
      let (records, kept, whole) = kept_is blocks image d table stored at s store turn in
      let there = spot_listed blocks image d table stored at s store turn in
      let share = (loaded blocks image d table stored at s store turn).share in (
        records,
        store_keeps blocks image d s.identifier d.now s records turn.pages turn.directory share
            (found blocks d turn.directory share there.front s there.back there.parted) kept,
        whole,
      )

  pub count_is : length store.packets ≡ s.count
  count_is =
      let (records, keeps, whole) = keeps_is in
      sym (ap (λ (x : Store). length x.packets) whole) ∙ length-map records stored_of
      ∙ counts_records table_rule blocks image d.now s.row s.links records keeps

  pub size_is : store.size ≡ s.size
  size_is = let (records, keeps, whole) = keeps_is in sym (ap (λ (x : Store). x.size) whole)

  pub content_within : content_in store.packets ≤ s.size
  content_within =
      let (records, keeps, whole) = keeps_is in
      let content : content_in store.packets ≡ pages_in records = sym (ap (λ (x : Store). content_in x.packets) whole) ∙ content_stored records in
      let fits = leb-true (pages_in records) s.size (kept_parts table_rule image d.now s.row s.links records keeps.kept).fits in
      omega (arith, content, fits)

  module _ (gone : ℕ) (accepts : Accepts store stored gone) where
    pub few : gone ≤ s.count
    few = omega (arith, accepts.leaving, least_within (has_room store (need_of stored)) (length store.packets), count_is)

    pub room : content_in (drop gone store.packets) + need_of stored ≤ s.size
    room =
        let fewest = to_drop-least store (need_of stored) (need_within store (need_of stored) accepts.room) in
        let passes : has_room store (need_of stored) gone ≡ true = ap (has_room store (need_of stored)) accepts.leaving ∙ fewest.passes in
        let fits = leb-true (content_in (drop gone store.packets) + need_of stored) store.size passes in
        omega (arith, fits, size_is)

    pub count_room : s.count - gone + 1 ≤ s.size
    count_room =
        let many = length_content (drop gone store.packets) in
        let left = length-drop gone store.packets in
        omega (arith, many, left, count_is, room, one_page (length stored.octets))
