-- An index while records are put behind its entries.
use Rattle.std.proofs.Common.{◌≡◌, ℕ, zero, suc, ◌+◌, ◌-◌, ◌<◌, ◌≤◌, List, [], ◌∷◌, ◌++◌, length, Some, None, refl, sym, subst, arith, length-append}
use Rattle.std.specs.Prelude.{IfSome, slice_get}
use Rattle.std.proofs.lemmas.List.Sums.{sum_by-cons}
use Rattle.space_packet.specs.Charge.{charge_of}
use Rattle.record_view.specs.Records.{Meaning, records_from}
use Rattle.store_load.specs.Loading.{Progress, take_one, take_records}
use Rattle.store_load.specs.declared.loading.Limits.{Limits}
use Rattle.time_index.specs.TimeIndex.{EndsBy, pages_of}
use Rattle.time_index.specs.declared.entry.Entry.{Entry}

pub one_page : (n : ℕ) → 1 ≤ charge_of n
one_page n = omega arith

pub few_entries : (entries : List Entry) → length entries ≤ pages_of entries
few_entries [] = omega arith
few_entries (entry ∷ entries) =
    let rest = few_entries entries in
    let more : pages_of (entry ∷ entries) ≡ charge_of entry.length + pages_of entries =
    sum_by-cons (λ (e : Entry). charge_of e.length) entry entries in
    omega (arith, rest, one_page entry.length, more)

pub last_is : (entries : List Entry) (entry : Entry) (at : ℕ) → at ≡ length entries
    → slice_get (entries ++ entry ∷ []) at ≡ Some entry
last_is [] entry zero is = refl
last_is [] entry (suc at) is = absurd (omega (arith, is))
last_is (first ∷ entries) entry zero is = absurd (omega (arith, is))
last_is (first ∷ entries) entry (suc at) is = last_is entries entry at (omega (arith, is))

pub ends_pushed : (entries : List Entry) (entry : Entry) → EndsBy (entries ++ entry ∷ []) entry.stamp
ends_pushed entries entry =
    let long : length (entries ++ entry ∷ []) ≡ length entries + 1 = length-append entries (entry ∷ []) in
    let there = last_is entries entry (length (entries ++ entry ∷ []) - 1) (omega (arith, long)) in
    subst (λ found. IfSome found (λ (last : Entry). last.stamp ≤ entry.stamp)) (sym there) (omega arith)

-- a record that is refused, or taken, before those behind it
module _ (limits : Limits) (block page : ℕ) (meaning : Meaning) (records all : List Meaning) (progress : Progress)
    (are : all ≡ meaning ∷ records) where
  pub refused_first : take_one limits block page meaning progress ≡ None → take_records limits block page all progress ≡ None
  unfolding take_records
  refused_first is = rw (are, is) refl

  pub taken_first : (next : Progress) → take_one limits block page meaning progress ≡ Some next
      → take_records limits block page all progress
      ≡ take_records limits block (page + charge_of (length meaning.packet)) records next
  unfolding take_records
  taken_first next is = rw (are, is) refl

pub taken_none : (limits : Limits) (block page : ℕ) (all : List Meaning) (progress : Progress) → all ≡ []
    → take_records limits block page all progress ≡ Some progress
unfolding take_records
taken_none limits block page all progress are = rw are refl

-- where a record is given, one was left
pub some_left : (left : ℕ) (block : List ℕ) (number page : ℕ) (meaning : Meaning) (behind : List Meaning)
    → records_from left block number page ≡ meaning ∷ behind → 0 < left
unfolding records_from
some_left zero block number page meaning behind is = absurd (cc)
some_left (suc left) block number page meaning behind is = omega arith
