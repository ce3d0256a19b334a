-- The records of an extent.
use Rattle.std.proofs.Common.{◌≡◌, ℕ, zero, suc, ◌+◌, ◌*◌, ◌<◌, ◌≤◌, true, ◌==◌, List, [], ◌∷◌, length, Option, Some, None, refl, sym, ◌∙◌, ap, subst, arith, eqb-true}
use Rattle.std.proofs.lemmas.Bool.{eq-eqb}
use Rattle.std.proofs.lemmas.Option.{same_Some}
use Rattle.std.specs.Prelude.{⊤}
use Rattle.board.specs.Flash.{IsContent, pages_from}
use Rattle.board.proofs.Pages.{in_pages}
use Rattle.space_packet.specs.Charge.{charge_of}
use Rattle.record_view.specs.Records.{Meaning, number_after, record_at, records_from, with_next}
use Rattle.record_view.proofs.Spelling.{spells_read}
use Rattle.chain_log.specs.Pages.{block_octets}
use Rattle.chain_log.proofs.Octets.{octets_length}
use Rattle.chain_log.proofs.Spelled.{stays}
use Rattle.store_load.specs.Extents.{Extent, IsGiven, all_records, pages_in, read_extent}
use Rattle.store_load.proofs.Eachs.{given_then}

-- the records are those that the block spells, as many as were asked for
pub record Whole (block : List ℕ) (count number page : ℕ) (records : List Meaning) : Type 0 where
  pub are : records_from count block number page ≡ records
  pub many : length records ≡ count

pub all_read : (block : List ℕ) (count number page : ℕ) (records : List Meaning)
    → all_records block count number page ≡ Some records → Whole block count number page records
unfolding all_records
all_read block count number page records is =
    let found = records_from count block number page in
    let parts = given_then (length found == count) (λ (_ : ⊤). Some found) records is in
    let same : found ≡ records = same_Some found records parts.1 in
    record {
      are = same;
      many = sym (ap length same) ∙ eqb-true (length found) count parts.0;
    }

pub read_all : (block : List ℕ) (count number page : ℕ) (records : List Meaning)
    → Whole block count number page records → all_records block count number page ≡ Some records
unfolding all_records
read_all block count number page records whole =
    rw (ap length whole.are ∙ whole.many) (rw (eq-eqb count count refl) (ap Some whole.are))

-- none are asked for
pub records_none : (block : List ℕ) (number page : ℕ) → all_records block 0 number page ≡ Some []
unfolding all_records records_from
records_none block number page = refl

-- one record and those behind it
pub records_cons : (block : List ℕ) (count number page : ℕ) (records : List Meaning)
    → all_records block (suc count) number page ≡ Some records
    → (meaning : Meaning) × (rest : List Meaning)
    × (record_at block number page ≡ Some meaning)
    × (all_records block count (number_after number) (page + charge_of (length meaning.packet)) ≡ Some rest)
    × (meaning ∷ rest ≡ records)
unfolding records_from
records_cons block count number page records is =
    by_record (record_at block number page) refl
    (all_read block (suc count) number page records is).are
    (all_read block (suc count) number page records is).many
  where
    next : Meaning → List Meaning
    next meaning = records_from count block (number_after number) (page + charge_of (length meaning.packet))

    by_record : (found : Option Meaning) → record_at block number page ≡ found
        → with_next found next ≡ records → length records ≡ suc count
        → (meaning : Meaning) × (rest : List Meaning)
        × (record_at block number page ≡ Some meaning)
        × (all_records block count (number_after number) (page + charge_of (length meaning.packet)) ≡ Some rest)
        × (meaning ∷ rest ≡ records)
    by_record None found are many = absurd (omega (arith, ap length are, many))
    by_record (Some meaning) found are many = (
      meaning,
      next meaning,
      found,
      read_all block count (number_after number) (page + charge_of (length meaning.packet)) (next meaning)
          (record { are = refl; many = omega (arith, ap length are, many) }),
      are,
    )

pub cons_records : (block : List ℕ) (count number page : ℕ) (meaning : Meaning) (rest : List Meaning)
    → record_at block number page ≡ Some meaning
    → all_records block count (number_after number) (page + charge_of (length meaning.packet)) ≡ Some rest
    → all_records block (suc count) number page ≡ Some (meaning ∷ rest)
unfolding records_from
cons_records block count number page meaning rest here behind =
    let whole = all_read block count (number_after number) (page + charge_of (length meaning.packet)) rest behind in
    read_all block (suc count) number page (meaning ∷ rest)
    (record {
      are = rw here (ap (λ (l : List Meaning). meaning ∷ l) whole.are);
      many = omega (arith, whole.many);
    })

pub records_length : (block : List ℕ) (count number page : ℕ) (records : List Meaning)
    → all_records block count number page ≡ Some records → length records ≡ count
records_length block count number page records is = (all_read block count number page records is).many

-- records end within their block
pub records_within : (block : List ℕ) (count number page : ℕ) (records : List Meaning)
    → length block ≡ 65536 → all_records block count number page ≡ Some records → page ≤ 256
    → page + pages_in records ≤ 256
records_within block zero number page records long is low =
    let none : [] ≡ records = same_Some [] records (sym (records_none block number page) ∙ is) in
    subst (λ (l : List Meaning). page + pages_in l ≤ 256) none (omega arith)
records_within block (suc count) number page records long is low =
    let (meaning, rest, here, behind, whole) = records_cons block count number page records is in
    let fits = (spells_read block number page meaning long here).within in
    let further = records_within block count (number_after number)
    (page + charge_of (length meaning.packet)) rest long behind fits in
    subst (λ (l : List Meaning). page + pages_in l ≤ 256) whole (omega (arith, further))

-- each record takes a page at least
pub few_records : (records : List Meaning) → length records ≤ pages_in records
few_records [] = omega arith
few_records (meaning ∷ records) = let rest = few_records records in omega (arith, rest)

module _ (blocks : ℕ) (image other : ℕ → List ℕ) (content : IsContent blocks image)
    (others : IsContent blocks other) where
  -- records are read wherever their pages are the same
  records_stay : (block count number page : ℕ) (records : List Meaning) → block < blocks
      → all_records (block_octets image block) count number page ≡ Some records
      → ((i : ℕ) → page ≤ i → i < page + pages_in records
      → other (256 * block + i) ≡ image (256 * block + i))
      → all_records (block_octets other block) count number page ≡ Some records
  records_stay block zero number page records within is same =
      records_none (block_octets other block) number page
      ∙ sym (records_none (block_octets image block) number page) ∙ is
  records_stay block (suc count) number page records within is same =
      let (meaning, rest, here, behind, whole) =
      records_cons (block_octets image block) count number page records is in
      let near : (i : ℕ) → page ≤ i → i < page + (charge_of (length meaning.packet) + pages_in rest)
      → other (256 * block + i) ≡ image (256 * block + i) =
      λ i low high. same i low (subst (λ (l : List Meaning). i < page + pages_in l) whole high) in
      cons_records (block_octets other block) count number page meaning rest
      (stays blocks image other block page number meaning content others within here
      (λ i lt.
      let there : 256 * block + page + i ≡ 256 * block + (page + i) = omega arith in
      ap other there ∙ near (page + i) (omega arith) (omega (arith, lt)) ∙ sym (ap image there)))
      (records_stay block count (number_after number) (page + charge_of (length meaning.packet)) rest within behind
      (λ i low high. near i (omega (arith, low)) (omega (arith, high))))
      ∙ ap Some whole

  pub extent_stays : (extent : Extent) (records : List Meaning) → extent.block < blocks
      → read_extent image extent ≡ Some records
      → ((p : ℕ) → pages_from (256 * extent.block) (pages_in records) p ≡ true → other p ≡ image p)
      → read_extent other extent ≡ Some records
  unfolding read_extent
  extent_stays extent records within is same =
      records_stay extent.block extent.count extent.first 0 records within is
      (λ i low high. same (256 * extent.block + i)
      (in_pages (256 * extent.block) (pages_in records) (256 * extent.block + i) (omega arith)
      (omega (arith, high))))

pub extent_length : (image : ℕ → List ℕ) (extent : Extent) (records : List Meaning)
    → read_extent image extent ≡ Some records → length records ≡ extent.count
unfolding read_extent
extent_length image extent records is =
    records_length (block_octets image extent.block) extent.count extent.first 0 records is

-- what blocks gave of an extent

pub given_length : (extent : Extent) (records : List Meaning) → IsGiven extent records → length records ≡ extent.count
given_length extent records gives =
    records_length gives.block extent.count extent.first 0 records gives.spelled

pub given_within : (extent : Extent) (records : List Meaning) → IsGiven extent records → pages_in records ≤ 256
given_within extent records gives =
    let fits = records_within gives.block extent.count extent.first 0 records gives.whole gives.spelled (omega arith) in
    omega (arith, fits)

pub read_given : (blocks : ℕ) (image : ℕ → List ℕ) → IsContent blocks image → (extent : Extent)
    (records : List Meaning) → extent.block < blocks → read_extent image extent ≡ Some records
    → IsGiven extent records
unfolding read_extent
read_given blocks image content extent records within is = record {
  block = block_octets image extent.block;
  whole = octets_length blocks image 256 (256 * extent.block) content (omega (arith, within));
  spelled = is;
}

pub extent_within : (blocks : ℕ) (image : ℕ → List ℕ) → IsContent blocks image → (extent : Extent)
    (records : List Meaning) → extent.block < blocks → read_extent image extent ≡ Some records
    → pages_in records ≤ 256
extent_within blocks image content extent records within is =
    given_within extent records (read_given blocks image content extent records within is)
