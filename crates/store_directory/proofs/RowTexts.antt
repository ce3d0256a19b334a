-- A row that was written is read back.
use Rattle.std.proofs.Common.{◌≡◌, ℕ, ◌+◌, ◌/◌, ◌%◌, ◌^◌, ◌<◌, ◌==◌, ◌&&◌, ◌||◌, Bool, true, false, nat_le, nat_lt, List, ◌∷◌, ◌++◌, length, Option, Some, None, refl, ◌∙◌, ap, arith}
use Rattle.std.specs.Prelude.{if◌then◌else◌}
use Rattle.std.proofs.lemmas.Bool.{cond-true, le-leb}
use Rattle.byteorder.specs.Endian.{big_number}
use Rattle.byteorder.specs.Numbers.{big_number-reads_back}
use Rattle.octet_fields.specs.Fields.{big_bytes, field}
use Rattle.control_defs.specs.Instructions.{kind_octet, store_kind_in}
use Rattle.control_defs.specs.declared.instructions.StoreKind.{StoreKind}
use Rattle.control_defs.specs.declared.instructions.StoreKind.TheVariants.{Circular, Bounded}
use Rattle.store_directory.specs.declared.row.Row.{Row}
use Rattle.store_directory.specs.Rows.{FitsRow, flag_bit, flags_of, has_range, is_row_text, range_end, range_in, range_next, row_by, row_in, row_octets}

-- flags by their bits

abbrev flags_by : (storage open_on told range : Bool) → ℕ
flags_by storage open_on told range = flag_bit storage 1 + (flag_bit open_on 2 + (flag_bit told 4 + flag_bit range 8))

record FlagsBack (storage open_on told range : Bool) : Type 0 where
  low : nat_lt (flags_by storage open_on told range) 16 ≡ true
  first : (flags_by storage open_on told range % 2 == 1) ≡ storage
  second : (flags_by storage open_on told range / 2 % 2 == 1) ≡ open_on
  third : (flags_by storage open_on told range / 4 % 2 == 1) ≡ told
  fourth : nat_le 8 (flags_by storage open_on told range) ≡ range

flags_back : (s o t r : Bool) → FlagsBack s o t r
flags_back false false false false = record { low = refl; first = refl; second = refl; third = refl; fourth = refl }
flags_back false false false true = record { low = refl; first = refl; second = refl; third = refl; fourth = refl }
flags_back false false true false = record { low = refl; first = refl; second = refl; third = refl; fourth = refl }
flags_back false false true true = record { low = refl; first = refl; second = refl; third = refl; fourth = refl }
flags_back false true false false = record { low = refl; first = refl; second = refl; third = refl; fourth = refl }
flags_back false true false true = record { low = refl; first = refl; second = refl; third = refl; fourth = refl }
flags_back false true true false = record { low = refl; first = refl; second = refl; third = refl; fourth = refl }
flags_back false true true true = record { low = refl; first = refl; second = refl; third = refl; fourth = refl }
flags_back true false false false = record { low = refl; first = refl; second = refl; third = refl; fourth = refl }
flags_back true false false true = record { low = refl; first = refl; second = refl; third = refl; fourth = refl }
flags_back true false true false = record { low = refl; first = refl; second = refl; third = refl; fourth = refl }
flags_back true false true true = record { low = refl; first = refl; second = refl; third = refl; fourth = refl }
flags_back true true false false = record { low = refl; first = refl; second = refl; third = refl; fourth = refl }
flags_back true true false true = record { low = refl; first = refl; second = refl; third = refl; fourth = refl }
flags_back true true true false = record { low = refl; first = refl; second = refl; third = refl; fourth = refl }
flags_back true true true true = record { low = refl; first = refl; second = refl; third = refl; fourth = refl }

low_kind : (kind : StoreKind) → nat_le (kind_octet kind) 1 ≡ true
low_kind Circular = refl
low_kind Bounded = refl

kind_back : (kind : StoreKind) → store_kind_in (kind_octet kind) ≡ kind
kind_back Circular = refl
kind_back Bounded = refl

-- the positions of a range, which are 0 where there is none

abbrev without_positions : Option (ℕ × ℕ) → Bool
without_positions range = big_number 4 (big_bytes 4 (range_next range)) == 0 && big_number 4 (big_bytes 4 (range_end range)) == 0

range_or_none : (range : Option (ℕ × ℕ)) → (has_range range || without_positions range) ≡ true
range_or_none None = refl
range_or_none (Some range) = refl

range_back : (range : Option (ℕ × ℕ)) (rest : List ℕ) → range_next range < 2 ^ 32 → range_end range < 2 ^ 32
    → (if has_range range then Some (big_number 4 (big_bytes 4 (range_next range) ++ (big_bytes 4 (range_end range) ++ rest)), big_number 4 (big_bytes 4 (range_end range) ++ rest)) else None) ≡ range
range_back None rest next end = refl
range_back (Some range) rest next end =
    (λ i. Some (big_number-reads_back 4 range.0 (big_bytes 4 range.1 ++ rest) next i, big_number-reads_back 4 range.1 rest end i))

module _ (row : Row) (rest : List ℕ) where
  is_text : is_row_text (row_octets row ++ rest) ≡ true
  is_text =
      let long = le-leb 29 (length (row_octets row ++ rest)) (omega arith) in
      let flags = flags_back row.storage row.open_on row.told (has_range row.range) in
      let last : (nat_le 8 (flags_of row) || without_positions row.range) ≡ true =
      ap (λ (set : Bool). set || without_positions row.range) flags.fourth ∙ range_or_none row.range in
      rw (long, low_kind row.kind, flags.low, last) refl

  row_back : FitsRow row → row_by (row_octets row ++ rest) ≡ row
  row_back fits =
      let flags = flags_back row.storage row.open_on row.told (has_range row.range) in
      let behind_next = big_bytes 4 (range_end row.range) ++ rest in
      let behind_behind = big_bytes 4 (range_next row.range) ++ behind_next in
      let behind_count = big_bytes 4 row.behind ++ behind_behind in
      let behind_first = big_bytes 4 row.count ++ behind_count in
      let behind_size = row.channel ∷ flags_of row ∷ big_bytes 4 row.first ++ behind_first in
      let behind_identifier = kind_octet row.kind ∷ big_bytes 4 row.size ++ behind_size in
      let identifier = big_number-reads_back 2 row.identifier behind_identifier fits.identifier in
      let size = big_number-reads_back 4 row.size behind_size fits.size in
      let first = big_number-reads_back 4 row.first behind_first fits.first in
      let count = big_number-reads_back 4 row.count behind_count fits.count in
      let behind = big_number-reads_back 4 row.behind behind_behind fits.behind in
      let range : range_in (row_octets row ++ rest) ≡ row.range =
      ap (λ (set : Bool). if set then Some (field 4 21 (row_octets row ++ rest), field 4 25 (row_octets row ++ rest)) else None) flags.fourth
      ∙ range_back row.range rest fits.next fits.end in
      (λ i. record {
        identifier = identifier i;
        kind = kind_back row.kind i;
        size = size i;
        channel = row.channel;
        storage = flags.first i;
        open_on = flags.second i;
        told = flags.third i;
        first = first i;
        count = count i;
        behind = behind i;
        range = range i;
      })

  -- whatever stands behind it
  pub row_in-octets : FitsRow row → row_in (row_octets row ++ rest) ≡ Some row
  unfolding row_in
  row_in-octets fits =
      cond-true (is_row_text (row_octets row ++ rest)) (Some (row_by (row_octets row ++ rest))) None is_text ∙ ap Some (row_back fits)
