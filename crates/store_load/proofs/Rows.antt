-- The numbers of a lawful row.
use Rattle.std.proofs.Common.{◌≡◌, ℕ, ◌≤◌, ◌&&◌, nat_le, Bool, true, arith}
use Rattle.std.proofs.lemmas.Bool.{and_parts}
use Rattle.std.proofs.lemmas.Bool.Decides.{nat_tests}
use Rattle.store_directory.specs.Rows.{is_lawful_row, is_range}
use Rattle.store_directory.specs.declared.row.Row.{Row}

-- a lawful row has 100,000 pages at most, and no more records than pages
pub row_numbers : (row : Row) → is_lawful_row row ≡ true → (row.size ≤ 100000) × (row.count ≤ row.size)
row_numbers row lawful = numbers row.size row.channel row.count row.behind (is_range row.count row.range) lawful
  where
    numbers : (size channel count behind : ℕ) (range : Bool)
        → (nat_le 1 size && nat_le size 100000 && nat_le 1 channel && nat_le channel 7 && nat_le count size && nat_le behind count && range) ≡ true
        → (size ≤ 100000) × (count ≤ size)
    numbers size channel count behind range h =
        let front = (and_parts (nat_le 1 size && nat_le size 100000 && nat_le 1 channel && nat_le channel 7 && nat_le count size && nat_le behind count) range h).0 in
        (most size channel count behind front, fits size channel count behind front)
      where
        most : (size channel count behind : ℕ) → (nat_le 1 size && nat_le size 100000 && nat_le 1 channel && nat_le channel 7 && nat_le count size && nat_le behind count) ≡ true → size ≤ 100000
        most size channel count behind h = grind (arith, nat_tests)

        fits : (size channel count behind : ℕ) → (nat_le 1 size && nat_le size 100000 && nat_le 1 channel && nat_le channel 7 && nat_le count size && nat_le behind count) ≡ true → count ≤ size
        fits size channel count behind h = grind (arith, nat_tests)
