-- The rows behind a put are lawful.
use Rattle.std.proofs.Common.{◌≡◌, ℕ, ◌+◌, ◌-◌, ◌<◌, ◌≤◌, ◌^◌, ◌&&◌, nat_le, nat_lt, true, Option, Some, None, refl, arith}
use Rattle.std.proofs.lemmas.Bool.{and_from, and_parts, cond_both, le-leb, leb-true}
use Rattle.pst_model.specs.Table.{range_behind}
use Rattle.store_directory.specs.Rows.{FitsRow, is_lawful_row, is_range, range_end, range_next}
use Rattle.store_directory.specs.declared.row.Row.{Row}
use Rattle.put_laws.specs.Puts.{row_behind_put, told_row}

-- a range behind packets that left lies within those that are there then
range_in : (count gone : ℕ) (range : Option (ℕ × ℕ)) → is_range count range ≡ true → is_range (count - gone + 1) (range_behind gone range) ≡ true
range_in count gone None h = refl
range_in count gone (Some (next, end)) h =
    let within : end ≤ count = leb-true end count (and_parts (nat_lt next end) (nat_le end count) h).1 in
    cond_both (nat_lt (next - gone) (end - gone)) (Some (next - gone, end - gone)) None
    (λ (o : Option (ℕ × ℕ)). is_range (count - gone + 1) o ≡ true)
    (λ some. and_from (nat_lt (next - gone) (end - gone)) (nat_le (end - gone) (count - gone + 1)) some (le-leb (end - gone) (count - gone + 1) (omega (arith, within))))
    (λ none. refl)

-- and its positions fit as they did
next_low : (gone limit : ℕ) (range : Option (ℕ × ℕ)) → range_next range < limit → range_next (range_behind gone range) < limit
next_low gone limit None h = h
next_low gone limit (Some (next, end)) h =
    cond_both (nat_lt (next - gone) (end - gone)) (Some (next - gone, end - gone)) None
    (λ (o : Option (ℕ × ℕ)). range_next o < limit) (λ some. omega (arith, h)) (λ none. omega (arith, h))

end_low : (gone limit : ℕ) (range : Option (ℕ × ℕ)) → range_end range < limit → range_end (range_behind gone range) < limit
end_low gone limit None h = h
end_low gone limit (Some (next, end)) h =
    cond_both (nat_lt (next - gone) (end - gone)) (Some (next - gone, end - gone)) None
    (λ (o : Option (ℕ × ℕ)). range_end o < limit) (λ some. omega (arith, h)) (λ none. omega (arith, h))

pub put_lawful : (row : Row) (gone : ℕ) → is_lawful_row row ≡ true → row.count - gone + 1 ≤ row.size
    → is_lawful_row (row_behind_put gone row) ≡ true
put_lawful row gone lawful room = whole row.size row.channel row.count row.behind row.range lawful room
  where
    whole : (size channel count behind : ℕ) (range : Option (ℕ × ℕ))
        → (nat_le 1 size && nat_le size 100000 && nat_le 1 channel && nat_le channel 7 && nat_le count size && nat_le behind count && is_range count range) ≡ true
        → count - gone + 1 ≤ size
        → (nat_le 1 size && nat_le size 100000 && nat_le 1 channel && nat_le channel 7 && nat_le (count - gone + 1) size && nat_le (behind - gone) (count - gone + 1)
        && is_range (count - gone + 1) (range_behind gone range)) ≡ true
    whole size channel count behind range h room =
        let parts = and_parts (nat_le 1 size && nat_le size 100000 && nat_le 1 channel && nat_le channel 7 && nat_le count size && nat_le behind count) (is_range count range) h in
        let more = and_parts (nat_le 1 size && nat_le size 100000 && nat_le 1 channel && nat_le channel 7 && nat_le count size) (nat_le behind count) parts.0 in
        let rest = and_parts (nat_le 1 size && nat_le size 100000 && nat_le 1 channel && nat_le channel 7) (nat_le count size) more.0 in
        let passed : behind ≤ count = leb-true behind count more.1 in
        and_from (nat_le 1 size && nat_le size 100000 && nat_le 1 channel && nat_le channel 7 && nat_le (count - gone + 1) size && nat_le (behind - gone) (count - gone + 1))
        (is_range (count - gone + 1) (range_behind gone range))
        (and_from (nat_le 1 size && nat_le size 100000 && nat_le 1 channel && nat_le channel 7 && nat_le (count - gone + 1) size) (nat_le (behind - gone) (count - gone + 1))
        (and_from (nat_le 1 size && nat_le size 100000 && nat_le 1 channel && nat_le channel 7) (nat_le (count - gone + 1) size) rest.0 (le-leb (count - gone + 1) size room))
        (le-leb (behind - gone) (count - gone + 1) (omega (arith, passed))))
        (range_in count gone range parts.1)

pub put_fits : (row : Row) (gone : ℕ) → FitsRow row → row.count - gone + 1 ≤ row.size → FitsRow (row_behind_put gone row)
put_fits row gone fits room = record {
  identifier = fits.identifier;
  size = fits.size;
  channel = fits.channel;
  first = omega arith;
  count = omega (arith, room, fits.size);
  behind = omega (arith, fits.behind);
  next = next_low gone (2 ^ 32) row.range fits.next;
  end = end_low gone (2 ^ 32) row.range fits.end;
}

pub told_fits : (row : Row) → FitsRow row → FitsRow (told_row row)
told_fits row fits = record {
  identifier = fits.identifier;
  size = fits.size;
  channel = fits.channel;
  first = fits.first;
  count = fits.count;
  behind = fits.behind;
  next = fits.next;
  end = fits.end;
}
