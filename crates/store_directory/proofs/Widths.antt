-- How many octets a change has, where only those are there.
use Rattle.std.proofs.Common.{◌≡◌, ℕ, zero, suc, ◌+◌, ◌*◌, ◌≤◌, List, length, take, slice_index, sym, ap, ◌∙◌, arith}
use Rattle.std.proofs.lemmas.List.{length-take-le}
use Rattle.octet_fields.specs.Fields.{field}
use Rattle.store_directory.specs.Entries.{width_by, width_in}
use Rattle.octet_fields.proofs.Numbers.{field-take}

-- the number of links stands in the octets of a change of links
links_width : (width : ℕ) (text : List ℕ) → 5 ≤ width → 5 + 6 * field 2 3 (take width text) ≡ 5 + 6 * field 2 3 text
links_width width text long = ap (λ (n : ℕ). 5 + 6 * n) (field-take 2 3 width text (omega arith))

pub width_by-take : (tag width : ℕ) (text : List ℕ) → width ≡ width_by tag text → width_by tag (take width text) ≡ width
width_by-take zero width text is = sym is
width_by-take (suc zero) width text is = sym is
width_by-take (suc (suc zero)) width text is = sym is
width_by-take (suc (suc (suc zero))) width text is = sym is
width_by-take (suc (suc (suc (suc zero)))) width text is = sym is
width_by-take (suc (suc (suc (suc (suc zero))))) width text is = sym is
width_by-take (suc (suc (suc (suc (suc (suc zero)))))) width text is = links_width width text (omega arith) ∙ sym is
width_by-take (suc (suc (suc (suc (suc (suc (suc zero))))))) width text is = sym is
width_by-take (suc (suc (suc (suc (suc (suc (suc (suc tag)))))))) width text is = sym is

pub width_by-from_take : (tag width : ℕ) (text : List ℕ) → width_by tag (take width text) ≡ width → width_by tag text ≡ width
width_by-from_take zero width text is = is
width_by-from_take (suc zero) width text is = is
width_by-from_take (suc (suc zero)) width text is = is
width_by-from_take (suc (suc (suc zero))) width text is = is
width_by-from_take (suc (suc (suc (suc zero)))) width text is = is
width_by-from_take (suc (suc (suc (suc (suc zero))))) width text is = is
width_by-from_take (suc (suc (suc (suc (suc (suc zero)))))) width text is = sym (links_width width text (omega arith)) ∙ is
width_by-from_take (suc (suc (suc (suc (suc (suc (suc zero))))))) width text is = is
width_by-from_take (suc (suc (suc (suc (suc (suc (suc (suc tag)))))))) width text is = is

-- the octets of a change that a text begins with
pub width-cut : (width : ℕ) (text : List ℕ) → width ≡ width_in text → width ≤ length text
    → length (take width text) ≡ width_by (slice_index text 0) (take width text)
unfolding width_in
width-cut width text is within = length-take-le width text within ∙ sym (width_by-take (slice_index text 0) width text is)
