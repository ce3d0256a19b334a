-- Links in a text.
use Rattle.std.proofs.Common.{◌≡◌, ℕ, zero, suc, ◌+◌, ◌*◌, ◌^◌, ◌<◌, List, [], ◌∷◌, ◌++◌, length, drop, Some, refl, sym, ap, ◌∙◌, subst, arith}
use Rattle.std.specs.Prelude.{All, slice_get}
use Rattle.std.proofs.lemmas.List.Elements.{All-cons, All-head, All-tail}
use Rattle.byteorder.specs.Numbers.{big_number-reads_back}
use Rattle.byteorder.specs.Endian.{big_number}
use Rattle.octet_fields.proofs.Numbers.{HasOctets, HasOctets-drop, field-lt, number_behind}
use Rattle.octet_fields.specs.Fields.{big_bytes, field}
use Rattle.record_view.specs.declared.link.Link.{Link}
use Rattle.store_directory.specs.Directory.{FitsLink}
use Rattle.store_directory.specs.Entries.{link_octets, links_in, links_octets}

pub length-links_in : (count : ℕ) (octets : List ℕ) → length (links_in count octets) ≡ count
length-links_in zero octets = refl
length-links_in (suc count) octets = omega (arith, length-links_in count (drop 6 octets))

-- the link at a place
abbrev pub link_at : (at : ℕ) → List ℕ → Link
link_at at octets = record { block = field 2 (6 * at) octets; first = field 4 (6 * at + 2) octets }

link_behind : (at : ℕ) (octets : List ℕ) → link_at at (drop 6 octets) ≡ link_at (suc at) octets
link_behind at octets =
    let block : field 2 (6 * at) (drop 6 octets) ≡ field 2 (6 * suc at) octets =
    sym (number_behind 2 (6 * at) 6 octets) ∙ ap (λ (n : ℕ). field 2 n octets) (omega arith) in
    let first : field 4 (6 * at + 2) (drop 6 octets) ≡ field 4 (6 * suc at + 2) octets =
    sym (number_behind 4 (6 * at + 2) 6 octets) ∙ ap (λ (n : ℕ). field 4 n octets) (omega arith) in
    rw (block, first) refl

pub slice_get-links_in : (count at : ℕ) (octets : List ℕ) → at < count → slice_get (links_in count octets) at ≡ Some (link_at at octets)
slice_get-links_in zero at octets within = absurd (omega arith)
slice_get-links_in (suc count) zero octets within = refl
slice_get-links_in (suc count) (suc at) octets within =
    slice_get-links_in count at (drop 6 octets) (omega arith) ∙ ap Some (link_behind at octets)

pub links_fit : (count : ℕ) (octets : List ℕ) → HasOctets octets → All FitsLink (links_in count octets)
links_fit zero octets fit = λ k d lt. absurd (omega arith)
links_fit (suc count) octets fit =
    All-cons FitsLink _ (links_in count (drop 6 octets)) (field-lt 2 0 octets fit, field-lt 4 2 octets fit)
    (links_fit count (drop 6 octets) (HasOctets-drop 6 octets fit))

-- a place in a view of links
pub place_within : (count at : ℕ) (octets : List ℕ) (links : List Link) → links_in count octets ≡ links → at < length links → at < count
place_within count at octets links same within = omega (arith, ap length same, length-links_in count octets)

-- links that were written are read back
pub links_in-octets : (links : List Link) (rest : List ℕ) → All FitsLink links → links_in (length links) (links_octets links ++ rest) ≡ links
links_in-octets [] rest fit = refl
links_in-octets (link ∷ links) rest fit =
    let fits = All-head FitsLink link links fit in
    let behind = links_octets links ++ rest in
    let block : big_number 2 (big_bytes 2 link.block ++ (big_bytes 4 link.first ++ behind)) ≡ link.block = big_number-reads_back 2 link.block (big_bytes 4 link.first ++ behind) fits.0 in
    let first = big_number-reads_back 4 link.first behind fits.1 in
    (λ i. record { block = block i; first = first i } ∷ links_in-octets links rest (All-tail FitsLink link links fit) i)

pub length-link_octets : (link : Link) → length (link_octets link) ≡ 6
length-link_octets link = refl

-- what is read of a change of links fits its octets
pub links_fits : (store count : ℕ) (octets : List ℕ) (links : List Link) → store < 2 ^ 16 → count < 2 ^ 16 → HasOctets octets
    → links ≡ links_in count octets → (store < 2 ^ 16) × (length links < 2 ^ 16) × All FitsLink links
links_fits store count octets links low few fit same =
    (low, omega (arith, ap length same, length-links_in count octets), subst (All FitsLink) (sym same) (links_fit count octets fit))
