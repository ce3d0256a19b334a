-- Erase counts in a text.
use Rattle.std.proofs.Common.{◌≡◌, ℕ, zero, suc, ◌+◌, ◌*◌, ◌<◌, ◌^◌, List, [], ◌∷◌, ◌++◌, length, get_or, set, take, drop, refl, sym, ap, ◌∙◌, arith}
use Rattle.std.specs.Prelude.{All}
use Rattle.std.proofs.lemmas.List.{take_more, take_more_set}
use Rattle.std.proofs.lemmas.List.Elements.{All-head, All-tail}
use Rattle.byteorder.specs.Numbers.{big_number-reads_back}
use Rattle.octet_fields.specs.Fields.{field}
use Rattle.store_directory.specs.Checkpoints.{counts_in, counts_octets}
use Rattle.octet_fields.proofs.Numbers.{number_behind}

pub length-counts_in : (count : ℕ) (text : List ℕ) → length (counts_in count text) ≡ count
length-counts_in zero text = refl
length-counts_in (suc count) text = omega (arith, length-counts_in count (drop 4 text))

-- the count at a place
pub get_or-counts_in : (count at d : ℕ) (text : List ℕ) → at < count → get_or (counts_in count text) at d ≡ field 4 (4 * at) text
get_or-counts_in zero at d text within = absurd (omega arith)
get_or-counts_in (suc count) zero d text within = refl
get_or-counts_in (suc count) (suc at) d text within =
    get_or-counts_in count at d (drop 4 text) (omega arith) ∙ sym (number_behind 4 (4 * at) 4 text) ∙ ap (λ (n : ℕ). field 4 n text) (omega arith)

-- one more count in its place
pub copied-more : (wear counts : List ℕ) (i count : ℕ) → i < length wear → i < length counts → take i wear ≡ take i counts → count ≡ get_or counts i 0
    → take (i + 1) (set wear i count) ≡ take (i + 1) counts
copied-more wear counts i count here there same is =
    take_more_set wear i count here ∙ (λ j. same j ++ is j ∷ []) ∙ sym (take_more counts i 0 there)

-- counts that were written are read back
pub counts_in-octets : (counts : List ℕ) → All (λ (count : ℕ). count < 2 ^ 32) counts → counts_in (length counts) (counts_octets counts) ≡ counts
counts_in-octets [] fit = refl
counts_in-octets (count ∷ counts) fit =
    let first = big_number-reads_back 4 count (counts_octets counts) (All-head (λ (count : ℕ). count < 2 ^ 32) count counts fit) in
    let rest = counts_in-octets counts (All-tail (λ (count : ℕ). count < 2 ^ 32) count counts fit) in
    (λ i. first i ∷ rest i)
