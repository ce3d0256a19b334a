-- The text of a checkpoint, part by part.
use Rattle.std.proofs.Common.{◌≡◌, ℕ, ◌+◌, ◌*◌, List, [], ◌∷◌, ◌++◌, length, refl, sym, ap, ◌∙◌, append_assoc, arith, length-append}
use Rattle.octet_fields.specs.Fields.{big_bytes}
use Rattle.octet_fields.proofs.Rows.{length-rows}
use Rattle.control_defs.specs.PatternOctets.{pattern_octets}
use Rattle.control_defs.proofs.PatternOctets.{length-pattern_octets}
use Rattle.control_defs.specs.declared.patterns.Pattern.{Pattern}
use Rattle.store_directory.specs.Checkpoints.{checkpoint_octets, counts_octets, patterns_octets, stores_octets}
use Rattle.store_directory.specs.Directory.{Directory, Listed}

-- the parts in the order in which they are written
abbrev pub in_turn : (now reports : ℕ) → (forward : List Pattern) → (count : ℕ) → List Listed → (wear : List ℕ) → List ℕ
in_turn now reports forward count stores wear =
    ((((big_bytes 6 now ++ big_bytes 2 reports) ++ (length forward ∷ patterns_octets forward)) ++ count ∷ []) ++ stores_octets stores) ++ counts_octets wear

pub parts-are : (d : Directory) (wear : List ℕ) → in_turn d.now d.reports d.forward (length d.stores) d.stores wear ≡ checkpoint_octets d wear
unfolding checkpoint_octets
parts-are d wear =
    let front = (big_bytes 6 d.now ++ big_bytes 2 d.reports) ++ (length d.forward ∷ patterns_octets d.forward) in
    ap (λ (l : List ℕ). l ++ counts_octets wear) (append_assoc front (length d.stores ∷ []) (stores_octets d.stores))

four-octets : (count : ℕ) → length (big_bytes 4 count) ≡ 4
four-octets count = refl

pub length-parts : (d : Directory) (wear : List ℕ) → length (checkpoint_octets d wear) ≡ 10 + 5 * length d.forward + length (stores_octets d.stores) + 4 * length wear
length-parts d wear =
    let head = big_bytes 6 d.now ++ big_bytes 2 d.reports in
    let patterns = length d.forward ∷ patterns_octets d.forward in
    let one = length-append head patterns in
    let two = length-append (head ++ patterns) (length d.stores ∷ []) in
    let three = length-append ((head ++ patterns) ++ length d.stores ∷ []) (stores_octets d.stores) in
    let four = length-append (((head ++ patterns) ++ length d.stores ∷ []) ++ stores_octets d.stores) (counts_octets wear) in
    sym (ap length (parts-are d wear))
    ∙ omega (arith, one, two, three, four, length-rows pattern_octets 5 length-pattern_octets d.forward, length-rows (big_bytes 4) 4 four-octets wear)
