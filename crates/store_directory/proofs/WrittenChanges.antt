-- Changes that were written are read back.
use Rattle.std.proofs.Common.{◌≡◌, ℕ, ◌≤◌, ◌<◌, ◌^◌, Bool, true, false, List, [], ◌∷◌, ◌++◌, length, slice_index, Some, refl, sym, ap, ◌∙◌, arith}
use Rattle.std.specs.Prelude.{All}
use Rattle.std.specs.Option.{option_map}
use Rattle.std.proofs.lemmas.List.{append-nil, drop_at}
use Rattle.std.proofs.lemmas.List.Elements.{All-head, All-tail}
use Rattle.byteorder.specs.Numbers.{big_number-reads_back}
use Rattle.octet_fields.specs.Fields.{big_bytes, field}
use Rattle.octet_fields.proofs.Rows.{length-rows}
use Rattle.control_defs.specs.declared.patterns.Pattern.{Pattern}
use Rattle.control_defs.specs.Patterns.{IsPattern}
use Rattle.control_defs.specs.PatternOctets.{pattern_octets, spelled_pattern}
use Rattle.control_defs.proofs.PatternOctets.{length-pattern_octets, spelled_pattern-octets}
use Rattle.record_view.specs.declared.link.Link.{Link}
use Rattle.store_directory.specs.Changes.{Change, Clock, Forward, Gone, Links, Put, Swap, Types}
use Rattle.store_directory.specs.Entries.{FitsChange, add_in, add_octet, change_by, change_in, change_octets, changes_in, entry_octets, link_octets, links_in, links_octets, width_in}
use Rattle.store_directory.specs.Directory.{FitsLink}
use Rattle.store_directory.specs.Options.{◌>>=◌}
use Rattle.store_directory.proofs.ChangeTexts.{Begins_too, change_in-append, change_in-whole}
use Rattle.store_directory.proofs.EntryTexts.{changes_in-nothing, changes_in-step, then_changes}
use Rattle.store_directory.proofs.LinkTexts.{length-link_octets, links_in-octets}
use Rattle.store_directory.proofs.RowTexts.{row_in-octets}

-- a change has as many octets as its tag says
pub width-octets : (change : Change) → FitsChange change → width_in (change_octets change) ≡ length (change_octets change)
unfolding width_in
width-octets (Clock now reports) fits = refl
width-octets (Put row) fits = refl
width-octets (Gone store) fits = refl
width-octets (Forward add pattern) fits = omega (arith, length-pattern_octets pattern)
width-octets (Types store add pattern) fits = omega (arith, length-pattern_octets pattern)
width-octets (Links store links) fits =
    let count = big_number-reads_back 2 (length links) (links_octets links) fits.1 in
    omega (arith, count, length-rows link_octets 6 length-link_octets links)
width-octets (Swap store link) fits = refl

pub change_octets-some : (change : Change) → 1 ≤ length (change_octets change)
change_octets-some (Clock now reports) = omega arith
change_octets-some (Put row) = omega arith
change_octets-some (Gone store) = omega arith
change_octets-some (Forward add pattern) = omega arith
change_octets-some (Types store add pattern) = omega arith
change_octets-some (Links store links) = omega arith
change_octets-some (Swap store link) = omega arith

add_back : (add : Bool) → add_in (add_octet add) ≡ Some add
add_back false = refl
add_back true = refl

pattern_back : (pattern : Pattern) → IsPattern pattern → spelled_pattern (pattern_octets pattern) ≡ Some pattern
pattern_back pattern lawful = ap spelled_pattern (sym (append-nil (pattern_octets pattern))) ∙ spelled_pattern-octets pattern [] lawful

links_back : (links : List Link) → length links < 2 ^ 16 → All FitsLink links → links_in (field 2 0 (big_bytes 2 (length links) ++ links_octets links)) (links_octets links) ≡ links
links_back links few fit =
    ap (λ (n : ℕ). links_in n (links_octets links)) (big_number-reads_back 2 (length links) (links_octets links) few)
    ∙ ap (links_in (length links)) (sym (append-nil (links_octets links))) ∙ links_in-octets links [] fit

change_by-octets : (change : Change) → FitsChange change → change_by (slice_index (change_octets change) 0) (change_octets change) ≡ Some change
change_by-octets (Clock now reports) fits =
    (λ i. Some (Clock (big_number-reads_back 6 now (big_bytes 2 reports) fits.0 i) (big_number-reads_back 2 reports [] fits.1 i)))
change_by-octets (Put row) fits = ap (option_map Put) (row_in-octets row [] fits)
change_by-octets (Gone store) fits = (λ i. Some (Gone (big_number-reads_back 2 store [] fits i)))
change_by-octets (Forward add pattern) fits =
    (λ i. add_back add i >>= λ add. pattern_back pattern fits.0 i >>= λ pattern. Some (Forward add pattern))
change_by-octets (Types store add pattern) fits =
    (λ i. add_back add i >>= λ add. pattern_back pattern fits.1 i >>= λ pattern. Some (Types (big_number-reads_back 2 store (add_octet add ∷ pattern_octets pattern) fits.0 i) add pattern))
change_by-octets (Links store links) fits =
    (λ i. Some (Links (big_number-reads_back 2 store (big_bytes 2 (length links) ++ links_octets links) fits.0 i) (links_back links fits.1 fits.2 i)))
change_by-octets (Swap store link) fits =
    (λ i. Some (Swap (big_number-reads_back 2 store (link_octets link) fits.0 i) (record {
      block = big_number-reads_back 2 link.block (big_bytes 4 link.first) fits.1.0 i;
      first = big_number-reads_back 4 link.first [] fits.1.1 i;
    })))

change_in-octets : (change : Change) → FitsChange change → change_in (change_octets change) ≡ Some change
change_in-octets change fits =
    change_in-whole (change_octets change) change (change_octets-some change) (width-octets change fits) (change_by-octets change fits)

-- whatever stands behind it
pub written_begins : (change : Change) (rest : List ℕ) → FitsChange change → Begins_too (change_octets change) (change_octets change ++ rest) change
written_begins change rest fits = change_in-append (change_octets change) rest change (change_in-octets change fits)

pub changes_in-octets : (changes : List Change) → All FitsChange changes → changes_in (entry_octets changes) ≡ Some changes
changes_in-octets [] fit = changes_in-nothing
changes_in-octets (change ∷ changes) fit =
    let fits = All-head FitsChange change changes fit in
    let octets = change_octets change in
    let rest = entry_octets changes in
    let begins = written_begins change rest fits in
    changes_in-step (octets ++ rest) change begins.spelled
    ∙ ap (λ (text : List ℕ). then_changes change (changes_in text))
    (drop_at octets rest (width_in (octets ++ rest)) (sym (begins.width ∙ width-octets change fits)))
    ∙ ap (then_changes change) (changes_in-octets changes (All-tail FitsChange change changes fit))
