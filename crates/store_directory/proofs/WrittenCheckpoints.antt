-- Checkpoints that were written are read back.
use Rattle.std.proofs.Common.{◌≡◌, ℕ, ◌*◌, ◌^◌, ◌<◌, ◌==◌, true, nat_le, List, [], ◌∷◌, ◌++◌, length, drop, Option, Some, refl, sym, ap, ◌∙◌, arith, append_assoc, eq-eqb, length-append}
use Rattle.std.specs.Prelude.{All}
use Rattle.std.proofs.lemmas.Bool.{le-leb}
use Rattle.std.proofs.lemmas.List.{drop_at}
use Rattle.std.proofs.lemmas.List.Elements.{All-head, All-tail}
use Rattle.byteorder.specs.Numbers.{big_number-reads_back, length-bytes_high_first}
use Rattle.octet_fields.specs.Fields.{big_bytes, field}
use Rattle.octet_fields.proofs.Rows.{length-rows}
use Rattle.control_defs.specs.declared.patterns.Pattern.{Pattern}
use Rattle.control_defs.specs.Patterns.{IsPattern}
use Rattle.control_defs.specs.PatternOctets.{pattern_octets}
use Rattle.control_defs.proofs.PatternOctets.{length-pattern_octets, spelled_pattern-octets}
use Rattle.record_view.specs.declared.link.Link.{Link}
use Rattle.store_directory.specs.Checkpoints.{Checkpoint, checkpoint_in, checkpoint_octets, counts_in, counts_octets, link_list_in, listed_in, listed_octets, number_of, octet_of, pattern_list_in, patterns_in, patterns_octets, stores_in, stores_octets, whole}
use Rattle.store_directory.specs.Directory.{Directory, Listed, FitsLink}
use Rattle.store_directory.specs.Entries.{link_octets, links_in, links_octets}
use Rattle.store_directory.specs.Fitting.{FitsDirectory, FitsListed}
use Rattle.store_directory.specs.Options.{◌>>=◌, given}
use Rattle.store_directory.proofs.CountTexts.{counts_in-octets}
use Rattle.store_directory.proofs.LinkTexts.{length-link_octets, links_in-octets}
use Rattle.store_directory.proofs.RowTexts.{row_in-octets}
use Rattle.store_directory.proofs.StoreTexts.{listed-parts, stores-step}

-- a number in front
number_of-octets : (width n : ℕ) (rest : List ℕ) → n < 256 ^ width → number_of width (big_bytes width n ++ rest) ≡ Some (n, rest)
number_of-octets width n rest fits =
    let octets = big_bytes width n ++ rest in
    let size : length (big_bytes width n) ≡ width = length-bytes_high_first width n in
    let long : nat_le width (length octets) ≡ true = le-leb width (length octets) (omega (arith, length-append (big_bytes width n) rest, size)) in
    ap (λ o. given o >>= λ _. Some (field width 0 octets, drop width octets)) long
    ∙ (λ i. Some (big_number-reads_back width n rest fits i, drop_at (big_bytes width n) rest width size i))

-- patterns, behind their number

patterns_in-octets : (patterns : List Pattern) (rest : List ℕ) → All IsPattern patterns → patterns_in (length patterns) (patterns_octets patterns ++ rest) ≡ Some patterns
patterns_in-octets [] rest fit = refl
patterns_in-octets (pattern ∷ patterns) rest fit =
    let behind = patterns_octets patterns ++ rest in
    let octets = pattern_octets pattern ++ behind in
    let whole : patterns_octets (pattern ∷ patterns) ++ rest ≡ octets = append_assoc (pattern_octets pattern) (patterns_octets patterns) rest in
    let first = spelled_pattern-octets pattern behind (All-head IsPattern pattern patterns fit) in
    let left = drop_at (pattern_octets pattern) behind 5 (length-pattern_octets pattern) in
    let others = patterns_in-octets patterns rest (All-tail IsPattern pattern patterns fit) in
    ap (patterns_in (length (pattern ∷ patterns))) whole
    ∙ ap (λ (o : Option Pattern). o >>= λ pattern. patterns_in (length patterns) (drop 5 octets) >>= λ patterns. Some (pattern ∷ patterns)) first
    ∙ ap (λ (octets : List ℕ). patterns_in (length patterns) octets >>= λ patterns. Some (pattern ∷ patterns)) left
    ∙ ap (λ (o : Option (List Pattern)). o >>= λ patterns. Some (pattern ∷ patterns)) others

pattern_list_in-octets : (patterns : List Pattern) (rest : List ℕ) → All IsPattern patterns
    → pattern_list_in (length patterns ∷ (patterns_octets patterns ++ rest)) ≡ Some (patterns, rest)
pattern_list_in-octets patterns rest fit =
    let octets = patterns_octets patterns ++ rest in
    ap (λ (o : Option (List Pattern)). o >>= λ patterns'. Some (patterns', drop (5 * length patterns) octets)) (patterns_in-octets patterns rest fit)
    ∙ ap (λ (left : List ℕ). Some (patterns, left))
    (drop_at (patterns_octets patterns) rest (5 * length patterns) (length-rows pattern_octets 5 length-pattern_octets patterns))

-- links, behind their number
link_list_in-octets : (links : List Link) (rest : List ℕ) → length links < 2 ^ 16 → All FitsLink links
    → link_list_in (big_bytes 2 (length links) ++ (links_octets links ++ rest)) ≡ Some (links, rest)
link_list_in-octets links rest few fit =
    let octets = links_octets links ++ rest in
    let size = length-rows link_octets 6 length-link_octets links in
    let long : nat_le (6 * length links) (length octets) ≡ true = le-leb (6 * length links) (length octets) (omega (arith, size, length-append (links_octets links) rest)) in
    ap (λ (o : Option (ℕ × List ℕ)). o >>= λ (count, text). given (nat_le (6 * count) (length text)) >>= λ _. Some (links_in count text, drop (6 * count) text))
    (number_of-octets 2 (length links) octets few)
    ∙ ap (λ o. given o >>= λ _. Some (links_in (length links) octets, drop (6 * length links) octets)) long
    ∙ (λ i. Some (links_in-octets links rest fit i, drop_at (links_octets links) rest (6 * length links) size i))

-- stores, one behind another

listed_in-octets : (s : Listed) (rest : List ℕ) → FitsListed s → listed_in (listed_octets s ++ rest) ≡ Some (s, rest)
listed_in-octets s rest fits =
    let patterns = patterns_octets s.patterns in
    let number = big_bytes 2 (length s.links) in
    let links = links_octets s.links in
    let more = number ++ (links ++ rest) in
    let behind = length s.patterns ∷ (patterns ++ more) in
    let same : behind ≡ drop 29 (listed_octets s ++ rest) =
    ap (λ (l : List ℕ). length s.patterns ∷ l)
    (sym (append_assoc patterns number (links ++ rest)) ∙ sym (append_assoc (patterns ++ number) links rest)) in
    listed-parts (listed_octets s ++ rest) behind more rest s.row s.patterns s.links
    (row_in-octets s.row (length s.patterns ∷ (((patterns ++ number) ++ links) ++ rest)) fits.row) same
    (pattern_list_in-octets s.patterns more fits.patterns.each) (link_list_in-octets s.links rest fits.few fits.links)

stores_in-octets : (stores : List Listed) (rest : List ℕ) → All FitsListed stores → stores_in (length stores) (stores_octets stores ++ rest) ≡ Some (stores, rest)
stores_in-octets [] rest fit = refl
stores_in-octets (s ∷ stores) rest fit =
    let behind = stores_octets stores ++ rest in
    let whole : stores_octets (s ∷ stores) ++ rest ≡ listed_octets s ++ behind = append_assoc (listed_octets s) (stores_octets stores) rest in
    ap (stores_in (length (s ∷ stores))) whole
    ∙ stores-step (length stores) (listed_octets s ++ behind) behind s (listed_in-octets s behind (All-head FitsListed s stores fit))
    ∙ ap (λ (o : Option (List Listed × List ℕ)). o >>= λ (stores, text). Some (s ∷ stores, text)) (stores_in-octets stores rest (All-tail FitsListed s stores fit))

-- the steps of a reader, from the last

abbrev from_stores : (blocks now reports : ℕ) → List Pattern → List Listed × List ℕ → Option Checkpoint
from_stores blocks now reports forward = λ (stores, text).
    given (length text == 4 * blocks) >>= λ _. Some (whole now reports forward stores (counts_in blocks text))

abbrev from_count : (blocks now reports : ℕ) → List Pattern → ℕ × List ℕ → Option Checkpoint
from_count blocks now reports forward = λ (count, text). stores_in count text >>= from_stores blocks now reports forward

abbrev from_forward : (blocks now reports : ℕ) → List Pattern × List ℕ → Option Checkpoint
from_forward blocks now reports = λ (forward, text). octet_of text >>= from_count blocks now reports forward

abbrev from_reports : (blocks now : ℕ) → ℕ × List ℕ → Option Checkpoint
from_reports blocks now = λ (reports, text). pattern_list_in text >>= from_forward blocks now reports

abbrev from_now : (blocks : ℕ) → ℕ × List ℕ → Option Checkpoint
from_now blocks = λ (now, text). number_of 2 text >>= from_reports blocks now

pub checkpoint_in-octets : (d : Directory) (wear : List ℕ) → FitsDirectory d → All (λ (count : ℕ). count < 2 ^ 32) wear
    → checkpoint_in (length wear) (checkpoint_octets d wear) ≡ Some (record { directory = d; wear = wear })
unfolding checkpoint_in checkpoint_octets
checkpoint_in-octets d wear fits counts =
    let blocks = length wear in
    let patterns = patterns_octets d.forward in
    let behind_count = stores_octets d.stores ++ counts_octets wear in
    let behind_forward = length d.stores ∷ behind_count in
    let behind_reports = length d.forward ∷ (patterns ++ behind_forward) in
    let behind_now = big_bytes 2 d.reports ++ behind_reports in
    let grouped : checkpoint_octets d wear ≡ big_bytes 6 d.now ++ behind_now =
    ap (λ (l : List ℕ). big_bytes 6 d.now ++ (big_bytes 2 d.reports ++ (length d.forward ∷ l)))
    (append_assoc patterns (length d.stores ∷ stores_octets d.stores) (counts_octets wear)) in
    let size = length-rows (big_bytes 4) 4 (length-bytes_high_first 4) wear in
    ap (checkpoint_in blocks) grouped
    ∙ ap (λ (o : Option (ℕ × List ℕ)). o >>= from_now blocks) (number_of-octets 6 d.now behind_now fits.now)
    ∙ ap (λ (o : Option (ℕ × List ℕ)). o >>= from_reports blocks d.now) (number_of-octets 2 d.reports behind_reports fits.reports)
    ∙ ap (λ (o : Option (List Pattern × List ℕ)). o >>= from_forward blocks d.now d.reports) (pattern_list_in-octets d.forward behind_forward fits.forward.each)
    ∙ ap (λ (o : Option (List Listed × List ℕ)). o >>= from_stores blocks d.now d.reports d.forward) (stores_in-octets d.stores (counts_octets wear) fits.stores)
    ∙ ap (λ b. given b >>= λ _. Some (whole d.now d.reports d.forward d.stores (counts_in blocks (counts_octets wear)))) (eq-eqb (length (counts_octets wear)) (4 * blocks) size)
    ∙ ap (λ (w : List ℕ). Some (whole d.now d.reports d.forward d.stores w)) (counts_in-octets wear counts)
