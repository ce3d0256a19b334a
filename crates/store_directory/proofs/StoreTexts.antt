-- Stores in a text.
use Rattle.std.proofs.Common.{◌≡◌, ℕ, zero, suc, ◌+◌, ◌-◌, ◌*◌, ◌<◌, ◌≤◌, true, false, List, [], ◌∷◌, ◌++◌, length, drop, Option, Some, None, refl, sym, ap, ◌∙◌, arith, append_assoc, length-append}
use Rattle.std.specs.Prelude.{is_some}
use Rattle.octet_fields.specs.Fields.{big_bytes}
use Rattle.octet_fields.proofs.Rows.{length-rows}
use Rattle.control_defs.specs.declared.patterns.Pattern.{Pattern}
use Rattle.control_defs.specs.PatternOctets.{pattern_octets}
use Rattle.control_defs.proofs.PatternOctets.{length-pattern_octets}
use Rattle.record_view.specs.declared.link.Link.{Link}
use Rattle.store_directory.specs.Checkpoints.{link_list_in, listed_in, listed_octets, pattern_list_in, patterns_octets, stores_in}
use Rattle.store_directory.specs.Directory.{Listed}
use Rattle.store_directory.specs.Entries.{link_octets, links_octets}
use Rattle.store_directory.specs.Rows.{row_in}
use Rattle.store_directory.specs.declared.row.Row.{Row}
use Rattle.store_directory.proofs.LinkTexts.{length-link_octets}
use Rattle.store_directory.specs.Options.{◌>>=◌}
use Rattle.store_directory.specs.Views.{listed_as, stores_of_read, stores_read}

-- stores in front of those that are read behind them

abbrev Read : Type 0
Read = Option (List Listed × List ℕ)

abbrev pub behind_stores : List Listed → Option (List Listed × List ℕ) → Option (List Listed × List ℕ)
behind_stores before found = found >>= λ (stores, text). Some (before ++ stores, text)

abbrev one_store : (count : ℕ) → Listed × List ℕ → Read
one_store count = λ (s, text). stores_in count text >>= λ (stores, text). Some (s ∷ stores, text)

pub stores-step : (count : ℕ) (text rest : List ℕ) (s : Listed) → listed_in text ≡ Some (s, rest)
    → stores_in (suc count) text ≡ (stores_in count rest >>= λ (stores, text). Some (s ∷ stores, text))
stores-step count text rest s is = ap (λ (o : Option (Listed × List ℕ)). o >>= one_store count) is

no_step : (count : ℕ) (text : List ℕ) → listed_in text ≡ None → stores_in (suc count) text ≡ None
no_step count text none = ap (λ (o : Option (Listed × List ℕ)). o >>= one_store count) none

none_in_front : (found : Read) → found ≡ behind_stores [] found
none_in_front None = refl
none_in_front (Some read) = refl

one_in_front : (before : List Listed) (s : Listed) (found : Read)
    → behind_stores before (found >>= λ (stores, text). Some (s ∷ stores, text)) ≡ behind_stores (before ++ s ∷ []) found
one_in_front before s None = refl
one_in_front before s (Some read) = ap (λ (stores : List Listed). Some (stores, read.1)) (sym (append_assoc before (s ∷ []) read.0))

-- What is behind the first stores of a text.
pub record IsBehind (count done : ℕ) (text rest : List ℕ) : Type 0 where
  pub before : List Listed
  pub same : stores_in count text ≡ behind_stores before (stores_in (count - done) rest)

pub IsBehind-none : (count : ℕ) (text : List ℕ) → IsBehind count 0 text text
IsBehind-none count text = record {
  before = [];
  same = none_in_front (stores_in count text) ∙ ap (λ (n : ℕ). behind_stores [] (stores_in n text)) (omega arith);
}

pub IsBehind-more : (count done : ℕ) (text rest next : List ℕ) (s : Listed) → done < count → IsBehind count done text rest
    → listed_in rest ≡ Some (s, next) → IsBehind count (done + 1) text next
IsBehind-more count done text rest next s within behind is =
    let left : ℕ = count - (done + 1) in
    let split : count - done ≡ suc left = omega arith in record {
      before = behind.before ++ s ∷ [];
      same =
          behind.same ∙ ap (λ (n : ℕ). behind_stores behind.before (stores_in n rest)) split
          ∙ ap (behind_stores behind.before) (stores-step left rest next s is) ∙ one_in_front behind.before s (stores_in left next);
    }

pub IsBehind-broken : (count done : ℕ) (text rest : List ℕ) → done < count → IsBehind count done text rest → listed_in rest ≡ None → stores_in count text ≡ None
IsBehind-broken count done text rest within behind none =
    let left : ℕ = count - (done + 1) in
    let split : count - done ≡ suc left = omega arith in
    behind.same ∙ ap (λ (n : ℕ). behind_stores behind.before (stores_in n rest)) split ∙ ap (behind_stores behind.before) (no_step left rest none)

itself : (found : Read) (stores : List Listed) (rest : List ℕ) → found ≡ Some (stores, rest) → found ≡ Some (stores_of_read found, rest)
itself found stores rest is = is ∙ ap (λ (o : Read). Some (stores_of_read o, rest)) (sym is)

pub IsBehind-all : (count done : ℕ) (text rest : List ℕ) → count ≤ done → IsBehind count done text rest → stores_in count text ≡ Some (stores_read count text, rest)
IsBehind-all count done text rest all behind =
    let split : count - done ≡ 0 = omega arith in
    itself (stores_in count text) (behind.before ++ []) rest
    (behind.same ∙ ap (λ (n : ℕ). behind_stores behind.before (stores_in n rest)) split)

-- one store is taken from the front

pub record Taken (count left : ℕ) (text rest : List ℕ) (s : Listed) : Type 0 where
  pub stores : stores_read count text ≡ s ∷ stores_read left rest
  pub spelled : is_some (stores_in left rest) ≡ true

pub store_taken : (count left : ℕ) (text rest : List ℕ) (s : Listed) → is_some (stores_in count text) ≡ true → count ≡ suc left
    → listed_in text ≡ Some (s, rest) → Taken count left text rest s
store_taken count left text rest s spelled more is =
    let first = ap (λ (n : ℕ). stores_in n text) more ∙ stores-step left text rest s is in
    by (stores_in left rest) refl (ap is_some (sym first) ∙ spelled) first
  where
    by : (found : Read) → stores_in left rest ≡ found → is_some {T = List Listed × List ℕ} (stores_in left rest >>= λ (stores, text). Some (s ∷ stores, text)) ≡ true
        → stores_in count text ≡ (stores_in left rest >>= λ (stores, text). Some (s ∷ stores, text)) → Taken count left text rest s
    by None found some first =
        let none : is_some {T = List Listed × List ℕ} (stores_in left rest >>= λ (stores, text). Some (s ∷ stores, text)) ≡ false =
        ap (λ (o : Read). is_some {T = List Listed × List ℕ} (o >>= λ (stores, text). Some (s ∷ stores, text))) found in absurd cc
    by (Some read) found some first = record {
      stores =
          ap stores_of_read first ∙ ap (λ (o : Read). stores_of_read (o >>= λ (stores, text). Some (s ∷ stores, text))) found
          ∙ ap (λ (o : Read). s ∷ stores_of_read o) (sym found);
      spelled = ap is_some found;
    }

pub no_store_broken : (count : ℕ) (text : List ℕ) → is_some (stores_in count text) ≡ true → 1 ≤ count → listed_in text ≡ None → ⊥
no_store_broken zero text spelled some none = absurd (omega arith)
no_store_broken (suc count) text spelled some none =
    let broken : is_some (stores_in (suc count) text) ≡ false = ap is_some (no_step count text none) in cc

-- a store by its parts

abbrev with_links : Row → List Pattern → List Link × List ℕ → Option (Listed × List ℕ)
with_links row patterns = λ (links, text). Some (listed_as row patterns links, text)

abbrev with_patterns : Row → List Pattern × List ℕ → Option (Listed × List ℕ)
with_patterns row = λ (patterns, text). link_list_in text >>= with_links row patterns

with_row : (text rest : List ℕ) (row : Row) → row_in text ≡ Some row → rest ≡ drop 29 text → listed_in text ≡ (pattern_list_in rest >>= with_patterns row)
with_row text rest row is behind =
    ap (λ (o : Option Row). o >>= λ row. pattern_list_in (drop 29 text) >>= with_patterns row) is
    ∙ ap (λ (octets : List ℕ). pattern_list_in octets >>= with_patterns row) (sym behind)

pub listed-no_patterns : (text rest : List ℕ) (row : Row) → row_in text ≡ Some row → rest ≡ drop 29 text → pattern_list_in rest ≡ None → listed_in text ≡ None
listed-no_patterns text rest row is behind none =
    with_row text rest row is behind ∙ ap (λ (o : Option (List Pattern × List ℕ)). o >>= with_patterns row) none

with_both : (text rest more : List ℕ) (row : Row) (patterns : List Pattern) → row_in text ≡ Some row → rest ≡ drop 29 text
    → pattern_list_in rest ≡ Some (patterns, more) → listed_in text ≡ (link_list_in more >>= with_links row patterns)
with_both text rest more row patterns is behind are =
    with_row text rest row is behind ∙ ap (λ (o : Option (List Pattern × List ℕ)). o >>= with_patterns row) are

pub listed-no_links : (text rest more : List ℕ) (row : Row) (patterns : List Pattern) → row_in text ≡ Some row → rest ≡ drop 29 text
    → pattern_list_in rest ≡ Some (patterns, more) → link_list_in more ≡ None → listed_in text ≡ None
listed-no_links text rest more row patterns is behind are none =
    with_both text rest more row patterns is behind are ∙ ap (λ (o : Option (List Link × List ℕ)). o >>= with_links row patterns) none

pub listed-parts : (text rest more end : List ℕ) (row : Row) (patterns : List Pattern) (links : List Link) → row_in text ≡ Some row → rest ≡ drop 29 text
    → pattern_list_in rest ≡ Some (patterns, more) → link_list_in more ≡ Some (links, end) → listed_in text ≡ Some (listed_as row patterns links, end)
listed-parts text rest more end row patterns links is behind are linked =
    with_both text rest more row patterns is behind are ∙ ap (λ (o : Option (List Link × List ℕ)). o >>= with_links row patterns) linked

-- how many octets a store has
pub length-listed_octets : (row : Row) (patterns : List Pattern) (links : List Link) → length (listed_octets (listed_as row patterns links)) ≡ 32 + 5 * length patterns + 6 * length links
length-listed_octets row patterns links =
    omega (
      arith,
      length-append (patterns_octets patterns ++ big_bytes 2 (length links)) (links_octets links),
      length-append (patterns_octets patterns) (big_bytes 2 (length links)),
      length-rows pattern_octets 5 length-pattern_octets patterns,
      length-rows link_octets 6 length-link_octets links,
    )
