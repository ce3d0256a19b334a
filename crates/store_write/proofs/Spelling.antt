-- What a block spells to which the records of a store's last one were copied.
use Rattle.std.proofs.Common.{◌≡◌, ℕ, suc, ◌+◌, ◌%◌, ◌<◌, ◌≤◌, ◌==◌, not, true, false}
use Rattle.std.proofs.Common.{List, [], ◌∷◌, All, length, map, take, drop, Some, refl, sym, ◌∙◌}
use Rattle.std.proofs.Common.{ap, subst, arith, append-nil}
use Rattle.std.specs.Prelude.{◌≢◌, slice_get}
use Rattle.std.specs.Option.{option_map}
use Rattle.std.proofs.lemmas.Bool.{and_parts, eq-eqb, false≢true}
use Rattle.std.proofs.lemmas.List.Elements.{All-head, All-tail}
use Rattle.std.proofs.lemmas.List.Sums.{sum_by-cons}
use Rattle.std.proofs.lemmas.Option.{same_Some}
use Rattle.board.specs.Flash.{pages_of_block}
use Rattle.chain_log.specs.Pages.{block_octets}
use Rattle.record_view.specs.Records.{Meaning, number_after, record_at}
use Rattle.record_view.specs.declared.link.Link.{Link}
use Rattle.space_packet.specs.Charge.{charge_of}
use Rattle.store_directory.specs.Directory.{is_new}
use Rattle.store_directory.specs.Rows.{between}
use Rattle.store_directory.specs.declared.row.Row.{Row}
use Rattle.store_load.specs.Claims.{block_of}
use Rattle.store_load.specs.Extents.{all_records, end_of, extent_to, joined, last_of, last_read, read_extent}
use Rattle.store_load.specs.Keeping.{IsLinkOf, Keeps}
use Rattle.store_load.specs.Kept.{kept_of}
use Rattle.store_load.specs.Loaded.{index_of}
use Rattle.store_load.specs.Moving.{SpellsLast}
use Rattle.store_load.specs.Renewing.{last_position}
use Rattle.store_load.specs.declared.rule.Rule.{Rule}
use Rattle.store_load.proofs.Counting.{counts_records, kept_parts}
use Rattle.store_load.proofs.Eachs.{each_cons}
use Rattle.store_load.proofs.InRange.{placed_many}
use Rattle.store_load.proofs.More.{last_spelled}
use Rattle.store_load.proofs.Records.{cons_records, extent_length, records_none}
use Rattle.store_load.proofs.Spelled.{SpellAll, indexed_by, spell_at, spell_block, spell_drop, spell_long, spell_shift, spelled_all}
use Rattle.store_load.proofs.SwappedIndexes.{behind_is}
use Rattle.time_index.specs.TimeIndex.{TimeIndex, pages_of}
use Rattle.time_index.specs.declared.entry.Entry.{Entry}
use Rattle.store_write.specs.Moved.{AreCopied, AreSpelled, IsSpelled}
use Rattle.store_write.specs.Renewed.{last_entries, renewed_link}
use Rattle.store_write.proofs.Copied.{other_octets}

-- copies from some page on
abbrev CopiedAt : (page : ℕ) → (old new : ℕ → List ℕ) → (block first : ℕ) → List Entry → Type 0
CopiedAt page old new block first entries = (j : ℕ) (entry : Entry) (meaning : Meaning)
    → j < length entries → slice_get entries j ≡ Some entry
    → IsSpelled old ((first + j) % 4294967296) entry meaning
    → record_at (block_octets new block) ((first + j) % 4294967296)
    (page + pages_of (take j entries)) ≡ Some meaning

spelled_from : (page : ℕ) (old new : ℕ → List ℕ) (block n number : ℕ) (entries : List Entry)
    (records : List Meaning) → number ≡ n % 4294967296 → SpellAll old n entries records
    → CopiedAt page old new block n entries
    → all_records (block_octets new block) (length entries) number page ≡ Some records
spelled_from page old new block n number [] [] is all are =
    records_none (block_octets new block) number page
spelled_from page old new block n number [] (m ∷ records) is all are = absurd all
spelled_from page old new block n number (e ∷ entries) [] is all are = absurd all
spelled_from page old new block n number (e ∷ entries) (m ∷ records) is all are =
    let octets = block_octets new block in
    let at : (n + 0) % 4294967296 ≡ number = omega (arith, is) in
    let start : page + pages_of [] ≡ page = omega arith in
    let own : IsSpelled old ((n + 0) % 4294967296) e m = record {
      spelled = ap (λ (k : ℕ). record_at (block_octets old e.block) k e.page)
          (omega (arith)) ∙ all.0;
      long = sym all.1;
    } in
    let here : record_at octets number page ≡ Some m =
    sym (λ i. record_at octets (at i) (start i)) ∙ are 0 e m (omega arith) refl own in
    cons_records octets (length entries) number page m records here
    (ap (λ (k : ℕ). all_records octets (length entries) (number_after number) (page + charge_of k))
    (sym all.1)
    ∙ spelled_from (page + charge_of e.length) old new block (suc n) (number_after number) entries
    records (omega (arith, is)) all.2 further)
  where
    further : CopiedAt (page + charge_of e.length) old new block (suc n) entries
    further j entry meaning lt there spelled =
        let step : (n + suc j) % 4294967296 ≡ (suc n + j) % 4294967296 = omega arith in
        let cost = sum_by-cons (λ (x : Entry). charge_of x.length) e (take j entries) in
        let sum : page + pages_of (e ∷ take j entries)
        ≡ page + charge_of e.length + pages_of (take j entries) = omega (arith, cost) in
        sym (λ i. record_at (block_octets new block) (step i) (sum i))
        ∙ are (suc j) entry meaning (omega (arith, lt)) there
        (subst (λ (k : ℕ). IsSpelled old k entry meaning) (sym step) spelled)

-- the records of entries, spelled by a block to which they were copied
pub spelled_records : (old new : ℕ → List ℕ) (block n number : ℕ) (entries : List Entry)
    (records : List Meaning) → number ≡ n % 4294967296 → SpellAll old n entries records
    → AreCopied old new block n entries
    → all_records (block_octets new block) (length entries) number 0 ≡ Some records
spelled_records old new block n number entries records is all are =
    spelled_from 0 old new block n number entries records is all
    (λ j entry meaning lt there spelled.
    let start : 0 + pages_of (take j entries) ≡ pages_of (take j entries) = omega arith in
    ap (record_at (block_octets new block) ((n + j) % 4294967296)) start
    ∙ are j entry meaning lt there spelled)

-- each entry's record is spelled at its place
pub are_spelled : (old : ℕ → List ℕ) (n : ℕ) (entries : List Entry) (records : List Meaning)
    → SpellAll old n entries records → AreSpelled old n entries
are_spelled old n entries records all j entry there =
    let (m, here, spelled, long) = spell_at old n j entries records entry all there in
    (m, record { spelled = spelled; long = sym long })

-- a new block is none of these
pub not_there : (fresh block : ℕ) → not (fresh == block) ≡ true → block ≢ fresh
not_there fresh block new same =
    absurd (false≢true (sym (ap not (eq-eqb fresh block (sym same))) ∙ new))

pub last_apart : (fresh : ℕ) (link : Link) (links : List Link)
    → is_new fresh (map block_of (link ∷ links)) ≡ true → (last_of link links).block ≢ fresh
last_apart fresh link [] new =
    not_there fresh link.block (and_parts (not (fresh == link.block)) true new).0
last_apart fresh link (next ∷ links) new =
    last_apart fresh next links
    (and_parts (not (fresh == link.block)) (is_new fresh (map block_of (next ∷ links))) new).1

last_own : (blocks : ℕ) (link : Link) (links : List Link) → All (IsLinkOf blocks) (link ∷ links)
    → IsLinkOf blocks (last_of link links)
last_own blocks link [] own = All-head (IsLinkOf blocks) link [] own
last_own blocks link (next ∷ links) own =
    last_own blocks next links (All-tail (IsLinkOf blocks) link (next ∷ links) own)

-- the live records of an only block
pub live_alone : (rule : Rule) (image : ℕ → List ℕ) (now : ℕ) (row : Row) (link : Link)
    (records : List Meaning) → kept_of rule image now row (link ∷ []) ≡ Some records
    → option_map (drop (between link.first row.first))
    (read_extent image (extent_to (end_of row) link)) ≡ Some records
live_alone rule image now row link records kept =
    let are = kept_parts rule image now row (link ∷ []) records kept in
    let (spelled, none, is, nothing, whole) =
    each_cons (read_extent image) (extent_to (end_of row) link) [] are.reads are.read in
    let empty : [] ≡ none = same_Some [] none nothing in
    let all : spelled ∷ [] ≡ are.reads =
    ap (λ (l : List (List Meaning)). spelled ∷ l) empty ∙ whole in
    ap (option_map (drop (between link.first row.first))) is
    ∙ ap (λ (l : List Meaning). Some (drop (between link.first row.first) l))
    (sym (append-nil spelled))
    ∙ ap (λ (l : List (List Meaning)). Some (drop (between link.first row.first) (joined l))) all
    ∙ ap Some are.live

module _ (rule : Rule) (blocks : ℕ) (old new : ℕ → List ℕ) (now : ℕ) (row : Row)
    (index : TimeIndex) (records : List Meaning) (fresh : ℕ)
    (same : (p : ℕ) → pages_of_block fresh p ≡ false → new p ≡ old p) where
  index_first : (links : List Link) → Keeps rule blocks old now row links records
      → index_of rule old now row links ≡ Some index → index.first ≡ row.first
  index_first links keeps is =
      let (reads, read, made, live) =
      indexed_by rule old now row links index records is keeps.kept in
      ap (λ (i : TimeIndex). i.first) (sym made)

  -- the records of the last block are spelled at the places of their entries
  pub spelled_last : (links : List Link) → Keeps rule blocks old now row links records
      → index_of rule old now row links ≡ Some index
      → AreSpelled old (index.first + last_position row links) (last_entries row links index)
  spelled_last links keeps is =
      let k = last_position row links in
      let first = index_first links keeps is in
      let all = spelled_all rule blocks old now row links index records keeps.each_link keeps.first
      is keeps.kept in
      subst (λ (n : ℕ). AreSpelled old (n + k) (drop k index.entries)) (sym first)
      (are_spelled old (row.first + k) (drop k index.entries) (drop k records)
      (spell_drop old k row.first index.entries records all))

  unmoved : (link : Link) → link.block ≢ fresh → (end : ℕ)
      → read_extent new (extent_to end link) ≡ read_extent old (extent_to end link)
  unfolding read_extent
  unmoved link apart end =
      ap (λ (octets : List ℕ). all_records octets (between link.first end) link.first 0)
      (other_octets old new fresh link.block apart same)

  -- the fresh block spells what the last one does
  pub spells_last : (links : List Link) → Keeps rule blocks old now row links records
      → index_of rule old now row links ≡ Some index → 1 ≤ length links
      → is_new fresh (map block_of links) ≡ true
      → AreCopied old new fresh (index.first + last_position row links)
      (last_entries row links index)
      → SpellsLast new row links (renewed_link row links fresh)
  unfolding read_extent
  spells_last [] keeps is some apart copied = absurd (omega (arith, some))
  spells_last (link ∷ []) keeps is some apart copied =
      let first = index_first (link ∷ []) keeps is in
      let all = spelled_all rule blocks old now row (link ∷ []) index records keeps.each_link
      keeps.first is keeps.kept in
      let long = spell_long old row.first index.entries records all in
      let many = counts_records rule blocks old now row (link ∷ []) records keeps in
      let count : between row.first (end_of row) ≡ length index.entries =
      counted row.first row.count (length index.entries) keeps.first keeps.count
      (omega (arith, long, many)) in
      let read = spelled_records old new fresh (index.first + 0) row.first index.entries records
      (omega (arith, first, keeps.first))
      (spell_shift old row.first (index.first + 0) index.entries records
      (omega (arith, first)) all) copied in (
        refl,
        ap (λ (n : ℕ). all_records (block_octets new fresh) n row.first 0) count ∙ read
            ∙ sym (live_alone rule old now row link records keeps.kept)
            ∙ ap (option_map (drop (between link.first row.first)))
            (sym (unmoved link (last_apart fresh link [] apart) (end_of row))),
      )
    where
      counted : (f n m : ℕ) → f < 4294967296 → n ≤ 100000 → m ≡ n
          → between f ((f + n) % 4294967296) ≡ m
      counted f n m low few is = omega (arith, low, few, is)
  spells_last (link ∷ next ∷ links) keeps is some apart copied =
      let last = last_of next links in
      let end = end_of row in
      let k = last_position row (link ∷ next ∷ links) in
      let own = last_own blocks link (next ∷ links) keeps.each_link in
      let first = index_first (link ∷ next ∷ links) keeps is in
      let reads =
      (kept_parts rule old now row (link ∷ next ∷ links) records keeps.kept).reads in
      let read = last_spelled old end link (next ∷ links) reads
      (kept_parts rule old now row (link ∷ next ∷ links) records keeps.kept).read in
      let behind = behind_is rule blocks old now row link next links records index keeps is in
      let long = extent_length old (extent_to end last) (last_read reads) read in
      let many = ap length behind ∙ placed_many last.block 0 (last_read reads) in
      let all : SpellAll old last.first (drop k index.entries) (last_read reads) =
      subst (λ (l : List Entry). SpellAll old last.first l (last_read reads)) (sym behind)
      (spell_block old last.block (between last.first end) last.first last.first 0
      (last_read reads) (omega (arith, own.first)) read) in
      let there : last.first % 4294967296 ≡ (index.first + k) % 4294967296 =
      reached row.first last.first index.first keeps.first own.first first in
      let spelled = spelled_records old new fresh (index.first + k) last.first
      (drop k index.entries) (last_read reads) (omega (arith, there, own.first))
      (spell_shift old last.first (index.first + k) (drop k index.entries) (last_read reads)
      there all) copied in (
        refl,
        ap (λ (n : ℕ). all_records (block_octets new fresh) n last.first 0)
            (sym long ∙ sym many) ∙ spelled ∙ sym read
            ∙ sym (unmoved last (last_apart fresh link (next ∷ links) apart) end),
      )
    where
      reached : (f l g : ℕ) → f < 4294967296 → l < 4294967296 → g ≡ f
          → l % 4294967296 ≡ (g + between f l) % 4294967296
      reached f l g lf ll is = omega (arith, lf, ll, is)
