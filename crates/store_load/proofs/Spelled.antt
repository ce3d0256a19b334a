-- The records that a store keeps are spelled at the places of its index.
use Rattle.std.proofs.Common.{◌≡◌, ℕ, zero, suc, ◌+◌, ◌%◌, ◌<◌, List, [], ◌∷◌, ◌++◌, All, length, drop, Some, refl, sym, ◌∙◌, ap, subst, arith}
use Rattle.std.specs.Prelude.{⊤, slice_get}
use Rattle.std.proofs.lemmas.List.Elements.{All-head, All-tail}
use Rattle.std.proofs.lemmas.Option.{none-some, same_Some}
use Rattle.chain_log.specs.Pages.{block_octets}
use Rattle.record_view.specs.Records.{Meaning, number_after, record_at}
use Rattle.record_view.specs.declared.link.Link.{Link}
use Rattle.space_packet.specs.Charge.{charge_of}
use Rattle.store_directory.specs.Options.{◌>>=◌, given}
use Rattle.store_directory.specs.Rows.{between}
use Rattle.store_directory.specs.declared.row.Row.{Row}
use Rattle.store_load.specs.Each.{each}
use Rattle.store_load.specs.Extents.{all_records, end_of, extent_to, extents_from, extents_of, joined, read_extent}
use Rattle.store_load.specs.Keeping.{IsLinkOf}
use Rattle.store_load.specs.Kept.{dead_by, kept_of, live_of, may_keep}
use Rattle.store_load.specs.Loaded.{index_by, index_of, index_with, placed, placed_all}
use Rattle.store_load.specs.declared.rule.Rule.{Rule}
use Rattle.store_load.proofs.Counting.{kept_parts}
use Rattle.store_load.proofs.Eachs.{each_cons, given_then}
use Rattle.store_load.proofs.Records.{extent_length, records_cons, records_none}
use Rattle.time_index.specs.TimeIndex.{TimeIndex}
use Rattle.time_index.specs.declared.entry.Entry.{Entry}

-- Each entry's place spells the record beside it. The first one's number is `n`, and numbers begin again at 2^32.
abbrev pub SpellAll : (image : ℕ → List ℕ) → (n : ℕ) → List Entry → List Meaning → Type 0
SpellAll image n [] [] = ⊤
SpellAll image n [] (m ∷ records) = ⊥
SpellAll image n (e ∷ entries) [] = ⊥
SpellAll image n (e ∷ entries) (m ∷ records) =
    (record_at (block_octets image e.block) (n % 4294967296) e.page ≡ Some m) × (e.length ≡ length m.packet) × SpellAll image (suc n) entries records

module _ (image : ℕ → List ℕ) where
  pub spell_shift : (a b : ℕ) (entries : List Entry) (records : List Meaning) → a % 4294967296 ≡ b % 4294967296
      → SpellAll image a entries records → SpellAll image b entries records
  spell_shift a b [] [] same all = tt
  spell_shift a b [] (m ∷ records) same all = absurd all
  spell_shift a b (e ∷ entries) [] same all = absurd all
  spell_shift a b (e ∷ entries) (m ∷ records) same all = (
    subst (λ (k : ℕ). record_at (block_octets image e.block) k e.page ≡ Some m) same all.0,
    all.1,
    spell_shift (suc a) (suc b) entries records (omega (arith, same)) all.2,
  )

  spell_both : (n k : ℕ) (xs : List Entry) (ms : List Meaning) (ys : List Entry) (ns : List Meaning) → k ≡ n + length ms
      → SpellAll image n xs ms → SpellAll image k ys ns → SpellAll image n (xs ++ ys) (ms ++ ns)
  spell_both n k [] [] ys ns is front back = subst (λ (k : ℕ). SpellAll image k ys ns) (omega (arith, is)) back
  spell_both n k [] (m ∷ ms) ys ns is front back = absurd front
  spell_both n k (x ∷ xs) [] ys ns is front back = absurd front
  spell_both n k (x ∷ xs) (m ∷ ms) ys ns is front back =
      (front.0, front.1, spell_both (suc n) k xs ms ys ns (omega (arith, is)) front.2 back)

  pub spell_drop : (gone n : ℕ) (entries : List Entry) (records : List Meaning) → SpellAll image n entries records
      → SpellAll image (n + gone) (drop gone entries) (drop gone records)
  spell_drop zero n entries records all = subst (λ (k : ℕ). SpellAll image k entries records) (omega arith) all
  spell_drop (suc gone) n [] [] all = tt
  spell_drop (suc gone) n [] (m ∷ records) all = absurd all
  spell_drop (suc gone) n (e ∷ entries) [] all = absurd all
  spell_drop (suc gone) n (e ∷ entries) (m ∷ records) all =
      subst (λ (k : ℕ). SpellAll image k (drop gone entries) (drop gone records)) (omega arith) (spell_drop gone (suc n) entries records all.2)

  pub spell_at : (n at : ℕ) (entries : List Entry) (records : List Meaning) (entry : Entry) → SpellAll image n entries records → slice_get entries at ≡ Some entry
      → (m : Meaning) × (slice_get records at ≡ Some m)
      × (record_at (block_octets image entry.block) ((n + at) % 4294967296) entry.page ≡ Some m) × (entry.length ≡ length m.packet)
  spell_at n at [] records entry all is = absurd (none-some entry is)
  spell_at n at (e ∷ entries) [] entry all is = absurd all
  spell_at n zero (e ∷ entries) (m ∷ records) entry all is =
      let same = same_Some e entry is in (
        m,
        refl,
        subst (λ (k : ℕ). record_at (block_octets image entry.block) (k % 4294967296) entry.page ≡ Some m) (omega arith)
            (subst (λ (e : Entry). record_at (block_octets image e.block) (n % 4294967296) e.page ≡ Some m) same all.0),
        subst (λ (e : Entry). e.length ≡ length m.packet) same all.1,
      )
  spell_at n (suc at) (e ∷ entries) (m ∷ records) entry all is =
      let (found, here, there, long) = spell_at (suc n) at entries records entry all.2 is in
      (found, here, subst (λ (k : ℕ). record_at (block_octets image entry.block) (k % 4294967296) entry.page ≡ Some found) (omega arith) there, long)

  -- as many entries as records
  pub spell_long : (n : ℕ) (entries : List Entry) (records : List Meaning) → SpellAll image n entries records → length entries ≡ length records
  spell_long n [] [] all = refl
  spell_long n [] (m ∷ records) all = absurd all
  spell_long n (e ∷ entries) [] all = absurd all
  spell_long n (e ∷ entries) (m ∷ records) all = ap suc (spell_long (suc n) entries records all.2)

  -- the records of one block
  pub spell_block : (block count n number page : ℕ) (records : List Meaning) → number ≡ n % 4294967296
      → all_records (block_octets image block) count number page ≡ Some records → SpellAll image n (placed block page records) records
  spell_block block zero n number page records is read =
      subst (λ (l : List Meaning). SpellAll image n (placed block page l) l)
      (same_Some [] records (sym (records_none (block_octets image block) number page) ∙ read)) tt
  spell_block block (suc count) n number page records is read =
      let (m, rest, here, behind, same) = records_cons (block_octets image block) count number page records read in
      subst (λ (l : List Meaning). SpellAll image n (placed block page l) l) same (
        subst (λ (k : ℕ). record_at (block_octets image block) k page ≡ Some m) is here,
        refl,
        spell_block block count (suc n) (number_after number) (page + charge_of (length m.packet)) rest (omega (arith, is)) behind,
      )

  -- those of the blocks of links
  spell_links : (blocks end : ℕ) (link : Link) (links : List Link) (reads : List (List Meaning)) → All (IsLinkOf blocks) (link ∷ links)
      → each (read_extent image) (extents_from end link links) ≡ Some reads
      → SpellAll image link.first (placed_all (extents_from end link links) reads) (joined reads)
  unfolding read_extent
  spell_links blocks end link [] reads own read =
      let (records, rest, here, none, whole) = each_cons (read_extent image) (extent_to end link) [] reads read in
      let low = (All-head (IsLinkOf blocks) link [] own).first in
      let all : reads ≡ records ∷ [] = sym whole ∙ ap (λ (l : List (List Meaning)). records ∷ l) (sym (same_Some [] rest none)) in
      subst (λ (l : List (List Meaning)). SpellAll image link.first (placed_all (extents_from end link []) l) (joined l)) (sym all)
      (spell_both link.first (link.first + length records) (placed link.block 0 records) records [] [] refl
      (spell_block link.block (between link.first end) link.first link.first 0 records (omega (arith, low)) here) tt)
  spell_links blocks end link (next ∷ links) reads own read =
      let (records, rest, here, behind, whole) = each_cons (read_extent image) (extent_to next.first link) (extents_from end next links) reads read in
      let low = (All-head (IsLinkOf blocks) link (next ∷ links) own).first in
      let own_rest = All-tail (IsLinkOf blocks) link (next ∷ links) own in
      let low_next = (All-head (IsLinkOf blocks) next links own_rest).first in
      let long : length records ≡ between link.first next.first = extent_length image (extent_to next.first link) records here in
      subst (λ (l : List (List Meaning)). SpellAll image link.first (placed_all (extents_from end link (next ∷ links)) l) (joined l)) whole
      (spell_both link.first (link.first + length records) (placed link.block 0 records) records
      (placed_all (extents_from end next links) rest) (joined rest) refl
      (spell_block link.block (between link.first next.first) link.first link.first 0 records (omega (arith, low)) here)
      (spell_shift next.first (link.first + length records) (placed_all (extents_from end next links) rest) (joined rest)
      (omega (arith, low, low_next, long)) (spell_links blocks end next links rest own_rest behind)))

-- the index of a store, by the records that its extents spell
pub indexed_by : (rule : Rule) (image : ℕ → List ℕ) (now : ℕ) (row : Row) (links : List Link) (index : TimeIndex) (records : List Meaning)
    → index_of rule image now row links ≡ Some index → kept_of rule image now row links ≡ Some records
    → (reads : List (List Meaning)) × (each (read_extent image) (extents_of row links) ≡ Some reads)
    × (index_with row (drop (dead_by row.first links) (placed_all (extents_of row links) reads)) ≡ index) × (live_of row links reads ≡ records)
unfolding index_of
indexed_by rule image now row links index records is kept =
    let are = kept_parts rule image now row links records kept in
    let made : index_by rule now row links are.reads ≡ Some index =
    sym (λ i. (given (are.begins i) >>= λ (_ : ⊤). (are.read i) >>= index_by rule now row links)) ∙ is in
    let parts = given_then (may_keep rule now row.size are.reads (live_of row links are.reads))
    (λ (_ : ⊤). Some (index_with row (drop (dead_by row.first links) (placed_all (extents_of row links) are.reads)))) index made in (
      are.reads,
      are.read,
      same_Some (index_with row (drop (dead_by row.first links) (placed_all (extents_of row links) are.reads))) index parts.1,
      are.live,
    )

-- The records of a store are spelled at the places of its index.
pub spelled_all : (rule : Rule) (blocks : ℕ) (image : ℕ → List ℕ) (now : ℕ) (row : Row) (links : List Link) (index : TimeIndex) (records : List Meaning)
    → All (IsLinkOf blocks) links → row.first < 4294967296 → index_of rule image now row links ≡ Some index
    → kept_of rule image now row links ≡ Some records → SpellAll image row.first index.entries records
spelled_all rule blocks image now row links index records own low is kept =
    let (reads, read, made, live) = indexed_by rule image now row links index records is kept in
    let entries : drop (dead_by row.first links) (placed_all (extents_of row links) reads) ≡ index.entries = ap (λ (i : TimeIndex). i.entries) made in
    subst (λ (l : List Entry). SpellAll image row.first l records) entries
    (subst (SpellAll image row.first (drop (dead_by row.first links) (placed_all (extents_of row links) reads))) live (by_links links reads own read))
  where
    by_links : (others : List Link) (reads : List (List Meaning)) → All (IsLinkOf blocks) others
        → each (read_extent image) (extents_of row others) ≡ Some reads
        → SpellAll image row.first (drop (dead_by row.first others) (placed_all (extents_of row others) reads)) (live_of row others reads)
    by_links [] reads own read = subst (λ (l : List (List Meaning)). SpellAll image row.first [] (joined l)) (same_Some [] reads read) tt
    by_links (link ∷ rest) reads own read =
        let low_link = (All-head (IsLinkOf blocks) link rest own).first in
        let gone = between link.first row.first in
        let all = spell_drop image gone link.first (placed_all (extents_from (end_of row) link rest) reads) (joined reads)
        (spell_links image blocks (end_of row) link rest reads own read) in
        spell_shift image (link.first + gone) row.first
        (drop gone (placed_all (extents_from (end_of row) link rest) reads)) (drop gone (joined reads)) (omega (arith, low, low_link)) all

-- The record at a position of an index is spelled at its place, under its number.
pub spelled_there : (rule : Rule) (blocks : ℕ) (image : ℕ → List ℕ) (now : ℕ) (row : Row) (links : List Link) (index : TimeIndex) (records : List Meaning)
    (position : ℕ) (entry : Entry) → All (IsLinkOf blocks) links → row.first < 4294967296
    → index_of rule image now row links ≡ Some index → kept_of rule image now row links ≡ Some records
    → slice_get index.entries position ≡ Some entry
    → (m : Meaning) × (slice_get records position ≡ Some m)
    × (record_at (block_octets image entry.block) ((index.first + position) % 4294967296) entry.page ≡ Some m) × (entry.length ≡ length m.packet)
spelled_there rule blocks image now row links index records position entry own low is kept here =
    let (m, at_m, there, long) = spell_at image row.first position index.entries records entry
    (spelled_all rule blocks image now row links index records own low is kept) here in
    let (reads, read, made, live) = indexed_by rule image now row links index records is kept in (
      m,
      at_m,
      subst (λ (n : ℕ). record_at (block_octets image entry.block) ((n + position) % 4294967296) entry.page ≡ Some m)
          (ap (λ (i : TimeIndex). i.first) made) there,
      long,
    )
