-- What a store keeps that begins a block, or whose last block is another one.
use Rattle.std.proofs.Common.{◌≡◌, ℕ, zero, suc, ◌+◌, ◌%◌, ◌<◌, ◌≤◌, ◌&&◌, nat_le, nat_lt, true, false, not, List, [], ◌∷◌, ◌++◌, length, drop, Some, refl, sym, ◌∙◌, ap, subst, arith, append-nil}
use Rattle.std.proofs.lemmas.Bool.{le-leb}
use Rattle.std.proofs.lemmas.Bool.Decides.{nat_tests}
use Rattle.std.proofs.lemmas.Option.{same_Some}
use Rattle.space_packet.specs.Charge.{charge_of}
use Rattle.record_view.specs.Records.{Meaning, number_after, record_at}
use Rattle.record_view.specs.declared.link.Link.{Link}
use Rattle.store_directory.specs.Directory.{swap_last}
use Rattle.store_directory.specs.Rows.{between, is_by}
use Rattle.store_directory.specs.declared.row.Row.{Row}
use Rattle.store_directory.proofs.Steps.{some_then}
use Rattle.store_load.specs.Each.{each}
use Rattle.chain_log.specs.Pages.{block_octets}
use Rattle.store_load.specs.Extents.{all_records, end_of, extent_to, extents_from, extents_to, joined, last_of, last_read, pages_in, read_extent}
use Rattle.store_load.specs.Keeping.{Keeps}
use Rattle.store_load.specs.Kept.{are_filled, are_short, begins_well, dead_by, kept_of}
use Rattle.store_load.specs.declared.rule.Rule.{Rule}
use Rattle.store_load.proofs.Counting.{KeptAre, kept_parts, parts_kept}
use Rattle.store_load.proofs.Eachs.{both, each_cons, each_more, one, two}
use Rattle.store_load.proofs.LastLinks.{empty, none_between}
use Rattle.store_load.proofs.More.{some_read}
use Rattle.store_load.proofs.Records.{cons_records, records_none}

-- a number is at itself
at_it : (a f : ℕ) → a ≡ f → f < 4294967296 → is_by a f ≡ true
at_it a f same lt = ap (λ (n : ℕ). nat_lt n 2147483648) (none_between a f same lt)

-- a first record
module _ (rule : Rule) (image : ℕ → List ℕ) (later : ℕ) (next : Row) (link : Link) (meaning : Meaning)
    (first : next.first < 4294967296) (one_record : next.count ≡ 1) (same : link.first ≡ next.first)
    (spelled : record_at (block_octets image link.block) next.first 0 ≡ Some meaning) where
  alone : between link.first (end_of next) ≡ 1
  alone = numbers link.first next.first next.count same one_record first
    where
      numbers : (a f n : ℕ) → a ≡ f → n ≡ 1 → f < 4294967296 → between a ((f + n) % 4294967296) ≡ 1
      numbers a f n same is lt = omega (arith, same, is, lt)

  read_first : read_extent image (extent_to (end_of next) link) ≡ Some (meaning ∷ [])
  unfolding read_extent
  read_first =
      let block = block_octets image link.block in
      (λ i. all_records block (alone i) (same i) 0)
      ∙ cons_records block 0 next.first 0 meaning [] spelled
      (records_none block (number_after next.first) (0 + charge_of (length meaning.packet)))

  pub begun_are : meaning.stamp ≤ later → length meaning.packet ≤ rule.largest → charge_of (length meaning.packet) ≤ next.size
      → (are : KeptAre rule image later next (link ∷ []) (meaning ∷ [])) × (are.reads ≡ (meaning ∷ []) ∷ [])
  begun_are low largest fits = (
    record {
      begins = both (nat_lt 0 next.count) (is_by link.first next.first) (ap (nat_lt 0) one_record) (at_it link.first next.first same first);
      reads = (meaning ∷ []) ∷ [];
      read = each_more (read_extent image) (extent_to (end_of next) link) [] (meaning ∷ []) [] read_first refl;
      live = ap (λ (n : ℕ). drop n (meaning ∷ [])) (none_between link.first next.first same first);
      filled = refl;
      short = both (nat_le (length meaning.packet) rule.largest) true (le-leb (length meaning.packet) rule.largest largest) refl;
      rise = both (nat_le 0 meaning.stamp && nat_le meaning.stamp later) true (rises meaning.stamp low) refl;
      fits = le-leb (pages_in (meaning ∷ [])) next.size (omega (arith, fits));
    },
    refl,
  )
    where
      rises : (stamp : ℕ) → stamp ≤ later → (nat_le 0 stamp && nat_le stamp later) ≡ true
      rises stamp h = grind (arith, nat_tests)

  pub begun : meaning.stamp ≤ later → length meaning.packet ≤ rule.largest → charge_of (length meaning.packet) ≤ next.size
      → kept_of rule image later next (link ∷ []) ≡ Some (meaning ∷ [])
  begun low largest fits = parts_kept rule image later next (link ∷ []) (meaning ∷ []) (begun_are low largest fits).0

-- the extents where a link without records stands behind the others
extents_closed : (image : ℕ → List ℕ) (end : ℕ) (link : Link) (rest : List Link) (closed : Link) (reads : List (List Meaning))
    → closed.first ≡ end → end < 4294967296
    → each (read_extent image) (extents_from end link rest) ≡ Some reads
    → each (read_extent image) (extents_from end link (rest ++ closed ∷ [])) ≡ Some (reads ++ [] ∷ [])
extents_closed image end link [] closed reads same lt h =
    let (records, none, is, are, whole) = each_cons (read_extent image) (extent_to end link) [] reads h in
    let nothing : [] ≡ none = same_Some [] none are in
    each_more (read_extent image) (extent_to closed.first link) (extent_to end closed ∷ []) records ([] ∷ [])
    (ap (λ (n : ℕ). read_extent image (extent_to n link)) same ∙ is)
    (each_more (read_extent image) (extent_to end closed) [] [] []
    (empty image end closed (none_between closed.first end same lt)) refl)
    ∙ ap (λ (l : List (List Meaning)). Some ((records ∷ l) ++ [] ∷ [])) nothing
    ∙ ap (λ (l : List (List Meaning)). Some (l ++ [] ∷ [])) whole
extents_closed image end link (next ∷ rest) closed reads same lt h =
    let (records, behind, is, are, whole) = each_cons (read_extent image) (extent_to next.first link) (extents_from end next rest) reads h in
    each_more (read_extent image) (extent_to next.first link) (extents_from end next (rest ++ closed ∷ [])) records (behind ++ [] ∷ []) is
    (extents_closed image end next rest closed behind same lt are)
    ∙ ap (λ (l : List (List Meaning)). Some (l ++ [] ∷ [])) whole

joined_closed : (reads : List (List Meaning)) → joined (reads ++ [] ∷ []) ≡ joined reads
joined_closed [] = refl
joined_closed (x ∷ reads) = ap (λ (l : List Meaning). x ++ l) (joined_closed reads)

filled_closed : (least : ℕ) (x : List Meaning) (reads : List (List Meaning)) → are_filled least (x ∷ reads) ≡ true
    → least ≤ pages_in (last_read (x ∷ reads)) → are_filled least ((x ∷ reads) ++ [] ∷ []) ≡ true
filled_closed least x [] h le = both (nat_le least (pages_in x)) true (le-leb least (pages_in x) le) refl
filled_closed least x (y ∷ reads) h le =
    both (nat_le least (pages_in x)) (are_filled least ((y ∷ reads) ++ [] ∷ []))
    (one (nat_le least (pages_in x)) (are_filled least (y ∷ reads)) h)
    (filled_closed least y reads (two (nat_le least (pages_in x)) (are_filled least (y ∷ reads)) h) le)

module _ (rule : Rule) (blocks : ℕ) (image : ℕ → List ℕ) (now : ℕ) (row : Row) (link : Link) (rest : List Link)
    (records : List Meaning) (keeps : Keeps rule blocks image now row (link ∷ rest) records) where
  abbrev old : KeptAre rule image now row (link ∷ rest) records
  old = kept_parts rule image now row (link ∷ rest) records keeps.kept

  some_count : (links : List Link) → begins_well row (link ∷ links) ≡ true → 0 < row.count
  some_count [] h = test row.count (one (nat_lt 0 row.count) (is_by link.first row.first) h)
    where
      test : (n : ℕ) → nat_lt 0 n ≡ true → 0 < n
      test n h = grind (arith, nat_tests)
  some_count (next ∷ links) h =
      test row.count (one (nat_lt 0 row.count) (is_by link.first row.first) (one (nat_lt 0 row.count && is_by link.first row.first) (not (is_by next.first row.first)) h))
    where
      test : (n : ℕ) → nat_lt 0 n ≡ true → 0 < n
      test n h = grind (arith, nat_tests)

  -- a full last block is followed by one that has no record yet
  pub followed_are : (closed : Link) → closed.first ≡ end_of row → rule.least ≤ pages_in (last_read old.reads)
      → (are : KeptAre rule image now row (link ∷ rest ++ closed ∷ []) records) × (are.reads ≡ old.reads ++ [] ∷ [])
  followed_are closed same filled =
      let (x, xs, whole) = some_read image (end_of row) link rest old.reads old.read in (
        record {
          begins = begins rest old.begins;
          reads = old.reads ++ [] ∷ [];
          read = extents_closed image (end_of row) link rest closed old.reads same (omega arith) old.read;
          live = ap (drop (between link.first row.first)) (joined_closed old.reads) ∙ old.live;
          filled =
              subst (λ (l : List (List Meaning)). are_filled rule.least (l ++ [] ∷ []) ≡ true) whole
              (filled_closed rule.least x xs (ap (are_filled rule.least) whole ∙ old.filled)
              (subst (λ (l : List (List Meaning)). rule.least ≤ pages_in (last_read l)) (sym whole) filled));
          short = ap (are_short rule.largest) (joined_closed old.reads) ∙ old.short;
          rise = old.rise;
          fits = old.fits;
        },
        refl,
      )
    where
      past : (a f n : ℕ) → a ≡ (f + n) % 4294967296 → f < 4294967296 → 0 < n → n ≤ 100000 → not (nat_lt (between a f) 2147483648) ≡ true
      past a f n same lt some le = ap not (test (between a f) (omega (arith, same, lt, some, le)))
        where
          test : (n : ℕ) → 2147483648 ≤ n → nat_lt n 2147483648 ≡ false
          test n h = grind (arith, nat_tests)

      begins : (links : List Link) → begins_well row (link ∷ links) ≡ true → begins_well row (link ∷ links ++ closed ∷ []) ≡ true
      begins [] h =
          both (nat_lt 0 row.count && is_by link.first row.first) (not (is_by closed.first row.first)) h
          (past closed.first row.first row.count same keeps.first (some_count [] h) keeps.count)
      begins (next ∷ links) h = h

  pub followed : (closed : Link) → closed.first ≡ end_of row → rule.least ≤ pages_in (last_read old.reads)
      → kept_of rule image now row (link ∷ rest ++ closed ∷ []) ≡ Some records
  followed closed same filled = parts_kept rule image now row (link ∷ rest ++ closed ∷ []) records (followed_are closed same filled).0

  -- another only block, which has the live records alone
  pub alone_are : (new : Link) → new.first ≡ row.first
      → read_extent image (extent_to (end_of row) new) ≡ Some records
      → (are : KeptAre rule image now row (new ∷ []) records) × (are.reads ≡ records ∷ [])
  alone_are new same spelled =
      let wholly : joined (records ∷ []) ≡ records = append-nil records in (
        record {
          begins = both (nat_lt 0 row.count) (is_by new.first row.first) (positive row.count (some_count rest old.begins)) (at_it new.first row.first same keeps.first);
          reads = records ∷ [];
          read = each_more (read_extent image) (extent_to (end_of row) new) [] records [] spelled refl;
          live = ap (λ (n : ℕ). drop n (joined (records ∷ []))) (none_between new.first row.first same keeps.first) ∙ wholly;
          filled = refl;
          short =
              subst (λ (l : List Meaning). are_short rule.largest l ≡ true) (sym (wholly ∙ sym old.live))
              (short_behind (dead_by row.first (link ∷ rest)) (joined old.reads) old.short);
          rise = old.rise;
          fits = old.fits;
        },
        refl,
      )
    where
      positive : (n : ℕ) → 0 < n → nat_lt 0 n ≡ true
      positive n h = grind (arith, nat_tests)

      short_behind : (k : ℕ) (all : List Meaning) → are_short rule.largest all ≡ true → are_short rule.largest (drop k all) ≡ true
      short_behind zero all h = h
      short_behind (suc k) [] h = h
      short_behind (suc k) (x ∷ all) h = short_behind k all (two (nat_le (length x.packet) rule.largest) (are_short rule.largest all) h)

  pub swapped_alone : (none : rest ≡ []) (new : Link) → new.first ≡ row.first
      → read_extent image (extent_to (end_of row) new) ≡ Some records
      → kept_of rule image now row (new ∷ []) ≡ Some records
  swapped_alone none new same spelled = parts_kept rule image now row (new ∷ []) records (alone_are new same spelled).0

-- links with another last one, whose extent has the same records
pub record Swapped (image : ℕ → List ℕ) (end : ℕ) (link : Link) (swapped : List Link) (reads : List (List Meaning)) : Type 0 where
  pub head : Link
  pub tail : List Link
  pub are : swapped ≡ head ∷ tail
  pub same_first : head.first ≡ link.first
  pub read : each (read_extent image) (extents_to end swapped) ≡ Some reads

swapped_read : (image : ℕ → List ℕ) (end : ℕ) (new link : Link) (rest : List Link) (swapped : List Link) (reads : List (List Meaning))
    → swap_last new (link ∷ rest) ≡ Some swapped → new.first ≡ (last_of link rest).first
    → read_extent image (extent_to end new) ≡ Some (last_read reads)
    → each (read_extent image) (extents_from end link rest) ≡ Some reads → Swapped image end link swapped reads
swapped_read image end new link [] swapped reads is same spelled h =
    let (records, none, read, are, whole) = each_cons (read_extent image) (extent_to end link) [] reads h in
    let nothing : [] ≡ none = same_Some [] none are in
    let all : records ∷ [] ≡ reads = ap (λ (l : List (List Meaning)). records ∷ l) nothing ∙ whole in
    let now_is : new ∷ [] ≡ swapped = same_Some (new ∷ []) swapped is in
    record {
      head = new;
      tail = [];
      are = sym now_is;
      same_first = same;
      read =
          ap (λ (l : List Link). each (read_extent image) (extents_to end l)) (sym now_is)
          ∙ each_more (read_extent image) (extent_to end new) [] (last_read reads) [] spelled refl
          ∙ ap (λ (l : List (List Meaning)). Some (last_read l ∷ [])) (sym all) ∙ ap Some all;
    }
swapped_read image end new link (next ∷ rest) swapped reads is same spelled h =
    let (records, behind, read, are, whole) = each_cons (read_extent image) (extent_to next.first link) (extents_from end next rest) reads h in
    let (deeper, made, last) = some_then (swap_last new (next ∷ rest)) (λ (l : List Link). Some (link ∷ l)) swapped is in
    let now_is : link ∷ deeper ≡ swapped = same_Some (link ∷ deeper) swapped last in
    let (x, xs, e) = some_read image end next rest behind are in
    let ends : last_read behind ≡ last_read reads = ap last_read (sym e) ∙ ap (λ (l : List (List Meaning)). last_read (records ∷ l)) e ∙ ap last_read whole in
    let inner = swapped_read image end new next rest deeper behind made same (spelled ∙ ap Some (sym ends)) are in
    let inner_read : each (read_extent image) (extents_from end inner.head inner.tail) ≡ Some behind =
    sym (ap (λ (l : List Link). each (read_extent image) (extents_to end l)) inner.are) ∙ inner.read in
    record {
      head = link;
      tail = deeper;
      are = sym now_is;
      same_first = refl;
      read =
          ap (λ (l : List Link). each (read_extent image) (extents_to end l)) (sym now_is ∙ ap (λ (l : List Link). link ∷ l) inner.are)
          ∙ each_more (read_extent image) (extent_to inner.head.first link) (extents_from end inner.head inner.tail) records behind
          (ap (λ (n : ℕ). read_extent image (extent_to n link)) inner.same_first ∙ read) inner_read
          ∙ ap Some whole;
    }

-- another last block behind others
pub behind_are : (rule : Rule) (blocks : ℕ) (image : ℕ → List ℕ) (now : ℕ) (row : Row) (link next : Link) (rest : List Link)
    (records : List Meaning) (keeps : Keeps rule blocks image now row (link ∷ next ∷ rest) records)
    (new : Link) (swapped : List Link) → swap_last new (link ∷ next ∷ rest) ≡ Some swapped
    → new.first ≡ (last_of next rest).first
    → read_extent image (extent_to (end_of row) new) ≡ Some (last_read (kept_parts rule image now row (link ∷ next ∷ rest) records keeps.kept).reads)
    → let old = kept_parts rule image now row (link ∷ next ∷ rest) records keeps.kept in
    (are : KeptAre rule image now row swapped records) × (are.reads ≡ old.reads)
behind_are rule blocks image now row link next rest records keeps new swapped is same spelled =
    let old = kept_parts rule image now row (link ∷ next ∷ rest) records keeps.kept in
    let (read_first, behind, read, are, whole) = each_cons (read_extent image) (extent_to next.first link) (extents_from (end_of row) next rest) old.reads old.read in
    let (deeper, made, last) = some_then (swap_last new (next ∷ rest)) (λ (l : List Link). Some (link ∷ l)) swapped is in
    let now_is : link ∷ deeper ≡ swapped = same_Some (link ∷ deeper) swapped last in
    let (x, xs, e) = some_read image (end_of row) next rest behind are in
    let ends : last_read behind ≡ last_read old.reads = ap last_read (sym e) ∙ ap (λ (l : List (List Meaning)). last_read (read_first ∷ l)) e ∙ ap last_read whole in
    let inner = swapped_read image (end_of row) new next rest deeper behind made same (spelled ∙ ap Some (sym ends)) are in
    let all = swapped_read image (end_of row) new link (next ∷ rest) swapped old.reads is same spelled old.read in
    let shape : swapped ≡ link ∷ inner.head ∷ inner.tail = sym now_is ∙ ap (λ (l : List Link). link ∷ l) inner.are in (
      record {
        begins =
            ap (begins_well row) shape
            ∙ ap (λ (n : ℕ). nat_lt 0 row.count && is_by link.first row.first && not (is_by n row.first)) inner.same_first ∙ old.begins;
        reads = old.reads;
        read = all.read;
        live = ap (λ (l : List Link). drop (dead_by row.first l) (joined old.reads)) shape ∙ old.live;
        filled = old.filled;
        short = old.short;
        rise = old.rise;
        fits = old.fits;
      },
      refl,
    )

pub swapped_behind : (rule : Rule) (blocks : ℕ) (image : ℕ → List ℕ) (now : ℕ) (row : Row) (link next : Link) (rest : List Link)
    (records : List Meaning) (keeps : Keeps rule blocks image now row (link ∷ next ∷ rest) records)
    (new : Link) (swapped : List Link) → swap_last new (link ∷ next ∷ rest) ≡ Some swapped
    → new.first ≡ (last_of next rest).first
    → read_extent image (extent_to (end_of row) new) ≡ Some (last_read (kept_parts rule image now row (link ∷ next ∷ rest) records keeps.kept).reads)
    → kept_of rule image now row swapped ≡ Some records
swapped_behind rule blocks image now row link next rest records keeps new swapped is same spelled =
    parts_kept rule image now row swapped records
    (behind_are rule blocks image now row link next rest records keeps new swapped is same spelled).0
