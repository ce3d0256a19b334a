-- What a store keeps whose front goes, and that has one record more.
use Rattle.std.proofs.Common.{◌≡◌, ℕ, zero, suc, ◌+◌, ◌-◌, ◌%◌, ◌<◌, ◌≤◌, ◌&&◌, nat_le, nat_lt, Bool, true, false, not, List, [], ◌∷◌, ◌++◌, All, length, drop, Some, refl, sym, ◌∙◌, ap, subst, arith}
use Rattle.std.specs.Prelude.{if◌then◌else◌}
use Rattle.std.proofs.lemmas.Bool.{le-leb, lt-ltb}
use Rattle.std.proofs.lemmas.Bool.Decides.{nat_tests}
use Rattle.std.proofs.lemmas.List.{drop-append-le, drop-drop}
use Rattle.std.proofs.lemmas.List.Elements.{All-head}
use Rattle.std.proofs.lemmas.List.Folds.{list_all-append}
use Rattle.space_packet.specs.Charge.{charge_of}
use Rattle.record_view.specs.Records.{Meaning, record_at}
use Rattle.record_view.specs.declared.link.Link.{Link}
use Rattle.store_directory.specs.Directory.{trim_front, trimmed}
use Rattle.store_directory.specs.Rows.{between, is_by}
use Rattle.store_directory.specs.declared.row.Row.{Row}
use Rattle.store_load.specs.Each.{each}
use Rattle.chain_log.specs.Pages.{block_octets}
use Rattle.store_load.specs.Extents.{end_of, extent_to, extents_from, extents_of, extents_to, joined, last_of, last_read, pages_in, read_extent, with_record}
use Rattle.store_load.specs.Keeping.{IsLinkOf, Keeps}
use Rattle.store_load.specs.Kept.{are_short, begins_well, dead_by, kept_of, rise_to}
use Rattle.store_load.specs.Trimmed.{IsTrimmed}
use Rattle.store_load.specs.declared.rule.Rule.{Rule}
use Rattle.store_load.proofs.Counting.{KeptAre, by_low, counted, ends_at, first_by, kept_parts, low_by, parts_kept, small_enough}
use Rattle.store_load.proofs.Eachs.{both, one, two}
use Rattle.store_load.proofs.More.{content_more, extents_more, filled_more, joined_more, last_spelled, some_read}
use Rattle.store_load.proofs.Records.{extent_length, extent_within, few_records}
use Rattle.store_load.proofs.Trims.{trimmed_read}

-- stamps at a later `now`
pub rise_later : (now later from : ℕ) (records : List Meaning) → now ≤ later → rise_to now from records ≡ true → rise_to later from records ≡ true
rise_later now later from [] le h = refl
rise_later now later from (r ∷ records) le h =
    let front = one (nat_le from r.stamp && nat_le r.stamp now) (rise_to now r.stamp records) h in
    both (nat_le from r.stamp && nat_le r.stamp later) (rise_to later r.stamp records) (tests from r.stamp front) (rise_later now later r.stamp records le (two (nat_le from r.stamp && nat_le r.stamp now) (rise_to now r.stamp records) h))
  where
    tests : (from time : ℕ) → (nat_le from time && nat_le time now) ≡ true → (nat_le from time && nat_le time later) ≡ true
    tests from time h = grind (arith, nat_tests)

-- and with one record more, whose stamp is past all of them
rise_more : (now later from : ℕ) (records : List Meaning) (r : Meaning) → from ≤ r.stamp → now ≤ r.stamp → r.stamp ≤ later → rise_to now from records ≡ true → rise_to later from (records ++ r ∷ []) ≡ true
rise_more now later from [] r from_le low high h = both (nat_le from r.stamp && nat_le r.stamp later) true (tests from r.stamp from_le high) refl
  where
    tests : (from time : ℕ) → from ≤ time → time ≤ later → (nat_le from time && nat_le time later) ≡ true
    tests from time a b = grind (arith, nat_tests)
rise_more now later from (x ∷ records) r from_le low high h =
    let front = one (nat_le from x.stamp && nat_le x.stamp now) (rise_to now x.stamp records) h in
    let rest = two (nat_le from x.stamp && nat_le x.stamp now) (rise_to now x.stamp records) h in
    both (nat_le from x.stamp && nat_le x.stamp later) (rise_to later x.stamp (records ++ r ∷ [])) (tests from x.stamp r.stamp front low high)
    (rise_more now later x.stamp records r (under from x.stamp r.stamp front low) low high rest)
  where
    tests : (from time last : ℕ) → (nat_le from time && nat_le time now) ≡ true → now ≤ last → last ≤ later → (nat_le from time && nat_le time later) ≡ true
    tests from time last h a b = grind (arith, nat_tests)

    under : (from time last : ℕ) → (nat_le from time && nat_le time now) ≡ true → now ≤ last → time ≤ last
    under from time last h a = grind (arith, nat_tests)

rise_lower : (now from : ℕ) (records : List Meaning) → rise_to now from records ≡ true → rise_to now 0 records ≡ true
rise_lower now from [] h = refl
rise_lower now from (r ∷ records) h =
    both (nat_le 0 r.stamp && nat_le r.stamp now) (rise_to now r.stamp records) (tests from r.stamp (one (nat_le from r.stamp && nat_le r.stamp now) (rise_to now r.stamp records) h))
    (two (nat_le from r.stamp && nat_le r.stamp now) (rise_to now r.stamp records) h)
  where
    tests : (from time : ℕ) → (nat_le from time && nat_le time now) ≡ true → (nat_le 0 time && nat_le time now) ≡ true
    tests from time h = grind (arith, nat_tests)

-- the stamps of what is left rise too
rise_dropped : (now from k : ℕ) (records : List Meaning) → rise_to now from records ≡ true → rise_to now 0 (drop k records) ≡ true
rise_dropped now from zero records h = rise_lower now from records h
rise_dropped now from (suc k) [] h = refl
rise_dropped now from (suc k) (r ∷ records) h = rise_dropped now r.stamp k records (two (nat_le from r.stamp && nat_le r.stamp now) (rise_to now r.stamp records) h)

pub trim_suc : (first count n : ℕ) (link : Link) (links : List Link) → count ≡ suc n → trimmed first count (link ∷ links) ≡ trim_front first link links
trim_suc first count n link links is = ap (λ (k : ℕ). trimmed first k (link ∷ links)) is

last_more : (x : List Meaning) (xs : List (List Meaning)) (r : Meaning) → last_read (with_record (x ∷ xs) r) ≡ last_read (x ∷ xs) ++ r ∷ []
last_more x [] r = refl
last_more x (y ∷ []) r = refl
last_more x (y ∷ z ∷ rest) r = last_more y (z ∷ rest) r

-- a store whose links were trimmed begins well
trimmed_begins : (row : Row) (link : Link) (links : List Link) → 0 < row.count → is_by link.first row.first ≡ true
    → begins_well row (trim_front row.first link links) ≡ true
trimmed_begins row link [] some by = both (nat_lt 0 row.count) (is_by link.first row.first) (lt-ltb 0 row.count some) by
trimmed_begins row link (next ∷ links) some by =
    pick (trimmed_begins row next links some) (is_by next.first row.first) refl
  where
    pick : (is_by next.first row.first ≡ true → begins_well row (trim_front row.first next links) ≡ true) → (b : Bool) → is_by next.first row.first ≡ b
        → begins_well row (if b then trim_front row.first next links else link ∷ next ∷ links) ≡ true
    pick again true is = again is
    pick again false is =
        both (nat_lt 0 row.count && is_by link.first row.first) (not (is_by next.first row.first))
        (both (nat_lt 0 row.count) (is_by link.first row.first) (lt-ltb 0 row.count some) by) (ap not is)

short_more : (largest : ℕ) (records : List Meaning) (r : Meaning) → are_short largest records ≡ true → length r.packet ≤ largest
    → are_short largest (records ++ r ∷ []) ≡ true
short_more largest records r short le =
    list_all-append (λ (meaning : Meaning). nat_le (length meaning.packet) largest) records (r ∷ [])
    ∙ both (are_short largest records) (are_short largest (r ∷ [])) short
    (both (nat_le (length r.packet) largest) true (le-leb (length r.packet) largest le) refl)

-- a store of which some records go from the front, and which ends later
module _ (rule : Rule) (blocks : ℕ) (image : ℕ → List ℕ) (now later : ℕ) (row : Row) (links : List Link)
    (records : List Meaning) (keeps : Keeps rule blocks image now row links records) (le : now ≤ later)
    (gone : ℕ) (few : gone ≤ row.count) (next : Row) (first_is : next.first ≡ (row.first + gone) % 4294967296) where
  abbrev pub old : KeptAre rule image now row links records
  old = kept_parts rule image now row links records keeps.kept

  still_rise : rise_to now 0 (drop gone records) ≡ true
  still_rise = rise_dropped now 0 gone records old.rise

  -- where it has a block
  module _ (link : Link) (rest : List Link) (same : links ≡ link ∷ rest) where
    pub read_links : each (read_extent image) (extents_from (end_of row) link rest) ≡ Some old.reads
    read_links = sym (ap (λ (l : List Link). each (read_extent image) (extents_to (end_of row) l)) same) ∙ old.read

    pub own : All (IsLinkOf blocks) (link ∷ rest)
    own = subst (All (IsLinkOf blocks)) same keeps.each_link

    dead_is : dead_by row.first links ≡ between link.first row.first
    dead_is = ap (dead_by row.first) same

    pub far_is : between link.first next.first ≡ dead_by row.first links + gone
    far_is =
        let near = by_low link.first row.first (first_by row link rest (sym (ap (begins_well row) same) ∙ old.begins)) in
        let here = All-head (IsLinkOf blocks) link rest own in
        ap (between link.first) first_is
        ∙ ends_at link.first row.first gone here.first keeps.first (omega (arith, few, keeps.count)) near ∙ omega (arith, dead_is)

    near_next : between link.first next.first < 2147483648
    near_next = small_enough rule blocks image now row links records keeps gone (between link.first next.first) few far_is

    pub trim : IsTrimmed blocks image (end_of row) next.first (trim_front next.first link rest) (between link.first next.first) old.reads (last_of link rest)
    trim = trimmed_read blocks image keeps.pages (end_of row) next.first link rest old.reads own (omega (arith, first_is)) read_links near_next

    pub kept_links : (n : ℕ) → next.count ≡ suc n → trimmed next.first next.count links ≡ trim_front next.first link rest
    kept_links n is = ap (trimmed next.first next.count) same ∙ trim_suc next.first next.count n link rest is

    left_records : drop (dead_by next.first (trim_front next.first link rest)) (joined trim.left) ≡ drop gone records
    left_records =
        trim.records ∙ ap (λ (n : ℕ). drop n (joined old.reads)) far_is
        ∙ sym (drop-drop gone (dead_by row.first links) (joined old.reads)) ∙ ap (drop gone) old.live

    begins : (n : ℕ) → next.count ≡ suc n → begins_well next (trim_front next.first link rest) ≡ true
    begins n is = trimmed_begins next link rest (omega (arith, is)) (low_by link.first next.first near_next)

    pub ended_same : next.count ≡ row.count - gone → end_of next ≡ end_of row
    ended_same count_is = ended row.first row.count gone next.first next.count few first_is count_is
      where
        ended : (f n k g m : ℕ) → k ≤ n → g ≡ (f + k) % 4294967296 → m ≡ n - k → (g + m) % 4294967296 ≡ (f + n) % 4294967296
        ended f n k g m le is count = omega (arith, le, is, count)

    -- some records are left
    pub left_are : (n : ℕ) → next.count ≡ suc n → next.count ≡ row.count - gone → nat_le (pages_in (drop gone records)) next.size ≡ true
        → (are : KeptAre rule image later next (trim_front next.first link rest) (drop gone records)) × (are.reads ≡ trim.left)
    left_are n some count_is fits = (
      record {
        begins = begins n some;
        reads = trim.left;
        read = ap (λ (end : ℕ). each (read_extent image) (extents_to end (trim_front next.first link rest))) (ended_same count_is) ∙ trim.read;
        live = left_records;
        filled = trim.filled rule.least old.filled;
        short = trim.all_short rule.largest old.short;
        rise = rise_later now later 0 (drop gone records) le still_rise;
        fits = fits;
      },
      refl,
    )

    pub some_left : (n : ℕ) → next.count ≡ suc n → next.count ≡ row.count - gone → nat_le (pages_in (drop gone records)) next.size ≡ true
        → kept_of rule image later next (trimmed next.first next.count links) ≡ Some (drop gone records)
    some_left n some count_is fits =
        ap (kept_of rule image later next) (kept_links n some)
        ∙ parts_kept rule image later next (trim_front next.first link rest) (drop gone records) (left_are n some count_is fits).0

    short_last : between (last_of link rest).first (end_of row) < 4294967295
    short_last =
        let last = last_spelled image (end_of row) link rest old.reads read_links in
        let long = extent_length image (extent_to (end_of row) (last_of link rest)) (last_read old.reads) last in
        let within = last_within link rest own in
        let few_last = few_records (last_read old.reads) in
        omega (arith, long, extent_within blocks image keeps.pages (extent_to (end_of row) (last_of link rest)) (last_read old.reads) within last, few_last)
      where
        last_within : (link : Link) (rest : List Link) → All (IsLinkOf blocks) (link ∷ rest) → (last_of link rest).block < blocks
        last_within link [] own = (All-head (IsLinkOf blocks) link [] own).block
        last_within link (next ∷ rest) own = last_within next rest (tail_of link (next ∷ rest) own)
          where
            tail_of : (link : Link) (rest : List Link) → All (IsLinkOf blocks) (link ∷ rest) → All (IsLinkOf blocks) rest
            tail_of link rest own = λ k d lt. own (suc k) d (omega (arith, lt))

    -- one record more is spelled behind the last one
    module _ (meaning : Meaning)
        (spelled : record_at (block_octets image (last_of link rest).block) (end_of row) (pages_in (last_read old.reads)) ≡ Some meaning)
        (low : now ≤ meaning.stamp) (high : meaning.stamp ≤ later) (largest : length meaning.packet ≤ rule.largest)
        (count_is : next.count ≡ row.count - gone + 1) (fits : pages_in (drop gone records) + charge_of (length meaning.packet) ≤ next.size) where
      pub left_read : each (read_extent image) (extents_from (end_of row) trim.link trim.links) ≡ Some trim.left
      left_read = sym (ap (λ (l : List Link). each (read_extent image) (extents_to (end_of row) l)) trim.some) ∙ trim.read

      pub ended_more : end_of next ≡ (end_of row + 1) % 4294967296
      ended_more = ended row.first row.count gone next.first next.count few first_is count_is
        where
          ended : (f n k g m : ℕ) → k ≤ n → g ≡ (f + k) % 4294967296 → m ≡ n - k + 1 → (g + m) % 4294967296 ≡ ((f + n) % 4294967296 + 1) % 4294967296
          ended f n k g m le is count = omega (arith, le, is, count)

      extents_next : each (read_extent image) (extents_of next (trim_front next.first link rest)) ≡ Some (with_record trim.left meaning)
      extents_next =
          let there : record_at (block_octets image (last_of trim.link trim.links).block) (end_of row) (pages_in (last_read trim.left)) ≡ Some meaning =
          ap (λ (l : Link). record_at (block_octets image l.block) (end_of row) (pages_in (last_read trim.left))) trim.last_is
          ∙ ap (λ (x : List Meaning). record_at (block_octets image (last_of link rest).block) (end_of row) (pages_in x)) trim.last_same ∙ spelled in
          ap (λ (l : List Link). each (read_extent image) (extents_to (end_of next) l)) trim.some
          ∙ ap (λ (n : ℕ). each (read_extent image) (extents_from n trim.link trim.links)) ended_more
          ∙ extents_more blocks image keeps.pages (end_of row) trim.link trim.links trim.left meaning trim.own (omega arith) (subst (λ (l : Link). between l.first (end_of row) < 4294967295) (sym trim.last_is) short_last) left_read there

      -- no more of them are dead
      pub dead_within : dead_by next.first (trim_front next.first link rest) ≤ length (joined trim.left)
      dead_within = omega (arith, trim.within, far_is, counted rule blocks image now row links records keeps, few)

      pub more_are : (are : KeptAre rule image later next (trim_front next.first link rest) (drop gone records ++ meaning ∷ [])) × (are.reads ≡ with_record trim.left meaning)
      more_are =
          let (x, xs, whole) = some_read image (end_of row) trim.link trim.links trim.left left_read in
          let more : joined (with_record trim.left meaning) ≡ joined trim.left ++ meaning ∷ [] =
          ap (λ (l : List (List Meaning)). joined (with_record l meaning)) (sym whole) ∙ joined_more x xs meaning ∙ ap (λ (l : List (List Meaning)). joined l ++ meaning ∷ []) whole in (
            record {
              begins = begins (row.count - gone) (omega (arith, count_is));
              reads = with_record trim.left meaning;
              read = extents_next;
              live =
                  ap (drop (dead_by next.first (trim_front next.first link rest))) more
                  ∙ drop-append-le (dead_by next.first (trim_front next.first link rest)) (joined trim.left) (meaning ∷ []) dead_within
                  ∙ ap (λ (l : List Meaning). l ++ meaning ∷ []) left_records;
              filled = filled_more rule.least trim.left meaning ∙ trim.filled rule.least old.filled;
              short = ap (are_short rule.largest) more ∙ short_more rule.largest (joined trim.left) meaning (trim.all_short rule.largest old.short) largest;
              rise = rise_more now later 0 (drop gone records) meaning (omega arith) low high still_rise;
              fits = le-leb (pages_in (drop gone records ++ meaning ∷ [])) next.size (omega (arith, content_more (drop gone records) meaning, fits));
            },
            refl,
          )

      pub one_more : kept_of rule image later next (trimmed next.first next.count links) ≡ Some (drop gone records ++ meaning ∷ [])
      one_more =
          ap (kept_of rule image later next) (kept_links (row.count - gone) (omega (arith, count_is)))
          ∙ parts_kept rule image later next (trim_front next.first link rest) (drop gone records ++ meaning ∷ []) more_are.0
