-- The last block of a store behind a put.
use Rattle.std.proofs.Common.{◌≡◌, ℕ, zero, suc, ◌+◌, ◌-◌, ◌%◌, ◌<◌, ◌≤◌, ◌&&◌, nat_lt, Bool, true, false, not, List, [], ◌∷◌, ◌++◌, length, Option, Some, None, refl, sym, ◌∙◌, ap, subst, arith}
use Rattle.std.specs.Prelude.{All, if◌then◌else◌, slice_get}
use Rattle.std.specs.List.{list_any}
use Rattle.std.proofs.lemmas.Bool.Decides.{nat_tests}
use Rattle.std.proofs.lemmas.List.Elements.{All-cons, All-head, All-nil, All-tail}
use Rattle.std.proofs.lemmas.Option.{same_Some}
use Rattle.board.specs.Flash.{IsContent}
use Rattle.chain_log.specs.Pages.{block_octets}
use Rattle.image_table.specs.Table.{in_records, table_rule}
use Rattle.image_table.proofs.Frames.{data_tests, store_kept, table_loads}
use Rattle.image_table.proofs.Stores.{found_in, store_keeps}
use Rattle.pst_model.specs.Table.{Store, Stored, Table}
use Rattle.record_view.specs.Records.{Meaning, record_at}
use Rattle.record_view.specs.declared.link.Link.{Link}
use Rattle.space_packet.specs.Charge.{charge_of}
use Rattle.store_directory.specs.Changes.{Change}
use Rattle.store_directory.specs.Directory.{Directory, Listed, trim_front, trimmed}
use Rattle.store_directory.specs.Rows.{between, is_by}
use Rattle.store_directory.specs.declared.row.Row.{Row}
use Rattle.store_load.specs.Extents.{end_of, extent_to, last_of, last_read, pages_in, read_extent}
use Rattle.store_load.specs.Frame.{in_store, pages_read}
use Rattle.store_load.specs.Keeping.{IsInDevice, IsLinkOf, Keeps}
use Rattle.store_load.specs.Kept.{begins_well}
use Rattle.store_load.specs.Loaded.{index_of, used_in}
use Rattle.store_load.specs.Moving.{used_by}
use Rattle.store_load.proofs.Counting.{kept_parts}
use Rattle.store_load.proofs.Eachs.{each_cons, each_more, in_either, in_other, one}
use Rattle.store_load.proofs.More.{content_more, extents_more, last_spelled}
use Rattle.store_load.proofs.Indexed.{kept_index}
use Rattle.store_load.proofs.Records.{extent_length, extent_within, few_records}
use Rattle.store_load.proofs.StayingIndexes.{index_stays, used_stays}
use Rattle.time_index.specs.TimeIndex.{TimeIndex}
use Rattle.put_laws.specs.Puts.{Accepts, Begins, SpellsBehind, SpellsFirst, Takes, Tells, last_link, listed_behind, need_of}
use Rattle.put_laws.specs.Walks.{HasOffered, IsTurn, offered_to, table_at}
use Rattle.put_laws.proofs.Applies.{found}
use Rattle.put_laws.proofs.Contents.{few, keeps_is}
use Rattle.store_load.proofs.LastLinks.{empty, last_more, none_between}
use Rattle.put_laws.proofs.Spots.{spot}
use Rattle.put_laws.proofs.Turns.{Turn, turn_of}

-- trims leave the last link

last_trimmed : (first : ℕ) (link : Link) (links : List Link) → last_link (trim_front first link links) ≡ Some (last_of link links)
last_trimmed first link [] = refl
last_trimmed first link (next ∷ links) = pick (last_trimmed first next links) (is_by next.first first)
  where
    pick : last_link (trim_front first next links) ≡ Some (last_of next links) → (b : Bool)
        → last_link (if b then trim_front first next links else link ∷ next ∷ links) ≡ Some (last_of next links)
    pick deeper true = deeper
    pick deeper false = refl

pub last_left : (first count : ℕ) (links : List Link) → 0 < count → last_link (trimmed first count links) ≡ last_link links
last_left first zero links some = absurd (omega arith)
last_left first (suc count) [] some = refl
last_left first (suc count) (link ∷ links) some = last_trimmed first link links

last_behind : (links : List Link) (new : Link) → last_link (links ++ new ∷ []) ≡ Some new
last_behind [] new = refl
last_behind (link ∷ links) new = ap Some (last_more link links new)

-- the pages in use, by the last link and the number behind the last record

abbrev used_last : (image : ℕ → List ℕ) → (end : ℕ) → Option Link → ℕ
used_last image end None = 0
used_last image end (Some link) = pages_read (read_extent image (extent_to end link))

used_is : (image : ℕ → List ℕ) (row : Row) (links : List Link) → used_in image row links ≡ used_last image (end_of row) (last_link links)
used_is image row [] = refl
used_is image row (link ∷ links) = refl

pub used_same : (image : ℕ → List ℕ) (old new : Row) (links left : List Link) → end_of new ≡ end_of old → last_link left ≡ last_link links
    → used_in image new left ≡ used_in image old links
used_same image old new links left ends last =
    used_is image new left ∙ ap (λ (n : ℕ). used_last image n (last_link left)) ends ∙ ap (used_last image (end_of old)) last ∙ sym (used_is image old links)

-- one record more in a block
used_more : (blocks : ℕ) (image : ℕ → List ℕ) → IsContent blocks image → (end : ℕ) (link : Link) (records : List Meaning) (r : Meaning) → IsLinkOf blocks link → end < 4294967296
    → between link.first end < 4294967295 → read_extent image (extent_to end link) ≡ Some records
    → record_at (block_octets image link.block) end (pages_in records) ≡ Some r
    → pages_read (read_extent image (extent_to ((end + 1) % 4294967296) link)) ≡ pages_in records + charge_of (length r.packet)
used_more blocks image content end link records r own low short read spelled =
    let more =
    extents_more blocks image content end link [] (records ∷ []) r (All-cons (IsLinkOf blocks) link [] own (All-nil (IsLinkOf blocks))) low short
    (each_more (read_extent image) (extent_to end link) [] records [] read refl) spelled in
    let (all, none, is, nothing, whole) = each_cons (read_extent image) (extent_to ((end + 1) % 4294967296) link) [] ((records ++ r ∷ []) ∷ []) more in
    let same : all ≡ records ++ r ∷ [] = same_Some all (records ++ r ∷ []) (ap (λ (l : List (List Meaning)). slice_get l 0) whole) in
    ap pages_read is ∙ ap pages_in same ∙ content_more records r

own_last : (blocks : ℕ) (link : Link) (links : List Link) → All (IsLinkOf blocks) (link ∷ links) → IsLinkOf blocks (last_of link links)
own_last blocks link [] own = All-head (IsLinkOf blocks) link [] own
own_last blocks link (next ∷ links) own = own_last blocks next links (All-tail (IsLinkOf blocks) link (next ∷ links) own)

-- a store with blocks has records
some_count : (row : Row) (link : Link) (links : List Link) → begins_well row (link ∷ links) ≡ true → 0 < row.count
some_count row link [] h = some row.count (one (nat_lt 0 row.count) (is_by link.first row.first) h)
  where
    some : (n : ℕ) → nat_lt 0 n ≡ true → 0 < n
    some n h = grind (arith, nat_tests)
some_count row link (next ∷ links) h =
    some row.count (one (nat_lt 0 row.count) (is_by link.first row.first) (one (nat_lt 0 row.count && is_by link.first row.first) (not (is_by next.first row.first)) h))
  where
    some : (n : ℕ) → nat_lt 0 n ≡ true → 0 < n
    some n h = grind (arith, nat_tests)

ends_one_more : (first count gone : ℕ) → gone ≤ count
    → ((first + gone) % 4294967296 + (count - gone + 1)) % 4294967296 ≡ ((first + count) % 4294967296 + 1) % 4294967296
ends_one_more first count gone few = omega (arith, few)

module _ (blocks : ℕ) (image : ℕ → List ℕ) (d : Directory) (table : Table) (stored : Stored) (at : ℕ) (changes : List Change) (before : Directory) (s : Listed) (store : Store)
    (walk : HasOffered blocks image d table stored at changes before) (turn : IsTurn d table at s store) where
  abbrev here : Turn blocks image before table stored at s store
  here = turn_of blocks image d table stored at changes before s store walk turn

  pub told_last : let new = listed_behind Tells s in (last_link new.links ≡ last_link s.links) × (used_in image new.row new.links ≡ used_in image s.row s.links)
  told_last =
      let (records, keeps, whole) = keeps_is blocks image before table stored at s store here in
      let last = same s.links (kept_parts table_rule image before.now s.row s.links records keeps.kept).begins in
      (last, used_same image s.row (listed_behind Tells s).row s.links (listed_behind Tells s).links refl last)
    where
      same : (links : List Link) → begins_well s.row links ≡ true → last_link (trimmed s.first s.count links) ≡ last_link links
      same [] h = none s.count
        where
          none : (count : ℕ) → last_link (trimmed s.first count []) ≡ None
          none zero = refl
          none (suc count) = refl
      same (link ∷ links) h = last_left s.first s.count (link ∷ links) (some_count s.row link links h)

  module _ (gone : ℕ) (accepts : Accepts store stored gone) where
    abbrev meaning : Meaning
    meaning = record { number = end_of s.row; stamp = stored.time; packet = stored.octets }

    pub taken_last : SpellsBehind image s stored → let new = listed_behind (Takes gone) s in
        (last_link new.links ≡ last_link s.links) × (used_in image new.row new.links ≡ used_in image s.row s.links + need_of stored)
    taken_last spells =
        let (records, keeps, whole) = keeps_is blocks image before table stored at s store here in
        let new = listed_behind (Takes gone) s in
        let last : last_link new.links ≡ last_link s.links = last_left new.row.first (s.count - gone + 1) s.links (omega arith) in
        let all = subst (λ (l : List Link). Keeps table_rule blocks image before.now s.row l records) spells.some keeps in
        let are = kept_parts table_rule image before.now s.row (spells.link ∷ spells.links) records all.kept in
        let ending = last_of spells.link spells.links in
        let read = last_spelled image (end_of s.row) spells.link spells.links are.reads are.read in
        let used : used_by image s.row spells.link spells.links ≡ pages_in (last_read are.reads) = ap pages_read read in
        let own = own_last blocks spells.link spells.links all.each_link in
        let within = extent_within blocks image all.pages (extent_to (end_of s.row) ending) (last_read are.reads) own.block read in
        let long : length (last_read are.reads) ≡ between ending.first (end_of s.row) = extent_length image (extent_to (end_of s.row) ending) (last_read are.reads) read in
        let spelled : record_at (block_octets image ending.block) (end_of s.row) (pages_in (last_read are.reads)) ≡ Some meaning =
        ap (record_at (block_octets image ending.block) (end_of s.row)) (sym used) ∙ spells.spelled in
        let more =
        used_more blocks image all.pages (end_of s.row) ending (last_read are.reads) meaning own (omega arith)
        (omega (arith, long, within, few_records (last_read are.reads))) read spelled in (
          last,
          used_is image new.row new.links
              ∙ ap (λ (n : ℕ). used_last image n (last_link new.links)) (ends_one_more s.first s.count gone (few blocks image before table stored at s store here gone accepts))
              ∙ ap (used_last image ((end_of s.row + 1) % 4294967296)) (last ∙ ap last_link spells.some)
              ∙ more
              ∙ ap (λ (n : ℕ). n + need_of stored) (sym used ∙ ap (used_in image s.row) (sym spells.some)),
        )

    pub begun_last : (link : Link) → SpellsFirst blocks image before s link stored → let new = listed_behind (Begins gone link) s in
        (last_link new.links ≡ Some link) × (used_in image new.row new.links ≡ need_of stored)
    begun_last link spells =
        let new = listed_behind (Begins gone link) s in
        let last : last_link new.links ≡ Some link = last_left new.row.first (s.count - gone + 1) (s.links ++ link ∷ []) (omega arith) ∙ last_behind s.links link in
        let none : between link.first (end_of s.row) ≡ 0 = none_between link.first (end_of s.row) spells.first (omega arith) in
        let own : IsLinkOf blocks link = record { block = (data_tests blocks link.block spells.own).1; first = omega (arith, spells.first) } in
        let more =
        used_more blocks image walk.pages (end_of s.row) link [] meaning own (omega arith) (omega (arith, none)) (empty image (end_of s.row) link none) spells.spelled in (
          last,
          used_is image new.row new.links
              ∙ ap (λ (n : ℕ). used_last image n (last_link new.links)) (ends_one_more s.first s.count gone (few blocks image before table stored at s store here gone accepts))
              ∙ ap (used_last image ((end_of s.row + 1) % 4294967296)) last
              ∙ more ∙ omega arith,
        )

-- on another image

any_in : {X : Type 0} (test : X → Bool) (front : List X) (x : X) (back : List X) → test x ≡ true → list_any test (front ++ x ∷ back) ≡ true
any_in test [] x back is = in_either (test x) (list_any test back) is
any_in test (y ∷ front) x back is = in_other (test y) (list_any test (front ++ x ∷ back)) (any_in test front x back is)

module _ (blocks : ℕ) (image : ℕ → List ℕ) (d : Directory) (table : Table) (stored : Stored) (at place : ℕ) (changes : List Change) (next : Directory) (s : Listed)
    (walk : HasOffered blocks image d table stored at changes next) (listed : slice_get next.stores place ≡ Some s) where
  keeps_at : (records : List Meaning) × Keeps table_rule blocks image next.now s.row s.links records
  keeps_at =
      let loads = table_loads blocks image next (table_at stored at table) walk.loads in
      let there = spot next.stores place s listed in
      let stands = found blocks next walk.directory loads.share there.front s there.back there.parted in
      let here = found_in image next.now s.identifier next.stores (offered_to stored at table.stores) s loads.stores stands in
      let (records, kept, whole) = store_kept image next.now s here.store here.is in
      (records, store_keeps blocks image next s.identifier next.now s records walk.pages walk.directory loads.share stands kept)

  module _ (other : ℕ → List ℕ) (pages : IsContent blocks other) (same : (p : ℕ) → in_records image p next ≡ true → other p ≡ image p) where
    own_pages : (p : ℕ) → in_store image p s.row s.links ≡ true → other p ≡ image p
    own_pages p is =
        let there = spot next.stores place s listed in
        same p (ap (list_any (λ (x : Listed). in_store image p x.row x.links)) there.parted ∙ any_in (λ (x : Listed). in_store image p x.row x.links) there.front s there.back is)

    own_links : All (IsInDevice blocks) s.links
    own_links = let (records, keeps) = keeps_at in λ k link lt. (keeps.each_link k link lt).block

    pub used_beside : used_in other s.row s.links ≡ used_in image s.row s.links
    used_beside =
        let (records, keeps) = keeps_at in
        let (index, is) = kept_index table_rule image next.now s.row s.links records keeps.kept in
        used_stays table_rule blocks image other next.now s.row s.links index walk.pages pages own_links is own_pages

    pub places_beside : (index : TimeIndex) → index_of table_rule image next.now s.row s.links ≡ Some index
        → index_of table_rule other next.now s.row s.links ≡ Some index
    places_beside index is =
        index_stays table_rule blocks image other next.now s.row s.links index walk.pages pages own_links is own_pages
