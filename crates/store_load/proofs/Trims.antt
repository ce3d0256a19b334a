-- What the extents have that are left when the front of a store goes.
use Rattle.std.proofs.Common.{◌≡◌, ℕ, ◌+◌, ◌<◌, nat_le, Bool, true, false, List, [], ◌∷◌, ◌++◌, All, length, drop, Some, refl, sym, ◌∙◌, ap, subst, arith, length-append}
use Rattle.std.specs.Prelude.{if◌then◌else◌}
use Rattle.std.proofs.Math.Seq.{drop-append-add}
use Rattle.std.proofs.lemmas.List.Elements.{All-head, All-tail}
use Rattle.board.specs.Flash.{IsContent}
use Rattle.record_view.specs.Records.{Meaning}
use Rattle.record_view.specs.declared.link.Link.{Link}
use Rattle.store_directory.specs.Directory.{trim_front}
use Rattle.store_directory.specs.Rows.{between, is_by}
use Rattle.store_load.specs.Each.{each}
use Rattle.store_load.specs.Extents.{extent_to, extents_from, joined, last_of, last_read, pages_in, read_extent}
use Rattle.store_load.specs.Keeping.{IsLinkOf}
use Rattle.store_load.specs.Kept.{are_filled, are_short}
use Rattle.store_load.specs.Trimmed.{IsTrimmed}
use Rattle.store_load.proofs.Counting.{by_low, sum_between}
use Rattle.store_load.proofs.Eachs.{each_cons, two}
use Rattle.store_load.proofs.More.{some_read}
use Rattle.store_load.proofs.Records.{extent_length, extent_within, few_records}

-- records behind others are no longer than all of them
short_rest : (largest : ℕ) (records rest : List Meaning) → are_short largest (records ++ rest) ≡ true → are_short largest rest ≡ true
short_rest largest [] rest h = h
short_rest largest (meaning ∷ records) rest h = short_rest largest records rest (two (nat_le (length meaning.packet) largest) (are_short largest (records ++ rest)) h)

filled_rest : (least : ℕ) (records : List Meaning) (x : List Meaning) (xs : List (List Meaning)) → are_filled least (records ∷ x ∷ xs) ≡ true → are_filled least (x ∷ xs) ≡ true
filled_rest least records x xs h = two (nat_le least (pages_in records)) (are_filled least (x ∷ xs)) h

-- the records from a link on to a number behind the next link
pub split_front : (blocks : ℕ) (image : ℕ → List ℕ) (content : IsContent blocks image) (first : ℕ) (low : first < 4294967296) (link next : Link) (links : List Link) (records : List Meaning)
    → All (IsLinkOf blocks) (link ∷ next ∷ links) → read_extent image (extent_to next.first link) ≡ Some records → between next.first first < 2147483648
    → between link.first first ≡ length records + between next.first first
split_front blocks image content first low link next links records own read near_next =
    let long : length records ≡ between link.first next.first = extent_length image (extent_to next.first link) records read in
    let here = All-head (IsLinkOf blocks) link (next ∷ links) own in
    let there = All-head (IsLinkOf blocks) next links (All-tail (IsLinkOf blocks) link (next ∷ links) own) in
    let within = extent_within blocks image content (extent_to next.first link) records here.block read in
    let few = few_records records in
    sum_between link.first next.first first here.first there.first low (omega (arith, long, within, few, near_next))
    ∙ ap (λ (n : ℕ). n + between next.first first) (sym long)

-- trimming the front
pub trimmed_read : (blocks : ℕ) (image : ℕ → List ℕ) (content : IsContent blocks image) (end first : ℕ) (link : Link) (links : List Link) (reads : List (List Meaning)) → All (IsLinkOf blocks) (link ∷ links) → first < 4294967296
    → each (read_extent image) (extents_from end link links) ≡ Some reads → between link.first first < 2147483648
    → IsTrimmed blocks image end first (trim_front first link links) (between link.first first) reads (last_of link links)
trimmed_read blocks image content end first link [] reads own lt h near = record {
  link = link;
  links = [];
  some = refl;
  is_near = near;
  left = reads;
  read = h;
  own = own;
  last_is = refl;
  last_same = refl;
  records = refl;
  within = refl;
  filled = λ least f. f;
  all_short = λ largest f. f;
}
trimmed_read blocks image content end first link (next ∷ links) reads own lt h near =
    pick (λ rest are near_next. trimmed_read blocks image content end first next links rest (All-tail (IsLinkOf blocks) link (next ∷ links) own) lt are near_next) (is_by next.first first) refl
  where
    pick : ((rest : List (List Meaning)) → each (read_extent image) (extents_from end next links) ≡ Some rest → between next.first first < 2147483648
        → IsTrimmed blocks image end first (trim_front first next links) (between next.first first) rest (last_of next links))
        → (b : Bool) → is_by next.first first ≡ b → IsTrimmed blocks image end first (if b then trim_front first next links else link ∷ next ∷ links) (between link.first first) reads (last_of next links)
    pick again false is = record {
      link = link;
      links = next ∷ links;
      some = refl;
      is_near = near;
      left = reads;
      read = h;
      own = own;
      last_is = refl;
      last_same = refl;
      records = refl;
      within = refl;
      filled = λ least f. f;
      all_short = λ largest f. f;
    }
    pick again true is =
        let (records, rest, read, are, whole) = each_cons (read_extent image) (extent_to next.first link) (extents_from end next links) reads h in
        let near_next = by_low next.first first is in
        let split : between link.first first ≡ length records + between next.first first =
        split_front blocks image content first lt link next links records own read near_next in
        let deeper = again rest are near_next in
        let front : drop (between link.first first) (joined reads) ≡ drop (between next.first first) (joined rest) =
        ap (λ (l : List (List Meaning)). drop (between link.first first) (joined l)) (sym whole) ∙ ap (λ (n : ℕ). drop n (records ++ joined rest)) split ∙ drop-append-add records (joined rest) (between next.first first) in
        let total : length (joined reads) ≡ length records + length (joined rest) = ap (λ (l : List (List Meaning)). length (joined l)) (sym whole) ∙ length-append records (joined rest) in
        let (x, xs, e) = some_read image end next links rest are in
        let ends : last_read rest ≡ last_read reads = ap last_read (sym e) ∙ ap (λ (l : List (List Meaning)). last_read (records ∷ l)) e ∙ ap last_read whole in
        record {
          link = deeper.link;
          links = deeper.links;
          some = deeper.some;
          is_near = deeper.is_near;
          left = deeper.left;
          read = deeper.read;
          own = deeper.own;
          last_is = deeper.last_is;
          last_same = deeper.last_same ∙ ends;
          records = deeper.records ∙ sym front;
          within = omega (arith, deeper.within, total, split);
          filled = λ least f. deeper.filled least (subst (λ (l : List (List Meaning)). are_filled least l ≡ true) e
              (filled_rest least records x xs (subst (λ (l : List (List Meaning)). are_filled least l ≡ true) (sym (ap (λ (l : List (List Meaning)). records ∷ l) e ∙ whole)) f)));
          all_short = λ largest f. deeper.all_short largest (short_rest largest records (joined rest)
              (subst (λ (l : List (List Meaning)). are_short largest (joined l) ≡ true) (sym whole) f));
        }
