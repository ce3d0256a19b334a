-- One record more at the end of a store's last block.
use Rattle.std.proofs.Common.{◌≡◌, ℕ, zero, suc, ◌+◌, ◌%◌, ◌<◌, ◌&&◌, nat_le, Bool, List, [], ◌∷◌, ◌++◌, All, length, Some, refl, sym, ◌∙◌, ap, subst, arith, add-zero, append_assoc}
use Rattle.std.proofs.lemmas.List.Elements.{All-head, All-tail}
use Rattle.std.proofs.lemmas.Option.{same_Some}
use Rattle.board.specs.Flash.{IsContent}
use Rattle.space_packet.specs.Charge.{charge_of}
use Rattle.record_view.specs.Records.{Meaning, record_at}
use Rattle.record_view.specs.declared.link.Link.{Link}
use Rattle.store_directory.specs.Rows.{between}
use Rattle.store_load.specs.Each.{each}
use Rattle.chain_log.specs.Pages.{block_octets}
use Rattle.store_load.specs.Extents.{all_records, extent_to, extents_from, joined, last_of, last_read, pages_in, read_extent, with_record}
use Rattle.store_load.specs.Keeping.{IsLinkOf}
use Rattle.store_load.specs.Kept.{are_filled}
use Rattle.store_load.proofs.Eachs.{each_cons, each_more}
use Rattle.store_load.proofs.Records.{cons_records, records_cons, records_none}

next_number : (k n : ℕ) → ((k + 1) % 4294967296 + n) % 4294967296 ≡ (k + suc n) % 4294967296
next_number k n = omega arith

own_number : (k : ℕ) → k < 4294967296 → (k + 0) % 4294967296 ≡ k
own_number k lt = omega arith

-- one record more behind the others of a block
pub records_more : (block : List ℕ) (n k q : ℕ) (records : List Meaning) (r : Meaning) → k < 4294967296 → all_records block n k q ≡ Some records
    → record_at block ((k + n) % 4294967296) (q + pages_in records) ≡ Some r → all_records block (suc n) k q ≡ Some (records ++ r ∷ [])
records_more block zero k q records r lt h is =
    let none : [] ≡ records = same_Some [] records (sym (records_none block k q) ∙ h) in
    let here : record_at block k q ≡ Some r = ap (λ (x : ℕ). record_at block x q) (sym (own_number k lt)) ∙ ap (record_at block ((k + 0) % 4294967296)) (sym (add-zero q) ∙ ap (λ (l : List Meaning). q + pages_in l) none) ∙ is in
    cons_records block 0 k q r [] here (records_none block ((k + 1) % 4294967296) (q + charge_of (length r.packet))) ∙ ap (λ (l : List Meaning). Some (l ++ r ∷ [])) none
records_more block (suc n) k q records r lt h is =
    let (s, rs, is_s, is_rs, whole) = records_cons block n k q records h in
    let place : q + charge_of (length s.packet) + pages_in rs ≡ q + pages_in records = more s rs records whole in
    let there : record_at block (((k + 1) % 4294967296 + n) % 4294967296) (q + charge_of (length s.packet) + pages_in rs) ≡ Some r =
    ap (λ (x : ℕ). record_at block x (q + charge_of (length s.packet) + pages_in rs)) (next_number k n) ∙ ap (record_at block ((k + suc n) % 4294967296)) place ∙ is in
    cons_records block (suc n) k q s (rs ++ r ∷ []) is_s (records_more block n ((k + 1) % 4294967296) (q + charge_of (length s.packet)) rs r (omega arith) is_rs there)
    ∙ ap (λ (l : List Meaning). Some (l ++ r ∷ [])) whole
  where
    more : (s : Meaning) (rs records : List Meaning) → s ∷ rs ≡ records → q + charge_of (length s.packet) + pages_in rs ≡ q + pages_in records
    more s rs records e = let plus : q + charge_of (length s.packet) + pages_in rs ≡ q + (charge_of (length s.packet) + pages_in rs) = omega arith in plus ∙ ap (λ (l : List Meaning). q + pages_in l) e

one_further : (x y : ℕ) → x < 4294967296 → y < 4294967296 → between x y < 4294967295 → between x ((y + 1) % 4294967296) ≡ suc (between x y)
one_further x y a b c = omega arith

comes_to : (x y : ℕ) → x < 4294967296 → y < 4294967296 → (x + between x y) % 4294967296 ≡ y
comes_to x y a b = omega arith

last_extent : (image : ℕ → List ℕ) (end : ℕ) (link : Link) (records : List Meaning) (r : Meaning) → link.first < 4294967296 → end < 4294967296 → between link.first end < 4294967295
    → read_extent image (extent_to end link) ≡ Some records
    → record_at (block_octets image link.block) end (pages_in records) ≡ Some r
    → read_extent image (extent_to ((end + 1) % 4294967296) link) ≡ Some (records ++ r ∷ [])
unfolding read_extent
last_extent image end link records r low lt short h is =
    let block = block_octets image link.block in
    let there : record_at block ((link.first + between link.first end) % 4294967296) (0 + pages_in records) ≡ Some r =
    ap (λ (k : ℕ). record_at block k (0 + pages_in records)) (comes_to link.first end low lt) ∙ ap (record_at block end) (omega arith) ∙ is in
    ap (λ (n : ℕ). all_records block n link.first 0) (one_further link.first end low lt short) ∙ records_more block (between link.first end) link.first 0 records r low h there

-- there is an extent where there is a link
pub some_read : (image : ℕ → List ℕ) (end : ℕ) (link : Link) (links : List Link) (reads : List (List Meaning)) → each (read_extent image) (extents_from end link links) ≡ Some reads
    → (records : List Meaning) × (rest : List (List Meaning)) × (records ∷ rest ≡ reads)
some_read image end link [] reads h =
    let (records, rest, is, none, whole) = each_cons (read_extent image) (extent_to end link) [] reads h in (records, rest, whole)
some_read image end link (next ∷ links) reads h =
    let (records, rest, is, are, whole) = each_cons (read_extent image) (extent_to next.first link) (extents_from end next links) reads h in (records, rest, whole)

-- what the last extent of links spells
pub last_spelled : (image : ℕ → List ℕ) (end : ℕ) (link : Link) (links : List Link) (reads : List (List Meaning)) → each (read_extent image) (extents_from end link links) ≡ Some reads
    → read_extent image (extent_to end (last_of link links)) ≡ Some (last_read reads)
last_spelled image end link [] reads h =
    let (records, rest, is, none, whole) = each_cons (read_extent image) (extent_to end link) [] reads h in
    let nothing : [] ≡ rest = same_Some [] rest none in
    is ∙ ap (λ (l : List (List Meaning)). Some (last_read (records ∷ l))) nothing ∙ ap (λ (l : List (List Meaning)). Some (last_read l)) whole
last_spelled image end link (next ∷ links) reads h =
    let (records, rest, is, are, whole) = each_cons (read_extent image) (extent_to next.first link) (extents_from end next links) reads h in
    last_spelled image end next links rest are ∙ ap Some (behind image end next links records rest reads are whole)
  where
    behind : (image : ℕ → List ℕ) (end : ℕ) (next : Link) (links : List Link) (records : List Meaning) (rest reads : List (List Meaning)) → each (read_extent image) (extents_from end next links) ≡ Some rest
        → records ∷ rest ≡ reads → last_read rest ≡ last_read reads
    behind image end next links records rest reads are whole =
        let (x, xs, e) = some_read image end next links rest are in
        ap last_read (sym e) ∙ ap (λ (l : List (List Meaning)). last_read (records ∷ l)) e ∙ ap last_read whole

-- one record more behind those of a store's last block: the extents read as before, with this one last
pub extents_more : (blocks : ℕ) (image : ℕ → List ℕ) → IsContent blocks image → (end : ℕ) (link : Link) (links : List Link) (reads : List (List Meaning)) (r : Meaning) → All (IsLinkOf blocks) (link ∷ links) → end < 4294967296
    → between (last_of link links).first end < 4294967295 → each (read_extent image) (extents_from end link links) ≡ Some reads
    → record_at (block_octets image (last_of link links).block) end (pages_in (last_read reads)) ≡ Some r
    → each (read_extent image) (extents_from ((end + 1) % 4294967296) link links) ≡ Some (with_record reads r)
extents_more blocks image content end link [] reads r own lt short h is =
    let (records, rest, read, none, whole) = each_cons (read_extent image) (extent_to end link) [] reads h in
    let nothing : [] ≡ rest = same_Some [] rest none in
    let alone : records ∷ [] ≡ reads = ap (λ (l : List (List Meaning)). records ∷ l) nothing ∙ whole in
    let there : record_at (block_octets image link.block) end (pages_in records) ≡ Some r = subst (λ (l : List (List Meaning)). record_at (block_octets image link.block) end (pages_in (last_read l)) ≡ Some r) (sym alone) is in
    each_more (read_extent image) (extent_to ((end + 1) % 4294967296) link) [] (records ++ r ∷ []) [] (last_extent image end link records r (All-head (IsLinkOf blocks) link [] own).first lt short read there) refl
    ∙ ap (λ (l : List (List Meaning)). Some (with_record l r)) alone
extents_more blocks image content end link (next ∷ links) reads r own lt short h is =
    let (records, rest, read, are, whole) = each_cons (read_extent image) (extent_to next.first link) (extents_from end next links) reads h in
    let (x, xs, e) = some_read image end next links rest are in
    let ends : last_read rest ≡ last_read reads = ap last_read (sym e) ∙ ap (λ (l : List (List Meaning)). last_read (records ∷ l)) e ∙ ap last_read whole in
    let there : record_at (block_octets image (last_of next links).block) end (pages_in (last_read rest)) ≡ Some r =
    ap (λ (l : List Meaning). record_at (block_octets image (last_of next links).block) end (pages_in l)) ends ∙ is in
    let result : records ∷ with_record rest r ≡ with_record reads r =
    ap (λ (l : List (List Meaning)). records ∷ with_record l r) (sym e) ∙ ap (λ (l : List (List Meaning)). with_record (records ∷ l) r) e ∙ ap (λ (l : List (List Meaning)). with_record l r) whole in
    each_more (read_extent image) (extent_to next.first link) (extents_from ((end + 1) % 4294967296) next links) records (with_record rest r) read
    (extents_more blocks image content end next links rest r (All-tail (IsLinkOf blocks) link (next ∷ links) own) lt short are there) ∙ ap Some result

-- the records of extents with one more
pub joined_more : (x : List Meaning) (xs : List (List Meaning)) (r : Meaning) → joined (with_record (x ∷ xs) r) ≡ joined (x ∷ xs) ++ r ∷ []
joined_more x [] r = append_assoc x (r ∷ []) [] ∙ sym (append_assoc x [] (r ∷ []))
joined_more x (y ∷ ys) r = ap (λ (l : List Meaning). x ++ l) (joined_more y ys r) ∙ sym (append_assoc x (joined (y ∷ ys)) (r ∷ []))

pub filled_more : (least : ℕ) (reads : List (List Meaning)) (r : Meaning) → are_filled least (with_record reads r) ≡ are_filled least reads
filled_more least [] r = refl
filled_more least (x ∷ []) r = refl
filled_more least (x ∷ y ∷ []) r = refl
filled_more least (x ∷ y ∷ z ∷ rest) r = ap (λ (b : Bool). nat_le least (pages_in x) && b) (filled_more least (y ∷ z ∷ rest) r)

pub content_more : (records : List Meaning) (r : Meaning) → pages_in (records ++ r ∷ []) ≡ pages_in records + charge_of (length r.packet)
content_more [] r = omega arith
content_more (x ∷ records) r = let rest = content_more records r in omega (arith, rest)
