-- Pages of an area that were read into a buffer, and the text in them.
use Rattle.std.proofs.Common.{◌≡◌, ℕ, ◌+◌, ◌-◌, ◌*◌, ◌<◌, ◌≤◌, List, ◌++◌, length, take, drop, sym}
use Rattle.std.proofs.Common.{◌∙◌, ap, ap₂, arith, add-one, take-take, length-take, length-drop}
use borrow.Rule.Slice.PartMut.{put_mid}
use Rattle.std.proofs.lemmas.Slice.{drop-put_mid, take-put_mid, take-put_mid_below}
use Rattle.std.proofs.lemmas.List.{drop-take, take-append-le, take_all}
use Rattle.byteorder.specs.Endian.{big_number}
use Rattle.byteorder.specs.Numbers.{big_from-append}
use Rattle.commit_gate.specs.Entries.{length_in, octets_from, payload_pages, text_of}
use Rattle.commit_gate.proofs.AreaPages.{octets_last}

-- a page in front of a buffer
pub front_read : (page rest : List ℕ) → length page ≡ 256 → take 256 (page ++ rest) ≡ page
front_read page rest long = take-append-le 256 page rest (omega arith)
    ∙ take_all 256 page (omega arith)

pub length_read : (page rest : List ℕ) → length page ≡ 256
    → big_number 4 (page ++ rest) ≡ length_in page
unfolding length_in
length_read page rest long = big_from-append 4 page rest (omega arith)

-- one page more
pub page_read : (area : ℕ → List ℕ) (first i : ℕ) (into page : List ℕ) → 256 * i + 256 ≤ length into
    → length page ≡ 256
    → take (256 * i) into ≡ octets_from area first i → page ≡ area (first + i)
    → take (256 * (i + 1)) (put_mid (256 * i) (256 * i + 256 - 256 * i) into page)
    ≡ octets_from area first (i + 1)
page_read area first i into page room long so_far is =
    take-put_mid (256 * i) (256 * i + 256 - 256 * i) into page (256 * (i + 1)) (omega arith)
    (omega arith)
    ∙ ap₂ ◌++◌ so_far is
    ∙ sym (octets_last area i first)
    ∙ ap (octets_from area first) (sym (add-one i))

-- a page that is written behind the first leaves it, and what is behind all pages
pub front_kept : (i : ℕ) (into page : List ℕ) → 1 ≤ i → 256 * i + 256 ≤ length into
    → take 256 (put_mid (256 * i) (256 * i + 256 - 256 * i) into page) ≡ take 256 into
front_kept i into page some room =
    take-put_mid_below (256 * i) (256 * i + 256 - 256 * i) into page 256 (omega arith) (omega arith)

pub rest_kept : (i pages : ℕ) (into page : List ℕ) → i < pages → 256 * pages ≤ length into
    → length page ≡ 256
    → drop (256 * pages) (put_mid (256 * i) (256 * i + 256 - 256 * i) into page) ≡ drop
    (256 * pages) into
rest_kept i pages into page more room long =
    drop-put_mid (256 * i) (256 * i + 256 - 256 * i) into page (256 * pages)
    (omega arith) (omega arith) (omega arith)

-- the text behind its length
pub text_read : (area : ℕ → List ℕ) (first len : ℕ) (into : List ℕ)
    → take (256 * payload_pages len) into ≡ octets_from area first (payload_pages len)
    → take len (drop 4 into) ≡ text_of area first len
text_read area first len into read =
    let whole : 256 * payload_pages len ≡ 4 + (256 * payload_pages len - 4) = omega arith in
    sym (ap (λ (k : ℕ). take len (drop 4 (take k into))) whole
    ∙ ap (take len) (drop-take 4 (256 * payload_pages len - 4) into)
    ∙ take-take len (256 * payload_pages len - 4) (drop 4 into) (omega arith))
    ∙ ap (λ (l : List ℕ). take len (drop 4 l)) read

pub text_length : (len : ℕ) (into : List ℕ) → 4 + len ≤ length into
    → length (take len (drop 4 into)) ≡ len
text_length len into room = simp (length-take, length-drop) (omega arith)
