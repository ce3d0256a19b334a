-- An entry whose payload stands is read.
use Rattle.std.proofs.Common.{◌≡◌, ℕ, zero, suc, ◌+◌, ◌-◌, ◌*◌, ◌^◌, ◌<◌, ◌≤◌, ◌⊎◌, inl, inr, true}
use Rattle.std.proofs.Common.{◌&&◌, nat_le, List, [], length, get_or, take, drop, refl, sym, ◌∙◌}
use Rattle.std.proofs.Common.{ap, arith, append-nil, length-take, length-drop, length-append}
use Rattle.std.proofs.Common.{get_or-drop, get_or-take, add-zero}
use Rattle.std.proofs.lemmas.Bool.Decides.{nat_tests}
use Rattle.std.proofs.lemmas.List.{ext_get_or, get_or_append_left, get_or-append_right}
use Rattle.std.proofs.lemmas.List.FromFn.{get_or-map-range_with_len, length-map-range_with_len}
use Rattle.std.proofs.lemmas.List.FromFn.{take-map-range_with_len}
use Rattle.byteorder.specs.Endian.{big_bytes, big_number}
use Rattle.byteorder.specs.Numbers.{big_from-take, big_number-reads_back}
use Rattle.commit_gate.specs.Entries.{Entry, is_lawful, length_in, octets_from, payload_pages}
use Rattle.commit_gate.specs.Entries.{text_at, text_of}
use Rattle.commit_gate.specs.Commits.{payload_octet, payload_page}
use Rattle.commit_gate.proofs.AreaEntries.{stood_text}

-- the payload of an entry stands from this page on
abbrev pub IsSpelled : (ℕ → List ℕ) → ℕ → List ℕ → Type 0
IsSpelled area at entry = (i : ℕ) → i < payload_pages (length entry)
    → area (at + i) ≡ payload_page entry i

page_length : (entry : List ℕ) (i : ℕ) → length (payload_page entry i) ≡ 256
unfolding payload_page
page_length entry i = length-map-range_with_len (λ k. payload_octet entry (256 * i + k)) 0 256

page_octet : (entry : List ℕ) (i k : ℕ) → k < 256
    → get_or (payload_page entry i) k 0 ≡ payload_octet entry (256 * i + k)
unfolding payload_page
page_octet entry i k lt = get_or-map-range_with_len (λ k. payload_octet entry (256 * i + k)) 0 256 k
    k 0 lt (omega arith)

below_or_not : (a b : ℕ) → (a < b) ⊎ (b ≤ a)
below_or_not a b = grind arith

-- the octets of pages that spell
octets_length : (area : ℕ → List ℕ) (entry : List ℕ) (n first i : ℕ)
    → ((k : ℕ) → k < n → area (first + k) ≡ payload_page entry (i + k))
    → length (octets_from area first n) ≡ 256 * n
unfolding octets_from
octets_length area entry zero first i h = refl
octets_length area entry (suc n) first i h =
    let one : area first ≡ payload_page entry i =
    ap area (sym (add-zero first)) ∙ h 0 (omega arith) ∙ ap (payload_page entry) (add-zero i) in
    let rest =
    octets_length area entry n (suc first) (suc i)
    (λ k lt. ap area (omega arith) ∙ h (suc k) (omega arith)
    ∙ ap (payload_page entry) (omega arith)) in
    let own : length (area first) ≡ 256 = ap length one ∙ page_length entry i in
    length-append (area first) (octets_from area (suc first) n) ∙ omega (arith, own, rest)

octets_at : (area : ℕ → List ℕ) (entry : List ℕ) (n first i : ℕ)
    → ((k : ℕ) → k < n → area (first + k) ≡ payload_page entry (i + k))
    → (j : ℕ) → j < 256 * n → get_or (octets_from area first n) j 0 ≡ payload_octet entry
    (256 * i + j)
unfolding octets_from
octets_at area entry zero first i h j lt = absurd (omega arith)
octets_at area entry (suc n) first i h j lt =
    let one : area first ≡ payload_page entry i =
    ap area (sym (add-zero first)) ∙ h 0 (omega arith) ∙ ap (payload_page entry) (add-zero i) in
    let more : (k : ℕ) → k < n → area (suc first + k) ≡ payload_page entry (suc i + k) =
    λ k lt. ap area (omega arith) ∙ h (suc k) (omega arith)
    ∙ ap (payload_page entry) (omega arith) in
    let own : length (area first) ≡ 256 = ap length one ∙ page_length entry i in
    elim (below_or_not j 256) [
      | inl low ↦ get_or_append_left (area first) (octets_from area (suc first) n) 0 j
          (omega (arith, own)) ∙ ap (λ (l : List ℕ). get_or l j 0) one ∙ page_octet entry i j low
      | inr high ↦ get_or-append_right (area first)
          (octets_from area (suc first) n) 256 j 0 own high
          ∙ octets_at area entry n (suc first) (suc i) more (j - 256) (omega arith)
          ∙ ap (payload_octet entry) (omega arith)
    ]

-- four octets, read
four_octets : (n : ℕ) (page : List ℕ) → n < 2 ^ 32 → take 4 page ≡ big_bytes 4 n
    → big_number 4 page ≡ n
four_octets n page lt e =
    sym (big_from-take 0 4 4 page (omega arith))
    ∙ ap (big_number 4) (e ∙ sym (append-nil (big_bytes 4 n)))
    ∙ big_number-reads_back 4 n [] (omega arith)

first_four : (entry : List ℕ) → take 4 (payload_page entry 0) ≡ big_bytes 4 (length entry)
unfolding payload_page
first_four entry = take-map-range_with_len (λ k. payload_octet entry (256 * 0 + k)) 0 256 4
    (omega arith)

behind_four : (entry : List ℕ) (i : ℕ) → payload_octet entry (256 * 0 + (4 + i)) ≡ get_or entry i 0
behind_four entry i = pick (256 * 0 + (4 + i)) (omega arith)
  where
    pick : (k : ℕ) → k ≡ i + 4 → payload_octet entry k ≡ get_or entry i 0
    pick k e = grind (arith, nat_tests)

module _ (area : ℕ → List ℕ) (at : ℕ) (entry : List ℕ) (most : ℕ) (shortest : 1 ≤ length entry)
    (longest : length entry ≤ most) (short : most < 2 ^ 32)
    (room : at + payload_pages (length entry) ≤ 512) (spelled : IsSpelled area at entry) where
  pages : (k : ℕ) → k < payload_pages (length entry) → area (at + k) ≡ payload_page entry (0 + k)
  pages k lt = spelled k lt ∙ ap (payload_page entry) (omega arith)

  length_is : length_in (area at) ≡ length entry
  unfolding length_in
  length_is = four_octets (length entry) (area at) (omega arith)
      (ap (take 4) (ap area (sym (add-zero at)) ∙ spelled 0 (omega arith)) ∙ first_four entry)

  octets : List ℕ
  octets = octets_from area at (payload_pages (length entry))

  octets_are : take (length entry) (drop 4 octets) ≡ entry
  unfolding octets
  octets_are =
      let long = octets_length area entry (payload_pages (length entry)) at 0 pages in
      let cut : length (take (length entry) (drop 4 octets)) ≡ length entry =
      simp (length-take, length-drop) (omega (arith, long)) in
      ext_get_or 0 (take (length entry) (drop 4 octets)) entry cut
      (λ i lt. get_or-take (length entry) (drop 4 octets) i 0 (omega (arith, cut))
      ∙ get_or-drop 4 octets i 0
      ∙ octets_at area entry (payload_pages (length entry)) at 0 pages (4 + i) (omega (arith, cut))
      ∙ behind_four entry i)

  pub text_spelled : text_at most area at ≡ Entry entry (at + payload_pages (length entry))
  unfolding octets
  text_spelled = stood_text most area at entry (at + payload_pages (length entry)) (record {
    lawful = ap (is_lawful most at) length_is
        ∙ tests (length entry) (at + payload_pages (length entry)) shortest longest room;
    is_text = ap (text_of area at) length_is ∙ octets_are;
    is_next = ap (λ (n : ℕ). at + payload_pages n) length_is;
  })
    where
      tests : (len end : ℕ) → 1 ≤ len → len ≤ most → end ≤ 512
          → (nat_le 1 len && nat_le len most && nat_le end 512) ≡ true
      tests len end a b c = grind (arith, nat_tests)
