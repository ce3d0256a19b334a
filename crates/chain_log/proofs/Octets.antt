-- Octets of pages one behind the other, taken apart and put together.
use Rattle.std.proofs.Common.{◌≡◌, ℕ, zero, suc, ◌+◌, ◌-◌, ◌*◌, ◌<◌, ◌≤◌, List}
use Rattle.std.proofs.Common.{◌++◌, length, take, drop}
use Rattle.std.proofs.Common.{refl, sym, ◌∙◌, ap, ap₂, arith, add-zero, append_assoc}
use Rattle.std.proofs.Common.{length-append, zero-add}
use Rattle.std.proofs.Math.Seq.{drop-append_seam, take-add, take-append_seam}
use Rattle.std.proofs.lemmas.List.{take_all}
use Rattle.board.specs.Flash.{IsContent}
use Rattle.commit_gate.specs.Entries.{octets_from}
use Rattle.commit_gate.proofs.AreaPages.{octets_last, octets_none}
use Rattle.chain_log.specs.Pages.{AreWritten, block_octets}

-- the octets of some pages, and of those behind them
pub octets_split : (content : ℕ → List ℕ) (a b first : ℕ)
    → octets_from content first (a + b)
    ≡ octets_from content first a ++ octets_from content (first + a) b
unfolding octets_from
octets_split content zero b first =
    ap (octets_from content first) (zero-add b)
    ∙ ap (λ (k : ℕ). octets_from content k b) (sym (add-zero first))
octets_split content (suc a) b first =
    let more : suc a + b ≡ suc (a + b) = omega arith in
    let next : suc first + a ≡ first + suc a = omega arith in
    ap (octets_from content first) more
    ∙ ap (λ (l : List ℕ). content first ++ l) (octets_split content a b (suc first))
    ∙ sym (append_assoc (content first) (octets_from content (suc first) a)
    (octets_from content (suc first + a) b))
    ∙ ap (λ (k : ℕ). octets_from content first (suc a) ++ octets_from content k b) next

-- each page has 256 octets
pub octets_length : (blocks : ℕ) (content : ℕ → List ℕ) (n first : ℕ) → IsContent blocks content
    → first + n ≤ 256 * blocks → length (octets_from content first n) ≡ 256 * n
unfolding octets_from
octets_length blocks content zero first pages within = refl
octets_length blocks content (suc n) first pages within =
    omega (
      arith,
      length-append (content first) (octets_from content (suc first) n),
      (pages first (omega arith)).size,
      octets_length blocks content n (suc first) pages (omega arith),
    )

pub block_length : (blocks : ℕ) (content : ℕ → List ℕ) (block : ℕ) → IsContent blocks content
    → block < blocks → length (block_octets content block) ≡ 65536
block_length blocks content block pages inside =
    octets_length blocks content 256 (256 * block) pages (omega arith)

-- the first pages of what was written
pub octets_front : (content : ℕ → List ℕ) (octets : List ℕ) (first pages n : ℕ) → n ≤ pages
    → AreWritten content first pages octets → octets_from content first n ≡ take (256 * n) octets
octets_front content octets first pages zero some are = octets_none content first
octets_front content octets first pages (suc n) some are =
    let more : 256 * suc n ≡ 256 * n + 256 = omega arith in
    octets_last content n first
    ∙ ap₂ ◌++◌ (octets_front content octets first pages n (omega arith) are)
    (are n (omega arith))
    ∙ sym (take-add (256 * n) 256 octets)
    ∙ ap (λ (k : ℕ). take k octets) (sym more)

-- all of it
pub octets_whole : (content : ℕ → List ℕ) (octets : List ℕ) (first pages : ℕ)
    → length octets ≡ 256 * pages → AreWritten content first pages octets
    → octets_from content first pages ≡ octets
octets_whole content octets first pages long are =
    octets_front content octets first pages pages (omega arith) are
    ∙ take_all (256 * pages) octets (omega arith)

-- a block by some of its pages, those in front of them, and those behind
pub block_parts : (content : ℕ → List ℕ) (block page n : ℕ) → page + n ≤ 256
    → block_octets content block
    ≡ octets_from content (256 * block) page
    ++ (octets_from content (256 * block + page) n
    ++ octets_from content (256 * block + page + n) (256 - (page + n)))
block_parts content block page n within =
    let parts : 256 ≡ page + (n + (256 - (page + n))) = omega arith in
    ap (octets_from content (256 * block)) parts
    ∙ octets_split content page (n + (256 - (page + n))) (256 * block)
    ∙ ap (λ (l : List ℕ). octets_from content (256 * block) page ++ l)
    (octets_split content n (256 - (page + n)) (256 * block + page))

-- some pages of a block
pub pages_of_it : (blocks : ℕ) (content : ℕ → List ℕ) (block page n : ℕ) → IsContent blocks content
    → block < blocks → page + n ≤ 256
    → octets_from content (256 * block + page) n
    ≡ take (256 * n) (drop (256 * page) (block_octets content block))
pages_of_it blocks content block page n pages inside within =
    let front = octets_from content (256 * block) page in
    let here = octets_from content (256 * block + page) n in
    let rest = octets_from content (256 * block + page + n) (256 - (page + n)) in
    let front_long : length front ≡ 256 * page =
    octets_length blocks content page (256 * block) pages (omega arith) in
    let here_long : length here ≡ 256 * n =
    octets_length blocks content n (256 * block + page) pages (omega arith) in
    sym (ap (λ (l : List ℕ). take (256 * n) (drop (256 * page) l))
    (block_parts content block page n within)
    ∙ ap (λ (k : ℕ). take (256 * n) (drop k (front ++ (here ++ rest)))) (sym front_long)
    ∙ ap (take (256 * n)) (drop-append_seam front (here ++ rest))
    ∙ ap (λ (k : ℕ). take k (here ++ rest)) (sym here_long)
    ∙ take-append_seam here rest)
