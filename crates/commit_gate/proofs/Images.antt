-- What a stop leaves of an area while an entry is written.
use Rattle.std.proofs.Common.{◌≡◌, ◌≢◌, inl, inr, ℕ, ◌+◌, ◌-◌, ◌*◌, ◌<◌, ◌≤◌, Bool, true, false}
use Rattle.std.proofs.Common.{List, []}
use Rattle.std.proofs.Common.{◌∷◌, ◌++◌, length, refl, sym, ◌∙◌, ap, arith}
use Rattle.std.proofs.lemmas.Bool.Decides.{nat_tests}
use Rattle.board.specs.Flash.{Flash, IsClean, IsImage, blank, firm, loosened, only_page, pages_from}
use Rattle.board.proofs.Pages.{above_pages, below_pages, elsewhere, image_of_more, in_pages, inside}
use Rattle.board.proofs.Pages.{is_only, not_only, outside}
use Rattle.commit_gate.specs.Entries.{End, Entry, HasEntries, area_of, entry_at, open_page}
use Rattle.commit_gate.specs.Entries.{payload_pages}
use Rattle.commit_gate.specs.Commits.{HasAllButGate, IsBefore, IsBeforeOrAfter, Stands, entry_pages}
use Rattle.commit_gate.specs.Commits.{payload_at, payload_page, with_entry, with_payload}
use Rattle.commit_gate.proofs.AreaEntries.{at_le, at_open, blank≢open, cases_same, end_same, ends}
use Rattle.commit_gate.proofs.AreaEntries.{ends_here}
use Rattle.commit_gate.proofs.AreaEntries.{entries_kept, entries_pushed, open_gate}
use Rattle.commit_gate.proofs.AreaPages.{area_page, area_same}
use Rattle.commit_gate.proofs.Spelled.{text_spelled}

-- the entries of each image, where they stand
pub image_stands : (blocks : ℕ) (flash : Flash) (base start : ℕ) (entries : List (List ℕ)) (end : ℕ)
    → base + 512 ≤ 256 * blocks → Stands flash base start entries end
    → (image : ℕ → List ℕ) → IsImage blocks flash image
    → HasEntries (area_of base image) start entries end
image_stands blocks flash base start entries end fits stands image is =
    let old = area_of base flash.content in
    let new = area_of base image in
    let le = at_le old start entries end stands.has in
    entries_kept old new start entries end stands.has (λ q from lt. same q from (omega arith))
    (end_same old new end (ends old start entries end stands.has) (same end le (omega arith)))
  where
    same : (q : ℕ) → start ≤ q → q ≤ end → area_of base image q ≡ area_of base flash.content q
    same q from le = area_same base flash.content image q
        (λ lt. is.firm_pages (base + q) (omega arith) (stands.firm_pages q from le lt))

module _ (blocks : ℕ) (flash : Flash) (base at : ℕ) (entry : List ℕ)
    (shortest : 1 ≤ length entry) (longest : length entry ≤ 5116)
    (room : at + 1 + payload_pages (length entry) ≤ 512)
    (fits : base + 512 ≤ 256 * blocks)
    (clean : (q : ℕ) → at ≤ q → q < 512 → IsClean flash (base + q))
    (erased_blank : (p : ℕ) → flash.erased p ≡ true → flash.content p ≡ blank) where
  -- the page behind the entry, and how many pages are its payload
  abbrev next : ℕ
  next = at + 1 + payload_pages (length entry)

  abbrev payload : ℕ → Bool
  payload = pages_from (base + (at + 1)) (payload_pages (length entry))

  -- the content with the payload
  abbrev filled : ℕ → List ℕ
  filled = (with_payload base at entry flash).content

  -- the pages from `at` on are shut
  shut : (q : ℕ) → at ≤ q → q < 512 → flash.content (base + q) ≢ open_page
  shut q from to opened = blank≢open (sym (erased_blank (base + q) (clean q from to).0) ∙ opened)

  -- the payload is no part of the other pages
  not_payload : (p : ℕ) → entry_pages base at entry p ≡ false → payload p ≡ false
  not_payload p out = grind (arith, nat_tests)

  not_gate : (p : ℕ) → entry_pages base at entry p ≡ false → only_page (base + at) p ≡ false
  not_gate p out = grind (arith, nat_tests)

  -- nor of the pages before it, and behind it
  low : (q : ℕ) → q ≤ at → payload (base + q) ≡ false
  low q le = below_pages (base + (at + 1)) (payload_pages (length entry)) (base + q) (omega arith)

  high : (q : ℕ) → next ≤ q → payload (base + q) ≡ false
  high q le = above_pages (base + (at + 1)) (payload_pages (length entry)) (base + q) (omega arith)

  -- other pages hold what they held
  payload_elsewhere : (p : ℕ) → payload p ≡ false → filled p ≡ flash.content p
  payload_elsewhere p out = elsewhere (payload p) (payload_at (base + (at + 1)) entry p)
      (flash.content p) out

  payload_here : (i : ℕ) → i < payload_pages (length entry)
      → filled (base + (at + 1 + i)) ≡ payload_page entry i
  payload_here i lt =
      let p = base + (at + 1 + i) in
      let index : p - (base + (at + 1)) ≡ i = omega arith in
      inside (payload p) (payload_at (base + (at + 1)) entry p) (flash.content p)
      (in_pages (base + (at + 1)) (payload_pages (length entry)) p (omega arith) (omega arith))
      ∙ ap (payload_page entry) index

  module _ (start : ℕ) (entries : List (List ℕ)) (stands : Stands flash base start entries at) where
    -- the entries begin no later than the gate
    begins : start ≤ at
    begins = at_le (area_of base flash.content) start entries at stands.has

    -- while the payload is written the entries are the old ones
    pub payload_before : (image : ℕ → List ℕ) → IsImage blocks (loosened payload flash) image
        → IsBefore blocks flash base start entries at entry image
    payload_before image is = record {
      has = entries_kept (area_of base flash.content)
          (area_of base image) start entries at stands.has
          (λ q from lt. kept q (omega arith) (λ within. stands.firm_pages q from
          (omega arith) within))
          (end_same (area_of base flash.content) (area_of base image) at
          (ends (area_of base flash.content) start entries at stands.has)
          (kept at (omega arith) (λ within. (clean at (omega arith) within).1)));
      elsewhere = image_of_more blocks payload (entry_pages base at entry) flash image not_payload
          is;
    }
      where
        kept : (q : ℕ) → q ≤ at → (q < 512 → flash.loose (base + q) ≡ false)
            → area_of base image q ≡ area_of base flash.content q
        kept q le firm = area_same base flash.content image q (λ within.
            is.firm_pages (base + q) (omega arith)
            (elsewhere (payload (base + q)) true (flash.loose (base + q)) (low q le) ∙ firm within))

    -- where the payload stands, each content that differs at the gate alone has the entry where the
    -- gate is open
    opened_after : (image : ℕ → List ℕ)
        → ((p : ℕ) → p < 256 * blocks → only_page (base + at) p ≡ false → image p ≡ filled p)
        → image (base + at) ≡ open_page → HasEntries (area_of base image) start
        (entries ++ entry ∷ []) next
    opened_after image same opened =
        entries_pushed (area_of base flash.content) (area_of base image) start entries at entry next
        stands.has before here behind
      where
        there : (q : ℕ) → q < 512 → (q ≡ at → ⊥) → image (base + q) ≡ filled (base + q)
        there q within other =
            same (base + q) (omega arith) (not_only (base + at) (base + q)
            (λ e. other (omega arith)))

        before : (q : ℕ) → start ≤ q → q < at → area_of base image q ≡ area_of base flash.content q
        before q from lt = area_same base flash.content image q (λ within.
            there q within (λ e. omega arith) ∙ payload_elsewhere (base + q) (low q (omega arith)))

        spelled : (i : ℕ) → i < payload_pages (length entry)
            → area_of base image (at + 1 + i) ≡ payload_page entry i
        spelled i lt = area_page base image (at + 1 + i) (omega arith)
            ∙ there (at + 1 + i) (omega arith) (λ e. omega arith) ∙ payload_here i lt

        here : entry_at (area_of base image) at ≡ Entry entry next
        here =
            at_open (area_of base image) at (open_gate at (area_of base image at) (omega arith)
            (area_page base image at (omega arith) ∙ opened))
            ∙ text_spelled (area_of base image) (at + 1) entry 5116 shortest longest
            (omega arith) room spelled

        behind : entry_at (area_of base image) next ≡ End
        behind = ends_here (area_of base image) next (λ below open_next.
            shut next (omega arith) (omega arith)
            (sym (area_page base image next (omega arith)
            ∙ there next (omega arith) (λ e. omega arith)
            ∙ payload_elsewhere (base + next) (high next (omega arith))) ∙ open_next))

    pub gate_before_or_after : (image : ℕ → List ℕ) → HasAllButGate blocks flash base at entry image
        → IsBeforeOrAfter blocks flash base start entries at entry image
    gate_before_or_after image is = elim (cases_same (image (base + at)) open_page) [
      | inl opened ↦ inr (record {
        has = opened_after image same opened;
        pages = is.pages;
        elsewhere = others;
      })
      | inr closed ↦ inl (record {
        has = entries_kept (area_of base flash.content)
            (area_of base image) start entries at stands.has
            (λ q from lt. area_same base flash.content image q (λ within.
            same (base + q) (omega arith) (not_only (base + at) (base + q) (λ e. omega arith))
            ∙ payload_elsewhere (base + q) (low q (omega arith))))
            (ends_here (area_of base image) at
            (λ below opened. closed (sym (area_page base image at (omega arith)) ∙ opened)));
        elsewhere = record {
          pages = is.pages;
          firm_pages = λ p within loose.
              others p within (outside (entry_pages base at entry p) (flash.loose p) loose).0;
        };
      })
    ]
      where
        same : (p : ℕ) → p < 256 * blocks → only_page (base + at) p ≡ false → image p ≡ filled p
        same p within out = is.firm_pages p within
            (elsewhere (only_page (base + at) p) true false out)

        others : (p : ℕ) → p < 256 * blocks → entry_pages base at entry p ≡ false
            → image p ≡ flash.content p
        others p within out = same p within (not_gate p out)
            ∙ payload_elsewhere p (not_payload p out)

    -- after the last barrier a stop leaves the entry
    pub entry_stands : Stands (with_entry base at entry flash) base start
        (entries ++ entry ∷ []) next
    entry_stands = record {
      has = opened_after (with_entry base at entry flash).content
          (λ p within out. elsewhere (only_page (base + at) p) open_page (filled p) out)
          (inside (only_page (base + at) (base + at)) open_page (filled (base + at))
          (is_only (base + at)));
      firm_pages = λ q from le lt. refl;
    }

  -- and what is behind it is clean
  pub behind_clean : (q : ℕ) → next ≤ q → q < 512
      → IsClean (with_entry base at entry flash) (base + q)
  behind_clean q from to = (
    elsewhere (only_page (base + at) (base + q)) false _
        (not_only (base + at) (base + q) (λ e. omega arith))
        ∙ elsewhere (payload (base + q)) false (flash.erased (base + q)) (high q from)
        ∙ (clean q (omega arith) to).0,
    refl,
  )
