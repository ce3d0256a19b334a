-- A half that was erased and has a checkpoint in front.
use Rattle.std.proofs.Common.{◌≡◌, inl, inr, ℕ, ◌+◌, ◌-◌, ◌*◌, ◌<◌, ◌≤◌, true, false, List, [], Option, Some, length, sym, ◌∙◌, ap, arith}
use Rattle.std.proofs.lemmas.Bool.{cases_lt}
use Rattle.std.specs.Prelude.{if◌then◌else◌}
use Rattle.board.specs.Flash.{Flash, blank, pages_of_block}
use Rattle.board.proofs.Pages.{above_pages, below_pages, elsewhere, in_pages, inside}
use Rattle.commit_gate.specs.Commits.{payload_at, payload_page, text_pages}
use Rattle.commit_gate.specs.Entries.{End, Entry, EntryAt, area_of, entries_from, entry_at, payload_pages, text_at}
use Rattle.commit_gate.proofs.AreaEntries.{blank≢open, ends_here}
use Rattle.commit_gate.proofs.AreaPages.{area_page}
use Rattle.commit_gate.proofs.EntriesRead.{from_end}
use Rattle.commit_gate.proofs.Spelled.{text_spelled}
use Rattle.store_directory.specs.Options.{◌>>=◌}
use Rattle.meta_journal.specs.Directories.{directory_at, directory_by, directory_in}
use Rattle.meta_journal.specs.Halves.{half_pages, with_checkpoint}
use Rattle.meta_journal.proofs.HalfPages.{block_within, text_within}

-- what a half holds, where its text and its entries are read
pub half_reads : (blocks : ℕ) (area : ℕ → List ℕ) (text : List ℕ) (next : ℕ) (entries : List (List ℕ)) → text_at 20476 area 0 ≡ Entry text next
    → entries_from 512 area next ≡ Some entries → directory_in blocks area ≡ directory_by blocks text entries
unfolding directory_in
half_reads blocks area text next entries is has =
    ap (λ (e : EntryAt). directory_at blocks e (λ n. entries_from 512 area n)) is
    ∙ ap (λ (found : Option (List (List ℕ))). found >>= λ these. directory_by blocks text these) has

module _ (block : ℕ) (text : List ℕ) (shortest : 1 ≤ length text) (longest : length text ≤ 20476) (flash : Flash) where
  abbrev base : ℕ
  base = 256 * block

  -- how many pages the checkpoint fills
  abbrev n : ℕ
  n = payload_pages (length text)

  abbrev filled : Flash
  filled = with_checkpoint block text flash

  abbrev wiped_both : ℕ → List ℕ
  wiped_both p = if pages_of_block (block + 1) p then blank else (if pages_of_block block p then blank else flash.content p)

  -- other pages hold what they held
  pub filled_others : (p : ℕ) → half_pages base p ≡ false → filled.content p ≡ flash.content p
  filled_others p out =
      elsewhere (text_pages base 0 text p) (payload_at (base + 0) text p) (wiped_both p) (text_within base (base + 0) n (omega arith) (omega arith) p out)
      ∙ elsewhere (pages_of_block (block + 1) p) blank (if pages_of_block block p then blank else flash.content p) (block_within (block + 1) base (omega arith) (omega arith) p out)
      ∙ elsewhere (pages_of_block block p) blank (flash.content p) (block_within block base (omega arith) (omega arith) p out)

  -- the checkpoint's pages
  pub filled_text : (i : ℕ) → i < n → filled.content (base + (0 + i)) ≡ payload_page text i
  filled_text i lt =
      let index : base + (0 + i) - (base + 0) ≡ i = omega arith in
      inside (text_pages base 0 text (base + (0 + i))) (payload_at (base + 0) text (base + (0 + i))) (wiped_both (base + (0 + i))) (in_pages (base + 0) n (base + (0 + i)) (omega arith) (omega arith))
      ∙ ap (payload_page text) index

  -- the pages behind it
  wiped_mark : {A : Type 0} (x y z : A) (q : ℕ) → q < 512 → (if pages_of_block (block + 1) (base + q) then x else (if pages_of_block block (base + q) then x else y)) ≡ x
  wiped_mark x y z q lt = elim (cases_lt q 256) [
    | inl low ↦ elsewhere (pages_of_block (block + 1) (base + q)) x (if pages_of_block block (base + q) then x else y) (below_pages (256 * (block + 1)) 256 (base + q) (omega arith))
        ∙ inside (pages_of_block block (base + q)) x y (in_pages base 256 (base + q) (omega arith) (omega arith))
    | inr high ↦ inside (pages_of_block (block + 1) (base + q)) x (if pages_of_block block (base + q) then x else y) (in_pages (256 * (block + 1)) 256 (base + q) (omega arith) (omega arith))
  ]

  not_text : (q : ℕ) → n ≤ q → text_pages base 0 text (base + q) ≡ false
  not_text q from = above_pages (base + 0) n (base + q) (omega arith)

  pub filled_blank : (q : ℕ) → n ≤ q → q < 512 → filled.content (base + q) ≡ blank
  filled_blank q from to =
      elsewhere (text_pages base 0 text (base + q)) (payload_at (base + 0) text (base + q)) (wiped_both (base + q)) (not_text q from) ∙ wiped_mark blank (flash.content (base + q)) blank q to

  pub filled_erased : (q : ℕ) → n ≤ q → q < 512 → filled.erased (base + q) ≡ true
  filled_erased q from to =
      elsewhere (text_pages base 0 text (base + q)) false (if pages_of_block (block + 1) (base + q) then true else (if pages_of_block block (base + q) then true else flash.erased (base + q))) (not_text q from)
      ∙ wiped_mark true (flash.erased (base + q)) true q to

  -- each content with these pages has the checkpoint and no entries
  module _ (image : ℕ → List ℕ) (same : (q : ℕ) → q < 512 → image (base + q) ≡ filled.content (base + q)) where
    pub filled_ends : entry_at (area_of base image) n ≡ End
    filled_ends = ends_here (area_of base image) n (λ low opened.
        blank≢open (sym (area_page base image n (omega arith) ∙ same n (omega arith) ∙ filled_blank n (omega arith) (omega arith)) ∙ opened))

    pub reads_text : text_at 20476 (area_of base image) 0 ≡ Entry text (0 + n)
    reads_text = text_spelled (area_of base image) 0 text 20476 shortest longest (omega arith) (omega arith)
        (λ i lt. area_page base image (0 + i) (omega arith) ∙ same (0 + i) (omega arith) ∙ filled_text i lt)

    reads_none : entries_from 512 (area_of base image) (0 + n) ≡ Some []
    reads_none = from_end 511 (area_of base image) (0 + n) (ap (entry_at (area_of base image)) (omega arith) ∙ filled_ends)

    pub filled_half : (blocks : ℕ) → directory_in blocks (area_of base image) ≡ directory_by blocks text []
    filled_half blocks = half_reads blocks (area_of base image) text (0 + n) [] reads_text reads_none
