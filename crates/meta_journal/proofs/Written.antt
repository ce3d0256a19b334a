-- The flash behind a checkpoint and the roots that name its half.
use Rattle.std.proofs.Common.{◌≡◌, ℕ, ◌+◌, ◌-◌, ◌*◌, ◌<◌, ◌≤◌, true, false, List, [], ◌∷◌, Some, length, refl, sym, ◌∙◌, ap, subst, arith}
use Rattle.board.specs.Flash.{Flash}
use Rattle.board.proofs.Pages.{above_pages, below_pages}
use Rattle.commit_gate.specs.Commits.{IsCleanFrom}
use Rattle.commit_gate.specs.Entries.{End, entry_at, payload_pages}
use Rattle.root_vote.specs.declared.root.Root.{Root}
use Rattle.root_vote.specs.Roots.{root_in}
use Rattle.root_vote.proofs.Choices.{vote_self}
use Rattle.root_vote.specs.Rooted.{Rooted, SpellRoot, is_root_block, with_roots}
use Rattle.store_directory.specs.Directory.{Directory}
use Rattle.meta_journal.specs.Directories.{directory_by, half_area, is_own}
use Rattle.meta_journal.specs.Halves.{half_base, half_block, half_of, with_checkpoint}
use Rattle.meta_journal.specs.Journals.{IsJournal, next_of}
use Rattle.meta_journal.specs.Standing.{EndsAt, StandsFor, switched}
use Rattle.meta_journal.proofs.Filled.{filled_ends, filled_erased, filled_others, reads_text}
use Rattle.meta_journal.proofs.Formatted.{roots_erased, roots_others}

-- the roots still spell the old root while the checkpoint stands
pub filled_rooted : (half : ℕ) (root : Root) (text : List ℕ) (flash : Flash) → 1 ≤ length text → length text ≤ 20476 → SpellRoot root flash.content
    → Rooted root (with_checkpoint (half_block half) text flash)
filled_rooted half root text flash shortest longest spelled = record {
  spelled = λ k lt. ap root_in (filled_others (half_block half) text shortest longest flash (256 * k) (below_pages (half_base half) 512 (256 * k) (omega arith))) ∙ spelled k lt;
  firm_roots = λ k lt. refl;
}

module _ (to : Root) (text : List ℕ) (flash : Flash) (shortest : 1 ≤ length text) (longest : length text ≤ 20476) where
  abbrev filled : Flash
  filled = with_checkpoint (half_block (half_of to)) text flash

  abbrev new : Flash
  new = with_roots to filled

  abbrev base : ℕ
  base = half_base (half_of to)

  -- the page behind the checkpoint
  abbrev n : ℕ
  n = payload_pages (length text)

  behind : (q : ℕ) → is_root_block (base + q) ≡ false
  behind q = above_pages 0 768 (base + q) (omega arith)

  same : (q : ℕ) → q < 512 → new.content (base + q) ≡ filled.content (base + q)
  same q lt = roots_others to filled (base + q) (behind q)

  -- the half has the checkpoint alone, and the pages behind it are clean
  abbrev ends_at : (at : ℕ) → at ≡ n → EndsAt (half_area (half_of to) new.content) at
  ends_at at is = record {
    text = text;
    start = 0 + n;
    checkpoint = reads_text (half_block (half_of to)) text shortest longest flash new.content same;
    entries = [];
    has = (omega (arith, is), subst (λ (p : ℕ). entry_at (half_area (half_of to) new.content) p ≡ End) (sym is) (filled_ends (half_block (half_of to)) text shortest longest flash new.content same));
  }

  clean_from : (at : ℕ) → at ≡ n → IsCleanFrom new base at
  clean_from at is q from below =
      (roots_erased to filled (base + q) (behind q) ∙ filled_erased (half_block (half_of to)) text shortest longest flash q (omega (arith, from, is)) below, refl)

  pub switched_stands : (root : Root) → next_of root ≡ to → Rooted to new → StandsFor (switched (length text) root) new
  switched_stands root is rooted = subst (λ (r : Root). StandsFor (record { root = r; votes = Some r ∷ Some r ∷ Some r ∷ []; room = 512 - n }) new) (sym is) (record {
    votes = λ i. sym (rooted.spelled 0 (omega arith)) i ∷ sym (rooted.spelled 1 (omega arith)) i ∷ sym (rooted.spelled 2 (omega arith)) i ∷ [];
    agree = λ some. rw (vote_self to) refl;
    ends = λ some. ends_at (512 - (512 - n)) (omega arith);
    clean = clean_from (512 - (512 - n)) (omega arith);
  })

  pub is_journal : (blocks : ℕ) (d : Directory) → is_own blocks to ≡ true → directory_by blocks text [] ≡ Some d → Rooted to new → IsJournal blocks to d n new
  is_journal blocks d own spells rooted =
      let ends = ends_at n refl in
      record {
        own = own;
        rooted = rooted;
        text = text;
        start = ends.start;
        checkpoint = ends.checkpoint;
        entries = [];
        stands = record { has = ends.has; firm_pages = λ q le low lt. refl };
        holds = spells;
        clean = clean_from n refl;
        is_firm = λ p lt. refl;
      }
