-- A journal is that of its own blocks.
use Rattle.std.proofs.Common.{◌≡◌, ℕ, ◌+◌, ◌*◌, ◌<◌, ◌≤◌, Bool, false, List, ◌∙◌, ap, subst, sym, arith}
use Rattle.board.specs.Flash.{Flash}
use Rattle.board.specs.Touches.{KeptElsewhere}
use Rattle.commit_gate.specs.Entries.{Entry, HasEntries, area_of, text_at}
use Rattle.commit_gate.proofs.AreaPages.{area_same}
use Rattle.root_vote.specs.declared.root.Root.{Root}
use Rattle.root_vote.specs.Roots.{root_in}
use Rattle.store_directory.specs.Directory.{Directory}
use Rattle.meta_journal.specs.Halves.{half_base, half_of}
use Rattle.meta_journal.specs.Journals.{IsJournal}

module _ (blocks : ℕ) (root : Root) (d : Directory) (at : ℕ) (these : ℕ → Bool) (flash new : Flash)
    (within : at ≤ 512) (off : (p : ℕ) → p < 1792 → these p ≡ false) (kept : KeptElsewhere these flash new)
    (journal : IsJournal blocks root d at flash) where
  abbrev base : ℕ
  base = half_base (half_of root)

  low : (q : ℕ) → q < 512 → base + q < 1792
  low q lt = omega (arith, lt)

  same : (p : ℕ) → p < 1792 → new.content p ≡ flash.content p
  same p lt = kept.content p (off p lt)

  area_is : area_of base flash.content ≡ area_of base new.content
  area_is = λ i q. sym (area_same base flash.content new.content q (λ lt. same (base + q) (low q lt))) i

  pub journal_stays : IsJournal blocks root d at new
  journal_stays = record {
    own = journal.own;
    rooted = record {
      spelled = λ k lt. ap root_in (same (256 * k) (omega (arith, lt))) ∙ journal.rooted.spelled k lt;
      firm_roots = λ k lt. kept.firm (256 * k) (off (256 * k) (omega (arith, lt))) (journal.rooted.firm_roots k lt);
    };
    text = journal.text;
    start = journal.start;
    checkpoint = subst (λ (area : ℕ → List ℕ). text_at 20476 area 0 ≡ Entry journal.text journal.start) area_is journal.checkpoint;
    entries = journal.entries;
    stands = record {
      has = subst (λ (area : ℕ → List ℕ). HasEntries area journal.start journal.entries at) area_is journal.stands.has;
      firm_pages = λ q from to lt. kept.firm (base + q) (off (base + q) (low q lt)) (journal.stands.firm_pages q from to lt);
    };
    holds = journal.holds;
    clean = λ q from lt.
        let was = journal.clean q from lt in
        (kept.erased (base + q) (off (base + q) (low q lt)) ∙ was.0, kept.firm (base + q) (off (base + q) (low q lt)) was.1);
    is_firm = λ p lt. kept.firm p (off p lt) (journal.is_firm p lt);
  }
