-- What each image of a commit holds.
use Rattle.std.proofs.Common.{◌≡◌, inl, inr, ℕ, ◌+◌, ◌*◌, ◌<◌, ◌≤◌, false, List, [], ◌∷◌, ◌++◌, Option, Some, unwrap_or, length, ◌∙◌, ap, arith}
use Rattle.board.specs.Flash.{Flash, IsImage}
use Rattle.board.proofs.Pages.{below_pages}
use Rattle.commit_gate.specs.Commits.{IsBefore, IsBeforeOrAfter, IsCleanFrom, Stands, entry_pages, with_entry}
use Rattle.commit_gate.specs.Entries.{Entry, HasEntries, area_of, length_in, octets_from, payload_pages, text_at}
use Rattle.commit_gate.proofs.AreaEntries.{at_le, lawful_fits, stood_text, text_stood}
use Rattle.commit_gate.proofs.AreaPages.{area_same, octets_same}
use Rattle.commit_gate.proofs.EntriesRead.{entries_read}
use Rattle.commit_gate.proofs.Images.{image_stands}
use Rattle.root_vote.specs.declared.root.Root.{Root}
use Rattle.root_vote.specs.declared.votes.Choice.TheVariants.{Agreed}
use Rattle.root_vote.specs.Roots.{choice_of, root_in}
use Rattle.root_vote.proofs.Choices.{choice_last}
use Rattle.root_vote.proofs.RootStages.{page_left}
use Rattle.store_directory.specs.Checkpoints.{Checkpoint, read_checkpoint}
use Rattle.store_directory.specs.Directory.{Directory}
use Rattle.store_directory.specs.Folds.{fold_entries, fold_entry}
use Rattle.store_directory.specs.Options.{◌>>=◌}
use Rattle.store_directory.proofs.Steps.{some_then}
use Rattle.meta_journal.specs.Directories.{directory_by, directory_in}
use Rattle.meta_journal.specs.Halves.{half_base, half_of}
use Rattle.meta_journal.specs.Journals.{Holds, HoldsBefore, HoldsEither, IsJournal}
use Rattle.meta_journal.proofs.Filled.{half_reads}
use Rattle.meta_journal.proofs.Holding.{image_holds}

-- one more entry is folded
fold_more : (d : Directory) (entries : List (List ℕ)) (entry : List ℕ) (before after : Directory) → fold_entries d entries ≡ Some before → fold_entry before entry ≡ Some after
    → fold_entries d (entries ++ entry ∷ []) ≡ Some after
fold_more d [] entry before after is more =
    ap (λ (f : Option Directory). f >>= λ next. Some next) (ap (λ x. fold_entry x entry) (ap (λ o. unwrap_or o d) is) ∙ more)
fold_more d (first ∷ entries) entry before after is more =
    let (next, one, rest) = some_then (fold_entry d first) (λ next. fold_entries next entries) before is in
    ap (λ (f : Option Directory). f >>= λ next. fold_entries next (entries ++ entry ∷ [])) one ∙ fold_more next entries entry before after rest more

pub directory_more : (blocks : ℕ) (text : List ℕ) (entries : List (List ℕ)) (entry : List ℕ) (before after : Directory) → directory_by blocks text entries ≡ Some before
    → fold_entry before entry ≡ Some after → directory_by blocks text (entries ++ entry ∷ []) ≡ Some after
directory_more blocks text entries entry before after is more =
    let (checkpoint, spelled, rest) = some_then (read_checkpoint blocks text) (λ c. fold_entries c.directory entries) before is in
    ap (λ (f : Option Checkpoint). f >>= λ c. fold_entries c.directory (entries ++ entry ∷ [])) spelled ∙ fold_more checkpoint.directory entries entry before after rest more

-- the same text, where its pages are the same
pub text_kept : (longest : ℕ) (area new : ℕ → List ℕ) (first : ℕ) (text : List ℕ) (next : ℕ) → text_at longest area first ≡ Entry text next
    → ((q : ℕ) → first ≤ q → q < next → new q ≡ area q) → text_at longest new first ≡ Entry text next
text_kept longest area new first text next e same =
    let stood = text_stood longest area first text next e in
    let fits = lawful_fits longest first (length_in (area first)) stood.lawful in
    let n = payload_pages (length_in (area first)) in
    let page : new first ≡ area first = same first (omega arith) (omega (arith, stood.is_next, fits.0)) in
    let octets : octets_from new first n ≡ octets_from area first n = octets_same area new n first (λ q from to. same q from (omega (arith, stood.is_next))) in
    stood_text longest new first text next (record {
      lawful = rw page stood.lawful;
      is_text = rw page (rw octets stood.is_text);
      is_next = rw page stood.is_next;
    })

module _ (blocks : ℕ) (flash : Flash) (root : Root) (d : Directory) (at : ℕ) (enough : 16 ≤ blocks) (within : at ≤ 512) (journal : IsJournal blocks root d at flash) where
  abbrev base : ℕ
  base = half_base (half_of root)

  -- an image with the roots, the checkpoint and some entries holds what they make
  holds_these : (image : ℕ → List ℕ) (these : List (List ℕ)) (end : ℕ) (e : Directory) → ((k : ℕ) → k < 3 → image (256 * k) ≡ flash.content (256 * k))
      → ((q : ℕ) → q < at → image (base + q) ≡ flash.content (base + q)) → HasEntries (area_of base image) journal.start these end
      → directory_by blocks journal.text these ≡ Some e → Holds blocks e image
  holds_these image these end e roots same has folded = image_holds blocks e image (Agreed root) agreed (journal.own, half ∙ folded)
    where
      agreed : choice_of image ≡ Agreed root
      agreed = choice_last image root (ap root_in (roots 0 (omega arith)) ∙ journal.rooted.spelled 0 (omega arith)) (ap root_in (roots 1 (omega arith)) ∙ journal.rooted.spelled 1 (omega arith))

      text : text_at 20476 (area_of base image) 0 ≡ Entry journal.text journal.start
      text =
          let le = at_le (area_of base flash.content) journal.start journal.entries at journal.stands.has in
          text_kept 20476 (area_of base flash.content) (area_of base image) 0 journal.text journal.start journal.checkpoint (λ q from to. area_same base flash.content image q (λ lt. same q (omega arith)))

      half : directory_in blocks (area_of base image) ≡ directory_by blocks journal.text these
      half = half_reads blocks (area_of base image) journal.text journal.start these text (entries_read (area_of base image) journal.start these end has)

  -- each image holds the directory of the journal
  pub journal_holds : (image : ℕ → List ℕ) → IsImage blocks flash image → Holds blocks d image
  journal_holds image is = holds_these image journal.entries at d
      (λ k lt. is.firm_pages (256 * k) (omega arith) (journal.rooted.firm_roots k lt))
      (λ q lt. is.firm_pages (base + q) (omega arith) (journal.is_firm (base + q) (omega arith)))
      (image_stands blocks flash base journal.start journal.entries at (omega arith) journal.stands image is) journal.holds

  module _ (entry : List ℕ) where
    root_out : (k : ℕ) → k < 3 → entry_pages base at entry (256 * k) ≡ false
    root_out k lt = below_pages (base + at) (1 + payload_pages (length entry)) (256 * k) (omega arith)

    before_out : (q : ℕ) → q < at → entry_pages base at entry (base + q) ≡ false
    before_out q lt = below_pages (base + at) (1 + payload_pages (length entry)) (base + q) (omega arith)

    pub before_holds : (image : ℕ → List ℕ) → IsBefore blocks flash base journal.start journal.entries at entry image → HoldsBefore blocks (entry_pages base at entry) flash d image
    before_holds image is = record {
      elsewhere = is.elsewhere;
      holds = holds_these image journal.entries at d
          (λ k lt. page_left blocks (entry_pages base at entry) flash image (256 * k) (omega arith) (root_out k lt) (journal.rooted.firm_roots k lt) is.elsewhere)
          (λ q lt. page_left blocks (entry_pages base at entry) flash image (base + q) (omega arith) (before_out q lt) (journal.is_firm (base + q) (omega arith)) is.elsewhere)
          is.has journal.holds;
    }

    module _ (after : Directory) (more : fold_entry d entry ≡ Some after) where
      pub commit_holds : (image : ℕ → List ℕ) → IsBeforeOrAfter blocks flash base journal.start journal.entries at entry image → HoldsEither blocks (entry_pages base at entry) flash d after image
      commit_holds image (inl is) = inl (before_holds image is)
      commit_holds image (inr is) = inr (record {
        pages = is.pages;
        elsewhere = is.elsewhere;
        holds = holds_these image (journal.entries ++ entry ∷ []) (at + 1 + payload_pages (length entry)) after
            (λ k lt. is.elsewhere (256 * k) (omega arith) (root_out k lt)) (λ q lt. is.elsewhere (base + q) (omega arith) (before_out q lt)) is.has
            (directory_more blocks journal.text journal.entries entry d after journal.holds more);
      })

      -- the journal with the entry
      pub journal_more : (new : Flash) → new ≡ with_entry base at entry flash → ((p : ℕ) → entry_pages base at entry p ≡ false → new.content p ≡ flash.content p)
          → Stands new base journal.start (journal.entries ++ entry ∷ []) (at + 1 + payload_pages (length entry))
          → IsCleanFrom new base (at + 1 + payload_pages (length entry)) → IsJournal blocks root after (at + 1 + payload_pages (length entry)) new
      journal_more new is same stands clean = record {
        own = journal.own;
        rooted = record {
          spelled = λ k lt. ap root_in (same (256 * k) (root_out k lt)) ∙ journal.rooted.spelled k lt;
          firm_roots = λ k lt. ap (λ (f : Flash). f.loose (256 * k)) is;
        };
        text = journal.text;
        start = journal.start;
        checkpoint =
            let le = at_le (area_of base flash.content) journal.start journal.entries at journal.stands.has in
            text_kept 20476 (area_of base flash.content) (area_of base new.content) 0 journal.text journal.start journal.checkpoint
            (λ q from to. area_same base flash.content new.content q (λ lt. same (base + q) (before_out q (omega arith))));
        entries = journal.entries ++ entry ∷ [];
        stands = stands;
        holds = directory_more blocks journal.text journal.entries entry d after journal.holds more;
        clean = clean;
        is_firm = λ p lt. ap (λ (f : Flash). f.loose p) is;
      }
