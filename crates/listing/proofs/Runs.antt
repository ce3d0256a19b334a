-- How runs of a listing's lines go on.
use Rattle.std.proofs.Common.{◌≡◌, ◌≤◌, ℕ, ◌+◌, List, [], ◌++◌, refl, sym, ◌∙◌, ap, subst, arith, append_assoc}
use Rattle.std.proofs.lemmas.List.{append-nil}
use Rattle.std.specs.Bool.{⊤}
use Rattle.board.specs.Counts.{RoseBy}
use Rattle.board.specs.Flash.{IsImage}
use Rattle.board.specs.Meaning.{BoardMeaning, TellsFlash}
use Rattle.board.specs.Moments.{GainsFront, IsPrefixOf}
use Rattle.board.specs.Reads.{ReadsOnly}
use Rattle.board.proofs.Reading.{stays_none, stays_on}
use Rattle.board.proofs.Runs.{gains_more, gains_none, goes_on, links_too, prefix_trans, started, weaker}
use Rattle.board.proofs.Works.{rose_by_both, rose_by_none, tells_too}
use Rattle.listing.specs.Faults.{IsCauseOf, IsNoMismatch}
use Rattle.listing.specs.Lists.{Breaks, Lists, Runs}
use Rattle.listing.specs.declared.fault.ListingFault.{ListingFault}
use Rattle.listing.proofs.Works.{cause_on, work_none, work_on, work_read, work_within}
use Rattle.pst_model.specs.Table.{Table}

-- a prefix of a prefix
front_within : (before xs ys octets : List ℕ) → IsPrefixOf xs ys → GainsFront before xs octets → GainsFront before ys octets
front_within before xs ys octets within gains = record {
  front = gains.front;
  prefix = prefix_trans gains.front xs ys gains.prefix within;
  gained = gains.gained;
}

-- the same text, as a prefix
pub same_text : (xs ys : List ℕ) → xs ≡ ys → IsPrefixOf xs ys
same_text xs ys is = ([], append-nil xs ∙ is)

pub front_text : (xs ys all : List ℕ) → all ≡ xs ++ ys → IsPrefixOf xs all
front_text xs ys all is = (ys, sym is)

module _ {B : Type 0} (means : BoardMeaning B) where
  module _ (told : Table → Type 0) where
    -- before the first line
    pub lists_none : (board : B) → ((image : ℕ → List ℕ) → TellsFlash means board → means.images board (means.moment board) image
        → IsImage (means.device board).blocks (means.flash board) image) → Lists means told (λ _. []) 0 0 board board
    lists_none board now = record {
      runs = record {
        moments = λ table is link. started means board (GainsFront (means.sent board (means.moment board)) []) (gains_none (means.sent board (means.moment board)) []);
        stays = λ told. stays_none means board (λ image left. now image told left);
        same = refl;
        work = work_none (means.counts board);
      };
      gained = λ table is link. sym (append-nil (means.sent board (means.moment board)));
      calls = rose_by_none (means.counts board).sends (means.counts board).sends (omega arith);
      no_flash_fault = refl;
      no_link_fault = refl;
    }

    -- reads alone
    runs_read : {n : ℕ} (old new : B) → ReadsOnly means n old new → Runs means told (λ _. []) n 0 old new
    runs_read old new reads = record {
      moments = λ table is link.
          weaker means old new _ (λ octets. octets ≡ means.sent old (means.moment old)) (reads.unsent link)
          (λ octets same. record { front = []; prefix = ([], refl); gained = same ∙ sym (append-nil (means.sent old (means.moment old))) });
      stays = reads.stays;
      same = reads.same;
      work = work_read reads.work;
    }

    pub lists_read : {n : ℕ} (old new : B) → ReadsOnly means n old new
        → (means.counts new).flash_faults ≡ (means.counts old).flash_faults → Lists means told (λ _. []) n 0 old new
    lists_read old new reads no_fault = record {
      runs = runs_read old new reads;
      gained = λ table is link.
          (reads.unsent link).each (means.moment new) (reads.unsent link).later (omega arith)
          ∙ sym (append-nil (means.sent old (means.moment old)));
      calls = rose_by_none (means.counts old).sends (means.counts new).sends (omega (arith, reads.work.sends));
      no_flash_fault = no_fault;
      no_link_fault = reads.work.link_faults;
    }

    pub breaks_read : {n : ℕ} (old new : B) (fault : ListingFault) → ReadsOnly means n old new
        → IsCauseOf fault (means.counts old) (means.counts new) → ((table : Table) → told table → IsNoMismatch fault)
        → Breaks means told (λ _. []) n 0 fault old new
    breaks_read old new fault reads cause no_mismatch = record {
      runs = runs_read old new reads;
      cause = cause;
      no_mismatch = no_mismatch;
    }

  -- One run behind another. What is told first is told then too.
  module _ (told next : Table → Type 0) (moves : (table : Table) → told table → next table)
      (old mid new : B) (xs ys : Table → List ℕ) {p l q m : ℕ} (first : Lists means told xs p l old mid) where
    runs_on : Runs means next ys q m mid new → Runs means told (λ table. xs table ++ ys table) (p + q) (l + m) old new
    runs_on second = record {
      moments = λ table is link.
          goes_on means old mid new _ (GainsFront (means.sent mid (means.moment mid)) (ys table))
          (weaker means old mid _ (GainsFront (means.sent old (means.moment old)) (xs table)) (first.runs.moments table is link)
          (λ octets. front_within (means.sent old (means.moment old)) (xs table) (xs table ++ ys table) octets (ys table, refl)))
          (second.moments table (moves table is) (links_too first.runs.same link))
          (λ octets gains. gains_more (means.sent old (means.moment old)) (xs table) (ys table) [] (xs table ++ ys table) octets
          (subst (λ (before : List ℕ). GainsFront before (ys table) octets) (first.gained table is link) gains)
          (append-nil (xs table ++ ys table)));
      stays = λ told. stays_on means old mid new first.runs.same (first.runs.stays told) (second.stays (tells_too first.runs.same told));
      same = second.same ∙ first.runs.same;
      work = work_on first.runs.work second.work;
    }

    pub lists_on : Lists means next ys q m mid new → Lists means told (λ table. xs table ++ ys table) (p + q) (l + m) old new
    lists_on second = record {
      runs = runs_on second.runs;
      gained = λ table is link.
          second.gained table (moves table is) (links_too first.runs.same link)
          ∙ ap (λ (octets : List ℕ). octets ++ ys table) (first.gained table is link)
          ∙ append_assoc (means.sent old (means.moment old)) (xs table) (ys table);
      calls = rose_by_both l m (means.counts old).sends (means.counts mid).sends (means.counts new).sends first.calls second.calls;
      no_flash_fault = second.no_flash_fault ∙ first.no_flash_fault;
      no_link_fault = second.no_link_fault ∙ first.no_link_fault;
    }

    pub breaks_on : {fault : ListingFault} → Breaks means next ys q m fault mid new
        → Breaks means told (λ table. xs table ++ ys table) (p + q) (l + m) fault old new
    breaks_on {fault} second = record {
      runs = runs_on second.runs;
      cause = cause_on fault (means.counts old) (means.counts mid) (means.counts new) first.no_flash_fault first.no_link_fault second.cause;
      no_mismatch = λ table is. second.no_mismatch table (moves table is);
    }

  -- The same run, said of another text.
  module _ (told other : Table → Type 0) (moves : (table : Table) → other table → told table)
      (old new : B) (xs ys : Table → List ℕ) {p l q m : ℕ} where
    runs_within : ((table : Table) → other table → IsPrefixOf (xs table) (ys table)) → p ≤ q → l ≤ m
        → Runs means told xs p l old new → Runs means other ys q m old new
    runs_within within pages lines run = record {
      moments = λ table is link.
          weaker means old new _ (GainsFront (means.sent old (means.moment old)) (xs table)) (run.moments table (moves table is) link)
          (λ octets. front_within (means.sent old (means.moment old)) (xs table) (ys table) octets (within table is));
      stays = run.stays;
      same = run.same;
      work = work_within run.work pages lines;
    }

    pub lists_as : ((table : Table) → other table → xs table ≡ ys table) → p ≤ q → l ≡ m
        → Lists means told xs p l old new → Lists means other ys q m old new
    lists_as texts pages lines run = record {
      runs = runs_within (λ table is. same_text (xs table) (ys table) (texts table is)) pages (omega (arith, lines)) run.runs;
      gained = λ table is link.
          run.gained table (moves table is) link ∙ ap (λ (octets : List ℕ). means.sent old (means.moment old) ++ octets) (texts table is);
      calls = subst (λ (n : ℕ). RoseBy n (means.counts old).sends (means.counts new).sends) lines run.calls;
      no_flash_fault = run.no_flash_fault;
      no_link_fault = run.no_link_fault;
    }

    pub breaks_within : {fault : ListingFault} → ((table : Table) → other table → IsPrefixOf (xs table) (ys table)) → p ≤ q → l ≤ m
        → Breaks means told xs p l fault old new → Breaks means other ys q m fault old new
    breaks_within within pages lines run = record {
      runs = runs_within within pages lines run.runs;
      cause = run.cause;
      no_mismatch = λ table is. run.no_mismatch table (moves table is);
    }

  -- one line, said of a table
  module _ (told : Table → Type 0) (old new : B) (line : List ℕ) (text : Table → List ℕ)
      (is : (table : Table) → told table → line ≡ text table) where
    pub line_sent : Lists means (λ _. ⊤) (λ _. line) 0 1 old new → Lists means told text 0 1 old new
    line_sent = lists_as (λ _. ⊤) told (λ table here. tt) old new (λ _. line) text is (omega arith) refl

    pub line_broke : {fault : ListingFault} → Breaks means (λ _. ⊤) (λ _. line) 0 1 fault old new → Breaks means told text 0 1 fault old new
    line_broke = breaks_within (λ _. ⊤) told (λ table here. tt) old new (λ _. line) text
        (λ table here. same_text line (text table) (is table here)) (omega arith) (omega arith)
