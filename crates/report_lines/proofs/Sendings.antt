-- Lines that are sent, one run behind the other.
use Rattle.std.proofs.Common.{ℕ, List, [], ◌++◌, length, length-append, refl, sym, ◌∙◌, ap, subst, arith, append_assoc}
use Rattle.std.proofs.lemmas.List.{append-nil}
use Rattle.board.specs.Counts.{RoseBy}
use Rattle.board.specs.Flash.{IsImage}
use Rattle.board.specs.Meaning.{BoardMeaning, TellsFlash, TellsLink}
use Rattle.board.specs.Moments.{GainsFront, SendsOnly}
use Rattle.board.proofs.Reading.{stays_none, stays_on}
use Rattle.board.proofs.Runs.{gains_more, gains_none, goes_on, links_too, prefix_trans, rose_since, started, weaker}
use Rattle.board.proofs.Works.{rose_by_both, rose_by_none, sends_most, sends_none, sends_on, tells_too}
use Rattle.pst_model.specs.Rules.{Output}
use Rattle.pst_model.specs.Run.{lines_of}
use Rattle.pst_model.proofs.Runs.{lines_of-append}
use Rattle.report_lines.specs.Sending.{BreaksIn, SendsLines}

-- a front of the first lines is one of all lines
front_of : (before : List ℕ) (xs ys : List Output) (octets : List ℕ) → GainsFront before (lines_of xs) octets
    → GainsFront before (lines_of (xs ++ ys)) octets
front_of before xs ys octets gains = record {
  front = gains.front;
  prefix = prefix_trans gains.front (lines_of xs) (lines_of (xs ++ ys)) gains.prefix (lines_of ys, sym (lines_of-append xs ys));
  gained = gains.gained;
}

module _ {B : Type 0} (means : BoardMeaning B) where
  pub lines_none : (board : B) → ((image : ℕ → List ℕ) → TellsFlash means board → means.images board (means.moment board) image
      → IsImage (means.device board).blocks (means.flash board) image) → SendsLines means board board []
  lines_none board now = record {
    gained = λ told. sym (append-nil (means.sent board (means.moment board)));
    moments = λ told. started means board (GainsFront (means.sent board (means.moment board)) []) (gains_none (means.sent board (means.moment board)) []);
    stays = λ told. stays_none means board (λ image left. now image told left);
    same = refl;
    work = sends_none (means.counts board);
    calls = rose_by_none (means.counts board).sends (means.counts board).sends (omega arith);
    no_fault = refl;
  }

  -- the moments of lines that were sent, and of others behind them
  moments_on : (old mid new : B) (xs ys : List Output) → SendsLines means old mid xs → TellsLink means old
      → SendsOnly means mid new (GainsFront (means.sent mid (means.moment mid)) (lines_of ys))
      → SendsOnly means old new (GainsFront (means.sent old (means.moment old)) (lines_of (xs ++ ys)))
  moments_on old mid new xs ys first told second =
      goes_on means old mid new _ _
      (weaker means old mid _ _ (first.moments told) (front_of (means.sent old (means.moment old)) xs ys))
      second
      (λ octets gains. gains_more (means.sent old (means.moment old)) (lines_of xs) (lines_of ys) [] (lines_of (xs ++ ys)) octets
      (subst (λ (before : List ℕ). GainsFront before (lines_of ys) octets) (first.gained told) gains) (append-nil (lines_of xs ++ lines_of ys) ∙ sym (lines_of-append xs ys)))

  pub lines_on : (old mid new : B) (xs ys : List Output) → SendsLines means old mid xs → SendsLines means mid new ys
      → SendsLines means old new (xs ++ ys)
  lines_on old mid new xs ys first second = record {
    gained = λ told. second.gained (links_too first.same told) ∙ ap (λ (octets : List ℕ). octets ++ lines_of ys) (first.gained told)
        ∙ append_assoc (means.sent old (means.moment old)) (lines_of xs) (lines_of ys) ∙ ap (λ (octets : List ℕ). means.sent old (means.moment old) ++ octets) (sym (lines_of-append xs ys));
    moments = λ told. moments_on old mid new xs ys first told (second.moments (links_too first.same told));
    stays = λ told. stays_on means old mid new first.same (first.stays told) (second.stays (tells_too first.same told));
    same = second.same ∙ first.same;
    work = sends_most (sends_on first.work second.work) (omega (arith, length-append xs ys));
    calls = subst (λ n. RoseBy n (means.counts old).sends (means.counts new).sends) (sym (length-append xs ys))
        (rose_by_both (length xs) (length ys) (means.counts old).sends (means.counts mid).sends (means.counts new).sends first.calls second.calls);
    no_fault = second.no_fault ∙ first.no_fault;
  }

  -- lines that were sent, and then some within which the link failed
  pub breaks_on : (old mid new : B) (xs ys : List Output) → SendsLines means old mid xs → BreaksIn means mid new ys
      → BreaksIn means old new (xs ++ ys)
  breaks_on old mid new xs ys first second = record {
    moments = λ told. moments_on old mid new xs ys first told (second.moments (links_too first.same told));
    stays = λ told. stays_on means old mid new first.same (first.stays told) (second.stays (tells_too first.same told));
    same = second.same ∙ first.same;
    work = sends_most (sends_on first.work second.work) (omega (arith, length-append xs ys));
    cause = rose_since (means.counts old).link_faults (means.counts mid).link_faults (means.counts new).link_faults first.work.link_faults second.cause;
  }

  -- the link failed within the first of more lines
  pub breaks_early : (old new : B) (xs ys : List Output) → BreaksIn means old new xs → BreaksIn means old new (xs ++ ys)
  breaks_early old new xs ys breaks = record {
    moments = λ told. weaker means old new _ _ (breaks.moments told) (front_of (means.sent old (means.moment old)) xs ys);
    stays = breaks.stays;
    same = breaks.same;
    work = sends_most breaks.work (omega (arith, length-append xs ys));
    cause = breaks.cause;
  }
