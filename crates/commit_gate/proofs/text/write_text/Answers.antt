use Rattle.std.proofs.Common.{◌≡◌, ℕ, ◌+◌, ◌*◌, ◌<◌, length, refl, sym, ◌∙◌, subst, arith}
use Rattle.board.specs.Flash.{only_page, pages_from, written}
use Rattle.board.proofs.Pages.{written_none}
use Rattle.board.proofs.Touching.{same_elsewhere, same_on, touches_most, touches_none, touches_on}
use Rattle.board.proofs.Works.{rose_by_one, tells_too}
use Rattle.commit_gate.specs.Entries.{payload_pages}
use Rattle.commit_gate.specs.Commits.{payload_at}
use Rattle.commit_gate.proofs.PayloadPages.{page_added, page_within, still_clean}
use Rattle.commit_gate.proofs.text.write_text.Goals as goal

pub loop-index-init : goal.loop-index-init
loop-index-init g c =
    let means = g.B.Board.means in
    let old = c.args.board.now in
    let first = 256 * c.args.area.first + c.args.first in
    let these = pages_from first (payload_pages (length c.args.text.now)) in
    record {
      flash = λ told. sym (written_none first (payload_at first c.args.text.now) (means.flash old));
      others = λ told. same_elsewhere these (means.flash old) (means.flash old) refl;
      seen = λ some told. absurd {A = means.images old (means.moment old) (means.flash old).content}
          (omega arith);
      touches = touches_none means these old
          (λ image told left. g.met.B.Board.images_now old image told left);
      programs = omega arith;
      no_fault = refl;
    }

pub program-requires-clause-clean : goal.program-requires-clause-clean
program-requires-clause-clean g c told =
    let means = g.B.Board.means in
    let so_far = c.loop-index.invariant in
    let was = tells_too (sym so_far.touches.same) told in
    let at = c.args.first + c.loop-index.index in
    still_clean (256 * c.args.area.first + c.args.first) c.loop-index.index
    (256 * c.args.area.first + at)
    c.args.text.now (means.flash c.args.board.now) (means.flash c.loop-index.board)
    (so_far.flash was)
    (omega arith) (c.requires.clean was at (omega arith) (omega arith))

pub loop-index-preserved : goal.loop-index-preserved
loop-index-preserved g c =
    let means = g.B.Board.means in
    let so_far = c.loop-index.invariant in
    let first = 256 * c.args.area.first + c.args.first in
    let index = c.loop-index.index in
    let text = c.args.text.now in
    let these = pages_from first (payload_pages (length text)) in
    let old = c.args.board.now in
    let mid = c.loop-index.board in
    let new = c.program.new.board in
    let page = 256 * c.args.area.first + (c.args.first + index) in
    let number : page ≡ first + index = omega arith in
    let more : index < payload_pages (length text) = omega arith in
    let within = page_within first index (payload_pages (length text)) page number more in
    let risen = rose_by_one (means.counts mid).programs (means.counts new).programs
    c.in_ok-program.ensures.counted in
    record {
      flash = λ told. page_added first index text c.fill_page.new.page
          (means.flash old) (means.flash mid) (means.flash new) c.fill_page.ensures
          (so_far.flash told)
          (subst (λ (p : ℕ). means.flash new ≡ written (only_page p) (λ _. c.fill_page.new.page)
          (means.flash mid))
          number (c.in_ok-program.ensures.ok (tells_too so_far.touches.same told)));
      others = λ told. same_on these (only_page page) (means.flash old) (means.flash mid)
          (means.flash new) within
          (so_far.others told) (c.program.ensures.others (tells_too so_far.touches.same told));
      seen = λ some told. c.in_ok-program.ensures.seen (tells_too so_far.touches.same told);
      touches = touches_on means these (only_page page) old mid new within so_far.touches
          c.program.ensures.touches;
      programs = omega (arith, so_far.programs, risen);
      no_fault = c.in_ok-program.ensures.no_fault ∙ so_far.no_fault;
    }

pub returns-in_err-program-clause-touches : goal.returns-in_err-program-clause-touches
returns-in_err-program-clause-touches g c =
    let means = g.B.Board.means in
    let first = 256 * c.args.area.first + c.args.first in
    let index = c.loop-index.index in
    let page = 256 * c.args.area.first + (c.args.first + index) in
    let more : index < payload_pages (length c.args.text.now) = omega arith in
    touches_most means (touches_on means (pages_from first (payload_pages (length c.args.text.now)))
    (only_page page)
    c.args.board.now c.loop-index.board c.program.new.board
    (page_within first index (payload_pages (length c.args.text.now)) page (omega arith) more)
    c.loop-index.invariant.touches c.program.ensures.touches) (omega arith) (omega arith)
    (omega arith)
