use Rattle.std.proofs.Common.{◌≡◌, ℕ, ◌+◌, ◌-◌, ◌*◌, ◌<◌, List, take, drop, refl, sym, ◌∙◌, ap}
use Rattle.std.proofs.Common.{subst, arith}
use Rattle.board.specs.Device.{Device}
use Rattle.board.specs.Flash.{only_page, pages_from, written}
use Rattle.board.proofs.Pages.{written_none}
use Rattle.board.proofs.Touching.{failed_elsewhere, same_elsewhere, same_on, touches_most}
use Rattle.board.proofs.Touching.{touches_none, touches_on, written_elsewhere}
use Rattle.board.proofs.Works.{rose_by_one, tells_too}
use Rattle.chain_log.specs.Pages.{page_in}
use Rattle.chain_log.proofs.Programs.{page_added, page_within, still_clean}
use Rattle.chain_log.proofs.pages.write_pages.Goals as goal

pub loop-i-init : goal.loop-i-init
loop-i-init g c =
    let means = g.B.Board.means in
    let old = c.args.board.now in
    let first = 256 * c.args.block + c.args.first in
    let these = pages_from first c.args.pages in
    record {
      flash = λ told. sym
          (written_none first (λ p. page_in c.args.octets.now (p - first)) (means.flash old));
      others = λ told. same_elsewhere these (means.flash old) (means.flash old) refl;
      seen = λ some told. absurd {A = means.images old (means.moment old) (means.flash old).content}
          (omega arith);
      touches = touches_none means these old
          (λ image told left. g.met.B.Board.images_now old image told left);
      programs = omega arith;
      no_fault = refl;
    }

pub program-requires-clause-block : goal.program-requires-clause-block
program-requires-clause-block g c =
    subst (λ (d : Device). c.args.block < d.blocks) (sym c.loop-i.invariant.touches.same)
    c.requires.block

pub program-requires-clause-clean : goal.program-requires-clause-clean
program-requires-clause-clean g c told =
    let means = g.B.Board.means in
    let so_far = c.loop-i.invariant in
    let was = tells_too (sym so_far.touches.same) told in
    let at = c.args.first + c.loop-i.i in
    still_clean (256 * c.args.block + c.args.first) c.loop-i.i (256 * c.args.block + at)
    c.args.octets.now (means.flash c.args.board.now) (means.flash c.loop-i.board)
    (so_far.flash was) (omega arith) (c.requires.clean was at (omega arith) (omega arith))

pub loop-i-preserved : goal.loop-i-preserved
loop-i-preserved g c =
    let means = g.B.Board.means in
    let so_far = c.loop-i.invariant in
    let first = 256 * c.args.block + c.args.first in
    let i = c.loop-i.i in
    let octets = c.args.octets.now in
    let these = pages_from first c.args.pages in
    let old = c.args.board.now in
    let mid = c.loop-i.board in
    let new = c.program.new.self in
    let page = 256 * c.args.block + (c.args.first + i) in
    let number : page ≡ first + i = omega arith in
    let more : i < c.args.pages = omega arith in
    let within = page_within first i c.args.pages page number more in
    let risen = rose_by_one (means.counts mid).programs (means.counts new).programs
    c.in_ok-program.ensures.counted in
    let cut : List ℕ = take (256 * i + 256 - 256 * i) (drop (256 * i) octets) in
    let whole : 256 * i + 256 - 256 * i ≡ 256 = omega arith in
    let is_page : cut ≡ page_in octets i = ap (λ (k : ℕ). take k (drop (256 * i) octets)) whole in
    record {
      flash = λ told. page_added first i octets cut (means.flash old) (means.flash mid)
          (means.flash new) is_page (so_far.flash told)
          (subst (λ (p : ℕ). means.flash new ≡ written (only_page p) (λ _. cut) (means.flash mid))
          number (c.in_ok-program.ensures.ok (tells_too so_far.touches.same told)));
      others = λ told. same_on these (only_page page) (means.flash old) (means.flash mid)
          (means.flash new) within (so_far.others told)
          (written_elsewhere (only_page page) (λ _. cut) (means.flash mid) (means.flash new)
          (c.in_ok-program.ensures.ok (tells_too so_far.touches.same told)));
      seen = λ some told. c.in_ok-program.ensures.seen (tells_too so_far.touches.same told);
      touches = touches_on means these (only_page page) old mid new within so_far.touches
          c.program.ensures.touches;
      programs = omega (arith, so_far.programs, risen);
      no_fault = c.in_ok-program.ensures.no_fault ∙ so_far.no_fault;
    }

pub returns-in_err-program-clause-others : goal.returns-in_err-program-clause-others
returns-in_err-program-clause-others g c told =
    let means = g.B.Board.means in
    let so_far = c.loop-i.invariant in
    let first = 256 * c.args.block + c.args.first in
    let page = 256 * c.args.block + (c.args.first + c.loop-i.i) in
    let number : page ≡ first + c.loop-i.i = omega arith in
    let more : c.loop-i.i < c.args.pages = omega arith in
    same_on (pages_from first c.args.pages) (only_page page) (means.flash c.args.board.now)
    (means.flash c.loop-i.board) (means.flash c.program.new.self)
    (page_within first c.loop-i.i c.args.pages page number more) (so_far.others told)
    (failed_elsewhere (only_page page) (means.flash c.loop-i.board) (means.flash c.program.new.self)
    (c.in_err-program.ensures.err (tells_too so_far.touches.same told)))

pub returns-in_err-program-clause-touches : goal.returns-in_err-program-clause-touches
returns-in_err-program-clause-touches g c =
    let means = g.B.Board.means in
    let so_far = c.loop-i.invariant in
    let first = 256 * c.args.block + c.args.first in
    let page = 256 * c.args.block + (c.args.first + c.loop-i.i) in
    let number : page ≡ first + c.loop-i.i = omega arith in
    let more : c.loop-i.i < c.args.pages = omega arith in
    touches_most means (touches_on means (pages_from first c.args.pages) (only_page page)
    c.args.board.now c.loop-i.board c.program.new.self
    (page_within first c.loop-i.i c.args.pages page number more) so_far.touches
    c.program.ensures.touches) (omega arith) (omega arith) (omega arith)
