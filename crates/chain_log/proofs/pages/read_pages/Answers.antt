use Rattle.std.proofs.Common.{◌≡◌, ◌<◌, ◌+◌, ◌*◌, refl, sym, ◌∙◌, ap, subst, arith}
use Rattle.board.specs.Device.{Device}
use Rattle.board.specs.Flash.{Flash}
use Rattle.board.proofs.Reading.{reads_most, reads_none, reads_on}
use Rattle.board.proofs.Works.{rose_by_one, tells_too}
use Rattle.commit_gate.proofs.AreaPages.{octets_none}
use Rattle.commit_gate.proofs.Buffers.{page_read}
use Rattle.chain_log.proofs.pages.read_pages.Goals as goal

pub loop-i-init : goal.loop-i-init
loop-i-init g c =
    let means = g.B.Board.means in
    let old = c.args.board.now in
    record {
      read = λ told. sym (octets_none (means.flash old).content
          (256 * c.args.block + c.args.first));
      reads =
          reads_none means old (λ image told left. g.met.B.Board.images_now old image told left);
      counted = omega arith;
      no_fault = refl;
    }

pub read_page-requires-clause-block : goal.read_page-requires-clause-block
read_page-requires-clause-block g c =
    subst (λ (d : Device). c.args.block < d.blocks) (sym c.loop-i.invariant.reads.same)
    c.requires.block

pub loop-i-preserved : goal.loop-i-preserved
loop-i-preserved g c =
    let means = g.B.Board.means in
    let old = c.args.board.now in
    let so_far = c.loop-i.invariant in
    let first = 256 * c.args.block + c.args.first in
    let i = c.loop-i.i in
    let page = c.read_page.new.into in
    let number : 256 * c.args.block + (c.args.first + i) ≡ first + i = omega arith in
    let risen =
    rose_by_one (means.counts c.loop-i.board).reads (means.counts c.read_page.new.self).reads
    c.in_ok-read_page.ensures.counted in
    record {
      read = λ told. page_read (means.flash old).content first i c.loop-i.buf page
          (omega arith) (omega arith) (so_far.read told)
          (c.in_ok-read_page.ensures.read (tells_too so_far.reads.same told)
          ∙ ap (λ (f : Flash). f.content (256 * c.args.block + (c.args.first + i)))
          (so_far.reads.stays told).flash
          ∙ ap (means.flash old).content number);
      reads = reads_on means old c.loop-i.board c.read_page.new.self so_far.reads
          c.read_page.ensures.reads;
      counted = omega (arith, so_far.counted, risen);
      no_fault = c.in_ok-read_page.ensures.no_fault ∙ so_far.no_fault;
    }

pub returns-in_err-read_page-clause-reads : goal.returns-in_err-read_page-clause-reads
returns-in_err-read_page-clause-reads g c =
    let means = g.B.Board.means in
    let old = c.args.board.now in
    reads_most means old c.read_page.new.self
    (reads_on means old c.loop-i.board c.read_page.new.self c.loop-i.invariant.reads
    c.read_page.ensures.reads)
    (omega arith)
