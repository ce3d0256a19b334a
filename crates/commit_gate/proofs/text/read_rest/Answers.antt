use Rattle.std.proofs.Common.{refl, ◌+◌, ◌*◌, sym, ◌∙◌, ap, arith}
use Rattle.board.specs.Flash.{Flash}
use Rattle.board.proofs.Reading.{reads_most, reads_none, reads_on}
use Rattle.board.proofs.Works.{rose_by_one, tells_too}
use Rattle.commit_gate.specs.Entries.{area_of}
use Rattle.commit_gate.proofs.AreaPages.{octets_one}
use Rattle.commit_gate.proofs.Buffers.{front_kept, page_read, rest_kept}
use Rattle.commit_gate.proofs.text.read_rest.Goals as goal

pub loop-i-init : goal.loop-i-init
loop-i-init g c =
    let means = g.B.Board.means in
    let old = c.args.board.now in
    record {
      read = λ told. c.requires.page told
          ∙ sym (octets_one (area_of (256 * c.args.area.first) (means.flash old).content)
          c.args.first);
      front = refl;
      rest = refl;
      no_fault = refl;
      counted = omega arith;
      reads =
          reads_none means old (λ image told left. g.met.B.Board.images_now old image told left);
    }

pub loop-i-preserved : goal.loop-i-preserved
loop-i-preserved g c =
    let means = g.B.Board.means in
    let old = c.args.board.now in
    let so_far = c.loop-i.invariant in
    let base = 256 * c.args.area.first in
    let i = c.loop-i.i in
    let buf = c.loop-i.buf in
    let page = c.read_page.new.into in
    let risen =
    rose_by_one (means.counts c.loop-i.board).reads (means.counts c.read_page.new.board).reads
    c.in_ok-read_page.ensures.counted in
    record {
      read = λ told. page_read (area_of base (means.flash old).content) c.args.first i buf page
          (omega arith) (omega arith) (so_far.read told)
          (c.in_ok-read_page.ensures.read (tells_too so_far.reads.same told)
          ∙ ap (λ (f : Flash). area_of base f.content (c.args.first + i))
          (so_far.reads.stays told).flash);
      front = front_kept i buf page (omega arith) (omega arith) ∙ so_far.front;
      rest = rest_kept i c.args.pages buf page (omega arith) (omega arith) (omega arith)
          ∙ so_far.rest;
      no_fault = c.in_ok-read_page.ensures.no_fault ∙ so_far.no_fault;
      counted = omega (arith, so_far.counted, risen);
      reads = reads_most means old c.read_page.new.board
          (reads_on means old c.loop-i.board c.read_page.new.board so_far.reads
          c.read_page.ensures.reads)
          (omega arith);
    }

pub returns-in_err-read_page-clause-reads : goal.returns-in_err-read_page-clause-reads
returns-in_err-read_page-clause-reads g c =
    let means = g.B.Board.means in
    let old = c.args.board.now in
    reads_most means old c.read_page.new.board
    (reads_on means old c.loop-i.board c.read_page.new.board c.loop-i.invariant.reads
    c.read_page.ensures.reads)
    (omega arith)

-- the page that was not read lies behind the first and before the rest
pub returns-in_err-read_page-clause-front : goal.returns-in_err-read_page-clause-front
returns-in_err-read_page-clause-front g c =
    front_kept c.loop-i.i c.loop-i.buf c.read_page.new.into (omega arith) (omega arith)
    ∙ c.loop-i.invariant.front

pub returns-in_err-read_page-clause-rest : goal.returns-in_err-read_page-clause-rest
returns-in_err-read_page-clause-rest g c =
    rest_kept c.loop-i.i c.args.pages c.loop-i.buf c.read_page.new.into
    (omega arith) (omega arith) (omega arith) ∙ c.loop-i.invariant.rest
