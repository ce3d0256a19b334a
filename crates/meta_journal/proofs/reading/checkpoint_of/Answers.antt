use Rattle.std.proofs.Common.{◌≡◌, ℕ, ◌+◌, ◌-◌, ◌*◌, take, drop, sym, ◌∙◌, ap, arith}
use Rattle.std.specs.Prelude.{◌≤◌, Option, Result, Ok, Err}
use Rattle.std.specs.Result.{IsErrAnd}
use Rattle.board.specs.Flash.{Flash}
use Rattle.board.specs.Reads.{ReadsOnly}
use Rattle.board.proofs.Reading.{reads_most, reads_on}
use Rattle.board.proofs.Works.{tells_too}
use Rattle.commit_gate.specs.Entries.{area_of, is_lawful, length_in, octets_from, payload_pages, text_of}
use Rattle.commit_gate.proofs.AreaEntries.{lawful_fits, stood_text}
use Rattle.commit_gate.proofs.Buffers.{text_read}
use Rattle.meta_journal.specs.Shown.{pages_read}
use Rattle.meta_journal.proofs.reading.checkpoint_of.Given.{Over}
use Rattle.meta_journal.proofs.reading.checkpoint_of.Goals as goal
use Rattle.meta_journal.proofs.reading.checkpoint_of.Goals.{After-read_rest}

pub returns-clause-checkpoint : goal.returns-clause-checkpoint
returns-clause-checkpoint g c told =
    let means = g.B.Board.means in
    let area = area_of (256 * c.args.area.first) (means.flash c.args.board.now).content in
    let len = c.in_ok-length.length in
    let is_length : len ≡ length_in (area 0) = c.in_ok-length.ensures.length told in
    let n = payload_pages len in
    let pages = c.payload_pages-pages in
    let buf = c.read_rest.new.buf in
    let read : take (256 * n) buf ≡ octets_from area 0 n =
    ap (λ (k : ℕ). take (256 * k) buf) (sym pages.ensures)
    ∙ c.in_ok-read_rest.ensures.read (tells_too c.read_length.ensures.reads.same told)
    ∙ ap (λ (f : Flash). octets_from (area_of (256 * c.args.area.first) f.content) 0 pages.result) (c.read_length.ensures.reads.stays told).flash
    ∙ ap (octets_from area 0) pages.ensures in
    let cut : 4 + len - 4 ≡ len = omega arith in
    stood_text 20476 area 0 (take (4 + len - 4) (drop 4 buf)) pages.result (record {
      lawful = ap (is_lawful 20476 0) (sym is_length) ∙ sym c.is_lawful.ensures ∙ c.if-not-is_lawful.false;
      is_text = ap (text_of area 0) (sym is_length) ∙ sym (ap (λ (k : ℕ). take k (drop 4 buf)) cut ∙ text_read area 0 len buf read);
      is_next = (let behind : 0 + payload_pages (length_in (area 0)) ≡ payload_pages (length_in (area 0)) = omega arith in behind) ∙ ap payload_pages (sym is_length) ∙ sym pages.ensures;
    })

-- the reads
reads : (g : Over) (c : After-read_rest g) → ReadsOnly g.B.Board.means c.payload_pages-pages.result c.args.board.now c.read_rest.new.board
reads g c =
    let means = g.B.Board.means in
    let old = c.args.board.now in
    let fits = lawful_fits 20476 0 c.in_ok-length.length (sym c.is_lawful.ensures ∙ c.if-not-is_lawful.false) in
    reads_most means old c.read_rest.new.board
    (reads_on means old c.read_length.new.board c.read_rest.new.board c.read_length.ensures.reads c.read_rest.ensures.reads)
    (omega (arith, fits.0, fits.1, c.payload_pages-pages.ensures))

-- of a failure the most pages are allowed
failed_most : {A E : Type 0} (answer : Result (Option (A × ℕ)) E) (P : E → Type 0) → IsErrAnd answer P → 80 ≤ pages_read answer
failed_most (Ok found) P is = absurd is
failed_most (Err fault) P is = omega arith

pub returns-in_err-read_rest-clause-reads : goal.returns-in_err-read_rest-clause-reads
returns-in_err-read_rest-clause-reads g c =
    let after = (goal.at.returns-in_err-read_rest-clause-reads g c).After-read_rest in
    let fits = lawful_fits 20476 0 c.in_ok-length.length (sym c.is_lawful.ensures ∙ c.if-not-is_lawful.false) in
    reads_most g.B.Board.means c.args.board.now c.read_rest.new.board (reads g after)
    (let most = failed_most c.from_residual-in_err-read_rest.result (λ e. e ≡ c.in_err-read_rest.field-0.0) c.from_residual-in_err-read_rest.ensures.1 in omega (arith, fits.0, fits.1, c.payload_pages-pages.ensures, most))

pub returns-clause-reads : goal.returns-clause-reads
returns-clause-reads g c = reads g (goal.at.returns-clause-reads g c).After-read_rest
