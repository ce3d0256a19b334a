use Rattle.std.proofs.Common.{◌≡◌, ℕ, ◌+◌, ◌-◌, ◌*◌, false, true, take, drop, Result, Ok, Err}
use Rattle.std.proofs.Common.{IsErr, min, refl}
use Rattle.std.proofs.Common.{sym, ◌∙◌, ap, arith}
use Rattle.std.proofs.lemmas.Bool.{false≢true}
use Rattle.board.specs.Flash.{Flash}
use Rattle.board.proofs.Reading.{reads_most, reads_none, reads_on}
use Rattle.board.proofs.Works.{tells_too}
use Rattle.commit_gate.specs.Entries.{area_of, is_lawful, length_in, octets_from, payload_pages}
use Rattle.commit_gate.specs.Entries.{text_of}
use Rattle.commit_gate.proofs.AreaEntries.{at_damage, at_open, at_shut, ends_here, gate_is}
use Rattle.commit_gate.proofs.AreaEntries.{lawful_fits}
use Rattle.commit_gate.proofs.AreaEntries.{stood_text}
use Rattle.commit_gate.proofs.Buffers.{text_read}
use Rattle.commit_gate.specs.declared.reading.Next.{Next}
use Rattle.commit_gate.specs.Shown.{read_most}
use Rattle.commit_gate.proofs.reading.next_entry.Goals as goal

-- no page is read, or none has a page behind it
pub returns-then-at-gt510-clause-next : goal.returns-then-at-gt510-clause-next
returns-then-at-gt510-clause-next g c told =
    ends_here (area_of (256 * c.args.area.first) (g.B.Board.means.flash c.args.board.now).content)
    c.args.at
    (λ low. absurd (omega arith))

pub returns-then-not-branch-clause-next : goal.returns-then-not-branch-clause-next
returns-then-not-branch-clause-next g c told =
    let area = area_of (256 * c.args.area.first) (g.B.Board.means.flash c.args.board.now).content in
    at_shut area c.args.at (gate_is c.args.at (area c.args.at) false (omega arith)
    (sym c.if-not-branch.true ∙ c.in_ok-read_gate.ensures.shown told))

-- the length behind an open gate
pub returns-then-not-is_lawful-clause-next : goal.returns-then-not-is_lawful-clause-next
returns-then-not-is_lawful-clause-next g c told =
    let means = g.B.Board.means in
    let area = area_of (256 * c.args.area.first) (means.flash c.args.board.now).content in
    let told_a = tells_too c.read_gate.ensures.reads.same told in
    let opened = at_open area c.args.at (gate_is c.args.at (area c.args.at) true (omega arith)
    (sym c.if-not-branch.false ∙ c.in_ok-read_gate.ensures.shown told)) in
    let len = c.in_ok-length.length in
    let is_length : len ≡ length_in (area (c.args.at + 1)) =
    c.in_ok-length.ensures.length told_a
    ∙ ap (λ (f : Flash). length_in (area_of (256 * c.args.area.first) f.content (c.args.at + 1)))
    (c.read_gate.ensures.reads.stays told).flash in
    opened ∙ at_damage 5116 area (c.args.at + 1) len is_length
    (sym c.is_lawful.ensures ∙ c.if-not-is_lawful.true)

pub returns-clause-next : goal.returns-clause-next
returns-clause-next g c told =
    let means = g.B.Board.means in
    let area = area_of (256 * c.args.area.first) (means.flash c.args.board.now).content in
    let told_a = tells_too c.read_gate.ensures.reads.same told in
    let opened = at_open area c.args.at (gate_is c.args.at (area c.args.at) true (omega arith)
    (sym c.if-not-branch.false ∙ c.in_ok-read_gate.ensures.shown told)) in
    let len = c.in_ok-length.length in
    let is_length : len ≡ length_in (area (c.args.at + 1)) =
    c.in_ok-length.ensures.length told_a
    ∙ ap (λ (f : Flash). length_in (area_of (256 * c.args.area.first) f.content (c.args.at + 1)))
    (c.read_gate.ensures.reads.stays told).flash in
    let n = payload_pages len in
    let pages = c.payload_pages-pages in
    let is_next : c.args.at + 1 + payload_pages (length_in (area (c.args.at + 1)))
    ≡ c.args.at + 1 + pages.result =
    ap (λ (k : ℕ). c.args.at + 1 + payload_pages k) (sym is_length)
    ∙ ap (λ (k : ℕ). c.args.at + 1 + k) (sym pages.ensures) in
    let same_b = c.read_length.ensures.reads.same ∙ c.read_gate.ensures.reads.same in
    let stays_b = (c.read_length.ensures.reads.stays told_a).flash
    ∙ (c.read_gate.ensures.reads.stays told).flash in
    let buf = c.read_rest.new.buf in
    let read : take (256 * n) buf ≡ octets_from area (c.args.at + 1) n =
    ap (λ (k : ℕ). take (256 * k) buf) (sym pages.ensures)
    ∙ c.in_ok-read_rest.ensures.read (tells_too same_b told)
    ∙ ap (λ (f : Flash). octets_from (area_of (256 * c.args.area.first) f.content)
    (c.args.at + 1) pages.result) stays_b
    ∙ ap (octets_from area (c.args.at + 1)) pages.ensures in
    let cut : 4 + len - 4 ≡ len = omega arith in
    opened ∙ stood_text 5116 area (c.args.at + 1) (take (4 + len - 4) (drop 4 buf))
    (c.args.at + 1 + pages.result) (record {
      lawful = ap (is_lawful 5116 (c.args.at + 1)) (sym is_length) ∙ sym c.is_lawful.ensures
          ∙ c.if-not-is_lawful.false;
      is_text = ap (text_of area (c.args.at + 1)) (sym is_length)
          ∙ sym (ap (λ (k : ℕ). take k (drop 4 buf)) cut
          ∙ text_read area (c.args.at + 1) len buf read);
      is_next = is_next;
    })

-- the reads
most_where_failed : {E : Type 0} (at : ℕ) (result : Result Next E) → IsErr result
    → read_most at result ≡ min 21 (512 - at)
most_where_failed at (Ok next) is = absurd (false≢true is)
most_where_failed at (Err fault) is = refl

pub returns-then-at-gt510-clause-reads : goal.returns-then-at-gt510-clause-reads
returns-then-at-gt510-clause-reads g c =
    let means = g.B.Board.means in
    let old = c.args.board.now in
    reads_most means old old (reads_none means old
    (λ image told left. g.met.B.Board.images_now old image told left))
    (omega arith)

pub returns-in_err-length-clause-reads : goal.returns-in_err-length-clause-reads
returns-in_err-length-clause-reads g c =
    let means = g.B.Board.means in
    let old = c.args.board.now in
    let two = reads_on means old c.read_gate.new.board c.read_length.new.board
    c.read_gate.ensures.reads c.read_length.ensures.reads in
    let most = most_where_failed c.args.at c.from_residual-in_err-length.result
    c.from_residual-in_err-length.ensures.0 in
    reads_most means old c.read_length.new.board two (omega (arith, most))

pub returns-then-not-is_lawful-clause-reads : goal.returns-then-not-is_lawful-clause-reads
returns-then-not-is_lawful-clause-reads g c =
    let means = g.B.Board.means in
    reads_on means c.args.board.now c.read_gate.new.board c.read_length.new.board
    c.read_gate.ensures.reads c.read_length.ensures.reads

pub returns-in_err-read_rest-clause-reads : goal.returns-in_err-read_rest-clause-reads
returns-in_err-read_rest-clause-reads g c =
    let means = g.B.Board.means in
    let old = c.args.board.now in
    let two = reads_on means old c.read_gate.new.board c.read_length.new.board
    c.read_gate.ensures.reads c.read_length.ensures.reads in
    let fits = lawful_fits 5116 (c.args.at + 1) c.in_ok-length.length
    (sym c.is_lawful.ensures ∙ c.if-not-is_lawful.false) in
    let most = most_where_failed c.args.at c.from_residual-in_err-read_rest.result
    c.from_residual-in_err-read_rest.ensures.0 in
    reads_most means old c.read_rest.new.board
    (reads_on means old c.read_length.new.board c.read_rest.new.board two c.read_rest.ensures.reads)
    (omega (arith, fits.0, fits.1, fits.2, most))

pub returns-clause-reads : goal.returns-clause-reads
returns-clause-reads g c =
    let means = g.B.Board.means in
    let old = c.args.board.now in
    let two = reads_on means old c.read_gate.new.board c.read_length.new.board
    c.read_gate.ensures.reads c.read_length.ensures.reads in
    let fits = lawful_fits 5116 (c.args.at + 1) c.in_ok-length.length
    (sym c.is_lawful.ensures ∙ c.if-not-is_lawful.false) in
    reads_most means old c.read_rest.new.board
    (reads_on means old c.read_length.new.board c.read_rest.new.board two c.read_rest.ensures.reads)
    (omega (arith, fits.0))
