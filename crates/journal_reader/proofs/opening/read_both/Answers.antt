use Rattle.std.proofs.Common.{◌≡◌, ◌+◌, ◌-◌, ◌*◌, Some, length, sym, ◌∙◌, ap, arith, rules}
use Rattle.board.specs.Flash.{Flash}
use Rattle.board.proofs.Works.{tells_too}
use Rattle.commit_gate.specs.Entries.{area_of}
use Rattle.meta_journal.specs.Directories.{directory_in}
use Rattle.meta_journal.specs.Halves.{half_of}
use Rattle.journal_reader.specs.Halves.{halves_in}
use Rattle.journal_reader.proofs.Choices.{both_read}
use Rattle.journal_reader.proofs.opening.read_both.Goals as goal

pub returns-in-Ok-Some-read_half-clause-held : goal.returns-in-Ok-Some-read_half-clause-held
returns-in-Ok-Some-read_half-clause-held g c told =
    let means = g.B.Board.means in
    let n = length c.args.wear.now in
    let content = (means.flash c.args.board.now).content in
    let mid = c.read_half.new.board in
    let h = half_of c.args.root in
    let d = c.in-Ok-Some-read_half.directory.directory in
    let e = c.in-Ok-Some.directory.directory in
    let told_mid = tells_too c.read_half.ensures.reads.same told in
    let flash = (c.read_half.ensures.reads.stays told).flash in
    let one : directory_in n (area_of (256 * (8 - c.half_of-own.result.first)) content) ≡ Some e = search rules in
    let two : directory_in (length c.read_half.new.wear) (area_of (256 * c.half_of-own.result.first) (means.flash mid).content) ≡ Some d = search rules in
    let wide : length c.read_half.new.wear ≡ n = search rules in
    let first = c.half_of-own.ensures in
    let other : halves_in n content (1 - h) ≡ Some e = ap (λ b. directory_in n (area_of (256 * b) content)) (let is : 3 + 2 * (1 - h) ≡ 8 - c.half_of-own.result.first = omega (arith, first) in is) ∙ one in
    let own : halves_in n content h ≡ Some d = sym (
    ap (λ m. directory_in m (area_of (256 * c.half_of-own.result.first) (means.flash mid).content)) wide
    ∙ ap (λ b. directory_in n (area_of (256 * b) (means.flash mid).content)) first
    ∙ ap (λ (f : Flash). directory_in n (area_of (256 * (3 + 2 * h)) f.content)) flash) ∙ two in
    both_read (halves_in n content) h (1 - h) d e (omega arith) own other ∙ sym (search rules)
