use Rattle.std.proofs.Common.{◌≡◌, ◌+◌, ◌*◌, ℕ, length, sym, ◌∙◌, ap, arith}
use Rattle.std.proofs.lemmas.List.{take_all}
use Rattle.commit_gate.specs.Entries.{octets_from}
use Rattle.record_view.specs.Records.{Reading}
use Rattle.chain_log.proofs.loading.load_block.Goals as goal

pub returns-clause-records : goal.returns-clause-records
returns-clause-records g c told =
    let content = (g.B.Board.means.flash c.args.board.now).content in
    let buf = c.read_pages.new.buf in
    let long : length buf ≡ 65536 = omega (arith, c.read_pages.auto.buf, c.requires.room) in
    let first : 256 * c.from.result + 0 ≡ 256 * c.args.link.block = omega (arith, c.from.ensures) in
    ap (λ (r : Reading). r.block) c.new.ensures
    ∙ sym (take_all 65536 buf (omega arith))
    ∙ c.in_ok-read_pages.ensures.read told
    ∙ ap (λ (k : ℕ). octets_from content k 256) first
