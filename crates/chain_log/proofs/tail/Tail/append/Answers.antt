use Rattle.std.proofs.Common.{◌≡◌, ◌+◌, ◌*◌, ℕ, length, take, drop, sym, ◌∙◌, ap, subst}
use Rattle.board.specs.Device.{Device}
use Rattle.board.specs.Flash.{Flash, IsContent}
use Rattle.board.proofs.Works.{tells_too}
use Rattle.space_packet.specs.Charge.{charge_of}
use Rattle.space_packet.specs.View.{octets_of}
use Rattle.record_view.specs.Records.{record_at}
use Rattle.record_view.specs.Written.{record_pages}
use Rattle.chain_log.specs.Pages.{block_octets, with_pages, with_record}
use Rattle.chain_log.specs.Tails.{Filling}
use Rattle.chain_log.proofs.Spelled.{front_is, record_length, stands, written_there}
use Rattle.chain_log.proofs.tail.Tail.append.Goals as goal

pub returns-clause-flash : goal.returns-clause-flash
returns-clause-flash g c told =
    let means = g.B.Board.means in
    let packet = octets_of c.args.packet in
    let written = record_pages c.args.number c.args.stamp packet in
    let pages = c.write_record-pages.result in
    let buf = c.write_record-pages.new.out in
    let long = record_length c.args.number c.args.stamp packet
    ∙ ap (λ (n : ℕ). 256 * n) (sym c.write_record-pages.ensures.charge) in
    let front : take (256 * pages) buf ≡ written =
    front_is written (drop (256 * pages) c.args.buf.now) buf pages
    c.write_record-pages.ensures.pages long in
    let at = 256 * c.args.self.now.block + c.args.self.now.used in
    let here : 256 * c.self.inside.block + c.self.inside.used ≡ at =
    ap (λ (tail : Filling). 256 * tail.block + tail.used) c.self.view_is in
    c.in_ok-write_pages.ensures.ok told
    ∙ (λ j. with_pages (here j) (c.write_record-pages.ensures.charge j) (front j)
    (means.flash c.args.board.now))

pub returns-clause-spelled : goal.returns-clause-spelled
returns-clause-spelled g c told =
    let means = g.B.Board.means in
    let old = c.args.board.now in
    let new = c.write_pages.new.board in
    let packet = octets_of c.args.packet in
    let tail = c.args.self.now in
    let at = 256 * tail.block + tail.used in
    let same = c.write_pages.ensures.touches.same in
    let after = with_record at c.args.number c.args.stamp packet (means.flash old) in
    let is_after : means.flash new ≡ after = returns-clause-flash g c told in
    let pages : IsContent (means.device old).blocks after.content =
    subst (λ (f : Flash). IsContent (means.device old).blocks f.content) is_after
    (subst (λ (d : Device). IsContent d.blocks (means.flash new).content) same
    (g.met.B.Board.content_pages new (tells_too same told))) in
    ap (λ (f : Flash). record_at (block_octets f.content tail.block) c.args.number tail.used)
    is_after
    ∙ stands (means.device old).blocks after.content tail.block tail.used c.args.number
    c.args.stamp packet pages c.requires.block.1 c.requires.fits c.ranges.number.fits
    c.requires.stamp c.args.packet.whole
    (written_there at (charge_of (length packet)) (record_pages c.args.number c.args.stamp packet)
    (means.flash old))
