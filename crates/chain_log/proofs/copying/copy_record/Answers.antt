use Rattle.std.proofs.Common.{◌+◌, ◌*◌, ℕ, Bool, length, ◌∙◌, ap, subst}
use Rattle.board.specs.Flash.{pages_from}
use Rattle.board.proofs.Works.{tells_too}
use Rattle.space_packet.specs.Charge.{charge_of}
use Rattle.space_packet.specs.View.{octets_of}
use Rattle.record_view.specs.View.{meaning_of}
use Rattle.chain_log.specs.Copies.{Copies}
use Rattle.chain_log.specs.Pages.{with_record}
use Rattle.chain_log.proofs.ReadsThenPrograms.{copies_all}
use Rattle.chain_log.proofs.copying.copy_record.Goals as goal

pub returns-in-Ok-clause-copied : goal.returns-in-Ok-clause-copied
returns-in-Ok-clause-copied g c told =
    let means = g.B.Board.means in
    let view = c.in_ok-view.view in
    let tail = c.args.tail.now in
    let stays = (c.load_record.ensures.reads.stays told).flash in
    let told_mid = tells_too c.load_record.ensures.reads.same told in
    record {
      meaning = meaning_of view;
      found = c.in_ok-view.ensures.found told;
      flash = c.in-Ok.ensures.flash told_mid
          ∙ ap (with_record (256 * tail.block + tail.used) c.args.to view.stamp
          (octets_of view.packet)) stays;
      spelled = c.in-Ok.ensures.spelled told_mid;
    }

pub returns-in-Ok-clause-copies : goal.returns-in-Ok-clause-copies
returns-in-Ok-clause-copies g c =
    let means = g.B.Board.means in
    let tail = c.args.tail.now in
    let these : ℕ → ℕ → Bool = λ n. pages_from (256 * tail.block + tail.used) (charge_of n) in
    subst (λ (n : ℕ). Copies means (these n) (charge_of c.args.place.length) (charge_of n)
    c.args.board.now c.append.new.board)
    c.in_ok-view.ensures.kept.same_length
    (copies_all means (these (length (octets_of c.in_ok-view.view.packet))) c.args.board.now
    c.load_record.new.board c.append.new.board c.load_record.ensures.reads c.append.ensures.touches
    c.append.ensures.others)

pub returns-in-Err-clause-copies : goal.returns-in-Err-clause-copies
returns-in-Err-clause-copies g c =
    let means = g.B.Board.means in
    let tail = c.args.tail.now in
    let these : ℕ → ℕ → Bool = λ n. pages_from (256 * tail.block + tail.used) (charge_of n) in
    subst (λ (n : ℕ). Copies means (these n) (charge_of c.args.place.length) (charge_of n)
    c.args.board.now c.append.new.board)
    c.in_ok-view.ensures.kept.same_length
    (copies_all means (these (length (octets_of c.in_ok-view.view.packet))) c.args.board.now
    c.load_record.new.board c.append.new.board c.load_record.ensures.reads c.append.ensures.touches
    c.append.ensures.others)
