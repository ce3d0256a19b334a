use Rattle.std.proofs.Common.{◌≡◌, ℕ, sym, ◌∙◌, ap, subst}
use Rattle.board.specs.Counts.{Rose}
use Rattle.board.specs.Device.{Device}
use Rattle.board.specs.Flash.{IsImage}
use Rattle.board.proofs.Works.{tells_too}
use Rattle.image_table.specs.Standing.{HoldsTable}
use Rattle.pst_model.specs.Arrivals.{arrive}
use Rattle.space_packet.specs.View.{octets_of}
use Rattle.vault.proofs.GrantAnswers.{flash_too, unless_too}
use Rattle.vault.proofs.Stopped.{image_holds}
use Rattle.vault.specs.Memory.{InMemory}
use Rattle.vault.specs.declared.outcome.StoreOutcome.{StoreOutcome}
use Rattle.vault.proofs.vault.Vault.store.Goals as goal

pub returns-in-Ok-clause-holds : goal.returns-in-Ok-clause-holds
returns-in-Ok-clause-holds g c told table number stands image left =
    let means = g.B.Board.means in
    let was = c.args.self.now in
    let now = c.arrive.new.self in
    let new = c.arrive.new.board in
    let next = (arrive number c.args.moment (octets_of c.args.packet) table).table in
    let blocks : now.blocks ≡ was.blocks = ap (λ (v : InMemory). v.blocks) c.in-Ok.ensures.after in
    let device : was.blocks ≡ (means.device new).blocks = c.requires.blocks ∙ ap (λ (v : Device). v.blocks) (sym c.in-Ok.ensures.same) in
    subst (λ (n : ℕ). HoldsTable n next image) blocks
    (image_holds now (means.flash new) next image c.in-Ok.ensures.sound (c.in-Ok.ensures.stands told table number stands)
    (subst (λ (n : ℕ). IsImage n (means.flash new) image) (sym (blocks ∙ device))
    (g.met.B.Board.images_now new image (tells_too c.in-Ok.ensures.same told) left)))

pub returns-in-Err-clause-no_fault : goal.returns-in-Err-clause-no_fault
returns-in-Err-clause-no_fault g c =
    let counts = g.B.Board.means.counts in
    unless_too (Unit {0}) StoreOutcome c.in-Err.fault ((counts c.arrive.new.board).flash_faults ≡ (counts c.args.board.now).flash_faults) c.in-Err.ensures.no_fault

pub returns-in-Err-clause-cause : goal.returns-in-Err-clause-cause
returns-in-Err-clause-cause g c =
    let counts = g.B.Board.means.counts in
    flash_too (Unit {0}) StoreOutcome c.in-Err.fault (Rose (counts c.args.board.now).flash_faults (counts c.arrive.new.board).flash_faults) c.in-Err.ensures.cause
