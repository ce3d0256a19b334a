use Rattle.std.proofs.Common.{◌∙◌, ap, sym}
use Rattle.board.specs.Device.{Device}
use Rattle.board.proofs.Works.{tells_too}
use Rattle.vault.specs.Memory.{InMemory}
use Rattle.vault.proofs.filling_tests.store_all.Goals as goal

pub loop-done-preserved : goal.loop-done-preserved
loop-done-preserved g c =
    let before = c.loop-done.invariant in
    let stored = c.in-Ok.ensures in
    record {
      is_open = ap (λ (v : InMemory). v.is_open) stored.after;
      blocks = ap (λ (v : InMemory). v.blocks) stored.after ∙ before.blocks ∙ sym (ap (λ (d : Device). d.blocks) stored.same);
      flash = λ told.
          let told_before = tells_too (sym stored.same) told in
          let (table, stands) = before.flash told_before in
          (_, stored.stands told_before table 0 stands);
    }
