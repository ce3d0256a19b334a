use Rattle.std.proofs.Common.{length, get_or, sym, ap, ◌∙◌, arith, ◌<◌, ℕ, List}
use Rattle.store_directory.proofs.CountTexts.{copied-more, get_or-counts_in, length-counts_in}
use Rattle.store_directory.proofs.checkpoint_text.CountText.copy_into.Goals as goal

pub u32_at-requires : goal.u32_at-requires
u32_at-requires c =
    let counts = c.self.inside in
    let many = sym (length-counts_in counts.count counts.octets.now) ∙ ap length c.self.view_is in
    let whole = c.self.invariant in
    omega (arith, many, whole, c.requires)

pub loop-number-preserved : goal.loop-number-preserved
loop-number-preserved c =
    let counts = c.self.inside in
    let number = c.loop-number.number in
    let many = sym (length-counts_in counts.count counts.octets.now) ∙ ap length c.self.view_is in
    let within : number < counts.count = omega (arith, many, c.requires) in
    copied-more c.loop-number.wear c.args.self.now number c.u32_at.result (omega arith) (omega (arith, c.requires)) c.loop-number.invariant
    (c.u32_at.ensures ∙ sym (get_or-counts_in counts.count number 0 counts.octets.now within) ∙ ap (λ (l : List ℕ). get_or l number 0) c.self.view_is)
