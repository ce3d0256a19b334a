use Rattle.std.proofs.Common.{◌∷◌, drop, ◌∙◌, ap, arith}
use Rattle.std.proofs.Math.Seq.{drop-cons}
use Rattle.std.proofs.lemmas.Option.{get_or_from_slice_get, slice_get_within}
use Rattle.control_defs.specs.declared.instructions.Instruction.{Instruction}
use Rattle.pus_request.specs.View.{listed}
use Rattle.pus_request.proofs.Viewed.{many, whole}
use Rattle.pus_request.proofs.items.Items.first.Goals as goal

pub get-requires : goal.get-requires
get-requires c =
    let some = (whole c.args.self.now).some in
    omega (arith, some, many c.args.self.now)

pub returns : goal.returns
returns c =
    let items = listed c.args.self.now in
    let item = c.get.result in
    drop-cons items 0 item (slice_get_within items 0 item c.get.ensures.item)
    ∙ ap (λ (i : Instruction). i ∷ drop 1 items) (get_or_from_slice_get items 0 item item c.get.ensures.item)
