use Rattle.std.proofs.Common.{◌∙◌, length, sym, arith}
use Rattle.pst_model.specs.Requests.{is_wrong_at}
use Rattle.pst_model.proofs.Leasts.{first_below-none}
use Rattle.pst_model.proofs.WholeRequests.{right_places}
use Rattle.pus_request.specs.Kinds.{row_of}
use Rattle.pus_request.proofs.Wrong.{found_in_item, none_in_item}
use Rattle.pus_request.proofs.reading.wrong_in_items.Goals as goal

pub returns-then-is_some : goal.returns-then-is_some
returns-then-is_some c =
    found_in_item (row_of c.args.kind) c.args.count c.loop-number.number c.place_of.result c.args.body.now c.wrong_in_item-wrong.result
    c.requires.whole c.loop-number-test.true c.loop-number.invariant c.place_of.ensures c.wrong_in_item-wrong.ensures (sym c.is_some.ensures ∙ c.if-is_some.true)

pub loop-number-preserved : goal.loop-number-preserved
loop-number-preserved c =
    none_in_item (row_of c.args.kind) c.loop-number.number c.place_of.result c.args.body.now c.wrong_in_item-wrong.result
    c.loop-number.invariant c.place_of.ensures c.wrong_in_item-wrong.ensures (sym c.is_some.ensures ∙ c.if-is_some.false)

pub returns : goal.returns
returns c =
    let row = row_of c.args.kind in
    let body = c.args.body.now in
    sym
    (first_below-none (is_wrong_at row body) (length body)
    (right_places row c.args.count body c.requires.whole (λ number before. c.loop-number.invariant number (omega (arith, c.loop-number-test.false)))))
