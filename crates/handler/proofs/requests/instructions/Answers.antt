use Rattle.std.proofs.Common.{◌≡◌, ◌<◌, ℕ, List, [], ◌∷◌, ◌++◌, length, take, sym, ◌∙◌, ap, subst, arith}
use Rattle.std.proofs.lemmas.List.{length-set, take_all, take_more, take_more_set}
use Rattle.std.proofs.lemmas.Option.{get_or_from_slice_get}
use Rattle.control_defs.specs.declared.instructions.Instruction.{Instruction}
use Rattle.pus_request.specs.View.{listed}
use Rattle.handler.proofs.requests.instructions.Goals as goal

pub loop-at-preserved : goal.loop-at-preserved
loop-at-preserved c =
    let so_far = c.loop-at.invariant in
    let items = listed c.args.items.now in
    let item = c.get.result in
    let at = c.loop-at.at in
    let within : at < length items = omega (arith, c.loop-at-test.true, c.len-at-end.ensures.length) in
    record {
      items = take_more_set c.loop-at.list at item (omega (arith, so_far.room, c.len-at-end.ensures.few, c.loop-at-test.true))
          ∙ ap (λ (l : List Instruction). l ++ item ∷ []) so_far.items
          ∙ sym (take_more items at item within ∙ ap (λ (i : Instruction). take at items ++ i ∷ []) (get_or_from_slice_get items at item item c.get.ensures.item));
      room = length-set c.loop-at.list at item ∙ so_far.room;
    }

pub returns : goal.returns
returns c =
    let items = listed c.args.items.now in
    let all : c.loop-at.at ≡ length items = omega (arith, c.loop-at-test.false, c.len-at-end.ensures.length) in
    subst (λ (n : ℕ). take n c.loop-at.list ≡ take n items) all c.loop-at.invariant.items ∙ take_all (length items) items (omega arith)
