use Rattle.std.proofs.Common.{◌≡◌, ℕ, suc, ◌+◌, List, ◌++◌, length, take, sym, ◌∙◌, ap, ap₂, subst, arith, length-append}
use Rattle.std.specs.Prelude.{slice_get}
use Rattle.std.specs.Option.{option_to_list}
use Rattle.std.proofs.lemmas.List.{take_all}
use Rattle.pst_model.specs.Table.{Store}
use Rattle.space_packet.specs.View.{octets_of}
use Rattle.store_directory.specs.Directory.{Listed}
use Rattle.store_directory.specs.declared.row.Row.{Row}
use Rattle.store_policy.specs.Shown.{AreShown, AreTogether, IsShown}
use Rattle.store_put.proofs.Made.{some_at, some_gives}
use Rattle.store_put.proofs.Refused.{at_most_one, index_here, refusals_more, shown_at, shown_many, together_at, together_many}
use Rattle.store_put.specs.Refusals.{IsFilled, refusals_of}
use Rattle.store_put.specs.declared.refusals.RefusedPut.{RefusedPut}
use Rattle.store_put.proofs.refusals.refusals_of.Goals as goal

pub bounds-indexes-at : goal.bounds-indexes-at
bounds-indexes-at c =
    let many = together_many c.args.directory.now.directory.stores c.args.indexes.now c.requires.together in
    let len = c.len-at-end.ensures.len in
    omega (arith, many, len, c.loop-at-test.true)

pub refusal_of-found-requires-clause-together : goal.refusal_of-found-requires-clause-together
refusal_of-found-requires-clause-together c =
    let stores = c.args.directory.now.directory.stores in
    let (s, there) = some_at stores c.loop-at.at (let len = c.len-at-end.ensures.len in omega (arith, len, c.loop-at-test.true)) in
    let row_is : c.row.result.now ≡ s.row = some_gives (slice_get stores c.loop-at.at) (λ (s : Listed). c.row.result.now ≡ s.row) s c.row.ensures there in
    subst (λ (row : Row). AreTogether row c.index-indexes-at.result) (sym row_is)
    (together_at stores c.args.indexes.now c.loop-at.at s c.index-indexes-at.result c.requires.together there
    (index_here stores c.args.indexes.now c.loop-at.at c.index-indexes-at.result c.requires.together
    (let len = c.len-at-end.ensures.len in omega (arith, len, c.loop-at-test.true)) c.index-indexes-at.is))

pub refusal_of-found-requires-clause-filled : goal.refusal_of-found-requires-clause-filled
refusal_of-found-requires-clause-filled c =
    let many = together_many c.args.directory.now.directory.stores c.args.indexes.now c.requires.together in
    let len = c.len-at-end.ensures.len in
    subst IsFilled (sym c.index-indexes-at.is)
    (c.requires.filled c.loop-at.at c.index-indexes-at.result (omega (arith, many, len, c.loop-at-test.true)))

told_next : (c : goal.After-push_found) (stores : List Store) → AreShown stores c.args.directory.now.directory.stores c.args.indexes.now
    → refusals_of (octets_of c.args.packet.now) (take (c.loop-at.at + 1) stores)
    ≡ c.loop-at.refused.items ++ option_to_list c.refusal_of-found.result
told_next c stores are =
    let listed = c.args.directory.now.directory.stores in
    let octets = octets_of c.args.packet.now in
    let (s, there) = some_at listed c.loop-at.at (let len = c.len-at-end.ensures.len in omega (arith, len, c.loop-at-test.true)) in
    let row_is : c.row.result.now ≡ s.row = some_gives (slice_get listed c.loop-at.at) (λ (s : Listed). c.row.result.now ≡ s.row) s c.row.ensures there in
    let patterns_are : c.patterns.result.now ≡ s.patterns =
    some_gives (slice_get listed c.loop-at.at) (λ (s : Listed). c.patterns.result.now ≡ s.patterns) s c.patterns.ensures there in
    let (store, in_table, shown) = shown_at stores listed c.args.indexes.now c.loop-at.at s c.index-indexes-at.result are there
    (index_here listed c.args.indexes.now c.loop-at.at c.index-indexes-at.result c.requires.together
    (let len = c.len-at-end.ensures.len in omega (arith, len, c.loop-at-test.true)) c.index-indexes-at.is) in
    let next : c.loop-at.at + 1 ≡ suc c.loop-at.at = omega arith in
    ap (λ (n : ℕ). refusals_of octets (take n stores)) next
    ∙ refusals_more octets stores c.loop-at.at store in_table
    ∙ ap₂ (λ (a b : List RefusedPut). a ++ b) (sym (c.loop-at.invariant.told stores are))
    (c.refusal_of-found.ensures store (subst (λ (row : Row). IsShown store row c.index-indexes-at.result) (sym row_is) shown.shown)
    (shown.patterns ∙ sym patterns_are))

pub loop-at-preserved : goal.loop-at-preserved
loop-at-preserved c =
    let sum = length-append c.loop-at.refused.items (option_to_list c.refusal_of-found.result) in
    let is = ap length c.push_found.ensures in
    let one = at_most_one c.refusal_of-found.result in
    record {
      few = omega (arith, sum, is, one, c.loop-at.invariant.few);
      told = λ stores are. c.push_found.ensures ∙ sym (told_next c stores are);
    }

pub returns : goal.returns
returns c stores are =
    let listed = c.args.directory.now.directory.stores in
    let many = shown_many stores listed c.args.indexes.now are in
    let len = c.len-at-end.ensures.len in
    c.loop-at.invariant.told stores are
    ∙ ap (refusals_of (octets_of c.args.packet.now)) (take_all c.loop-at.at stores (omega (arith, many, len, c.loop-at-test.false)))
