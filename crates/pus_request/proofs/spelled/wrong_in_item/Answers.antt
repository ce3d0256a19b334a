use Rattle.std.proofs.Common.{◌+◌, inl, inr, subst, sym}
use Rattle.pus_request.specs.declared.kinds.Kind.{Kind}
use Rattle.pus_request.specs.Kinds.{row_of}
use Rattle.pst_model.specs.Layouts.{is_wrong_in, width_of}
use Rattle.pst_model.specs.Least.{first_below}
use Rattle.std.specs.Prelude.{drop}
use Rattle.pus_request.proofs.Wrong.{IsPlace, behind_store, place_in_pattern}
use Rattle.pus_request.proofs.spelled.wrong_in_item.Goals as goal

pub returns-in-AddTypes : goal.returns-in-AddTypes
returns-in-AddTypes c =
    let at = c.args.at in
    let body = c.args.body.now in
    let found = c.wrong_in_pattern-in-AddTypes.result in
    let is = behind_store at body found (place_in_pattern (drop (at + 2) body) (at + 2) found c.wrong_in_pattern-in-AddTypes.ensures) in
    let of = λ (kind : Kind). IsPlace (first_below (is_wrong_in (row_of kind).fields (drop at body)) (width_of (row_of kind).fields)) at found in
    elim c.in-AddTypes.is [ inl add ↦ subst of (sym add) is | inr delete ↦ subst of (sym delete) is ]

pub returns-in-ForwardAdd : goal.returns-in-ForwardAdd
returns-in-ForwardAdd c =
    let at = c.args.at in
    let body = c.args.body.now in
    let found = c.wrong_in_pattern.result in
    let is = place_in_pattern (drop at body) at found c.wrong_in_pattern.ensures in
    let of = λ (kind : Kind). IsPlace (first_below (is_wrong_in (row_of kind).fields (drop at body)) (width_of (row_of kind).fields)) at found in
    elim c.in-ForwardAdd.is [ inl add ↦ subst of (sym add) is | inr delete ↦ subst of (sym delete) is ]
