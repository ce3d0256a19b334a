use Rattle.std.proofs.Common.{◌<◌, ◌≤◌, ◌+◌, ◌*◌, ◌≡◌, ◌∙◌, ℕ, Some, get_or, drop, sym, ap, arith, subst}
use Rattle.std.proofs.Math.Nat.{mul-le-mul_right}
use Rattle.std.proofs.lemmas.List.{drop-drop}
use Rattle.std.proofs.lemmas.Option.{slice_get-get_or}
use Rattle.control_defs.specs.Instructions.{IsInstruction}
use Rattle.pst_model.specs.Items.{kind_asked}
use Rattle.pst_model.specs.Layouts.{width_of}
use Rattle.pst_model.specs.Requests.{count_in, front_of}
use Rattle.pst_model.proofs.RequestItems.{get_or-items_from}
use Rattle.pus_request.specs.Kinds.{row_of}
use Rattle.pus_request.specs.View.{listed}
use Rattle.pus_request.proofs.Viewed.{many, spelled, whole}
use Rattle.pus_request.proofs.items.Items.get.Goals as goal

pub place_of-requires : goal.place_of-requires
place_of-requires c =
    let items = c.args.self.now in
    let few = (whole items).few in
    omega (arith, few, many items)

pub item_at-requires : goal.item_at-requires
item_at-requires c =
    let items = c.args.self.now in
    let width = width_of (row_of items.kind).fields in
    let count = count_in (row_of items.kind) items.body.now in
    let among : c.args.at < count = omega (arith, many items) in
    let next : (c.args.at + 1) * width ≤ count * width = mul-le-mul_right width (omega arith) in
    let long = (whole items).long in
    omega (arith, long, next, c.place_of.ensures)

-- the item that is read is that of the list
read : (c : goal.After-item_at) → get_or (listed c.args.self.now) c.args.at c.item_at.result ≡ c.item_at.result
read c =
    let items = c.args.self.now in
    let row = row_of items.kind in
    let body = items.body.now in
    let count = count_in row body in
    let among : c.args.at < count = omega (arith, many items) in
    get_or-items_from row count c.args.at (drop (front_of row) body) c.item_at.result among
    ∙ ap row.spelled (drop-drop (c.args.at * width_of row.fields) (front_of row) body ∙ ap (λ (place : ℕ). drop place body) (sym c.place_of.ensures))
    ∙ sym c.item_at.ensures

pub returns-clause-item : goal.returns-clause-item
returns-clause-item c = slice_get-get_or (listed c.args.self.now) c.args.at c.item_at.result c.requires ∙ ap Some (read c)

pub returns-clause-lawful : goal.returns-clause-lawful
returns-clause-lawful c = subst IsInstruction (read c) ((spelled c.args.self.now).asked.lawful c.args.at c.item_at.result c.requires)

pub returns-clause-kind : goal.returns-clause-kind
returns-clause-kind c = ap kind_asked (sym (read c)) ∙ (spelled c.args.self.now).asked.kind c.args.at c.item_at.result c.requires
