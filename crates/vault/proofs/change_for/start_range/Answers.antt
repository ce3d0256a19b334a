use Rattle.std.proofs.Common.{sym, ◌∙◌, ap, arith}
use Rattle.std.specs.Option.{option_map}
use Rattle.request_laws.specs.Changing.{index_for, put_by}
use Rattle.retrieval.specs.Picks.{ranged_row}
use Rattle.store_directory.specs.Kept.{change_of}
use Rattle.store_put.proofs.Refused.{together_many}
use Rattle.vault.proofs.Found.{put_at, store_absent}
use Rattle.vault.proofs.change_for.start_range.Goals as goal

pub returns-in_err-at : goal.returns-in_err-at
returns-in_err-at c =
    let stores = c.args.directory.now.directory.stores in
    ap (option_map change_of) c.from_residual.ensures
    ∙ ap (put_by (ranged_row c.args.t1 c.args.t2 (index_for c.args.store stores c.args.indexes.now))) (sym (store_absent c.args.store stores c.in_err-at.ensures.place))

pub bounds-indexes-at : goal.bounds-indexes-at
bounds-indexes-at c =
    let many = together_many c.args.directory.now.directory.stores c.args.indexes.now c.requires in
    omega (arith, many, c.in_ok-at.ensures.within)

pub returns : goal.returns
returns c =
    let stores = c.args.directory.now.directory.stores in
    put_at (ranged_row c.args.t1 c.args.t2) c.args.store c.in_ok-at.at stores c.args.indexes.now c.index-indexes-at.result c.row.result.now c.with_range.result
    c.in_ok-at.ensures.place c.in_ok-at.ensures.within (together_many stores c.args.indexes.now c.requires) c.index-indexes-at.is c.row.ensures c.with_range.ensures
