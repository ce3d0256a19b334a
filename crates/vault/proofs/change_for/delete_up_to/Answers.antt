use Rattle.std.proofs.Common.{◌≡◌, false, Some, sym, ◌∙◌, ap, arith}
use Rattle.std.specs.Prelude.{nat_le, slice_get}
use Rattle.std.specs.Option.{option_map}
use Rattle.std.proofs.lemmas.List.Sums.{count_by-le-length}
use Rattle.std.proofs.lemmas.Option.{slice_get-get_or}
use Rattle.request_laws.specs.Changing.{deleted_row, index_for, put_by}
use Rattle.retrieval.specs.Picks.{dropped_row}
use Rattle.store_directory.specs.Directory.{Listed}
use Rattle.store_directory.specs.Kept.{change_of}
use Rattle.store_directory.specs.declared.row.Row.{Row}
use Rattle.store_put.proofs.Refused.{together_at, together_many}
use Rattle.time_index.specs.TimeIndex.{stamp_of}
use Rattle.time_index.specs.declared.entry.Entry.{Entry}
use Rattle.vault.proofs.Found.{put_at, store_absent, store_found}
use Rattle.vault.proofs.Places.{of_some}
use Rattle.vault.proofs.change_for.delete_up_to.Goals as goal

pub returns-in_err-at : goal.returns-in_err-at
returns-in_err-at c =
    let stores = c.args.directory.now.directory.stores in
    ap (option_map change_of) c.from_residual.ensures
    ∙ ap (put_by (deleted_row c.args.t (index_for c.args.store stores c.args.indexes.now))) (sym (store_absent c.args.store stores c.in_err-at.ensures.place))

pub bounds-indexes-at : goal.bounds-indexes-at
bounds-indexes-at c =
    let many = together_many c.args.directory.now.directory.stores c.args.indexes.now c.requires in
    omega (arith, many, c.in_ok-at.ensures.within)

pub after_drop-requires : goal.after_drop-requires
after_drop-requires c =
    let stores = c.args.directory.now.directory.stores in
    let indexes = c.args.indexes.now in
    let index = c.index-indexes-at.result in
    let many = together_many stores indexes c.requires in
    let is = store_found c.args.store c.in_ok-at.at stores c.in_ok-at.ensures.place c.in_ok-at.ensures.within in
    let row = of_some (λ (s : Listed). c.row.result.now ≡ s.row) (slice_get stores c.in_ok-at.at) is.s c.row.ensures is.there in
    let there : slice_get indexes c.in_ok-at.at ≡ Some index =
    slice_get-get_or indexes c.in_ok-at.at index (omega (arith, many, c.in_ok-at.ensures.within)) ∙ ap Some (sym c.index-indexes-at.is) in
    let pair = together_at stores indexes c.in_ok-at.at is.s index c.requires is.there there in
    let within = count_by-le-length (λ (entry : Entry). nat_le (stamp_of entry) c.args.t) index.entries in
    let count : c.row.result.now.count ≡ is.s.row.count = ap (λ (r : Row). r.count) row in
    omega (arith, within, pair.count, count, c.first_after-leaving.ensures)

pub returns : goal.returns
returns c =
    let stores = c.args.directory.now.directory.stores in
    let row = c.row.result.now in
    put_at (deleted_row c.args.t) c.args.store c.in_ok-at.at stores c.args.indexes.now c.index-indexes-at.result row (record c.after_drop.result { told = false })
    c.in_ok-at.ensures.place c.in_ok-at.ensures.within (together_many stores c.args.indexes.now c.requires) c.index-indexes-at.is c.row.ensures
    (ap (λ (r : Row). record r { told = false }) c.after_drop.ensures ∙ (λ i. record (dropped_row (c.first_after-leaving.ensures i) row) { told = false }))
