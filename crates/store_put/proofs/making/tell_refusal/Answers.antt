use Rattle.std.proofs.Common.{◌≡◌, sym, subst, ap}
use Rattle.std.specs.Prelude.{IsSome, slice_get}
use Rattle.store_directory.specs.Changes.{Put, apply}
use Rattle.store_directory.specs.Directory.{Listed}
use Rattle.store_directory.specs.declared.row.Row.{Row}
use Rattle.put_laws.specs.Puts.{told_row}
use Rattle.store_put.proofs.Made.{needs_none, some_at, some_gives, told_applies}
use Rattle.store_put.proofs.making.tell_refusal.Goals as goal

pub make_change-requires-clause-fits : goal.make_change-requires-clause-fits
make_change-requires-clause-fits c =
    let d = c.args.directory.now.directory in
    let (s, there) = some_at d.stores c.args.at c.requires.within in
    let row_is : c.row-row.result.now ≡ s.row = some_gives (slice_get d.stores c.args.at) (λ (s : Listed). c.row-row.result.now ≡ s.row) s c.row-row.ensures there in
    subst (λ (row : Row). IsSome (apply d (Put (told_row row)))) (sym row_is)
    (told_applies d c.args.at s c.len.ensures.kept c.requires.share there)

pub make_change-requires-clause-memory : goal.make_change-requires-clause-memory
make_change-requires-clause-memory c =
    let d = c.args.directory.now.directory in
    let (s, there) = some_at d.stores c.args.at c.requires.within in
    let row_is : c.row-row.result.now ≡ s.row = some_gives (slice_get d.stores c.args.at) (λ (s : Listed). c.row-row.result.now ≡ s.row) s c.row-row.ensures there in
    needs_none d c.args.directory.now.sizes c.args.at s (told_row c.row-row.result.now) c.len.ensures.kept c.requires.share there c.len.ensures.within
    (ap (λ (row : Row). row.identifier) row_is) (ap (λ (row : Row). row.size) row_is)
