use Rattle.std.proofs.Common.{◌≡◌, ◌<◌, sym, ◌∙◌, subst, ap, arith, length, drop}
use Rattle.std.specs.Prelude.{IsSome, slice_get}
use Rattle.space_packet.specs.Charge.{charge_of}
use Rattle.store_directory.specs.Changes.{Put, apply}
use Rattle.store_directory.specs.Directory.{Listed}
use Rattle.store_directory.specs.declared.row.Row.{Row}
use Rattle.store_policy.specs.Shown.{AreTogether}
use Rattle.time_index.specs.TimeIndex.{TimeIndex}
use Rattle.put_laws.specs.Puts.{row_behind_put}
use Rattle.store_put.proofs.Laid.{pages_least}
use Rattle.store_put.proofs.Made.{count_room, needs_none, put_applies, some_at, some_gives}
use Rattle.store_put.proofs.making.count_record.Goals as goal

pub make_change-requires-clause-fits : goal.make_change-requires-clause-fits
make_change-requires-clause-fits c =
    let d = c.args.directory.now.directory in
    let (s, there) = some_at d.stores c.args.at c.requires.within in
    let row_is : c.row.result.now ≡ s.row = some_gives (slice_get d.stores c.args.at) (λ (s : Listed). c.row.result.now ≡ s.row) s c.row.ensures there in
    let together = some_gives (slice_get d.stores c.args.at) (λ (s : Listed). AreTogether s.row c.args.index.now) s c.requires.together there in
    subst (λ (row : Row). IsSome (apply d (Put row))) (sym (c.row_behind_put-row.ensures ∙ ap (row_behind_put c.args.leaving) row_is))
    (put_applies d c.args.at s c.args.leaving c.len.ensures.kept c.requires.share there
    (count_room s.row c.args.index.now c.args.leaving (charge_of c.args.entry.length) together c.requires.pages (omega arith)))

pub make_change-requires-clause-memory : goal.make_change-requires-clause-memory
make_change-requires-clause-memory c =
    let d = c.args.directory.now.directory in
    let (s, there) = some_at d.stores c.args.at c.requires.within in
    let row_is : c.row.result.now ≡ s.row = some_gives (slice_get d.stores c.args.at) (λ (s : Listed). c.row.result.now ≡ s.row) s c.row.ensures there in
    let made = c.row_behind_put-row.ensures ∙ ap (row_behind_put c.args.leaving) row_is in
    needs_none d c.args.directory.now.sizes c.args.at s c.row_behind_put-row.result c.len.ensures.kept c.requires.share there c.len.ensures.within
    (ap (λ (row : Row). row.identifier) made) (ap (λ (row : Row). row.size) made)

pub push-requires-clause-room : goal.push-requires-clause-room
push-requires-clause-room c =
    let least = pages_least (drop c.args.leaving c.args.index.now.entries) in
    subst (λ (index : TimeIndex). length index.entries < index.size) (sym c.drop_front.ensures) (omega (arith, least, c.requires.pages))
