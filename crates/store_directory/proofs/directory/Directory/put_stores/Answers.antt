use Rattle.std.proofs.Common.{◌≡◌, ◌<◌, length, ◌∙◌, arith, rules}
use Rattle.std.proofs.lemmas.Option.{IfSome_then}
use Rattle.octet_fields.proofs.Splices.{length-Writes}
use Rattle.store_directory.proofs.WrittenStores.{listed-at, room-for, writes-more}
use Rattle.store_directory.proofs.directory.Directory.put_stores.Goals as goal

pub put_store-place-requires-clause-room : goal.put_store-place-requires-clause-room
put_store-place-requires-clause-room c =
    let stores = c.args.self.now.directory.stores in
    let within : c.loop-number.number < length stores = search rules in
    let patterns = IfSome_then _ {Q = λ s. c.list-patterns.result.now ≡ s.patterns} c.patterns.ensures (λ s is. c.list-patterns.ensures.list ∙ is) in
    let long = length-Writes c.loop-number.invariant.written in
    room-for stores c.loop-number.number _ within (listed-at stores c.loop-number.number _ _ _ within c.row.ensures patterns c.links.ensures)
    c.args.at c.loop-number.place (length c.loop-number.out) c.loop-number.invariant.behind (omega (arith, long, c.requires))

pub loop-number-preserved : goal.loop-number-preserved
loop-number-preserved c =
    let stores = c.args.self.now.directory.stores in
    let within : c.loop-number.number < length stores = search rules in
    let patterns = IfSome_then _ {Q = λ s. c.list-patterns.result.now ≡ s.patterns} c.patterns.ensures (λ s is. c.list-patterns.ensures.list ∙ is) in
    writes-more stores c.loop-number.number _ within (listed-at stores c.loop-number.number _ _ _ within c.row.ensures patterns c.links.ensures)
    c.args.out.now c.loop-number.out c.put_store-place.new.out c.args.at c.loop-number.place c.put_store-place.result c.loop-number.invariant c.put_store-place.ensures.place c.put_store-place.ensures.written
