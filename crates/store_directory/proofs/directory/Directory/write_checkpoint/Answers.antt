use Rattle.std.proofs.Common.{◌++◌, ◌∷◌, [], List, ℕ, length, subst, ap, ◌∙◌, arith, length-append}
use Rattle.octet_fields.specs.Fields.{Writes, big_bytes}
use Rattle.octet_fields.proofs.Splices.{Writes-then, length-Writes}
use Rattle.octet_fields.proofs.Rows.{length-rows}
use Rattle.control_defs.specs.PatternOctets.{pattern_octets}
use Rattle.control_defs.proofs.PatternOctets.{length-pattern_octets}
use Rattle.store_directory.specs.Checkpoints.{patterns_octets, stores_octets}
use Rattle.store_directory.proofs.CheckpointParts.{in_turn, length-parts, parts-are}
use Rattle.store_directory.proofs.WrittenStores.{few-octets}
use Rattle.store_directory.proofs.directory.Directory.write_checkpoint.Goals as goal

pub put_stores-place-requires : goal.put_stores-place-requires
put_stores-place-requires c =
    let kept = c.len.ensures.kept in
    let few = few-octets c.args.self.now.directory.stores kept.stores.each in
    omega (
      arith,
      few,
      kept.stores.few,
      kept.stores.reserved,
      c.list.ensures.lawful.fits,
      ap length c.list.ensures.list,
      c.put_head-place.ensures.place,
      c.put_patterns-place.ensures.place,
      c.requires.room,
      length-Writes c.put_head-place.ensures.written,
      length-Writes c.put_patterns-place.ensures.written,
      length-Writes c.put_u8.ensures,
    )

pub put_counts-requires : goal.put_counts-requires
put_counts-requires c =
    let kept = c.len.ensures.kept in
    let few = few-octets c.args.self.now.directory.stores kept.stores.each in
    omega (
      arith,
      few,
      kept.stores.few,
      kept.stores.reserved,
      c.list.ensures.lawful.fits,
      ap length c.list.ensures.list,
      c.put_head-place.ensures.place,
      c.put_patterns-place.ensures.place,
      c.put_stores-place.ensures.place,
      c.requires.room,
      c.requires.blocks,
      length-Writes c.put_head-place.ensures.written,
      length-Writes c.put_patterns-place.ensures.written,
      length-Writes c.put_u8.ensures,
      length-Writes c.put_stores-place.ensures.written,
    )

pub overflow_cast-result : goal.overflow_cast-result
overflow_cast-result c =
    let kept = c.len.ensures.kept in
    let few = few-octets c.args.self.now.directory.stores kept.stores.each in
    omega (
      arith,
      few,
      kept.stores.few,
      kept.stores.reserved,
      c.list.ensures.lawful.fits,
      ap length c.list.ensures.list,
      c.put_head-place.ensures.place,
      c.put_patterns-place.ensures.place,
      c.put_stores-place.ensures.place,
      c.put_counts.ensures.place,
      c.requires.blocks,
    )

pub returns-clause-length : goal.returns-clause-length
returns-clause-length c =
    omega (
      arith,
      length-parts c.args.self.now.directory c.args.wear.now,
      ap length c.list.ensures.list,
      ap length c.forward.ensures,
      c.put_head-place.ensures.place,
      c.put_patterns-place.ensures.place,
      c.put_stores-place.ensures.place,
      c.put_counts.ensures.place,
    )

pub returns-clause-written : goal.returns-clause-written
returns-clause-written c =
    let d = c.args.self.now.directory in
    let wear = c.args.wear.now in
    let list = c.list.result.now in
    let patterns = length-rows pattern_octets 5 length-pattern_octets list in
    let head = big_bytes 6 c.now.result ++ big_bytes 2 c.reports.result in
    let front = length-append head (length list ∷ patterns_octets list) in
    let count = length-append (head ++ (length list ∷ patterns_octets list)) (c.len.result ∷ []) in
    let all = length-append ((head ++ (length list ∷ patterns_octets list)) ++ c.len.result ∷ []) (stores_octets d.stores) in
    let two = Writes-then c.put_head-place.ensures.written c.put_patterns-place.ensures.written c.put_head-place.ensures.place in
    let three = Writes-then two c.put_u8.ensures (omega (arith, front, patterns, c.put_head-place.ensures.place, c.put_patterns-place.ensures.place)) in
    let four = Writes-then three c.put_stores-place.ensures.written (omega (arith, front, count, patterns, c.put_head-place.ensures.place, c.put_patterns-place.ensures.place)) in
    let five = Writes-then four c.put_counts.ensures.written (omega (arith, front, count, all, patterns, c.put_head-place.ensures.place, c.put_patterns-place.ensures.place, c.put_stores-place.ensures.place)) in
    subst (λ (octets : List ℕ). Writes c.args.out.now c.put_counts.new.out 0 octets)
    ((λ i. in_turn (c.now.ensures.now i) (c.reports.ensures.reports i) ((c.list.ensures.list ∙ c.forward.ensures) i) (c.len.ensures.len i) d.stores wear) ∙ parts-are d wear)
    five
