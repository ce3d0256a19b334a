use Rattle.std.proofs.Common.{ℕ, List, ◌∷◌, ◌++◌, length, sym, subst, arith, append_assoc}
use Rattle.octet_fields.specs.Fields.{Writes, big_bytes}
use Rattle.octet_fields.proofs.Splices.{Writes-then, length-Writes}
use Rattle.octet_fields.proofs.Rows.{length-rows}
use Rattle.control_defs.specs.PatternOctets.{pattern_octets}
use Rattle.control_defs.proofs.PatternOctets.{length-pattern_octets}
use Rattle.store_directory.specs.Checkpoints.{patterns_octets}
use Rattle.store_directory.specs.Entries.{links_octets}
use Rattle.store_directory.specs.Rows.{row_octets}
use Rattle.store_directory.proofs.StoreTexts.{length-listed_octets}
use Rattle.store_directory.proofs.store_text.put_store.Goals as goal

pub put_patterns-place-requires-clause-room : goal.put_patterns-place-requires-clause-room
put_patterns-place-requires-clause-room c =
    let room = c.requires.room in
    let place = c.put_row-place.ensures.place in
    let long = length-listed_octets c.args.row.now c.args.patterns.now c.args.links.now in
    omega (arith, room, place, long, length-Writes c.put_row-place.ensures.written)

pub put_link_list-requires-clause-room : goal.put_link_list-requires-clause-room
put_link_list-requires-clause-room c =
    let room = c.requires.room in
    let place = c.put_row-place.ensures.place in
    let behind = c.put_patterns-place.ensures.place in
    let long = length-listed_octets c.args.row.now c.args.patterns.now c.args.links.now in
    omega (arith, room, place, behind, long, length-Writes c.put_row-place.ensures.written, length-Writes c.put_patterns-place.ensures.written)

pub returns-clause-place : goal.returns-clause-place
returns-clause-place c =
    let place = c.put_row-place.ensures.place in
    let behind = c.put_patterns-place.ensures.place in
    let end = c.put_link_list.ensures.place in
    let long = length-listed_octets c.args.row.now c.args.patterns.now c.args.links.now in
    omega (arith, place, behind, end, long)

pub returns-clause-written : goal.returns-clause-written
returns-clause-written c =
    let behind = c.put_patterns-place.ensures.place in
    let place = c.put_row-place.ensures.place in
    let patterns = c.args.patterns.now in
    let number = big_bytes 2 (length c.args.links.now) in
    subst (λ (ys : List ℕ). Writes c.args.out.now c.put_link_list.new.out c.args.at (row_octets c.args.row.now ++ (length patterns ∷ ys)))
    (sym (append_assoc (patterns_octets patterns) number (links_octets c.args.links.now)))
    (Writes-then (Writes-then c.put_row-place.ensures.written c.put_patterns-place.ensures.written place) c.put_link_list.ensures.written
    (omega (arith, place, behind, length-rows pattern_octets 5 length-pattern_octets patterns)))
