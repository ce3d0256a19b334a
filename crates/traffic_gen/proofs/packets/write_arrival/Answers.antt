use Rattle.std.proofs.Common.{ℕ, List, ◌++◌, length, drop, ap, ◌∙◌, arith}
use Rattle.octet_fields.specs.Fields.{Writes}
use Rattle.octet_fields.proofs.Splices.{Writes-at_front, Writes-from_front, Writes-then}
use Rattle.space_packet.specs.Header.{header_of}
use Rattle.traffic_gen.specs.Traffic.{arrival_head, arrival_packet}
use Rattle.traffic_gen.proofs.Counting.{length-arrival_packet, packet_by, packet_by-draws}
use Rattle.traffic_gen.proofs.packets.write_arrival.Goals as goal

pub returns-clause-packet : goal.returns-clause-packet
returns-clause-packet c =
    let number = c.args.number in
    let old = c.args.out.now in
    let service = c.kind_by-service.result.0 in
    let subtype = c.kind_by-service.result.1 in
    let moment = c.time_of.result in
    let head = Writes-from_front old c.write_primary.new.out (header_of (arrival_head number c.args.a c.args.c)) (omega arith) c.write_primary.ensures in
    let version = Writes-then head c.put_u8.ensures (omega arith) in
    let kind = Writes-then (Writes-then version c.put_u8-2.ensures (omega arith)) c.put_u8-3.ensures (omega arith) in
    let zeros = Writes-then (Writes-then kind c.put_u16.ensures (omega arith)) c.put_u16-2.ensures (omega arith) in
    let time = Writes-then zeros c.put_u48.ensures (omega arith) in
    let all : Writes old c.write_body.new.out 0 (packet_by number c.args.a c.args.c service subtype moment) = Writes-then time c.write_body.ensures (omega arith) in
    Writes-at_front all
    ∙ ap (λ (octets : List ℕ). octets ++ drop (length octets) old)
    (packet_by-draws number c.args.a c.args.b c.args.c service subtype moment c.kind_by-service.ensures.service c.kind_by-service.ensures.subtype c.time_of.ensures.value)
    ∙ ap (λ (n : ℕ). arrival_packet number c.args.a c.args.b c.args.c ++ drop n old) (length-arrival_packet number c.args.a c.args.b c.args.c)
