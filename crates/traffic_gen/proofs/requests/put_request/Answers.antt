use Rattle.std.proofs.Common.{ℕ, ◌+◌, List, length, take, ◌∙◌, ap, subst, arith}
use Rattle.octet_fields.specs.Fields.{Writes}
use Rattle.pst_model.specs.Requests.{request_packet, service_of_items, subtype_of_items}
use Rattle.pst_model.proofs.RequestData.{length-data_most}
use Rattle.traffic_gen.specs.Lines.{packet_line}
use Rattle.traffic_gen.proofs.LineLengths.{length-packet_line}
use Rattle.traffic_gen.proofs.Pieces.{taken_front}
use Rattle.traffic_gen.proofs.requests.put_request.Goals as goal

pub returns-clause-end : goal.returns-clause-end
returns-clause-end c =
    let items = c.args.items.now in
    let packet = request_packet c.args.count 9 (service_of_items items) (subtype_of_items items) 0 items in
    let is = taken_front packet _ c.write_request-size.new.out c.write_request-size.result c.write_request-size.ensures.packet c.write_request-size.ensures.length in
    c.put_packet.ensures.end ∙ ap (λ (octets : List ℕ). c.args.at + length (packet_line 82 c.args.moment octets)) is

pub returns-clause-few : goal.returns-clause-few
returns-clause-few c =
    let items = c.args.items.now in
    let packet = request_packet c.args.count 9 (service_of_items items) (subtype_of_items items) 0 items in
    let is = taken_front packet _ c.write_request-size.new.out c.write_request-size.result c.write_request-size.ensures.packet c.write_request-size.ensures.length in
    let octets = length-data_most (service_of_items items) (subtype_of_items items) items c.requires.asked in
    omega (arith, c.put_packet.ensures.end, length-packet_line 82 c.args.moment (take c.write_request-size.result c.write_request-size.new.out), ap length is, octets)

pub returns-clause-line : goal.returns-clause-line
returns-clause-line c =
    let items = c.args.items.now in
    let packet = request_packet c.args.count 9 (service_of_items items) (subtype_of_items items) 0 items in
    let is = taken_front packet _ c.write_request-size.new.out c.write_request-size.result c.write_request-size.ensures.packet c.write_request-size.ensures.length in
    subst (λ (octets : List ℕ). Writes c.args.out.now c.put_packet.new.out c.args.at (packet_line 82 c.args.moment octets)) is c.put_packet.ensures.line
