use Rattle.std.proofs.Common.{◌≡◌, ◌≤◌, ◌++◌, ◌+◌, ◌∙◌, ap, drop, length, List, ℕ, arith, sym, subst, length-append, length-drop}
use Rattle.octet_fields.specs.Fields.{Writes}
use Rattle.octet_fields.proofs.Splices.{length-Writes}
use Rattle.space_packet.specs.Header.{header_of}
use Rattle.pst_model.specs.Requests.{count_octets, data_of, items_octets, request_primary, request_secondary, service_of_items, subtype_of_items}
use Rattle.pus_request.specs.Kinds.{asked_by}
use Rattle.pus_request.proofs.WrittenItems.{asked_first, count_asked, front_asked, size_asked, size_most, written-packet}
use Rattle.pus_request.proofs.writing.write_request.Goals as goal

pub put_items-requires-clause-room : goal.put_items-requires-clause-room
put_items-requires-clause-room c =
    let items = c.args.items.now in
    let kind = c.for_item-kind.result in
    let first = c.for_item-kind.ensures in
    let room = c.requires.room in
    let most = size_most items kind first c.requires.asked in
    let front = front_asked items kind first c.requires.asked in
    let headed = ap length c.write_headers.ensures in
    omega (arith, room, most, front, headed, c.front.ensures.front, length-Writes c.put_count.ensures, length-append (count_octets items) (items_octets items), length-drop 11 c.args.out.now)

pub returns-clause-length : goal.returns-clause-length
returns-clause-length c =
    let is = size_asked c.args.items.now c.for_item-kind.result c.for_item-kind.ensures c.requires.asked in
    omega (arith, is, c.place_of-size.ensures)

pub returns-clause-packet : goal.returns-clause-packet
returns-clause-packet c =
    let items = c.args.items.now in
    let old = c.args.out.now in
    let kind = c.for_item-kind.result in
    let first = c.for_item-kind.ensures in
    let asks = c.requires.asked in
    let size = c.place_of-size.result in
    let service = service_of_items items in
    let subtype = subtype_of_items items in
    let asked = asked_first items kind first asks in
    let whole : size ≡ length (data_of items) = c.place_of-size.ensures ∙ sym (size_asked items kind first asks) in
    let room : 11 ≤ length old = let least = c.requires.room in omega arith in
    let headers : c.write_headers.new.out ≡ header_of (request_primary c.args.count size) ++ request_secondary c.args.acks service subtype c.args.source ++ drop 11 old =
    c.write_headers.ensures
    ∙ ap (λ (s : ℕ). header_of (request_primary c.args.count size) ++ request_secondary c.args.acks s (asked_by kind).1 c.args.source ++ drop 11 old) (sym asked.0)
    ∙ ap (λ (s : ℕ). header_of (request_primary c.args.count size) ++ request_secondary c.args.acks service s c.args.source ++ drop 11 old) (sym asked.1) in
    let number : Writes c.write_headers.new.out c.put_count.new.out 11 (count_octets items) =
    subst (λ (octets : List ℕ). Writes c.write_headers.new.out c.put_count.new.out 11 octets) (sym (count_asked items kind first asks)) c.put_count.ensures in
    let behind : Writes c.put_count.new.out c.put_items.new.out (11 + length (count_octets items)) (items_octets items) =
    subst (λ (n : ℕ). Writes c.put_count.new.out c.put_items.new.out (11 + n) (items_octets items)) (c.front.ensures.front ∙ sym (front_asked items kind first asks)) c.put_items.ensures in
    written-packet old c.write_headers.new.out c.put_count.new.out c.put_items.new.out c.args.count c.args.acks service subtype c.args.source size items whole room headers number behind
