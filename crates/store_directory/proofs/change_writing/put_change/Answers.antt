use Rattle.std.proofs.Common.{◌≡◌, ℕ, ◌+◌, ◌*◌, List, length, refl, sym, ap, ◌∙◌, subst, arith}
use Rattle.octet_fields.specs.Fields.{Writes}
use Rattle.octet_fields.proofs.Rows.{length-rows}
use Rattle.octet_fields.proofs.Splices.{Writes-then, length-Writes}
use Rattle.record_view.specs.declared.link.Link.{Link}
use Rattle.store_directory.specs.Changes.{Links}
use Rattle.store_directory.specs.Entries.{change_octets, link_octets}
use Rattle.store_directory.specs.Kept.{change_of}
use Rattle.store_directory.specs.declared.change.Change as declared
use Rattle.store_directory.proofs.LinkTexts.{length-link_octets}
use Rattle.store_directory.proofs.change_writing.put_change.Goals as goal

-- the octets that were written, by the change that they are of
written_as : (old new : List ℕ) (at : ℕ) (change shown : declared.Change) → change ≡ shown
    → Writes old new at (change_octets (change_of shown)) → Writes old new at (change_octets (change_of change))
written_as old new at change shown is w = subst (λ (c : declared.Change). Writes old new at (change_octets (change_of c))) (sym is) w

-- the octets of a change of links
long_as : (change : declared.Change) (store : ℕ) (links : List Link) → change_octets (change_of change) ≡ change_octets (Links store links)
    → length (change_octets (change_of change)) ≡ 5 + 6 * length links
long_as change store links is = ap length is ∙ omega (arith, length-rows link_octets 6 length-link_octets links)

pub put_link_list-requires-clause-room : goal.put_link_list-requires-clause-room
put_link_list-requires-clause-room c =
    let place = c.put_store-place-in-Links.ensures.place in
    let room = c.requires.room in
    let long = long_as c.args.change.now c.in-Links.store c.in-Links.links.now (ap (λ (c : declared.Change). change_octets (change_of c)) c.in-Links.is) in
    omega (arith, place, room, long, length-Writes c.put_store-place-in-Links.ensures.written)

pub returns-in-Put-clause-written : goal.returns-in-Put-clause-written
returns-in-Put-clause-written c =
    written_as c.args.out.now c.put_row.new.out c.args.at c.args.change.now _ c.in-Put.is (Writes-then c.put_u8.ensures c.put_row.ensures.written refl)

pub returns-in-Forward-clause-written : goal.returns-in-Forward-clause-written
returns-in-Forward-clause-written c =
    written_as c.args.out.now c.put_edit.new.out c.args.at c.args.change.now _ c.in-Forward.is
    (Writes-then c.put_u8-in-Forward.ensures c.put_edit.ensures.written refl)

pub returns-in-Types-clause-written : goal.returns-in-Types-clause-written
returns-in-Types-clause-written c =
    written_as c.args.out.now c.put_edit-in-Types.new.out c.args.at c.args.change.now _ c.in-Types.is
    (Writes-then c.put_store-place.ensures.written c.put_edit-in-Types.ensures.written c.put_store-place.ensures.place)

pub returns-in-Links-clause-place : goal.returns-in-Links-clause-place
returns-in-Links-clause-place c =
    let place = c.put_store-place-in-Links.ensures.place in
    let behind = c.put_link_list.ensures.place in
    let long = long_as c.args.change.now c.in-Links.store c.in-Links.links.now (ap (λ (c : declared.Change). change_octets (change_of c)) c.in-Links.is) in
    omega (arith, place, behind, long)

pub returns-in-Links-clause-written : goal.returns-in-Links-clause-written
returns-in-Links-clause-written c =
    written_as c.args.out.now c.put_link_list.new.out c.args.at c.args.change.now _ c.in-Links.is
    (Writes-then c.put_store-place-in-Links.ensures.written c.put_link_list.ensures.written c.put_store-place-in-Links.ensures.place)

pub returns-in-Swap-clause-written : goal.returns-in-Swap-clause-written
returns-in-Swap-clause-written c =
    written_as c.args.out.now c.put_links.new.out c.args.at c.args.change.now _ c.in-Swap.is
    (Writes-then c.put_store-place-in-Swap.ensures.written c.put_links.ensures.written c.put_store-place-in-Swap.ensures.place)
