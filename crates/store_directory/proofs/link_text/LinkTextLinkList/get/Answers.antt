use Rattle.std.proofs.Common.{ap, sym, ◌∙◌, Some, arith, List}
use Rattle.std.specs.Prelude.{slice_get}
use Rattle.record_view.specs.declared.link.Link.{Link}
use Rattle.store_directory.proofs.LinkTexts.{place_within, slice_get-links_in}
use Rattle.store_directory.proofs.link_text.LinkTextLinkList.get.Goals as goal

pub overflow_mul-at : goal.overflow_mul-at
overflow_mul-at c =
    let links = c.self.inside in
    let within = place_within links.count c.args.at links.octets.now c.args.self.now c.self.view_is c.requires in
    let room = c.self.invariant in
    let long = c.self.told in
    omega (arith, within, room, long.0)

pub u16_at-requires : goal.u16_at-requires
u16_at-requires c =
    let links = c.self.inside in
    let within = place_within links.count c.args.at links.octets.now c.args.self.now c.self.view_is c.requires in
    let room = c.self.invariant in
    omega (arith, within, room)

pub overflow_mul-at-2 : goal.overflow_mul-at-2
overflow_mul-at-2 c =
    let links = c.self.inside in
    let within = place_within links.count c.args.at links.octets.now c.args.self.now c.self.view_is c.requires in
    let room = c.self.invariant in
    let long = c.self.told in
    omega (arith, within, room, long.0)

pub overflow_add-at : goal.overflow_add-at
overflow_add-at c =
    let links = c.self.inside in
    let within = place_within links.count c.args.at links.octets.now c.args.self.now c.self.view_is c.requires in
    let room = c.self.invariant in
    let long = c.self.told in
    omega (arith, within, room, long.0)

pub u32_at-requires : goal.u32_at-requires
u32_at-requires c =
    let links = c.self.inside in
    let within = place_within links.count c.args.at links.octets.now c.args.self.now c.self.view_is c.requires in
    let room = c.self.invariant in
    omega (arith, within, room)

pub returns-clause-link : goal.returns-clause-link
returns-clause-link c =
    let links = c.self.inside in
    let within = place_within links.count c.args.at links.octets.now c.args.self.now c.self.view_is c.requires in
    ap (λ (l : List Link). slice_get l c.args.at) (sym c.self.view_is)
    ∙ slice_get-links_in links.count c.args.at links.octets.now within
    ∙ (λ i. Some (record { block = sym c.u16_at.ensures i; first = sym c.u32_at.ensures i }))
