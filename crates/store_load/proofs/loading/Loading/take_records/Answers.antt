use Rattle.std.proofs.Common.{◌≡◌, ◌+◌, ◌-◌, ◌∷◌, length, sym, ◌∙◌, ap, arith, rules}
use Rattle.space_packet.specs.Charge.{charge_of}
use Rattle.record_view.specs.Records.{Reading, records_left}
use Rattle.record_view.specs.View.{meaning_of}
use Rattle.store_load.specs.Extents.{pages_in}
use Rattle.store_load.specs.Loading.{take_one, take_records}
use Rattle.store_load.proofs.Filling.{refused_first, some_left, taken_first, taken_none}
use Rattle.store_load.proofs.loading.Loading.take_records.Goals as goal

pub returns-then-not-take-clause-refused : goal.returns-then-not-take-clause-refused
returns-then-not-take-clause-refused c = λ no.
    let so_far = c.loop-view.invariant in
    sym so_far.rest
    ∙ refused_first c.args.limits c.args.block c.loop-view.records.page (meaning_of c.in-Some.view)
    (records_left c.next_record.new.self) (records_left c.loop-view.records) c.loop-view.self c.in-Some.ensures.gives
    (ap (λ n. take_one c.args.limits c.args.block n (meaning_of c.in-Some.view) c.loop-view.self) (sym so_far.at)
    ∙ c.take.ensures.refused (search rules))

pub loop-view-preserved : goal.loop-view-preserved
loop-view-preserved c =
    let so_far = c.loop-view.invariant in
    let meaning = meaning_of c.in-Some.view in
    let behind = records_left c.next_record.new.self in
    let here = records_left c.loop-view.records in
    let gives : here ≡ meaning ∷ behind = c.in-Some.ensures.gives in
    let moves = c.in-Some.ensures.moves in
    let page : c.next_record.new.self.page ≡ c.loop-view.records.page + charge_of (length meaning.packet) =
    ap (λ (r : Reading). r.page) moves in
    let left : c.next_record.new.self.left ≡ c.loop-view.records.left - 1 = ap (λ (r : Reading). r.left) moves in
    let some = some_left c.loop-view.records.left c.loop-view.records.block c.loop-view.records.number c.loop-view.records.page meaning behind gives in
    let count = ap length gives in
    let pages = ap pages_in gives in
    record {
      at = c.page-next.ensures.page;
      size = c.take.ensures.size;
      rest =
          ap (λ n. take_records c.args.limits c.args.block n behind c.take.new.self) page
          ∙ sym (taken_first c.args.limits c.args.block c.loop-view.records.page meaning behind here c.loop-view.self
          gives c.take.new.self
          (ap (λ n. take_one c.args.limits c.args.block n meaning c.loop-view.self) (sym so_far.at)
          ∙ c.take.ensures.taken (search rules)))
          ∙ so_far.rest;
      left = omega (arith, left, count, so_far.left, some);
      pages = omega (arith, page, pages, so_far.pages);
    }

pub returns-clause-taken : goal.returns-clause-taken
returns-clause-taken c = λ yes.
    sym c.loop-view.invariant.rest
    ∙ taken_none c.args.limits c.args.block c.loop-view.records.page (records_left c.loop-view.records)
    c.loop-view.self c.in_default.ensures.gives.0
