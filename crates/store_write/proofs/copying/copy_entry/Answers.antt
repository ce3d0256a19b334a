use Rattle.std.proofs.Common.{◌≡◌, Some, ◌∙◌, ap, subst}
use Rattle.chain_log.specs.Loaded.{IsFound, octets_at}
use Rattle.chain_log.specs.declared.place.Place.{Place}
use Rattle.chain_log.proofs.Spelled.{found}
use Rattle.store_write.specs.Moved.{place_of}
use Rattle.store_write.proofs.Copied.{one_record}
use Rattle.store_write.proofs.copying.copy_entry.Goals as goal

pub returns-clause-copied : goal.returns-clause-copied
returns-clause-copied g c told meaning spelled =
    let means = g.B.Board.means in
    let old = means.flash c.args.board.now in
    let new = means.flash c.copy_record.new.board in
    let place : Place = record {
      block = c.from.result;
      page = c.from-2.result;
      length = c.from-3.result;
    } in
    let same : place ≡ place_of c.args.entry = (λ i. record {
      block = c.from.ensures i;
      page = c.from-2.ensures i;
      length = c.from-3.ensures i;
    }) in
    let copied = c.in_ok-page.ensures.copied told in
    let here = found (means.device c.args.board.now).blocks old.content (place_of c.args.entry)
    c.args.number meaning (g.met.B.Board.content_pages c.args.board.now told) c.requires.place
    spelled.spelled spelled.long in
    let there : IsFound (octets_at old.content (place_of c.args.entry)) c.args.number
    c.args.entry.length copied.meaning =
    subst (λ (p : Place). IsFound (octets_at old.content p) c.args.number p.length copied.meaning)
    same copied.found in
    copied.spelled
    ∙ ap Some (one_record (octets_at old.content (place_of c.args.entry)) c.args.number
    c.args.entry.length copied.meaning meaning there here)
