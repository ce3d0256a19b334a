use Rattle.std.proofs.Common.{◌≡◌, ◌*◌, ◌++◌, List, ℕ, drop, subst}
use Rattle.record_view.specs.Written.{record_pages}
use Rattle.record_view.proofs.Placing.{written_pages}
use Rattle.record_view.proofs.writing.write_record.Goals as goal

pub returns-clause-pages : goal.returns-clause-pages
returns-clause-pages c =
    subst (λ (octets : List ℕ). c.clear.new.out
    ≡ record_pages c.args.number c.args.stamp octets
    ++ drop (256 * c.charge-pages.result) c.args.out.now)
    c.bytes-octets.ensures.octets
    (written_pages c.args.out.now _ _ c.clear.new.out c.bytes-octets.result.now
    c.args.number c.args.stamp c.charge-pages.result
    c.put_head.ensures c.put_octets.ensures c.clear.ensures c.charge-pages.ensures)
