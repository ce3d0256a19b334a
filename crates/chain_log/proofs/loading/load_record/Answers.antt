use Rattle.std.proofs.Common.{◌≡◌, ◌+◌, ◌*◌, ℕ, List, take, ◌∙◌, ap, subst}
use Rattle.std.specs.Prelude.{IfErr, IfOk}
use Rattle.commit_gate.specs.Entries.{octets_from}
use Rattle.record_view.specs.View.{meaning_of}
use Rattle.chain_log.specs.Loaded.{IsFirstDifference, IsFound, octets_at}
use Rattle.chain_log.proofs.Judging.{gives}
use Rattle.chain_log.proofs.Spelled.{found}
use Rattle.chain_log.proofs.loading.load_record.Goals as goal

pub returns-in-Ok-clause-spelled : goal.returns-in-Ok-clause-spelled
returns-in-Ok-clause-spelled g c told meaning is long =
    let means = g.B.Board.means in
    let old = c.args.board.now in
    let content = (means.flash old).content in
    let place = c.args.place in
    let read : take (256 * c.charge-pages.result) c.read_pages.new.buf ≡ octets_at content place =
    c.in-Ok.ensures.read told
    ∙ ap (octets_from content (256 * place.block + place.page)) c.charge-pages.ensures in
    gives (octets_at content place) c.args.number place.length meaning c.judge.result
    (found (means.device old).blocks content place c.args.number meaning
    (g.met.B.Board.content_pages old told) c.requires.place is long)
    (subst (λ (octets : List ℕ). IfOk c.judge.result
    (λ view. IsFound octets c.args.number place.length (meaning_of view))) read
    c.judge.ensures.found)
    (subst (λ (octets : List ℕ). IfErr c.judge.result
    (IsFirstDifference octets c.args.number place.length)) read c.judge.ensures.differs)
