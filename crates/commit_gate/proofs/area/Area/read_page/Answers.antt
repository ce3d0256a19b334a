use Rattle.std.proofs.Common.{◌≡◌, ◌*◌, ℕ, List, OnOk, sym, ◌∙◌, ap, subst}
use Rattle.board.specs.Meaning.{TellsFlash}
use Rattle.commit_gate.proofs.AreaPages.{area_page, page_number}
use Rattle.commit_gate.proofs.area.Area.read_page.Goals as goal

pub returns-clause-read : goal.returns-clause-read
returns-clause-read g c =
    let means = g.B.Board.means in
    let old = c.args.board.now in
    let content = (means.flash old).content in
    let same = ap content (page_number c.args.self.first c.args.at)
    ∙ sym (area_page (256 * c.args.self.first) content c.args.at c.requires.place) in
    subst (λ (page : List ℕ). OnOk c.read_page.result (TellsFlash means old
    → c.read_page.new.into ≡ page))
    same c.read_page.ensures.read
