use Rattle.std.proofs.Common.{◌≡◌, ℕ, ◌+◌, ◌-◌, ◌%◌, drop, sym, ◌∙◌, ap, subst}
use Rattle.std.specs.Prelude.{⊤}
use Rattle.board.specs.Flash.{pages_of_block}
use Rattle.board.specs.Touches.{KeptElsewhere}
use Rattle.board.proofs.Works.{tells_too}
use Rattle.chain_log.specs.Pages.{IsCleanFrom}
use Rattle.chain_log.specs.Tails.{Filling}
use Rattle.store_load.specs.Renewing.{last_position}
use Rattle.store_write.specs.Moved.{AreCopied, AreSpelled, IsElsewhere}
use Rattle.store_write.specs.Renewed.{last_entries}
use Rattle.store_write.proofs.Copied.{spelled_still}
use Rattle.store_write.proofs.Spelling.{spelled_last, spells_last}
use Rattle.store_write.proofs.Steps.{at_place_of, from_is, handed_on}
use Rattle.store_write.proofs.renewing.renew_block.Goals as goal

pub returns-in_err-copy_entries-clause-agrees : goal.returns-in_err-copy_entries-clause-agrees
returns-in_err-copy_entries-clause-agrees g c told rule now records keeps is =
    let means = g.B.Board.means in
    let old = (means.flash c.args.board.now).content in
    let mid = (means.flash c.begin.new.board).content in
    let row = c.args.row.now in
    let links = c.args.links.now in
    let index = c.args.index.now in
    let fresh = c.args.fresh in
    let begun = c.begin.ensures.touches in
    let from = from_is row links c.first_in_last.result keeps.first c.first_in_last.ensures in
    let spelled = spelled_last rule (means.device c.args.board.now).blocks old mid now row index
    records fresh (begun.others told).content links keeps is in
    let still : AreSpelled mid (index.first + last_position row links)
    (last_entries row links index) =
    λ j entry there.
    let (meaning, was) = spelled j entry there in (
      meaning,
      spelled_still old mid fresh
          ((index.first + last_position row links + j) % 4294967296) entry meaning
          (at_place_of (IsElsewhere fresh) (last_entries row links index) j entry c.requires.apart there)
          (begun.others told).content was,
    ) in
    handed_on ⊤ c.from_residual.result c.in_err-copy_entries.field-0.0 ⊥ c.from_residual.ensures.1
    (c.in_err-copy_entries.ensures.agrees (tells_too begun.same told)
    (subst (λ (k : ℕ). AreSpelled mid (index.first + k) (drop k index.entries)) (sym from) still))

pub returns-clause-spelled : goal.returns-clause-spelled
returns-clause-spelled g c told rule now records keeps is =
    let means = g.B.Board.means in
    let old = (means.flash c.args.board.now).content in
    let mid = (means.flash c.begin.new.board).content in
    let new = (means.flash c.copy_entries.new.board).content in
    let row = c.args.row.now in
    let links = c.args.links.now in
    let index = c.args.index.now in
    let fresh = c.args.fresh in
    let begun = c.begin.ensures.touches in
    let told_mid = tells_too begun.same told in
    let block : c.in-Ok.tail.block ≡ fresh = ap (λ (t : Filling). t.block) c.in-Ok.ensures.tail in
    let others = subst (λ (b : ℕ). KeptElsewhere (pages_of_block b) (means.flash c.begin.new.board)
    (means.flash c.copy_entries.new.board)) block (c.copy_entries.ensures.rewrites.others told_mid) in
    let from = from_is row links c.first_in_last.result keeps.first c.first_in_last.ensures in
    let copied = subst (λ (k : ℕ). AreCopied mid new fresh (index.first + k) (drop k index.entries))
    from
    (subst (λ (b : ℕ). AreCopied mid new b
    (index.first + (c.first_in_last.result + (4294967296 - row.first)) % 4294967296)
    (drop ((c.first_in_last.result + (4294967296 - row.first)) % 4294967296) index.entries)) block
    (c.in_ok-copy_entries.ensures.copied told_mid)) in
    spells_last rule (means.device c.args.board.now).blocks old new now row index records fresh
    (λ p out. others.content p out ∙ (begun.others told).content p out)
    links keeps is c.requires.linked c.requires.new
    (λ j entry meaning lt there was. copied j entry meaning lt there
    (spelled_still old mid fresh ((index.first + last_position row links + j) % 4294967296) entry
    meaning
    (at_place_of (IsElsewhere fresh) (last_entries row links index) j entry c.requires.apart there)
    (begun.others told).content was))

pub returns-clause-clean : goal.returns-clause-clean
returns-clause-clean g c told =
    let means = g.B.Board.means in
    let begun = c.begin.ensures.touches in
    let block : c.copy_entries.new.tail.block ≡ c.args.fresh =
    ap (λ (t : Filling). t.block) c.in_ok-copy_entries.ensures.tail
    ∙ ap (λ (t : Filling). t.block) c.in-Ok.ensures.tail in
    subst (λ (b : ℕ). IsCleanFrom (means.flash c.copy_entries.new.board) b c.used.result) block
    (subst (λ (n : ℕ). IsCleanFrom (means.flash c.copy_entries.new.board)
    c.copy_entries.new.tail.block n) (sym c.used.ensures.used)
    (c.in_ok-copy_entries.ensures.clean (tells_too begun.same told)))
