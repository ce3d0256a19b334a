use Rattle.std.proofs.Common.{◌≡◌, ℕ, List, refl, sym, ◌∙◌, ap, subst, arith, eq-eqb, take}
use Rattle.board.specs.Device.{Device}
use Rattle.board.specs.Flash.{Flash, IsImage}
use Rattle.board.proofs.Works.{tells_too}
use Rattle.root_vote.specs.Rooted.{Rooted, with_roots}
use Rattle.meta_journal.specs.Formats.{IsFormatted, first_pages, first_text}
use Rattle.meta_journal.specs.Halves.{first_root, half_block, with_checkpoint}
use Rattle.store_directory.specs.Format.{first_directory}
use Rattle.meta_journal.specs.Journals.{IsJournal}
use Rattle.meta_journal.proofs.FirstDirectory.{first_held, first_short, front_written}
use Rattle.meta_journal.proofs.Written.{is_journal}
use Rattle.meta_journal.proofs.Formatted.{formatted_holds, is_formatted}
use Rattle.meta_journal.proofs.formatting.format.Goals as goal
use Rattle.meta_journal.proofs.formatting.format.Goals.{In_ok-plant}

pub returns-clause-flash : goal.returns-clause-flash
returns-clause-flash g c told =
    let means = g.B.Board.means in
    let old = c.args.board.now in
    let blocks = (means.device old).blocks in
    let count : c.blocks-blocks.result ≡ blocks = c.blocks-blocks.ensures in
    let wrote = c.write_first_checkpoint-length in
    let text : take wrote.result wrote.new.out ≡ first_text c.blocks-blocks.result =
    front_written _ wrote.new.out (first_text c.blocks-blocks.result) wrote.result wrote.ensures.written wrote.ensures.whole in
    let filled : means.flash c.begin_half.new.board ≡ with_checkpoint (half_block 0) (first_text blocks) (means.flash old) =
    c.in_ok-begin_half.ensures.flash told ∙ ap (λ (t : List ℕ). with_checkpoint (half_block 0) t (means.flash old)) (text ∙ ap first_text count) in
    c.in_ok-plant.ensures.flash (tells_too c.begin_half.ensures.touches.same told)
    ∙ (λ i. with_roots (first_root (count i)) (filled i))

pub returns-clause-formatted : goal.returns-clause-formatted
returns-clause-formatted g c told =
    let means = g.B.Board.means in
    let old = c.args.board.now in
    subst (IsFormatted (means.device old).blocks) (sym (returns-clause-flash g c told))
    (is_formatted (means.device old).blocks (g.met.B.Board.few_blocks old) (means.flash old))

pub returns-clause-later : goal.returns-clause-later
returns-clause-later g c told image here =
    let means = g.B.Board.means in
    let old = c.args.board.now in
    let new = c.plant.new.board in
    let blocks = (means.device old).blocks in
    let is = returns-clause-flash g c told in
    let same_a = c.begin_half.ensures.touches.same in
    let rooted : Rooted (first_root blocks) (means.flash new) =
    subst (λ (n : ℕ). Rooted (first_root n) (means.flash new)) c.blocks-blocks.ensures (c.in_ok-plant.ensures.rooted (tells_too same_a told)) in
    formatted_holds blocks (g.met.B.Board.few_blocks old) (means.flash old) image (g.met.B.Board.enough_blocks old)
    (subst (Rooted (first_root blocks)) is rooted)
    (subst (λ (f : Flash). IsImage blocks f image) is here)

pub returns-clause-holds : goal.returns-clause-holds
returns-clause-holds g c told image left =
    let means = g.B.Board.means in
    let new = c.plant.new.board in
    let same = c.plant.ensures.touches.same ∙ c.begin_half.ensures.touches.same in
    let here : IsImage (means.device new).blocks (means.flash new) image = g.met.B.Board.images_now new image (tells_too same told) left in
    returns-clause-later g c told image (subst (λ (d : Device). IsImage d.blocks (means.flash new) image) same here)

pub returns-clause-journal : goal.returns-clause-journal
returns-clause-journal g c told =
    let means = g.B.Board.means in
    let old = c.args.board.now in
    let new = c.plant.new.board in
    let blocks = (means.device old).blocks in
    let is = returns-clause-flash g c told in
    let rooted : Rooted (first_root blocks) (means.flash new) =
    subst (λ (n : ℕ). Rooted (first_root n) (means.flash new)) c.blocks-blocks.ensures (c.in_ok-plant.ensures.rooted (tells_too c.begin_half.ensures.touches.same told)) in
    let short = first_short blocks (g.met.B.Board.few_blocks old) in
    subst (IsJournal blocks (first_root blocks) first_directory (first_pages blocks)) (sym is)
    (is_journal (first_root blocks) (first_text blocks) (means.flash old) short.0 (omega (arith, short.1)) blocks first_directory
    (eq-eqb blocks blocks refl) (first_held blocks) (subst (Rooted (first_root blocks)) is rooted))
