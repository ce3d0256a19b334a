use Rattle.std.proofs.Common.{◌≡◌, ◌+◌, ℕ, List, Some, length, take, subst, arith}
use Rattle.board.specs.Meaning.{TellsFlash}
use Rattle.board.specs.Touches.{Touches}
use Rattle.commit_gate.specs.Entries.{payload_pages}
use Rattle.meta_journal.proofs.FirstDirectory.{front_written}
use Rattle.store_directory.specs.Changes.{apply}
use Rattle.store_directory.specs.Directory.{Directory}
use Rattle.store_directory.specs.Entries.{change_octets}
use Rattle.store_directory.specs.Folds.{fold_entry}
use Rattle.store_directory.specs.Kept.{change_of}
use Rattle.vault.proofs.Changed.{change_folds}
use Rattle.vault.proofs.Stands.{ok_gives}
use Rattle.vault.specs.Changing.{IsKept, journal_pages}
use Rattle.vault.proofs.changing.add.Given.{Over}
use Rattle.vault.proofs.changing.add.Goals as goal
use Rattle.vault.proofs.changing.add.Goals.{After-write_change-size}
use Rattle.std.specs.Prelude.{OnOk}
use Rattle.vault.specs.Changing.{RoomAfter}

text_is : (g : Over) (c : After-write_change-size g) → take c.write_change-size.result c.write_change-size.new.out ≡ change_octets (change_of c.args.change.now)
text_is g c = front_written c.args.buffer.now c.write_change-size.new.out _ c.write_change-size.result c.write_change-size.ensures.written (let at = c.write_change-size.ensures.place in omega (arith, at))

pub returns-clause-holds : goal.returns-clause-holds
returns-clause-holds g c =
    let means = g.B.Board.means in
    let old = c.args.board.now in
    let new = c.add_entry.new.board in
    let blocks = (means.device old).blocks in
    let entry = take c.write_change-size.result c.write_change-size.new.out in
    ok_gives c.add_entry.result
    (TellsFlash means old → (before after : Directory) → IsKept blocks before (means.flash old) → fold_entry before entry ≡ Some after
    → IsKept blocks after (means.flash new))
    (TellsFlash means old → (before after : Directory) → IsKept blocks before (means.flash old) → apply before (change_of c.args.change.now) ≡ Some after
    → IsKept blocks after (means.flash new))
    c.add_entry.ensures.holds
    (λ run told before after kept applied.
    run told before after kept
    (change_folds before after (change_of c.args.change.now) entry c.requires.fits (text_is g (goal.at.returns-clause-holds g c).After-write_change-size) applied))

pub returns-clause-any_moment : goal.returns-clause-any_moment
returns-clause-any_moment g c told before after kept applied =
    let entry = take c.write_change-size.result c.write_change-size.new.out in
    c.add_entry.ensures.any_moment told before after kept
    (change_folds before after (change_of c.args.change.now) entry c.requires.fits (text_is g (goal.at.returns-clause-any_moment g c).After-write_change-size) applied)

pub returns-clause-touches : goal.returns-clause-touches
returns-clause-touches g c =
    let means = g.B.Board.means in
    subst (λ (l : List ℕ). Touches means journal_pages (1 + payload_pages (length l)) 0 2 c.args.board.now c.add_entry.new.board)
    (text_is g (goal.at.returns-clause-touches g c).After-write_change-size) c.add_entry.ensures.touches

pub returns-clause-either : goal.returns-clause-either
returns-clause-either g c told before after kept applied =
    let entry = take c.write_change-size.result c.write_change-size.new.out in
    c.add_entry.ensures.either told before after kept
    (change_folds before after (change_of c.args.change.now) entry c.requires.fits (text_is g (goal.at.returns-clause-either g c).After-write_change-size) applied)

pub returns-clause-room_after : goal.returns-clause-room_after
returns-clause-room_after g c =
    subst (λ (l : List ℕ). OnOk c.add_entry.result (RoomAfter (1 + payload_pages (length l)) c.args.journal.now.room c.add_entry.new.journal.room))
    (text_is g (goal.at.returns-clause-room_after g c).After-write_change-size) c.add_entry.ensures.room_after
