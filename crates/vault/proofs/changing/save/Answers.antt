use Rattle.std.proofs.Common.{◌≡◌, inl, inr, ℕ, Some, ap, subst, sym, arith}
use Rattle.board.specs.Device.{Device}
use Rattle.board.specs.Meaning.{TellsFlash}
use Rattle.board.specs.Moments.{LeavesOnly}
use Rattle.board.proofs.Stops.{goes_on, weaker}
use Rattle.board.proofs.Touching as touching
use Rattle.board.proofs.Works.{tells_too}
use Rattle.meta_journal.specs.Journals.{HoldsEither}
use Rattle.store_directory.specs.Changes.{apply}
use Rattle.store_directory.specs.Directory.{Directory}
use Rattle.store_directory.specs.Kept.{change_of}
use Rattle.vault.proofs.InImages.{before_room, either_since}
use Rattle.vault.proofs.Stands.{ok_gives}
use Rattle.vault.specs.Changing.{HoldsOne, IsKept, journal_pages}
use Rattle.vault.proofs.changing.save.Given.{Over}
use Rattle.vault.proofs.changing.save.Goals as goal
use Rattle.vault.proofs.changing.save.Goals.{After-add}
use Rattle.std.proofs.Common.{length, ◌+◌}
use Rattle.commit_gate.specs.Entries.{payload_pages}
use Rattle.store_directory.specs.Entries.{change_octets}
use Rattle.vault.proofs.RoomAfters.{room_then}
use Rattle.vault.specs.Changing.{RoomAfter}

pub returns-clause-touches : goal.returns-clause-touches
returns-clause-touches g c =
    let means = g.B.Board.means in
    touching.touches_most means
    (touching.touches_on means journal_pages journal_pages c.args.board.now c.make_room.new.board c.add.new.board (λ p out. out)
    c.make_room.ensures.touches c.add.ensures.touches)
    (omega arith) (omega arith) (omega arith)

-- room was made, and the change added or not
after_room : (g : Over) (c : After-add g) → TellsFlash g.B.Board.means c.args.board.now → (after : Directory)
    → IsKept (g.B.Board.means.device c.args.board.now).blocks c.args.directory.now.directory (g.B.Board.means.flash c.args.board.now)
    → IsKept (g.B.Board.means.device c.args.board.now).blocks c.args.directory.now.directory (g.B.Board.means.flash c.make_room.new.board)
    → apply c.args.directory.now.directory (change_of c.args.change.now) ≡ Some after
    → LeavesOnly g.B.Board.means c.args.board.now c.add.new.board
    (HoldsEither (g.B.Board.means.device c.args.board.now).blocks journal_pages (g.B.Board.means.flash c.args.board.now) c.args.directory.now.directory after)
after_room g c told after kept mid_kept applied =
    let means = g.B.Board.means in
    let old = c.args.board.now in
    let mid = c.make_room.new.board in
    let new = c.add.new.board in
    let blocks = (means.device old).blocks in
    let d = c.args.directory.now.directory in
    let same = c.make_room.ensures.touches.same in
    let told_mid = tells_too same told in
    goes_on means old mid new (HoldsEither blocks journal_pages (means.flash old) d after) (HoldsEither blocks journal_pages (means.flash mid) d after)
    (before_room means old mid blocks d after (c.make_room.ensures.any_moment told kept) (c.make_room.ensures.touches.leaves told))
    (subst (λ (n : ℕ). LeavesOnly means mid new (HoldsEither n journal_pages (means.flash mid) d after)) (ap (λ (v : Device). v.blocks) same)
    (c.add.ensures.either told_mid d after
    (subst (λ (n : ℕ). IsKept n d (means.flash mid)) (sym (ap (λ (v : Device). v.blocks) same)) mid_kept) applied))
    (λ image is. either_since blocks journal_pages (means.flash old) (means.flash mid) d after image (c.make_room.ensures.touches.others told) is)

pub returns-clause-either : goal.returns-clause-either
returns-clause-either g c told after kept applied =
    after_room g (goal.at.returns-clause-either g c).After-add told after kept (c.in_ok-make_room.ensures.holds told kept) applied

pub returns-clause-any_moment : goal.returns-clause-any_moment
returns-clause-any_moment g c told after kept applied =
    let means = g.B.Board.means in
    let old = c.args.board.now in
    let blocks = (means.device old).blocks in
    let d = c.args.directory.now.directory in
    weaker means old c.add.new.board (HoldsOne blocks d after) (HoldsEither blocks journal_pages (means.flash old) d after)
    (after_room g (goal.at.returns-clause-any_moment g c).After-add told after kept (c.in_ok-make_room.ensures.holds told kept) applied)
    (λ image is. elim is [
      | inl was ↦ inl was.holds
      | inr now ↦ inr now.holds
    ])

pub returns-clause-holds : goal.returns-clause-holds
returns-clause-holds g c =
    let means = g.B.Board.means in
    let old = c.args.board.now in
    let mid = c.make_room.new.board in
    let new = c.add.new.board in
    let d = c.args.directory.now.directory in
    let change = change_of c.args.change.now in
    let same = c.make_room.ensures.touches.same in
    let by : (means.device mid).blocks ≡ (means.device old).blocks = ap (λ (v : Device). v.blocks) same in
    ok_gives c.add.result
    (TellsFlash means mid → (before after : Directory) → IsKept (means.device mid).blocks before (means.flash mid) → apply before change ≡ Some after
    → IsKept (means.device mid).blocks after (means.flash new))
    (TellsFlash means old → (after : Directory) → IsKept (means.device old).blocks d (means.flash old) → apply d change ≡ Some after
    → IsKept (means.device old).blocks after (means.flash new))
    c.add.ensures.holds
    (λ run told after kept applied.
    subst (λ (n : ℕ). IsKept n after (means.flash new)) by
    (run (tells_too same told) d after
    (subst (λ (n : ℕ). IsKept n d (means.flash mid)) (sym by) (c.in_ok-make_room.ensures.holds told kept)) applied))

pub returns-clause-room_after : goal.returns-clause-room_after
returns-clause-room_after g c =
    let pages = 1 + payload_pages (length (change_octets (change_of c.args.change.now))) in
    let old = c.args.journal.now.room in
    let mid = c.make_room.new.journal.room in
    let new = c.add.new.journal.room in
    ok_gives c.add.result (RoomAfter pages mid new) (RoomAfter pages old new) c.add.ensures.room_after
    (λ added. room_then c.in_ok-make_room.ensures.room_after c.in_ok-make_room.ensures.room added)
