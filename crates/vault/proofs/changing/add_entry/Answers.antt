use Rattle.std.proofs.Common.{◌≡◌, inl, inr, Some, subst, arith}
use Rattle.board.specs.Device.{Device}
use Rattle.board.specs.Flash.{IsContent}
use Rattle.board.specs.Meaning.{TellsFlash}
use Rattle.board.proofs.Stops.{weaker}
use Rattle.board.proofs.Touching as touching
use Rattle.board.proofs.Works.{tells_too}
use Rattle.commit_gate.specs.Commits.{entry_pages, with_entry}
use Rattle.meta_journal.specs.Halves.{half_base, half_of}
use Rattle.meta_journal.specs.Journals.{Holds, HoldsEither, IsJournal}
use Rattle.meta_journal.specs.Standing.{AllFirm, room_from}
use Rattle.store_directory.specs.Directory.{Directory}
use Rattle.store_directory.specs.Folds.{fold_entry}
use Rattle.vault.proofs.Changed.{entry_within, journal_kept}
use Rattle.vault.proofs.InImages.{either_more, entry_firm}
use Rattle.vault.proofs.Stands.{ok_gives}
use Rattle.vault.specs.Changing.{HoldsOne, IsKept, journal_pages}
use Rattle.vault.proofs.changing.add_entry.Goals as goal
use Rattle.std.proofs.Common.{length, ◌+◌, ap}
use Rattle.commit_gate.specs.Entries.{payload_pages}
use Rattle.meta_journal.specs.Standing.{Kept, with_less_room}
use Rattle.vault.proofs.RoomAfters.{room_less}
use Rattle.vault.specs.Changing.{RoomAfter}

pub returns-clause-holds : goal.returns-clause-holds
returns-clause-holds g c =
    let means = g.B.Board.means in
    let old = c.args.board.now in
    let new = c.commit.new.board in
    let blocks = (means.device old).blocks in
    let entry = c.args.entry.now in
    ok_gives c.commit.result
    (TellsFlash means old → (before after : Directory) → Holds blocks before (means.flash old).content → fold_entry before entry ≡ Some after
    → IsJournal blocks c.commit.new.self.root after (room_from c.commit.new.self) (means.flash new))
    (TellsFlash means old → (before after : Directory) → IsKept blocks before (means.flash old) → fold_entry before entry ≡ Some after
    → IsKept blocks after (means.flash new))
    c.commit.ensures.journal
    (λ run told before after kept folded.
    journal_kept blocks (means.flash new) c.commit.new.self.root after (room_from c.commit.new.self) (g.met.B.Board.enough_blocks old) (omega arith)
    (subst (λ (v : Device). IsContent v.blocks (means.flash new).content) c.commit.ensures.touches.same
    (g.met.B.Board.content_pages new (tells_too c.commit.ensures.touches.same told)))
    (run told before after kept.holds folded))

pub returns-clause-any_moment : goal.returns-clause-any_moment
returns-clause-any_moment g c told before after kept folded =
    let means = g.B.Board.means in
    let old = c.args.board.now in
    let new = c.commit.new.board in
    let blocks = (means.device old).blocks in
    let j = c.args.journal.now in
    weaker means old new (HoldsOne blocks before after)
    (HoldsEither blocks (entry_pages (half_base (half_of j.root)) (room_from j) c.args.entry.now) (means.flash old) before after)
    (c.commit.ensures.any_moment told kept.is_firm before after kept.holds folded)
    (λ image is. elim is [
      | inl was ↦ inl was.holds
      | inr now ↦ inr now.holds
    ])

pub returns-clause-touches : goal.returns-clause-touches
returns-clause-touches g c =
    let means = g.B.Board.means in
    let j = c.args.journal.now in
    let entry = c.args.entry.now in
    touching.touches_more means journal_pages (entry_pages (half_base (half_of j.root)) (room_from j) entry) c.args.board.now c.commit.new.board
    (entry_within j.root j.room entry c.requires.room c.requires.longest) c.commit.ensures.touches

pub returns-clause-either : goal.returns-clause-either
returns-clause-either g c told before after kept folded =
    let means = g.B.Board.means in
    let old = c.args.board.now in
    let new = c.commit.new.board in
    let blocks = (means.device old).blocks in
    let j = c.args.journal.now in
    let entry = c.args.entry.now in
    let these = entry_pages (half_base (half_of j.root)) (room_from j) entry in
    weaker means old new (HoldsEither blocks journal_pages (means.flash old) before after)
    (HoldsEither blocks these (means.flash old) before after)
    (c.commit.ensures.any_moment told kept.is_firm before after kept.holds folded)
    (λ image either. either_more blocks these journal_pages (means.flash old) before after image
    (entry_within j.root j.room entry c.requires.room c.requires.longest) either)

pub returns-clause-is_firm : goal.returns-clause-is_firm
returns-clause-is_firm g c =
    let means = g.B.Board.means in
    let old = c.args.board.now in
    let new = c.commit.new.board in
    let entry = c.args.entry.now in
    let j = c.args.journal.now in
    ok_gives c.commit.result
    (TellsFlash means old → means.flash new ≡ with_entry (half_base (half_of j.root)) (room_from j) entry (means.flash old))
    (TellsFlash means old → AllFirm (means.flash new))
    c.commit.ensures.flash
    (λ is told. entry_firm (half_base (half_of j.root)) (room_from j) entry (means.flash old) (means.flash new) (is told))

pub returns-clause-room_after : goal.returns-clause-room_after
returns-clause-room_after g c =
    let old = c.args.journal.now in
    let new = c.commit.new.self in
    let pages = 1 + payload_pages (length c.args.entry.now) in
    ok_gives c.commit.result (new ≡ with_less_room (length c.args.entry.now) old) (RoomAfter pages old.room new.room) c.commit.ensures.kept
    (λ is. room_less pages old.room new.room c.requires.room (ap (λ (j : Kept). j.room) is))
