use Rattle.std.proofs.Common.{◌≡◌, ℕ, ◌+◌, ◌-◌, ◌*◌, ◌≤◌, List, Some, length, sym, ◌∙◌, ap, subst, arith}
use Rattle.board.specs.Meaning.{TellsFlash}
use Rattle.board.specs.Moments.{LeavesInTurn, LeavesOnly}
use Rattle.board.specs.Touches.{KeptElsewhere}
use Rattle.board.proofs.Stops.{weaker}
use Rattle.commit_gate.specs.Commits.{HasAllButGate, IsBefore, IsBeforeOrAfter, IsCleanFrom, Stands, entry_pages, with_entry}
use Rattle.commit_gate.specs.Entries.{payload_pages}
use Rattle.store_directory.specs.Directory.{Directory}
use Rattle.store_directory.specs.Folds.{fold_entry}
use Rattle.meta_journal.specs.Halves.{half_base, half_of}
use Rattle.meta_journal.specs.Journals.{FirmJournal, Holds, HoldsBefore, HoldsEither, IsJournal}
use Rattle.meta_journal.specs.Standing.{IsWritten, Kept, StandsFor, room_from, with_less_room}
use Rattle.meta_journal.proofs.Committed.{before_holds, commit_holds}
use Rattle.meta_journal.proofs.Standing.{commit_journal, commit_stands, gate_written, journal_of, turns_weaker}
use Rattle.meta_journal.proofs.journal.Journal.commit.Given.{Over}
use Rattle.meta_journal.proofs.journal.Journal.commit.Goals as goal
use Rattle.meta_journal.proofs.journal.Journal.commit.Goals.{After-append}

-- what is said of the area and the page of the call is so of the half and of where its room begins
moved : (g : Over) (c : After-append g) (P : (base at : ℕ) → Type 0) → P (256 * c.half_of.result.first) (512 - c.self.inside.room)
    → P (half_base (half_of c.args.self.now.root)) (room_from c.args.self.now)
moved g c P is =
    let at_is : 512 - c.self.inside.room ≡ room_from c.args.self.now = ap room_from c.self.view_is in
    let base_is : 256 * c.half_of.result.first ≡ half_base (half_of c.args.self.now.root) = ap (λ n. 256 * n) c.half_of.ensures ∙ ap (λ (j : Kept). half_base (half_of j.root)) c.self.view_is in
    subst (P (half_base (half_of c.args.self.now.root))) at_is (subst (λ (base : ℕ). P base (512 - c.self.inside.room)) base_is is)

-- the journal at first
abbrev stood : (g : Over) (c : After-append g) → TellsFlash g.B.Board.means c.args.board.now → FirmJournal (g.B.Board.means.flash c.args.board.now) → (before : Directory)
    → Holds (g.B.Board.means.device c.args.board.now).blocks before (g.B.Board.means.flash c.args.board.now).content
    → IsJournal (g.B.Board.means.device c.args.board.now).blocks c.args.self.now.root before (room_from c.args.self.now) (g.B.Board.means.flash c.args.board.now)
stood g c told still before held =
    let means = g.B.Board.means in
    let old = c.args.board.now in
    journal_of c.args.self.now (means.flash old) (omega (arith, c.requires.room)) (c.requires.stands told) (means.device old).blocks still before held

leaves : (g : Over) (c : After-append g) → TellsFlash g.B.Board.means c.args.board.now → FirmJournal (g.B.Board.means.flash c.args.board.now) → (before after : Directory)
    → Holds (g.B.Board.means.device c.args.board.now).blocks before (g.B.Board.means.flash c.args.board.now).content
    → fold_entry before c.args.entry.now ≡ Some after
    → LeavesOnly g.B.Board.means c.args.board.now c.append.new.board (HoldsEither (g.B.Board.means.device c.args.board.now).blocks
    (entry_pages (half_base (half_of c.args.self.now.root)) (room_from c.args.self.now) c.args.entry.now) (g.B.Board.means.flash c.args.board.now) before after)
leaves g c told still before after held more =
    let means = g.B.Board.means in
    let old = c.args.board.now in
    let j = c.args.self.now in
    let at = room_from j in
    let entry = c.args.entry.now in
    let blocks = (means.device old).blocks in
    let base = half_base (half_of j.root) in
    let journal = stood g c told still before held in
    weaker means old c.append.new.board (HoldsEither blocks (entry_pages base at entry) (means.flash old) before after)
    (IsBeforeOrAfter blocks (means.flash old) base journal.start journal.entries at entry) (moved g c (λ base at. (start : ℕ) (entries : List (List ℕ)) → Stands (means.flash old) base start entries at
    → LeavesOnly means old c.append.new.board (IsBeforeOrAfter blocks (means.flash old) base start entries at entry)) (c.append.ensures.any_moment told) journal.start journal.entries journal.stands)
    (commit_holds blocks (means.flash old) j.root before at (g.met.B.Board.enough_blocks old) (omega arith) journal entry after more)

pub returns-in_err-next-clause-any_moment : goal.returns-in_err-next-clause-any_moment
returns-in_err-next-clause-any_moment g c = leaves g (goal.at.returns-in_err-next-clause-any_moment g c).After-append

pub returns-clause-any_moment : goal.returns-clause-any_moment
returns-clause-any_moment g c = leaves g (goal.at.returns-clause-any_moment g c).After-append

turns : (g : Over) (c : After-append g) → TellsFlash g.B.Board.means c.args.board.now → FirmJournal (g.B.Board.means.flash c.args.board.now) → (before : Directory)
    → Holds (g.B.Board.means.device c.args.board.now).blocks before (g.B.Board.means.flash c.args.board.now).content
    → LeavesInTurn g.B.Board.means c.args.board.now c.append.new.board
    (HoldsBefore (g.B.Board.means.device c.args.board.now).blocks (entry_pages (half_base (half_of c.args.self.now.root)) (room_from c.args.self.now) c.args.entry.now) (g.B.Board.means.flash c.args.board.now) before)
    (IsWritten (g.B.Board.means.device c.args.board.now).blocks (entry_pages (half_base (half_of c.args.self.now.root)) (room_from c.args.self.now) c.args.entry.now) (g.B.Board.means.flash c.args.board.now))
turns g c told still before held =
    let means = g.B.Board.means in
    let old = c.args.board.now in
    let j = c.args.self.now in
    let at = room_from j in
    let entry = c.args.entry.now in
    let blocks = (means.device old).blocks in
    let base = half_base (half_of j.root) in
    let journal = stood g c told still before held in
    turns_weaker means old c.append.new.board (IsBefore blocks (means.flash old) base journal.start journal.entries at entry) (HasAllButGate blocks (means.flash old) base at entry)
    (HoldsBefore blocks (entry_pages base at entry) (means.flash old) before) (IsWritten blocks (entry_pages base at entry) (means.flash old))
    (moved g c (λ base at. (start : ℕ) (entries : List (List ℕ)) → Stands (means.flash old) base start entries at
    → LeavesInTurn means old c.append.new.board (IsBefore blocks (means.flash old) base start entries at entry) (HasAllButGate blocks (means.flash old) base at entry))
    (c.append.ensures.in_turn told) journal.start journal.entries journal.stands)
    (before_holds blocks (means.flash old) j.root before at (g.met.B.Board.enough_blocks old) (omega arith) journal entry)
    (gate_written blocks (means.flash old) base at entry)

pub returns-in_err-next-clause-in_turn : goal.returns-in_err-next-clause-in_turn
returns-in_err-next-clause-in_turn g c = turns g (goal.at.returns-in_err-next-clause-in_turn g c).After-append

pub returns-clause-in_turn : goal.returns-clause-in_turn
returns-clause-in_turn g c = turns g (goal.at.returns-clause-in_turn g c).After-append

-- the journal in the end
behind : (g : Over) (c : After-append g) → TellsFlash g.B.Board.means c.args.board.now
    → (g.B.Board.means.flash c.append.new.board ≡ with_entry (256 * c.half_of.result.first) (512 - c.self.inside.room) c.args.entry.now (g.B.Board.means.flash c.args.board.now))
    → IsCleanFrom (g.B.Board.means.flash c.append.new.board) (256 * c.half_of.result.first) (512 - c.self.inside.room + 1 + payload_pages (length c.args.entry.now))
    → StandsFor (with_less_room (length c.args.entry.now) c.args.self.now) (g.B.Board.means.flash c.append.new.board)
    × ((before after : Directory) → Holds (g.B.Board.means.device c.args.board.now).blocks before (g.B.Board.means.flash c.args.board.now).content → fold_entry before c.args.entry.now ≡ Some after
    → IsJournal (g.B.Board.means.device c.args.board.now).blocks c.args.self.now.root after (room_from (with_less_room (length c.args.entry.now) c.args.self.now)) (g.B.Board.means.flash c.append.new.board))
behind g c told is clean =
    let means = g.B.Board.means in
    let old = c.args.board.now in
    let j = c.args.self.now in
    let entry = c.args.entry.now in
    let new = means.flash c.append.new.board in
    let blocks = (means.device old).blocks in
    let most : j.room ≤ 512 = subst (λ (k : Kept). k.room ≤ 512) c.self.view_is c.self.invariant.1 in
    let is_new = moved g c (λ base at. new ≡ with_entry base at entry (means.flash old)) is in
    let same = moved g c (λ base at. KeptElsewhere (entry_pages base at entry) (means.flash old) new) (c.append.ensures.touches.others told) in
    let clean_new = moved g c (λ base at. IsCleanFrom new base (at + 1 + payload_pages (length entry))) clean in
    let stands = commit_stands j (means.flash old) blocks c.requires.room most (c.requires.stands told) (g.met.B.Board.enough_blocks old) (λ p erased. g.met.B.Board.erased_blank old p told erased)
    entry c.requires.shortest c.requires.longest new is_new same.content clean_new in
    let journal = commit_journal j (means.flash old) blocks c.requires.room most (c.requires.stands told) (g.met.B.Board.enough_blocks old) (λ p erased. g.met.B.Board.erased_blank old p told erased)
    entry c.requires.shortest c.requires.longest new is_new same.content clean_new in
    let room_is : room_from j + 1 + payload_pages (length entry) ≡ room_from (with_less_room (length entry) j) = omega (arith, most, c.requires.room, c.requires.longest) in
    (stands, λ before after held more. subst (λ at. IsJournal blocks j.root after at new) room_is (journal before after held more))

pub returns-clause-stands : goal.returns-clause-stands
returns-clause-stands g c told =
    let now = c.args.self.now in
    let entry = c.args.entry.now in
    let most : now.room ≤ 512 = subst (λ (k : Kept). k.room ≤ 512) c.self.view_is c.self.invariant.1 in
    let room : 512 - c.in_ok-next.next ≡ now.room - (1 + payload_pages (length entry)) =
    omega (arith, c.in_ok-next.ensures.next, ap (λ (k : Kept). k.room) c.self.view_is, most, c.requires.room, c.requires.longest) in
    let root = ap (λ (k : Kept). k.root) c.self.view_is in
    let votes = ap (λ (k : Kept). k.votes) c.self.view_is in
    let kept : record { root = c.self.inside.root; votes = c.self.inside.votes.votes; room = 512 - c.in_ok-next.next } ≡ with_less_room (length entry) now =
    λ i. record { root = root i; votes = votes i; room = room i } in
    subst (λ (k : Kept). StandsFor k (g.B.Board.means.flash c.append.new.board)) (sym kept)
    (behind g (goal.at.returns-clause-stands g c).After-append told (c.in_ok-next.ensures.flash told) (c.in_ok-next.ensures.clean told)).0

pub returns-clause-journal : goal.returns-clause-journal
returns-clause-journal g c told before after held more =
    let means = g.B.Board.means in
    let now = c.args.self.now in
    let entry = c.args.entry.now in
    let most : now.room ≤ 512 = subst (λ (k : Kept). k.room ≤ 512) c.self.view_is c.self.invariant.1 in
    let room : 512 - c.in_ok-next.next ≡ now.room - (1 + payload_pages (length entry)) =
    omega (arith, c.in_ok-next.ensures.next, ap (λ (k : Kept). k.room) c.self.view_is, most, c.requires.room, c.requires.longest) in
    let root = ap (λ (k : Kept). k.root) c.self.view_is in
    let votes = ap (λ (k : Kept). k.votes) c.self.view_is in
    let kept : record { root = c.self.inside.root; votes = c.self.inside.votes.votes; room = 512 - c.in_ok-next.next } ≡ with_less_room (length entry) now =
    λ i. record { root = root i; votes = votes i; room = room i } in
    subst (λ (k : Kept). IsJournal (means.device c.args.board.now).blocks k.root after (room_from k) (means.flash c.append.new.board)) (sym kept)
    ((behind g (goal.at.returns-clause-journal g c).After-append told (c.in_ok-next.ensures.flash told) (c.in_ok-next.ensures.clean told)).1 before after held more)
