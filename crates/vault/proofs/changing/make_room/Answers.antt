use Rattle.std.proofs.Common.{◌≡◌, ℕ, ◌≤◌, ◌<◌, ◌^◌, All, get_or, List, [], ◌++◌, Some, length, take, drop, refl, sym, ap, subst, arith}
use Rattle.std.proofs.lemmas.Bool.{lt-ltb}
use Rattle.std.proofs.lemmas.List.{get_or_default, length-take-le}
use Rattle.board.specs.Meaning.{TellsFlash}
use Rattle.board.proofs.Touching as touching
use Rattle.meta_journal.specs.Directories.{directory_by}
use Rattle.meta_journal.specs.Journals.{Holds, switch_pages}
use Rattle.meta_journal.specs.Standing.{AllFirm}
use Rattle.store_directory.specs.Checkpoints.{checkpoint_octets}
use Rattle.store_directory.proofs.CheckpointParts.{length-parts}
use Rattle.vault.proofs.Changed.{checkpoint_spells, most_barriers, most_pages, most_repairs, ok_two, switch_within, text_written}
use Rattle.vault.specs.Changing.{IsKept, if_short, journal_pages}
use Rattle.vault.proofs.changing.make_room.Given.{Over}
use Rattle.vault.proofs.changing.make_room.Goals as goal
use Rattle.vault.proofs.changing.make_room.Goals.{After-switch, After-write_checkpoint-size}
use Rattle.board.proofs.Stops.{started}
use Rattle.meta_journal.proofs.Switched.{standing_holds}
use Rattle.vault.proofs.RoomAfters.{room_same, room_switched}
use Rattle.vault.proofs.Stands.{ok_gives}
use Rattle.vault.specs.Changing.{RoomAfter}

is_short : (room work : ℕ) → room < 21 → if_short room work ≡ work
is_short room work less = rw (lt-ltb room 21 less) refl

front : (buffer : List ℕ) → length buffer ≡ 65536 → length (take 20476 buffer) ≡ 20476
front buffer is = length-take-le 20476 buffer (omega (arith, is))

pub slice_bounds-write_checkpoint-end-2 : goal.slice_bounds-write_checkpoint-end-2
slice_bounds-write_checkpoint-end-2 g c = sym (front c.args.buffer.now c.requires.buffer)

pub write_checkpoint-size-requires-clause-room : goal.write_checkpoint-size-requires-clause-room
write_checkpoint-size-requires-clause-room g c =
    let long = front c.args.buffer.now c.requires.buffer in omega (arith, long)

abbrev text_of : (g : Over) (c : After-write_checkpoint-size g) → List ℕ
text_of g c = take c.write_checkpoint-size.result (c.write_checkpoint-size.new.out ++ drop 20476 c.args.buffer.now)

text_is : (g : Over) (c : After-write_checkpoint-size g) → text_of g c ≡ checkpoint_octets c.args.directory.now.directory c.args.wear.now
text_is g c =
    text_written _ c.write_checkpoint-size.new.out _ _ c.write_checkpoint-size.result c.write_checkpoint-size.ensures.written c.write_checkpoint-size.ensures.length

longest : (g : Over) (c : After-write_checkpoint-size g) → length (text_of g c) ≤ 20476
longest g c =
    let is = ap length (text_is g c) in
    let room = c.write_checkpoint-size.ensures.written.room in
    let long = front c.args.buffer.now c.requires.buffer in
    omega (arith, is, room, long)

pub switch-requires-clause-longest : goal.switch-requires-clause-longest
switch-requires-clause-longest g c = longest g (goal.at.switch-requires-clause-longest g c).After-write_checkpoint-size

pub switch-requires-clause-shortest : goal.switch-requires-clause-shortest
switch-requires-clause-shortest g c =
    let is = ap length (text_is g (goal.at.switch-requires-clause-shortest g c).After-write_checkpoint-size) in
    let many = length-parts c.args.directory.now.directory c.args.wear.now in
    omega (arith, is, many)

all_fit : (wear : List ℕ) → ((i : ℕ) → get_or wear i 0 < 2 ^ 32) → All (λ (count : ℕ). count < 2 ^ 32) wear
all_fit wear fit = λ k d within. subst (λ (n : ℕ). n < 2 ^ 32) (get_or_default wear k 0 d within) (fit k)

spells : (g : Over) (c : After-write_checkpoint-size g)
    → directory_by (g.B.Board.means.device c.args.board.now).blocks (text_of g c) [] ≡ Some c.args.directory.now.directory
spells g c =
    checkpoint_spells (g.B.Board.means.device c.args.board.now).blocks c.args.directory.now.directory c.args.wear.now (text_of g c)
    c.requires.kept (all_fit c.args.wear.now (λ i. let fits = c.type_inv.wear i in omega (arith, fits))) c.requires.blocks (text_is g c)

pub returns-clause-any_moment : goal.returns-clause-any_moment
returns-clause-any_moment g c told kept =
    c.switch.ensures.any_moment told kept.is_firm c.args.directory.now.directory kept.holds
    (spells g (goal.at.returns-clause-any_moment g c).After-write_checkpoint-size)

pub returns-clause-holds : goal.returns-clause-holds
returns-clause-holds g c =
    let means = g.B.Board.means in
    let old = c.args.board.now in
    let new = c.switch.new.board in
    let blocks = (means.device old).blocks in
    let d = c.args.directory.now.directory in
    ok_two c.switch.result (TellsFlash means old → AllFirm (means.flash new))
    (TellsFlash means old → means.images new (means.moment new) (means.flash new).content)
    (TellsFlash means old → IsKept blocks d (means.flash old) → IsKept blocks d (means.flash new))
    c.switch.ensures.is_firm c.switch.ensures.seen
    (λ firm seen told kept.
    let run = c.switch.ensures.any_moment told kept.is_firm d kept.holds
    (spells g (goal.at.returns-clause-holds g c).After-write_checkpoint-size) in
    record {
      holds = run.each (means.moment new) (means.flash new).content run.later (omega arith) (seen told);
      is_firm = λ p low. firm told p;
    })

pub returns-clause-touches : goal.returns-clause-touches
returns-clause-touches g c =
    let means = g.B.Board.means in
    let old = c.args.board.now in
    let new = c.switch.new.board in
    let j = c.args.journal.now in
    let pages = most_pages (length (text_of g (goal.at.returns-clause-touches g c).After-write_checkpoint-size))
    (longest g (goal.at.returns-clause-touches g c).After-write_checkpoint-size) in
    let repairs = most_repairs j.votes j.root in
    let barriers = most_barriers j.votes j.root in
    let room = c.room.ensures.room in
    let less = c.if-room-ge-LONGEST.false in
    let short : (work : ℕ) → if_short j.room work ≡ work = λ work. is_short j.room work (omega (arith, room, less)) in
    touching.touches_most means
    (touching.touches_more means journal_pages (switch_pages j.root) old new (switch_within j.root) c.switch.ensures.touches)
    (omega (arith, pages, repairs, short 85)) (omega (arith, repairs, short 7)) (omega (arith, barriers, short 13))

pub returns-then-room-ge-LONGEST-clause-any_moment : goal.returns-then-room-ge-LONGEST-clause-any_moment
returns-then-room-ge-LONGEST-clause-any_moment g c told kept =
    let means = g.B.Board.means in
    let old = c.args.board.now in
    let blocks = (means.device old).blocks in
    let d = c.args.directory.now.directory in
    started means old (Holds blocks d)
    (λ image left. standing_holds blocks (means.flash old) d (g.met.B.Board.enough_blocks old) kept.is_firm kept.holds image
    (g.met.B.Board.images_now old image told left))

pub returns-then-room-ge-LONGEST-clause-touches : goal.returns-then-room-ge-LONGEST-clause-touches
returns-then-room-ge-LONGEST-clause-touches g c =
    let means = g.B.Board.means in
    let old = c.args.board.now in
    touching.touches_most means (touching.touches_none means journal_pages old (λ image told left. g.met.B.Board.images_now old image told left))
    (omega arith) (omega arith) (omega arith)

pub returns-clause-room_after : goal.returns-clause-room_after
returns-clause-room_after g c =
    let old = c.args.journal.now.room in
    let new = c.switch.new.self.room in
    let room = c.room.ensures.room in
    let less = c.if-room-ge-LONGEST.false in
    ok_gives c.switch.result (432 ≤ new) (RoomAfter 0 old new) c.switch.ensures.room (λ is. room_switched old new (omega arith) is)

pub returns-then-room-ge-LONGEST-clause-room_after : goal.returns-then-room-ge-LONGEST-clause-room_after
returns-then-room-ge-LONGEST-clause-room_after g c =
    let room = c.room.ensures.room in
    let more = c.if-room-ge-LONGEST.true in
    room_same c.args.journal.now.room (omega arith)
