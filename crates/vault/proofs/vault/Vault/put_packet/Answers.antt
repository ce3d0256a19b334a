use Rattle.std.proofs.Common.{◌≡◌, ◌≤◌, ℕ, length, Some, refl, sym, ◌∙◌, ap, subst}
use Rattle.board.specs.Device.{Device}
use Rattle.board.specs.Meaning.{TellsFlash}
use Rattle.board.specs.Moments.{LeavesOnly}
use Rattle.board.proofs.Works.{tells_too}
use Rattle.image_table.specs.Standing.{HoldsTable}
use Rattle.image_table.specs.Table.{table_by}
use Rattle.meta_journal.specs.Standing as journals
use Rattle.pst_model.specs.Arrivals.{arrive}
use Rattle.pst_model.specs.Table.{Stored, Table}
use Rattle.space_packet.specs.View.{octets_of}
use Rattle.vault.proofs.OfferedSoFar.{put_first}
use Rattle.vault.proofs.PutPackets.{failed_held, last_device, last_held, last_unsent, last_within, late_device, late_held, late_unsent, late_within, on_ok, put_by, put_journal, room_blocks, room_fresh, room_freshened}
use Rattle.vault.proofs.Stands.{ok_gives}
use Rattle.vault.specs.Memory.{InMemory}
use Rattle.vault.specs.Putting.{HasPutAll}
use Rattle.vault.specs.Standing.{StandsFor}
use Rattle.vault.specs.Storing.{HasPut, IsFreshened, OffersQuietly}
use Rattle.vault.proofs.vault.Vault.put_packet.Given.{Over}
use Rattle.vault.proofs.vault.Vault.put_packet.Goals as goal
use Rattle.vault.proofs.vault.Vault.put_packet.Goals.{After-begin_put-time, After-offer_to_all}
use Rattle.vault.proofs.RoomAfters.{room_then}
use Rattle.vault.specs.Changing.{RoomAfter}

abbrev stored : (g : Over) (c : After-begin_put-time g) → Stored
stored g c = record { time = c.begin_put-time.result; octets = octets_of c.args.packet }

-- the vault behind the room that was made stands for a table, if the flash is told
stood : (g : Over) (c : After-begin_put-time g) → TellsFlash g.B.Board.means c.make_journal_room.new.board
    → (table : Table) × StandsFor c.make_journal_room.new.self (g.B.Board.means.flash c.make_journal_room.new.board) table
stood g c told_mid =
    let told = tells_too (sym c.make_journal_room.ensures.touches.same) told_mid in
    let (table, stands) = c.requires.flash told in
    (table, c.in_ok-make_journal_room.ensures.stands told table stands)

first_put : (g : Over) (c : After-begin_put-time g)
    → HasPut g.B.Board.means c.make_journal_room.new.board c.make_journal_room.new.board c.make_journal_room.new.self c.begin_put-time.new.self (stored g c) 0
    c.begin_put-time.new.text
first_put g c =
    let means = g.B.Board.means in
    let mid = c.make_journal_room.new.board in
    let first = c.make_journal_room.new.self in
    let room = c.in_ok-make_journal_room.ensures.after in
    put_first means mid first c.begin_put-time.new.self (stored g c) c.begin_put-time.new.text c.begin_put-time.ensures.begins
    (room_blocks c.args.self.now first room ∙ c.requires.blocks ∙ ap (λ (v : Device). v.blocks) (sym c.make_journal_room.ensures.touches.same))
    c.in_ok-make_journal_room.ensures.sound
    (room_fresh c.args.self.now first room (octets_of c.args.packet) c.requires.fresh)
    (λ image told left. g.met.B.Board.images_now mid image told left)
    (stood g c)

pub offer_to_all-requires : goal.offer_to_all-requires
offer_to_all-requires g c =
    record { putting = (c.make_journal_room.new.board, c.make_journal_room.new.self, first_put g (goal.at.offer_to_all-requires g c).After-begin_put-time) }

pub commit_put-requires-clause-put : goal.commit_put-requires-clause-put
commit_put-requires-clause-put g c =
    let w = goal.at.commit_put-requires-clause-put g c in
    (c.make_journal_room.new.board, c.make_journal_room.new.self, stored g w.After-begin_put-time, c.in-Ok.ensures.goes c.make_journal_room.new.board c.make_journal_room.new.self (first_put g w.After-begin_put-time))

pub commit_put-requires-clause-room : goal.commit_put-requires-clause-room
commit_put-requires-clause-room g c =
    let w = goal.at.commit_put-requires-clause-room g c in
    let has = c.in-Ok.ensures.goes c.make_journal_room.new.board c.make_journal_room.new.self (first_put g w.After-begin_put-time) in
    subst (λ (v : InMemory). 21 ≤ v.journal.room) (sym has.memory.others) c.in_ok-make_journal_room.ensures.room

pub commit_put-requires-clause-journal : goal.commit_put-requires-clause-journal
commit_put-requires-clause-journal g c =
    let w = goal.at.commit_put-requires-clause-journal g c in
    put_journal g.B.Board.means c.make_journal_room.new.board c.offer_to_all.new.board c.make_journal_room.new.self c.offer_to_all.new.self c.args.moment
    c.begin_put-time.result (octets_of c.args.packet) c.offer_to_all.new.text c.begin_put-time.ensures.time c.requires.busy (c.in-Ok.ensures.goes c.make_journal_room.new.board c.make_journal_room.new.self (first_put g w.After-begin_put-time))
    (stood g w.After-begin_put-time)

-- the table from before is held until the entry is added
held : (g : Over) (c : After-offer_to_all g)
    → OffersQuietly g.B.Board.means c.make_journal_room.new.board c.offer_to_all.new.board c.make_journal_room.new.self (octets_of c.args.packet)
    (length c.make_journal_room.new.self.directory.stores)
    → TellsFlash g.B.Board.means c.args.board.now → (table : Table) → StandsFor c.args.self.now (g.B.Board.means.flash c.args.board.now) table
    → LeavesOnly g.B.Board.means c.args.board.now c.offer_to_all.new.board (HoldsTable c.args.self.now.blocks table)
held g c quiet told table stands =
    late_held c.args.self.now c.make_journal_room.new.self c.in_ok-make_journal_room.ensures.after g.B.Board.means c.args.board.now c.make_journal_room.new.board
    c.offer_to_all.new.board (octets_of c.args.packet) c.make_journal_room.ensures.touches quiet told table
    (c.make_journal_room.ensures.any_moment told table stands) (c.in_ok-make_journal_room.ensures.stands told table stands)

pub returns-in-Ok-clause-any_moment : goal.returns-in-Ok-clause-any_moment
returns-in-Ok-clause-any_moment g c told table number stands =
    let w = goal.at.returns-in-Ok-clause-any_moment g c in
    let at = w.After-offer_to_all in
    let means = g.B.Board.means in
    let was = c.args.self.now in
    let old = c.args.board.now in
    let mid = c.make_journal_room.new.board in
    let late = c.offer_to_all.new.board in
    let first = c.make_journal_room.new.self in
    let put = c.offer_to_all.new.self in
    let packet = octets_of c.args.packet in
    let next = (arrive number c.args.moment packet table).table in
    let room = c.in_ok-make_journal_room.ensures.after in
    let has = c.in-Ok.ensures.goes c.make_journal_room.new.board c.make_journal_room.new.self (first_put g w.After-begin_put-time) in
    let told_mid = tells_too c.make_journal_room.ensures.touches.same told in
    let stands_mid = c.in_ok-make_journal_room.ensures.stands told table stands in
    last_held means old late c.commit_put.new.board was put table next
    (ap (λ (v : InMemory). v.blocks) has.memory.others ∙ room_blocks was first room)
    (held g at has.quiet told table stands)
    (c.commit_put.ensures.any_moment (tells_too has.quiet.same told_mid) mid first (stored g w.After-begin_put-time) has table next stands_mid
    (put_by means mid late first put c.args.moment c.begin_put-time.result packet c.offer_to_all.new.text c.begin_put-time.ensures.time c.requires.busy has
    told_mid table number stands_mid))

pub returns-in-Ok-clause-stands : goal.returns-in-Ok-clause-stands
returns-in-Ok-clause-stands g c =
    let w = goal.at.returns-in-Ok-clause-stands g c in
    let means = g.B.Board.means in
    let old = c.args.board.now in
    let mid = c.make_journal_room.new.board in
    let late = c.offer_to_all.new.board in
    let new = c.commit_put.new.board in
    let first = c.make_journal_room.new.self in
    let put = c.offer_to_all.new.self in
    let packet = octets_of c.args.packet in
    let has = c.in-Ok.ensures.goes c.make_journal_room.new.board c.make_journal_room.new.self (first_put g w.After-begin_put-time) in
    ok_gives c.commit_put.result
    (TellsFlash means late → (start : g.row.B.Denot) (first : InMemory) (stored : Stored) → HasPutAll means start late first put stored c.offer_to_all.new.text
    → (table next : Table) → StandsFor first (means.flash start) table
    → table_by put.blocks (means.flash late).content put.directory.directory ≡ Some next → StandsFor c.commit_put.new.self (means.flash new) next)
    (TellsFlash means old → (table : Table) (number : ℕ) → StandsFor c.args.self.now (means.flash old) table
    → StandsFor c.commit_put.new.self (means.flash new) (arrive number c.args.moment packet table).table)
    c.commit_put.ensures.stands
    (λ run told table number stands.
    let told_mid = tells_too c.make_journal_room.ensures.touches.same told in
    let stands_mid = c.in_ok-make_journal_room.ensures.stands told table stands in
    run (tells_too has.quiet.same told_mid) mid first (stored g w.After-begin_put-time) has table (arrive number c.args.moment packet table).table stands_mid
    (put_by means mid late first put c.args.moment c.begin_put-time.result packet c.offer_to_all.new.text c.begin_put-time.ensures.time c.requires.busy has
    told_mid table number stands_mid))

pub returns-in-Ok-clause-journal : goal.returns-in-Ok-clause-journal
returns-in-Ok-clause-journal g c =
    let w = goal.at.returns-in-Ok-clause-journal g c in
    let means = g.B.Board.means in
    let new = c.commit_put.new.board in
    let has = c.in-Ok.ensures.goes c.make_journal_room.new.board c.make_journal_room.new.self (first_put g w.After-begin_put-time) in
    ok_gives c.commit_put.result
    (TellsFlash means c.offer_to_all.new.board → journals.StandsFor c.commit_put.new.self.journal (means.flash new))
    (TellsFlash means c.args.board.now → journals.StandsFor c.commit_put.new.self.journal (means.flash new))
    c.commit_put.ensures.journal
    (λ run told. run (tells_too has.quiet.same (tells_too c.make_journal_room.ensures.touches.same told)))

pub returns-in-Ok-clause-fresh : goal.returns-in-Ok-clause-fresh
returns-in-Ok-clause-fresh g c =
    let w = goal.at.returns-in-Ok-clause-fresh g c in
    let was = c.args.self.now in
    let packet = octets_of c.args.packet in
    let n = length was.directory.stores in
    let has = c.in-Ok.ensures.goes c.make_journal_room.new.board c.make_journal_room.new.self (first_put g w.After-begin_put-time) in
    on_ok c.commit_put.result (IsFreshened packet n was c.commit_put.new.self.lasts)
    (subst (λ (v : InMemory). IsFreshened packet n was v.lasts) (sym c.commit_put.ensures.after)
    (room_freshened was c.make_journal_room.new.self c.in_ok-make_journal_room.ensures.after packet c.offer_to_all.new.self has.memory.freshened))

pub returns-in-Ok-clause-quiet : goal.returns-in-Ok-clause-quiet
returns-in-Ok-clause-quiet g c =
    let w = goal.at.returns-in-Ok-clause-quiet g c in
    let has = c.in-Ok.ensures.goes c.make_journal_room.new.board c.make_journal_room.new.self (first_put g w.After-begin_put-time) in
    last_unsent c.args.self.now c.make_journal_room.new.self c.in_ok-make_journal_room.ensures.after g.B.Board.means c.args.board.now c.make_journal_room.new.board
    c.offer_to_all.new.board (octets_of c.args.packet) c.make_journal_room.ensures.touches has.quiet c.commit_put.new.board c.commit_put.ensures.touches

pub returns-in-Ok-clause-same : goal.returns-in-Ok-clause-same
returns-in-Ok-clause-same g c =
    let w = goal.at.returns-in-Ok-clause-same g c in
    let has = c.in-Ok.ensures.goes c.make_journal_room.new.board c.make_journal_room.new.self (first_put g w.After-begin_put-time) in
    last_device c.args.self.now c.make_journal_room.new.self c.in_ok-make_journal_room.ensures.after g.B.Board.means c.args.board.now c.make_journal_room.new.board
    c.offer_to_all.new.board (octets_of c.args.packet) c.make_journal_room.ensures.touches has.quiet c.commit_put.new.board c.commit_put.ensures.touches

pub returns-in-Ok-clause-work : goal.returns-in-Ok-clause-work
returns-in-Ok-clause-work g c =
    let w = goal.at.returns-in-Ok-clause-work g c in
    let has = c.in-Ok.ensures.goes c.make_journal_room.new.board c.make_journal_room.new.self (first_put g w.After-begin_put-time) in
    last_within c.args.self.now c.make_journal_room.new.self c.in_ok-make_journal_room.ensures.after g.B.Board.means c.args.board.now c.make_journal_room.new.board
    c.offer_to_all.new.board (octets_of c.args.packet) c.make_journal_room.ensures.touches has.quiet c.commit_put.new.board c.commit_put.ensures.touches

-- where an offer failed

pub returns-in-Err-clause-any_moment : goal.returns-in-Err-clause-any_moment
returns-in-Err-clause-any_moment g c told table number stands =
    let w = goal.at.returns-in-Err-clause-any_moment g c in
    let at = w.After-offer_to_all in
    failed_held g.B.Board.means c.args.board.now c.offer_to_all.new.board c.offer_to_all.new.board c.args.self.now c.args.self.now table
    (arrive number c.args.moment (octets_of c.args.packet) table).table refl (held g at (c.in-Err.ensures.fails c.make_journal_room.new.board c.make_journal_room.new.self (first_put g w.After-begin_put-time)) told table stands)

pub returns-in-Err-clause-quiet : goal.returns-in-Err-clause-quiet
returns-in-Err-clause-quiet g c =
    let w = goal.at.returns-in-Err-clause-quiet g c in
    late_unsent c.args.self.now c.make_journal_room.new.self c.in_ok-make_journal_room.ensures.after g.B.Board.means c.args.board.now c.make_journal_room.new.board
    c.offer_to_all.new.board (octets_of c.args.packet) c.make_journal_room.ensures.touches (c.in-Err.ensures.fails c.make_journal_room.new.board c.make_journal_room.new.self (first_put g w.After-begin_put-time))

pub returns-in-Err-clause-same : goal.returns-in-Err-clause-same
returns-in-Err-clause-same g c =
    let w = goal.at.returns-in-Err-clause-same g c in
    late_device c.args.self.now c.make_journal_room.new.self c.in_ok-make_journal_room.ensures.after g.B.Board.means c.args.board.now c.make_journal_room.new.board
    c.offer_to_all.new.board (octets_of c.args.packet) c.make_journal_room.ensures.touches (c.in-Err.ensures.fails c.make_journal_room.new.board c.make_journal_room.new.self (first_put g w.After-begin_put-time))

pub returns-in-Err-clause-work : goal.returns-in-Err-clause-work
returns-in-Err-clause-work g c =
    let w = goal.at.returns-in-Err-clause-work g c in
    late_within c.args.self.now c.make_journal_room.new.self c.in_ok-make_journal_room.ensures.after g.B.Board.means c.args.board.now c.make_journal_room.new.board
    c.offer_to_all.new.board (octets_of c.args.packet) c.make_journal_room.ensures.touches (c.in-Err.ensures.fails c.make_journal_room.new.board c.make_journal_room.new.self (first_put g w.After-begin_put-time))

pub returns-in-Ok-clause-room : goal.returns-in-Ok-clause-room
returns-in-Ok-clause-room g c =
    let w = goal.at.returns-in-Ok-clause-room g c in
    let was = c.args.self.now.journal.room in
    let put = c.offer_to_all.new.self in
    let now = c.commit_put.new.self.journal.room in
    let has = c.in-Ok.ensures.goes c.make_journal_room.new.board c.make_journal_room.new.self (first_put g w.After-begin_put-time) in
    ok_gives c.commit_put.result (RoomAfter 7 put.journal.room now) (RoomAfter 7 was now) c.commit_put.ensures.room
    (λ added. room_then c.in_ok-make_journal_room.ensures.room_after c.in_ok-make_journal_room.ensures.room
    (subst (λ (v : InMemory). RoomAfter 7 v.journal.room now) has.memory.others added))
