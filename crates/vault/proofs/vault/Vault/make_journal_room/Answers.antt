use Rattle.std.proofs.Common.{◌≡◌, sym, ◌∙◌, ap, subst}
use Rattle.board.specs.Device.{Device}
use Rattle.board.specs.Flash.{IsContent}
use Rattle.board.specs.Meaning.{TellsFlash}
use Rattle.board.specs.Moments.{LeavesOnly}
use Rattle.board.proofs.Works.{tells_too}
use Rattle.image_table.specs.Standing.{HoldsTable}
use Rattle.pst_model.specs.Table.{Table}
use Rattle.vault.proofs.Rooms.{room_held, room_stands}
use Rattle.vault.specs.Memory.{InMemory, IsSound}
use Rattle.vault.specs.Standing.{StandsFor}
use Rattle.vault.proofs.vault.Vault.make_journal_room.Given.{Over}
use Rattle.vault.proofs.vault.Vault.make_journal_room.Goals as goal
use Rattle.vault.proofs.vault.Vault.make_journal_room.Goals.{After-make_room}
use Rattle.vault.specs.Changing.{RoomAfter}

-- the vault as it was, by its fields
abbrev was : (g : Over) (c : After-make_room g) → InMemory
was g c = record {
  directory = c.self.inside.directory;
  indexes = c.self.inside.indexes.items;
  lasts = c.self.inside.lasts.items;
  pool = c.self.inside.pool;
  journal = c.self.inside.journal;
  blocks = c.self.inside.blocks;
  held = c.self.inside.held;
  is_open = c.self.inside.is_open;
}

sound_was : (g : Over) (c : After-make_room g) → IsSound (was g c)
sound_was g c = c.self.invariant.1 (ap (λ (v : InMemory). v.is_open) c.self.view_is ∙ c.requires.is_open)

blocks_are : (g : Over) (c : After-make_room g) → c.self.inside.blocks ≡ (g.B.Board.means.device c.args.board.now).blocks
blocks_are g c = ap (λ (v : InMemory). v.blocks) c.self.view_is ∙ c.requires.blocks

stood : (g : Over) (c : After-make_room g) (table : Table) → StandsFor c.args.self.now (g.B.Board.means.flash c.args.board.now) table
    → StandsFor (was g c) (g.B.Board.means.flash c.args.board.now) table
stood g c table stands = subst (λ (v : InMemory). StandsFor v (g.B.Board.means.flash c.args.board.now) table) (sym c.self.view_is) stands

leaves : (g : Over) (c : After-make_room g) → TellsFlash g.B.Board.means c.args.board.now → (table : Table)
    → StandsFor c.args.self.now (g.B.Board.means.flash c.args.board.now) table
    → LeavesOnly g.B.Board.means c.args.board.now c.make_room.new.board (HoldsTable c.args.self.now.blocks table)
leaves g c told table stands =
    let means = g.B.Board.means in
    let old = c.args.board.now in
    let new = c.make_room.new.board in
    subst (λ (v : InMemory). LeavesOnly means old new (HoldsTable v.blocks table)) c.self.view_is
    (room_held means old new (was g c) (blocks_are g c) (sound_was g c) told table (stood g c table stands)
    c.make_room.ensures.any_moment c.make_room.ensures.touches.leaves)

pub returns-in-Ok-clause-any_moment : goal.returns-in-Ok-clause-any_moment
returns-in-Ok-clause-any_moment g c = leaves g (goal.at.returns-in-Ok-clause-any_moment g c).After-make_room

pub returns-in-Err-clause-any_moment : goal.returns-in-Err-clause-any_moment
returns-in-Err-clause-any_moment g c = leaves g (goal.at.returns-in-Err-clause-any_moment g c).After-make_room

pub returns-in-Ok-clause-stands : goal.returns-in-Ok-clause-stands
returns-in-Ok-clause-stands g c told table stands =
    let at = (goal.at.returns-in-Ok-clause-stands g c).After-make_room in
    let means = g.B.Board.means in
    let old = c.args.board.now in
    let new = c.make_room.new.board in
    let same = c.make_room.ensures.touches.same in
    room_stands means old new (was g at) (blocks_are g at) (sound_was g at) told table (stood g at table stands)
    c.make_room.new.journal c.wear-wear.ensures.lawful
    (subst (λ (v : Device). IsContent v.blocks (means.flash new).content) same (g.met.B.Board.content_pages new (tells_too same told)))
    (c.make_room.ensures.touches.others told) c.in-Ok.ensures.holds (c.in-Ok.ensures.stands told)

pub returns-in-Ok-clause-room_after : goal.returns-in-Ok-clause-room_after
returns-in-Ok-clause-room_after g c =
    subst (λ (v : InMemory). RoomAfter 0 v.journal.room c.make_room.new.journal.room) c.self.view_is c.in-Ok.ensures.room_after
