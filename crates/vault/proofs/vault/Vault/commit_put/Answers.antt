use Rattle.std.proofs.Common.{◌≡◌, true, length, Some, sym, subst}
use Rattle.board.specs.Device.{Device}
use Rattle.board.specs.Flash.{IsContent}
use Rattle.board.specs.Meaning.{TellsFlash}
use Rattle.board.specs.Moments.{LeavesOnly}
use Rattle.board.proofs.Works.{tells_too}
use Rattle.image_table.specs.Standing.{HoldsEitherTable}
use Rattle.image_table.specs.Table.{table_by}
use Rattle.pst_model.specs.Table.{Stored, Table}
use Rattle.vault.proofs.Committed.{IsSettled, put_sound}
use Rattle.vault.proofs.CommittedPuts.{commit_leaves, commit_stands}
use Rattle.vault.specs.Memory.{InMemory, IsSound}
use Rattle.vault.specs.Putting.{HasPutAll}
use Rattle.vault.specs.Standing.{StandsFor}
use Rattle.vault.specs.Storing.{IsOffering}
use Rattle.vault.specs.declared.vault.Vault.TheInside.{Inside}
use Rattle.vault.proofs.vault.Vault.commit_put.Given.{Over}
use Rattle.vault.proofs.vault.Vault.commit_put.Goals as goal
use Rattle.vault.proofs.vault.Vault.commit_put.Goals.{After-add_entry, After-settle}
use Rattle.std.proofs.Common.{◌+◌, ◌≤◌, arith}
use Rattle.commit_gate.specs.Entries.{payload_pages}
use Rattle.vault.proofs.RoomAfters.{room_most}
use Rattle.vault.specs.Changing.{RoomAfter}

-- a vault by its fields
abbrev fields : Inside → InMemory
fields v = record {
  directory = v.directory;
  indexes = v.indexes.items;
  lasts = v.lasts.items;
  pool = v.pool;
  journal = v.journal;
  blocks = v.blocks;
  held = v.held;
  is_open = v.is_open;
}

settled : (g : Over) (c : After-settle g) → IsSettled c.self.inside.directory.stores c.self.inside.pool c.settle.new.pool
settled g c = record {
  free = c.settle.ensures.free;
  ready = c.settle.ensures.ready;
  given = c.settle.ensures.given;
  wear = c.settle.ensures.wear;
}

sound_now : (g : Over) (c : After-settle g) → IsSound (record (fields c.self.inside) { pool = c.settle.new.pool; journal = c.add_entry.new.journal; is_open = true })
sound_now g c =
    let vault = fields c.self.inside in
    let (start, first, stored, has) = c.requires.put in
    let at = length first.directory.stores in
    put_sound first vault stored at has.changes c.args.text.now
    (subst (λ (v : InMemory). IsOffering first v stored at has.changes c.args.text.now) (sym c.self.view_is) has.memory)
    c.settle.new.pool (settled g c) c.add_entry.new.journal

pub invariant_of-self : goal.invariant_of-self
invariant_of-self g c = (c.self.invariant.0, λ still. sound_now g (goal.at.invariant_of-self g c).After-settle)

pub returns-in-Ok-clause-sound : goal.returns-in-Ok-clause-sound
returns-in-Ok-clause-sound g c = sound_now g (goal.at.returns-in-Ok-clause-sound g c).After-settle

leaves : (g : Over) (c : After-add_entry g) → TellsFlash g.B.Board.means c.args.board.now → (start : g.row.B.Denot) (first : InMemory) (stored : Stored)
    → HasPutAll g.B.Board.means start c.args.board.now first c.args.self.now stored c.args.text.now
    → (table next : Table) → StandsFor first (g.B.Board.means.flash start) table
    → table_by c.args.self.now.blocks (g.B.Board.means.flash c.args.board.now).content c.args.self.now.directory.directory ≡ Some next
    → LeavesOnly g.B.Board.means c.args.board.now c.add_entry.new.board (HoldsEitherTable c.args.self.now.blocks table next)
leaves g c told start first stored has table next stands by =
    let means = g.B.Board.means in
    let board = c.args.board.now in
    let text = c.args.text.now in
    subst (λ (v : InMemory). LeavesOnly means board c.add_entry.new.board (HoldsEitherTable v.blocks table next)) c.self.view_is
    (commit_leaves means start board c.add_entry.new.board first (fields c.self.inside) stored text c.octets.result.now
    (subst (λ (v : InMemory). HasPutAll means start board first v stored text) (sym c.self.view_is) has) c.octets.ensures.octets told table stands next
    (subst (λ (v : InMemory). table_by v.blocks (means.flash board).content v.directory.directory ≡ Some next) (sym c.self.view_is) by)
    c.add_entry.ensures.either)

pub returns-in-Ok-clause-any_moment : goal.returns-in-Ok-clause-any_moment
returns-in-Ok-clause-any_moment g c = leaves g (goal.at.returns-in-Ok-clause-any_moment g c).After-add_entry

pub returns-in-Err-clause-any_moment : goal.returns-in-Err-clause-any_moment
returns-in-Err-clause-any_moment g c = leaves g (goal.at.returns-in-Err-clause-any_moment g c).After-add_entry

pub returns-in-Ok-clause-stands : goal.returns-in-Ok-clause-stands
returns-in-Ok-clause-stands g c told start first stored has table next stands by =
    let at = (goal.at.returns-in-Ok-clause-stands g c).After-settle in
    let means = g.B.Board.means in
    let board = c.args.board.now in
    let new = c.add_entry.new.board in
    let text = c.args.text.now in
    let same = c.add_entry.ensures.touches.same in
    commit_stands means start board new first (fields c.self.inside) stored text c.octets.result.now
    (subst (λ (v : InMemory). HasPutAll means start board first v stored text) (sym c.self.view_is) has) c.octets.ensures.octets told table stands next
    (subst (λ (v : InMemory). table_by v.blocks (means.flash board).content v.directory.directory ≡ Some next) (sym c.self.view_is) by)
    c.settle.new.pool (settled g at) c.add_entry.new.journal
    (subst (λ (v : Device). IsContent v.blocks (means.flash new).content) same (g.met.B.Board.content_pages new (tells_too same told)))
    (c.add_entry.ensures.touches.others told) c.in-Ok.ensures.holds (c.in-Ok.ensures.stands told) (c.in-Ok.ensures.is_firm told)

pub returns-in-Ok-clause-room : goal.returns-in-Ok-clause-room
returns-in-Ok-clause-room g c =
    let pages = 1 + payload_pages (length c.octets.result.now) in
    let few : pages ≤ 7 = omega (arith, c.octets.ensures.longest) in
    room_most (subst (λ (v : InMemory). RoomAfter pages v.journal.room c.add_entry.new.journal.room) c.self.view_is c.in-Ok.ensures.room_after) few
