use Rattle.std.proofs.Common.{◌≡◌, ℕ, Result, Err, length, drop, sym, ◌∙◌, ap, subst, true}
use Rattle.std.specs.Prelude.{⊤, OnErr, OnOk, None, Some}
use Rattle.board.specs.Device.{Device}
use Rattle.board.specs.Flash.{IsContent, IsImage, loosened}
use Rattle.board.specs.Meaning.{TellsFlash}
use Rattle.board.specs.Moments.{LeavesOnly}
use Rattle.board.proofs.Works.{tells_too}
use Rattle.board.proofs.Stops.{leaves_both}
use Rattle.image_table.specs.Standing.{HoldsEitherTable}
use Rattle.meta_journal.specs.Standing as journals
use Rattle.pst_model.specs.Table.{Table}
use Rattle.store_directory.specs.Changes.{Change, apply}
use Rattle.store_directory.specs.Directory.{Directory}
use Rattle.store_directory.specs.Kept.{Kept, NeedsRoom, change_of}
use Rattle.store_directory.specs.Slots.{AreWithin, largest_in}
use Rattle.store_directory.specs.declared.fault.ApplyFault.{ApplyFault}
use Rattle.store_directory.specs.declared.fault.ApplyFault.TheVariants as faults
use Rattle.vault.proofs.Entered.{entered_stands, made_by, no_memory, one_held, sound_entered}
use Rattle.vault.proofs.Sound.{kept_length}
use Rattle.vault.specs.Changing.{Becomes, CanBeEntered, HoldsOne, IsKept, MovesNone, NeedsNone, journal_pages}
use Rattle.vault.specs.Memory.{InMemory, IsSound}
use Rattle.vault.specs.Standing.{StandsFor}
use Rattle.vault.proofs.vault.Vault.enter.Given.{Over}
use Rattle.vault.proofs.vault.Vault.enter.Goals as goal
use Rattle.vault.proofs.vault.Vault.enter.Goals.{After-save}
use Rattle.std.proofs.Common.{◌+◌}
use Rattle.commit_gate.specs.Entries.{payload_pages}
use Rattle.store_directory.specs.Entries.{change_octets}
use Rattle.vault.specs.Changing.{RoomAfter}

-- the vault as it was, by its fields
abbrev was : (g : Over) (c : After-save g) → InMemory
was g c = record {
  directory = c.self.inside.directory;
  indexes = c.self.inside.indexes.items;
  lasts = c.self.inside.lasts.items;
  pool = c.self.inside.pool;
  journal = c.self.inside.journal;
  blocks = c.self.inside.blocks;
  held = c.self.inside.held;
  is_open = c.self.inside.is_open;
}

abbrev change : (g : Over) (c : After-save g) → Change
change g c = change_of c.args.change.now

opened : (g : Over) (c : After-save g) → c.self.inside.is_open ≡ true
opened g c = ap (λ (v : InMemory). v.is_open) c.self.view_is ∙ c.requires.is_open

sound_was : (g : Over) (c : After-save g) → IsSound (was g c)
sound_was g c = c.self.invariant.1 (opened g c)

blocks_are : (g : Over) (c : After-save g) → c.self.inside.blocks ≡ (g.B.Board.means.device c.args.board.now).blocks
blocks_are g c = ap (λ (v : InMemory). v.blocks) c.self.view_is ∙ c.requires.blocks

-- the directory behind the change
entered : (g : Over) (c : After-save g) → CanBeEntered c.self.inside.directory.directory (change g c)
entered g c = subst (λ (v : InMemory). CanBeEntered v.directory.directory (change g c)) (sym c.self.view_is) c.requires.can_be_entered

stood : (g : Over) (c : After-save g) (table : Table) → StandsFor c.args.self.now (g.B.Board.means.flash c.args.board.now) table
    → StandsFor (was g c) (g.B.Board.means.flash c.args.board.now) table
stood g c table stands = subst (λ (v : InMemory). StandsFor v (g.B.Board.means.flash c.args.board.now) table) (sym c.self.view_is) stands

becomes : (g : Over) (c : After-save g) (next : Table) → Becomes c.args.self.now (change g c) (g.B.Board.means.flash c.args.board.now) next
    → Becomes (was g c) (change g c) (g.B.Board.means.flash c.args.board.now) next
becomes g c next is = subst (λ (v : InMemory). Becomes v (change g c) (g.B.Board.means.flash c.args.board.now) next) (sym c.self.view_is) is

kept_was : (g : Over) (c : After-save g) (table : Table) → StandsFor (was g c) (g.B.Board.means.flash c.args.board.now) table
    → IsKept (g.B.Board.means.device c.args.board.now).blocks c.self.inside.directory.directory (g.B.Board.means.flash c.args.board.now)
kept_was g c table stands =
    subst (λ (n : ℕ). IsKept n c.self.inside.directory.directory (g.B.Board.means.flash c.args.board.now)) (blocks_are g c)
    (record { holds = stands.directory; is_firm = stands.firm_journal })

leaves : (g : Over) (c : After-save g) → TellsFlash g.B.Board.means c.args.board.now → (table next : Table)
    → StandsFor c.args.self.now (g.B.Board.means.flash c.args.board.now) table
    → Becomes c.args.self.now (change g c) (g.B.Board.means.flash c.args.board.now) next
    → LeavesOnly g.B.Board.means c.args.board.now c.save.new.board (HoldsEitherTable c.args.self.now.blocks table next)
leaves g c told table next stands is =
    let means = g.B.Board.means in
    let old = c.args.board.now in
    let new = c.save.new.board in
    let flash = means.flash old in
    let vault = was g c in
    let d = vault.directory.directory in
    let by = blocks_are g c in
    let here = stood g c table stands in
    let (after, applied, moves) = entered g c in
    subst (λ (v : InMemory). LeavesOnly means old new (HoldsEitherTable v.blocks table next)) c.self.view_is
    (leaves_both means old new (HoldsOne vault.blocks d after) (IsImage vault.blocks (loosened journal_pages flash))
    (HoldsEitherTable vault.blocks table next)
    (subst (λ (n : ℕ). LeavesOnly means old new (HoldsOne n d after)) (sym by)
    (c.save.ensures.any_moment told after (kept_was g c table here) applied))
    (subst (λ (n : ℕ). LeavesOnly means old new (IsImage n (loosened journal_pages flash))) (sym by) (c.save.ensures.touches.leaves told))
    (one_held vault flash table (sound_was g c) here after moves next (becomes g c next is after applied)))

pub returns-in-Ok-clause-any_moment : goal.returns-in-Ok-clause-any_moment
returns-in-Ok-clause-any_moment g c = leaves g (goal.at.returns-in-Ok-clause-any_moment g c).After-save

pub returns-in-Err-clause-any_moment : goal.returns-in-Err-clause-any_moment
returns-in-Err-clause-any_moment g c = leaves g (goal.at.returns-in-Err-clause-any_moment g c).After-save

-- the directory in the end, of an answer that is Ok
record Entered (g : Over) (c : After-save g) (next : Kept) : Type 0 where
  applied : apply c.self.inside.directory.directory (change g c) ≡ Some next.directory
  moves : MovesNone c.self.inside.directory.directory next.directory

next_is : (g : Over) (c : After-save g) (r : Result ⊤ ApplyFault) (next : Kept)
    → OnOk r (apply c.self.inside.directory.directory (change g c) ≡ Some next.directory)
    → (r ≡ Err faults.Unfit → apply c.self.inside.directory.directory (change g c) ≡ None)
    → (r ≡ Err faults.NoMemory → NeedsRoom (change g c) (largest_in c.self.inside.directory.sizes))
    → OnErr r (next ≡ c.self.inside.directory) → AreWithin (record { stores = next.stores; sizes = next.sizes })
    → Entered g c next
next_is g c r next ok unfit memory failed within =
    let d = c.self.inside.directory in
    let (after, applied, moves) = entered g c in
    let none = subst (λ (v : InMemory). NeedsNone (change g c) v.directory.stores) (sym c.self.view_is) c.requires.memory in
    let same : after ≡ next.directory =
    made_by r d.directory next.directory after (change g c) ok unfit (no_memory r d next (change g c) none memory failed within) applied in
    record {
      applied = applied ∙ ap Some same;
      moves = subst (λ (e : Directory). MovesNone d.directory e) same moves;
    }

-- the vault in the end
stands_now : (g : Over) (c : After-save g) (next : Kept) → Entered g c next → TellsFlash g.B.Board.means c.args.board.now
    → journals.StandsFor c.save.new.journal (g.B.Board.means.flash c.save.new.board)
    → ((after : Directory) → IsKept (g.B.Board.means.device c.args.board.now).blocks c.self.inside.directory.directory (g.B.Board.means.flash c.args.board.now)
    → apply c.self.inside.directory.directory (change g c) ≡ Some after
    → IsKept (g.B.Board.means.device c.args.board.now).blocks after (g.B.Board.means.flash c.save.new.board))
    → (table made : Table) → StandsFor c.args.self.now (g.B.Board.means.flash c.args.board.now) table
    → Becomes c.args.self.now (change g c) (g.B.Board.means.flash c.args.board.now) made
    → StandsFor (record (was g c) { directory = next; journal = c.save.new.journal }) (g.B.Board.means.flash c.save.new.board) made
stands_now g c next is told journal holds table made stands behind =
    let means = g.B.Board.means in
    let old = c.args.board.now in
    let new = c.save.new.board in
    let vault = was g c in
    let by = blocks_are g c in
    let same = c.save.ensures.touches.same in
    let here = stood g c table stands in
    entered_stands vault (means.flash old) table (sound_was g c) here next is.moves made (becomes g c made behind next.directory is.applied)
    (means.flash new) c.save.new.journal c.wear-wear.ensures.lawful
    (subst (λ (n : ℕ). IsContent n (means.flash new).content) (sym by)
    (subst (λ (v : Device). IsContent v.blocks (means.flash new).content) same (g.met.B.Board.content_pages new (tells_too same told))))
    (c.save.ensures.touches.others told)
    (subst (λ (n : ℕ). IsKept n next.directory (means.flash new)) (sym by) (holds next.directory (kept_was g c table here) is.applied))
    journal

pub returns-in-Ok-clause-stands : goal.returns-in-Ok-clause-stands
returns-in-Ok-clause-stands g c told table made stands behind =
    let at = goal.at.returns-in-Ok-clause-stands g c in
    stands_now g at.After-save c.apply.new.self
    (next_is g at.After-save c.apply.result c.apply.new.self c.apply.ensures.ok c.apply.ensures.unfit c.apply.ensures.memory c.apply.ensures.err c.len.ensures.within)
    told (c.in-Ok.ensures.stands told) (c.in-Ok.ensures.holds told) table made stands behind

pub returns-in-Ok-clause-after : goal.returns-in-Ok-clause-after
returns-in-Ok-clause-after g c =
    let at = goal.at.returns-in-Ok-clause-after g c in
    let open_is = opened g at.After-save in
    let is =
    next_is g at.After-save c.apply.result c.apply.new.self c.apply.ensures.ok c.apply.ensures.unfit c.apply.ensures.memory c.apply.ensures.err c.len.ensures.within in
    record {
      others = λ i. record (c.self.view_is i) { directory = c.apply.new.self; journal = c.save.new.journal; is_open = open_is i };
      directory = subst (λ (v : InMemory). apply v.directory.directory (change g at.After-save) ≡ Some c.apply.new.self.directory) c.self.view_is is.applied;
    }

pub returns-in-Ok-clause-sound : goal.returns-in-Ok-clause-sound
returns-in-Ok-clause-sound g c =
    let at = goal.at.returns-in-Ok-clause-sound g c in
    sound_entered (was g at.After-save) c.apply.new.self c.save.new.journal (sound_was g at.After-save) c.len.ensures.kept
    (next_is g at.After-save c.apply.result c.apply.new.self c.apply.ensures.ok c.apply.ensures.unfit c.apply.ensures.memory c.apply.ensures.err c.len.ensures.within).moves

pub invariant_of-self : goal.invariant_of-self
invariant_of-self g c =
    let at = goal.at.invariant_of-self g c in (
      kept_length c.self.inside.buffer.len c.save.new.buffer (drop (length c.save.new.buffer) c.self.inside.buffer.items)
          (c.save.auto.buffer ∙ c.deref_mut.ensures.len)
          ∙ sym c.deref_mut.ensures.len ∙ ap length c.deref_mut.ensures.value ∙ c.self.invariant.0,
      λ still. sound_entered (was g at.After-save) c.apply.new.self c.save.new.journal (sound_was g at.After-save) c.len.ensures.kept
          (next_is g at.After-save c.apply.result c.apply.new.self c.apply.ensures.ok c.apply.ensures.unfit c.apply.ensures.memory c.apply.ensures.err c.len.ensures.within).moves,
    )

pub returns-in-Ok-clause-room : goal.returns-in-Ok-clause-room
returns-in-Ok-clause-room g c =
    let pages = 1 + payload_pages (length (change_octets (change_of c.args.change.now))) in
    subst (λ (v : InMemory). RoomAfter pages v.journal.room c.save.new.journal.room) c.self.view_is c.in-Ok.ensures.room_after
