use Rattle.std.proofs.Common.{◌≡◌, ◌≤◌, ◌+◌, ℕ, List, Some, length, take, sym, ◌∙◌, ap, subst, arith}
use Rattle.std.proofs.lemmas.List.{take-append-le}
use Rattle.block_pool.specs.Blocks.{Blocks}
use Rattle.board.specs.Device.{Device}
use Rattle.board.specs.Flash.{IsContent, IsImage}
use Rattle.board.specs.Meaning.{TellsFlash}
use Rattle.board.specs.Moments.{LeavesOnly}
use Rattle.board.specs.Touches.{Touches}
use Rattle.board.proofs.Touching as touching
use Rattle.board.proofs.Works.{tells_too}
use Rattle.commit_gate.specs.Entries.{payload_pages}
use Rattle.image_table.specs.Standing.{HoldsEitherTable, HoldsTable}
use Rattle.meta_journal.specs.Standing as journals
use Rattle.pst_model.specs.Table.{Table}
use Rattle.request_laws.specs.Counting.{table_behind}
use Rattle.store_directory.specs.Directory.{Directory}
use Rattle.store_directory.specs.Folds.{fold_entry}
use Rattle.store_policy.specs.Shown.{IsTableShown}
use Rattle.vault.proofs.Committed.{IsSettled}
use Rattle.vault.proofs.Places.{take_whole}
use Rattle.vault.proofs.RequestRuns.{held_early, held_late, stands_last}
use Rattle.vault.proofs.RequestStands.{free_unlinked, links_within, request_sound, view_with}
use Rattle.vault.proofs.Sound.{kept_length}
use Rattle.vault.proofs.Stopped.{image_holds}
use Rattle.vault.specs.Changing.{IsKept, if_short, journal_pages}
use Rattle.vault.specs.Following.{Stores, stores_of}
use Rattle.vault.specs.Memory.{InMemory, IsSound, IsViewOf}
use Rattle.vault.specs.Requests.{IsPrepared}
use Rattle.vault.specs.Standing.{StandsFor}
use Rattle.vault.specs.declared.vault.Vault.TheInside.{Inside}
use Rattle.vault.proofs.vault.Vault.change.Given.{Over}
use Rattle.vault.proofs.vault.Vault.change.Goals as goal
use Rattle.vault.proofs.vault.Vault.change.Goals.{After-add_entry, After-settle}

-- a vault by its fields
abbrev fields : Inside → InMemory
fields v = record {
  directory = v.directory;
  indexes = v.indexes.items;
  lasts = v.lasts.items;
  pool = v.pool;
  journal = v.journal;
  blocks = v.blocks;
  held = v.held;
  is_open = v.is_open;
}

pub returns-in-Err-clause-any_moment : goal.returns-in-Err-clause-any_moment
returns-in-Err-clause-any_moment g c told table stands =
    let means = g.B.Board.means in
    let old = c.args.board.now in
    let mid = c.make_room.new.board in
    let is = c.self.view_is in
    let vault = fields c.self.inside in
    let items = c.args.instructions.now in
    subst (λ (v : InMemory). LeavesOnly means old mid (HoldsEitherTable v.blocks table (table_behind v.blocks c.args.acks items table))) is
    (held_early means old mid vault (ap (λ (v : InMemory). v.blocks) is ∙ c.requires.blocks)
    (c.self.invariant.1 (ap (λ (v : InMemory). v.is_open) is ∙ c.requires.is_open)) told table
    (subst (λ (v : InMemory). StandsFor v (means.flash old) table) (sym is) stands)
    (table_behind vault.blocks c.args.acks items table) c.make_room.ensures.any_moment c.make_room.ensures.touches.leaves)

pub prepare-carried-requires-clause-stores : goal.prepare-carried-requires-clause-stores
prepare-carried-requires-clause-stores g c =
    let vault = fields c.self.inside in
    let sound : IsSound vault = c.self.invariant.1 (ap (λ (v : InMemory). v.is_open) c.self.view_is ∙ c.requires.is_open) in
    sound.stores

pub prepare-carried-requires-clause-share : goal.prepare-carried-requires-clause-share
prepare-carried-requires-clause-share g c =
    let vault = fields c.self.inside in
    let sound : IsSound vault = c.self.invariant.1 (ap (λ (v : InMemory). v.is_open) c.self.view_is ∙ c.requires.is_open) in
    sound.share

sound_was : (g : Over) (c : After-add_entry g) → IsSound (fields c.self.inside)
sound_was g c = c.self.invariant.1 (ap (λ (v : InMemory). v.is_open) c.self.view_is ∙ c.requires.is_open)

-- the octets that were prepared are those that are added
out_long : (g : Over) (c : After-add_entry g) → length c.prepare-carried.new.out ≡ c.self.inside.buffer.len
out_long g c = c.prepare-carried.auto.out ∙ c.deref_mut-2.ensures.len

abbrev entry : (g : Over) (c : After-add_entry g) → List ℕ
entry g c = take c.prepare-carried.result.size c.deref.result.now

entry_is : (g : Over) (c : After-add_entry g) → entry g c ≡ take c.prepare-carried.result.size c.prepare-carried.new.out
entry_is g c =
    let long = out_long g c in
    ap (take c.prepare-carried.result.size)
    (c.deref.ensures.value ∙ take-append-le c.self.inside.buffer.len c.prepare-carried.new.out _ (omega (arith, long))
    ∙ take_whole c.prepare-carried.new.out c.self.inside.buffer.len (omega (arith, long)))

abbrev next_stores : (g : Over) (c : After-add_entry g) → Stores
next_stores g c = record {
  directory = c.prepare-carried.new.directory.directory;
  indexes = c.prepare-carried.new.indexes.items;
  lasts = c.prepare-carried.new.lasts.items;
}

prepared_here : (g : Over) (c : After-add_entry g) → IsPrepared c.self.inside.blocks c.args.acks c.args.instructions.now (stores_of (fields c.self.inside)) (next_stores g c)
    c.prepare-carried.result.refused.items (entry g c)
prepared_here g c =
    subst (λ (text : List ℕ). IsPrepared c.self.inside.blocks c.args.acks c.args.instructions.now (stores_of (fields c.self.inside)) (next_stores g c)
    c.prepare-carried.result.refused.items text) (sym (entry_is g c)) c.prepare-carried.ensures.prepared

-- each block of the stores is one of the device, and no free block is one of them

pub settle-requires-clause-within : goal.settle-requires-clause-within
settle-requires-clause-within g c =
    let at = (goal.at.settle-requires-clause-within g c).After-add_entry in
    links_within (fields c.self.inside) c.args.acks c.args.instructions.now c.prepare-carried.new.directory c.prepare-carried.new.indexes.items c.prepare-carried.new.lasts.items
    c.prepare-carried.result.refused.items (entry g at) (prepared_here g at) (sound_was g at)

pub settle-requires-clause-unlinked : goal.settle-requires-clause-unlinked
settle-requires-clause-unlinked g c =
    let at = (goal.at.settle-requires-clause-unlinked g c).After-add_entry in
    free_unlinked (fields c.self.inside) c.args.acks c.args.instructions.now c.prepare-carried.new.directory c.prepare-carried.new.indexes.items c.prepare-carried.new.lasts.items
    c.prepare-carried.result.refused.items (entry g at) (prepared_here g at) (sound_was g at)

-- what is settled once the entry was added
module _ (g : Over) (c : After-add_entry g) (pool : Blocks) (settled : IsSettled c.prepare-carried.new.directory.directory.stores c.self.inside.pool pool) where
  abbrev vault_now : InMemory
  vault_now = record (fields c.self.inside) {
    directory = c.prepare-carried.new.directory;
    indexes = c.prepare-carried.new.indexes.items;
    lasts = c.prepare-carried.new.lasts.items;
    pool = pool;
    journal = c.add_entry.new.journal;
  }

  sound_now : IsSound vault_now
  sound_now =
      request_sound (fields c.self.inside) c.args.acks c.args.instructions.now c.prepare-carried.new.directory c.prepare-carried.new.indexes.items c.prepare-carried.new.lasts.items
      c.prepare-carried.result.refused.items (entry g c) (prepared_here g c) (sound_was g c) pool settled c.add_entry.new.journal

run : (g : Over) (c : After-add_entry g) → Touches g.B.Board.means journal_pages (if_short c.self.inside.journal.room 85 + 5)
    (if_short c.self.inside.journal.room 7) (if_short c.self.inside.journal.room 13 + 2) c.args.board.now c.add_entry.new.board
run g c =
    let means = g.B.Board.means in
    let few : length (entry g c) ≤ 969 = (prepared_here g c).longest in
    let pages : payload_pages (length (entry g c)) ≤ 4 = omega (arith, few) in
    touching.touches_most means
    (touching.touches_on means journal_pages journal_pages c.args.board.now c.make_room.new.board c.add_entry.new.board (λ p out. out)
    c.make_room.ensures.touches c.add_entry.ensures.touches)
    (omega (arith, pages)) (omega arith) (omega arith)

touches : (g : Over) (c : After-add_entry g) → Touches g.B.Board.means journal_pages (if_short c.args.self.now.journal.room 85 + 5)
    (if_short c.args.self.now.journal.room 7) (if_short c.args.self.now.journal.room 13 + 2) c.args.board.now c.add_entry.new.board
touches g c =
    subst (λ (v : InMemory). Touches g.B.Board.means journal_pages (if_short v.journal.room 85 + 5) (if_short v.journal.room 7) (if_short v.journal.room 13 + 2)
    c.args.board.now c.add_entry.new.board) c.self.view_is (run g c)

pub returns-in-Ok-add_entry-clause-touches : goal.returns-in-Ok-add_entry-clause-touches
returns-in-Ok-add_entry-clause-touches g c = touches g (goal.at.returns-in-Ok-add_entry-clause-touches g c).After-add_entry

pub returns-in-Err-add_entry-clause-touches : goal.returns-in-Err-add_entry-clause-touches
returns-in-Err-add_entry-clause-touches g c = touches g (goal.at.returns-in-Err-add_entry-clause-touches g c).After-add_entry

leaves : (g : Over) (c : After-add_entry g) → TellsFlash g.B.Board.means c.args.board.now → (table : Table)
    → StandsFor c.args.self.now (g.B.Board.means.flash c.args.board.now) table
    → LeavesOnly g.B.Board.means c.args.board.now c.add_entry.new.board
    (HoldsEitherTable c.args.self.now.blocks table (table_behind c.args.self.now.blocks c.args.acks c.args.instructions.now table))
leaves g c told table stands =
    let means = g.B.Board.means in
    let old = c.args.board.now in
    let new = c.add_entry.new.board in
    let is = c.self.view_is in
    let vault = fields c.self.inside in
    let items = c.args.instructions.now in
    subst (λ (v : InMemory). LeavesOnly means old new (HoldsEitherTable v.blocks table (table_behind v.blocks c.args.acks items table))) is
    (held_late means old c.make_room.new.board vault (ap (λ (v : InMemory). v.blocks) is ∙ c.requires.blocks) (sound_was g c) told table
    (subst (λ (v : InMemory). StandsFor v (means.flash old) table) (sym is) stands) new c.args.acks items c.prepare-carried.new.directory
    c.prepare-carried.new.indexes.items c.prepare-carried.new.lasts.items c.prepare-carried.result.refused.items (entry g c) (prepared_here g c)
    c.make_room.ensures.touches.same c.in-Ok.ensures.holds c.make_room.ensures.any_moment c.add_entry.ensures.any_moment (run g c).leaves)

pub returns-in-Ok-add_entry-clause-any_moment : goal.returns-in-Ok-add_entry-clause-any_moment
returns-in-Ok-add_entry-clause-any_moment g c = leaves g (goal.at.returns-in-Ok-add_entry-clause-any_moment g c).After-add_entry

pub returns-in-Err-add_entry-clause-any_moment : goal.returns-in-Err-add_entry-clause-any_moment
returns-in-Err-add_entry-clause-any_moment g c = leaves g (goal.at.returns-in-Err-add_entry-clause-any_moment g c).After-add_entry

-- the vault in the end
stands_now : (g : Over) (c : After-add_entry g) (pool : Blocks) (settled : IsSettled c.prepare-carried.new.directory.directory.stores c.self.inside.pool pool)
    → TellsFlash g.B.Board.means c.args.board.now → (table : Table) → StandsFor c.args.self.now (g.B.Board.means.flash c.args.board.now) table
    → (TellsFlash g.B.Board.means c.make_room.new.board → (before after : Directory)
    → IsKept (g.B.Board.means.device c.make_room.new.board).blocks before (g.B.Board.means.flash c.make_room.new.board) → fold_entry before (entry g c) ≡ Some after
    → IsKept (g.B.Board.means.device c.make_room.new.board).blocks after (g.B.Board.means.flash c.add_entry.new.board))
    → journals.StandsFor c.add_entry.new.journal (g.B.Board.means.flash c.add_entry.new.board)
    → StandsFor (vault_now g c pool settled) (g.B.Board.means.flash c.add_entry.new.board) (table_behind c.args.self.now.blocks c.args.acks c.args.instructions.now table)
stands_now g c pool settled told table stands holds journal =
    let means = g.B.Board.means in
    let old = c.args.board.now in
    let new = c.add_entry.new.board in
    let is = c.self.view_is in
    let vault = fields c.self.inside in
    let items = c.args.instructions.now in
    let same = (run g c).same in
    subst (λ (v : InMemory). StandsFor (vault_now g c pool settled) (means.flash new) (table_behind v.blocks c.args.acks items table)) is
    (stands_last means old c.make_room.new.board vault (ap (λ (v : InMemory). v.blocks) is ∙ c.requires.blocks) (sound_was g c) told table
    (subst (λ (v : InMemory). StandsFor v (means.flash old) table) (sym is) stands) new c.args.acks items c.prepare-carried.new.directory
    c.prepare-carried.new.indexes.items c.prepare-carried.new.lasts.items c.prepare-carried.result.refused.items (entry g c) (prepared_here g c)
    c.make_room.ensures.touches.same c.in-Ok.ensures.holds pool settled c.add_entry.new.journal c.wear-wear.ensures.lawful
    (subst (λ (v : Device). IsContent v.blocks (means.flash new).content) same (g.met.B.Board.content_pages new (tells_too same told)))
    ((run g c).others told) holds journal)

settled : (g : Over) (c : After-settle g) → IsSettled c.prepare-carried.new.directory.directory.stores c.self.inside.pool c.settle.new.pool
settled g c = record {
  free = c.settle.ensures.free;
  ready = c.settle.ensures.ready;
  given = c.settle.ensures.given;
  wear = c.settle.ensures.wear;
}

pub returns-in-Ok-add_entry-clause-stands : goal.returns-in-Ok-add_entry-clause-stands
returns-in-Ok-add_entry-clause-stands g c told table stands =
    let at = goal.at.returns-in-Ok-add_entry-clause-stands g c in
    stands_now g at.After-add_entry c.settle.new.pool (settled g at.After-settle) told table stands c.in-Ok-add_entry.ensures.holds
    (c.in-Ok-add_entry.ensures.stands (tells_too c.make_room.ensures.touches.same told))

pub returns-in-Ok-add_entry-clause-holds : goal.returns-in-Ok-add_entry-clause-holds
returns-in-Ok-add_entry-clause-holds g c told table stands image left =
    let at = goal.at.returns-in-Ok-add_entry-clause-holds g c in
    let pool = c.settle.new.pool in
    let given = settled g at.After-settle in
    let means = g.B.Board.means in
    let new = c.add_entry.new.board in
    let is = c.self.view_is in
    let same = (run g at.After-add_entry).same in
    subst (λ (v : InMemory). HoldsTable v.blocks (table_behind c.args.self.now.blocks c.args.acks c.args.instructions.now table) image) is
    (image_holds (vault_now g at.After-add_entry pool given) (means.flash new) (table_behind c.args.self.now.blocks c.args.acks c.args.instructions.now table) image
    (sound_now g at.After-add_entry pool given)
    (stands_now g at.After-add_entry pool given told table stands c.in-Ok-add_entry.ensures.holds (c.in-Ok-add_entry.ensures.stands (tells_too c.make_room.ensures.touches.same told)))
    (subst (λ (n : ℕ). IsImage n (means.flash new) image) (sym (ap (λ (v : InMemory). v.blocks) is ∙ c.requires.blocks))
    (subst (λ (v : Device). IsImage v.blocks (means.flash new) image) same (g.met.B.Board.images_now new image (tells_too same told) left))))

pub returns-in-Ok-add_entry-clause-shown : goal.returns-in-Ok-add_entry-clause-shown
returns-in-Ok-add_entry-clause-shown g c table view after is_view is_after shown =
    let at = goal.at.returns-in-Ok-add_entry-clause-shown g c in
    let is = c.self.view_is in
    let vault = fields c.self.inside in
    subst (λ (v : InMemory). IsTableShown (table_behind v.blocks c.args.acks c.args.instructions.now table) after) is
    ((prepared_here g at.After-add_entry).shown table view after
    (view_with vault view (subst (λ (v : InMemory). IsViewOf view v) (sym is) is_view))
    (view_with (vault_now g at.After-add_entry c.settle.new.pool (settled g at.After-settle)) after is_after) shown)

pub returns-in-Ok-add_entry-clause-sound : goal.returns-in-Ok-add_entry-clause-sound
returns-in-Ok-add_entry-clause-sound g c =
    let at = goal.at.returns-in-Ok-add_entry-clause-sound g c in
    sound_now g at.After-add_entry c.settle.new.pool (settled g at.After-settle)

pub invariant_of-self-in-Ok-add_entry : goal.invariant_of-self-in-Ok-add_entry
invariant_of-self-in-Ok-add_entry g c =
    let at = goal.at.invariant_of-self-in-Ok-add_entry g c in (
      kept_length c.self.inside.buffer.len c.prepare-carried.new.out _ (out_long g at.After-add_entry)
          ∙ sym c.deref_mut.ensures.len ∙ ap length c.deref_mut.ensures.value ∙ c.self.invariant.0,
      λ still. sound_now g at.After-add_entry c.settle.new.pool (settled g at.After-settle),
    )
