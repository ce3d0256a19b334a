use Rattle.std.proofs.Common.{◌≡◌, ◌<◌, ℕ, Bool, true, false, All, List, length, drop, Some, Ok, Err, set, sym, ◌∙◌, ap, subst, arith}
use Rattle.std.specs.Prelude.{⊤, slice_get}
use Rattle.block_pool.specs.Blocks.{blocks_of, is_free}
use Rattle.board.specs.Flash.{IsContent}
use Rattle.board.specs.Meaning.{TellsFlash}
use Rattle.control_defs.specs.declared.patterns.Pattern.{Pattern}
use Rattle.store_directory.specs.Directory.{Listed}
use Rattle.store_load.specs.Keeping.{IsInDevice}
use Rattle.vault.proofs.EachStores.{as_many_lasts}
use Rattle.vault.proofs.Loads.{own_at}
use Rattle.vault.proofs.RenewedMemory.{IsStoreAt, free_apart, fresh_fits, got_read, old_data, old_taken, read_store, some_free, some_links, store_here}
use Rattle.vault.proofs.RenewRuns.{StandsIfTold}
use Rattle.vault.proofs.Sound.{kept_length}
use Rattle.vault.proofs.Swapping as swapping
use Rattle.vault.specs.Memory.{InMemory, IsSound, IsSoundStore, has_link}
use Rattle.vault.specs.Renewing.{AtPlace, IsLinked, Renews, RenewsAt}
use Rattle.vault.specs.declared.fault.VaultFault.{VaultFault}
use Rattle.vault.specs.declared.fault.VaultFault.TheVariants.{Flash}
use Rattle.vault.specs.declared.last_block.LastBlock.{LastBlock}
use Rattle.vault.specs.declared.vault.Vault.TheInside.{Inside}
use Rattle.vault.proofs.vault.Vault.swap_last.Given.{Over}
use Rattle.vault.proofs.vault.Vault.swap_last.Goals as goal
use Rattle.vault.proofs.vault.Vault.swap_last.Goals.{After-deref_mut}

-- a vault by its fields
abbrev fields : Inside → InMemory
fields v = record {
  directory = v.directory;
  indexes = v.indexes.items;
  lasts = v.lasts.items;
  pool = v.pool;
  journal = v.journal;
  blocks = v.blocks;
  held = v.held;
  is_open = v.is_open;
}

-- the vault as it was
abbrev was : (g : Over) (c : After-deref_mut g) → InMemory
was g c = fields c.self.inside

is_open : (g : Over) (c : After-deref_mut g) → c.self.inside.is_open ≡ true
is_open g c = ap (λ (v : InMemory). v.is_open) c.self.view_is ∙ c.requires.is_open

sound_was : (g : Over) (c : After-deref_mut g) → IsSound (was g c)
sound_was g c = c.self.invariant.1 (is_open g c)

blocks_are : (g : Over) (c : After-deref_mut g) → c.self.inside.blocks ≡ (g.B.Board.means.device c.args.board.now).blocks
blocks_are g c = ap (λ (v : InMemory). v.blocks) c.self.view_is ∙ c.requires.blocks

stood : (g : Over) (c : After-deref_mut g) → StandsIfTold g.B.Board.means c.args.board.now (was g c)
stood g c = subst (λ (v : InMemory). StandsIfTold g.B.Board.means c.args.board.now v) (sym c.self.view_is) c.requires.flash

content : (g : Over) (board : g.row.B.Denot) → TellsFlash g.B.Board.means board
    → IsContent (g.B.Board.means.device board).blocks (g.B.Board.means.flash board).content
content g board told = g.met.B.Board.content_pages board told

within : (g : Over) (c : After-deref_mut g) → c.args.at < length c.self.inside.directory.stores
within g c = subst (λ (v : InMemory). c.args.at < length v.directory.stores) (sym c.self.view_is) c.requires.within

-- the store that was read

patterns : (g : Over) (c : After-deref_mut g)
    → (patterns : List Pattern) × (slice_get c.self.inside.directory.stores c.args.at ≡ Some (record { row = c.row.result.now; patterns = patterns; links = c.links.result.now }))
patterns g c = read_store c.self.inside.directory.stores c.args.at c.row.result.now c.links.result.now (within g c) c.row.ensures c.links.ensures

abbrev store : (g : Over) (c : After-deref_mut g) → Listed
store g c = record { row = c.row.result.now; patterns = (patterns g c).0; links = c.links.result.now }

here : (g : Over) (c : After-deref_mut g) → (last : LastBlock) × IsStoreAt (was g c) c.args.at (store g c) c.index_mut.result.now last
here g c =
    let vault = was g c in
    let sound = sound_was g c in
    let many = sound.as_many in
    let low = within g c in
    store_here vault c.args.at (store g c) c.index_mut.result.now sound (patterns g c).1
    (got_read vault.indexes c.args.at c.index_mut.result.now (omega (arith, many, low)) c.index_mut.ensures.value)

linked : (g : Over) (c : After-deref_mut g) → has_link c.links.result.now ≡ true
linked g c =
    subst (λ (v : InMemory). AtPlace v c.args.at IsLinked) (sym c.self.view_is) c.requires.linked (store g c) c.index_mut.result.now (here g c).0
    (here g c).1.there (here g c).1.indexed (here g c).1.lasting

pub copy_last-copied-requires-clause-some : goal.copy_last-copied-requires-clause-some
copy_last-copied-requires-clause-some g c = some_free (was g c) (sound_was g c) c.wear.ensures.lawful

pub copy_last-copied-requires-clause-in_range : goal.copy_last-copied-requires-clause-in_range
copy_last-copied-requires-clause-in_range g c = (c.self.inside.directory.now, (here g c).0.used, (here g c).1.is_sound.in_place.in_range)

pub copy_last-copied-requires-clause-linked : goal.copy_last-copied-requires-clause-linked
copy_last-copied-requires-clause-linked g c = some_links c.links.result.now (linked g c)

pub copy_last-copied-requires-clause-own : goal.copy_last-copied-requires-clause-own
copy_last-copied-requires-clause-own g c =
    subst (λ (n : ℕ). All (IsInDevice n) c.links.result.now) (blocks_are g c)
    (own_at c.self.inside.blocks c.self.inside.directory.stores c.args.at (store g c) (sound_was g c).share (patterns g c).1)

pub copy_last-copied-requires-clause-apart : goal.copy_last-copied-requires-clause-apart
copy_last-copied-requires-clause-apart g c block free = free_apart (was g c) c.args.at (store g c) block (sound_was g c) (patterns g c).1 free

pub returns-in-Err-clause-renews : goal.returns-in-Err-clause-renews
returns-in-Err-clause-renews g c =
    let at = (goal.at.returns-in-Err-clause-renews g c).After-deref_mut in
    let means = g.B.Board.means in
    let old = c.args.board.now in
    let mid = c.copy_last-copied.new.board in
    let copied = c.in-Err.ensures in
    let indexes = set c.self.inside.indexes.items c.args.at c.copy_last-copied.new.index in
    let now : InMemory = record (was g at) { indexes = indexes; pool = c.copy_last-copied.new.pool; is_open = false } in
    subst (λ (v : InMemory). Renews {A = ⊤} means old mid v now (Err c.fault_of.result)) c.self.view_is
    (subst (λ (f : VaultFault). Renews {A = ⊤} means old mid (was g at) now (Err f)) (sym c.fault_of.ensures)
    (swapping.copy_failed means (content g) old mid (was g at) (blocks_are g at) (sound_was g at) (stood g at) c.args.at (store g at) c.index_mut.result.now
    (here g at).0 (here g at).1 (linked g at)
    c.in-Err.fault indexes c.copy_last-copied.new.pool copied.copies copied.differs copied.agrees copied.no_fault copied.cause))

-- the entry

pub add-requires-clause-fits : goal.add-requires-clause-fits
add-requires-clause-fits g c =
    let at = (goal.at.add-requires-clause-fits g c).After-deref_mut in
    let copied = c.in-Ok.ensures in
    let fits = fresh_fits (was g at) (sound_was g at) c.args.at (store g at) c.index_mut.result.now (here g at).0 (here g at).1 (linked g at) c.in-Ok.copy.block
    copied.taken.taken.was_free in
    ((here g at).1.listed.fits.identifier, (fits.0, subst (λ (n : ℕ). n < 4294967296) (sym copied.copy.first) fits.1))

pub add-requires-clause-stands : goal.add-requires-clause-stands
add-requires-clause-stands g c =
    let at = (goal.at.add-requires-clause-stands g c).After-deref_mut in
    let means = g.B.Board.means in
    let old = c.args.board.now in
    let mid = c.copy_last-copied.new.board in
    let copied = c.in-Ok.ensures in
    swapping.journal_mid means (content g) old mid (was g at) (blocks_are g at) (sound_was g at) (stood g at) c.args.at (store g at) c.index_mut.result.now
    (here g at).0 (here g at).1 (linked g at)
    c.in-Ok.copy copied.copies copied.copy copied.spelled copied.clean copied.no_fault

pub give-requires-clause-block : goal.give-requires-clause-block
give-requires-clause-block g c =
    let at = (goal.at.give-requires-clause-block g c).After-deref_mut in
    let copied = c.in-Ok.ensures in
    let range = old_data (was g at) (sound_was g at) c.args.at (store g at) c.index_mut.result.now (here g at).0 (here g at).1 (linked g at) c.in-Ok.copy.block
    copied.taken.taken.was_free in
    let is = copied.copy.old in
    let many = copied.taken.many in
    let all = (sound_was g at).pool_blocks in
    (omega (arith, range.0, is), omega (arith, range.1, is, many, all))

pub give-requires-clause-taken : goal.give-requires-clause-taken
give-requires-clause-taken g c =
    let at = (goal.at.give-requires-clause-taken g c).After-deref_mut in
    let copied = c.in-Ok.ensures in
    ap (is_free c.copy_last-copied.new.pool) copied.copy.old
    ∙ old_taken (was g at) (sound_was g at) c.args.at (store g at) c.index_mut.result.now (here g at).0 (here g at).1 (linked g at) c.in-Ok.copy.block
    copied.taken.taken.was_free c.copy_last-copied.new.pool copied.taken.taken.free

pub index_mut-requires-in-Ok-add : goal.index_mut-requires-in-Ok-add
index_mut-requires-in-Ok-add g c =
    let at = (goal.at.index_mut-requires-in-Ok-add g c).After-deref_mut in
    let vault = was g at in
    let many = as_many_lasts (IsSoundStore vault.directory.now) vault.directory.stores vault.indexes vault.lasts (sound_was g at).stores in
    let low = within g at in
    omega (arith, many, low)

pub returns-in-Err-add-clause-renews : goal.returns-in-Err-add-clause-renews
returns-in-Err-add-clause-renews g c =
    let at = (goal.at.returns-in-Err-add-clause-renews g c).After-deref_mut in
    let means = g.B.Board.means in
    let old = c.args.board.now in
    let mid = c.copy_last-copied.new.board in
    let copied = c.in-Ok.ensures in
    let indexes = set c.self.inside.indexes.items c.args.at c.copy_last-copied.new.index in
    let now : InMemory = record (was g at) { indexes = indexes; pool = c.copy_last-copied.new.pool; journal = c.add.new.journal; is_open = false } in
    subst (λ (v : InMemory). Renews {A = ⊤} means old c.add.new.board v now (Err Flash)) c.self.view_is
    (swapping.entry_failed means (content g) old mid (was g at) (blocks_are g at) (sound_was g at) (stood g at) c.args.at (store g at) c.index_mut.result.now
    (here g at).0 (here g at).1 (linked g at)
    c.in-Ok.copy copied.copies copied.copy copied.spelled copied.clean copied.no_fault c.add.new.board c.add.ensures.either c.add.ensures.touches indexes c.copy_last-copied.new.pool c.add.new.journal c.in-Err-add.ensures.cause)

pub invariant_of-self-in-Ok-add : goal.invariant_of-self-in-Ok-add
invariant_of-self-in-Ok-add g c =
    let at = (goal.at.invariant_of-self-in-Ok-add g c).After-deref_mut in
    let means = g.B.Board.means in
    let old = c.args.board.now in
    let mid = c.copy_last-copied.new.board in
    let copied = c.in-Ok.ensures in
    let copy = c.in-Ok.copy in
    let pool = c.give.new.self in
    let many : blocks_of pool ≡ blocks_of c.self.inside.pool = ap length c.give.ensures.wear ∙ copied.taken.many in
    let freed = c.give.ensures.free ∙ ap (λ (l : List Bool). set l copy.old true) copied.taken.taken.free in
    let readied = c.give.ensures.ready ∙ ap (λ (l : List Bool). set l copy.old false) copied.taken.taken.ready in
    let same =
    swapping.made_after means (content g) old mid (was g at) (blocks_are g at) (sound_was g at) (stood g at) c.args.at (store g at) c.index_mut.result.now
    (here g at).0 (here g at).1 (linked g at)
    copy copied.copies copied.copy copied.spelled copied.clean copied.no_fault c.apply.result c.apply.new.self c.apply.ensures.ok c.apply.ensures.unfit
    c.apply.ensures.memory in (
      kept_length c.self.inside.buffer.len c.add.new.buffer (drop (length c.add.new.buffer) _)
          (c.add.auto.buffer ∙ c.deref_mut-2.ensures.len)
          ∙ sym c.deref_mut.ensures.len ∙ ap length c.deref_mut.ensures.value ∙ c.self.invariant.0,
      λ still. swapping.swapped_sound means (content g) old mid (was g at) (blocks_are g at) (sound_was g at) (stood g at) c.args.at (store g at) c.index_mut.result.now
          (here g at).0 (here g at).1 (linked g at)
          copy copied.copies copied.copy copied.spelled copied.clean copied.no_fault c.add.new.board c.add.ensures.either c.add.ensures.touches (is_open g at)
          c.apply.new.self same pool c.wear.ensures.lawful many freed readied c.add.new.journal c.copy_last-copied.new.index copied.index,
    )

pub returns-in-Ok-add-clause-renews : goal.returns-in-Ok-add-clause-renews
returns-in-Ok-add-clause-renews g c =
    let at = (goal.at.returns-in-Ok-add-clause-renews g c).After-deref_mut in
    let means = g.B.Board.means in
    let old = c.args.board.now in
    let mid = c.copy_last-copied.new.board in
    let copied = c.in-Ok.ensures in
    let copy = c.in-Ok.copy in
    let pool = c.give.new.self in
    let many : blocks_of pool ≡ blocks_of c.self.inside.pool = ap length c.give.ensures.wear ∙ copied.taken.many in
    let freed = c.give.ensures.free ∙ ap (λ (l : List Bool). set l copy.old true) copied.taken.taken.free in
    let readied = c.give.ensures.ready ∙ ap (λ (l : List Bool). set l copy.old false) copied.taken.taken.ready in
    let same =
    swapping.made_after means (content g) old mid (was g at) (blocks_are g at) (sound_was g at) (stood g at) c.args.at (store g at) c.index_mut.result.now
    (here g at).0 (here g at).1 (linked g at)
    copy copied.copies copied.copy copied.spelled copied.clean copied.no_fault c.apply.result c.apply.new.self c.apply.ensures.ok c.apply.ensures.unfit
    c.apply.ensures.memory in
    let made : InMemory = swapping.made_now means (content g) old mid (was g at) (blocks_are g at) (sound_was g at) (stood g at) c.args.at (store g at) c.index_mut.result.now
    (here g at).0 (here g at).1 (linked g at)
    copy copied.copies copied.copy copied.spelled copied.clean copied.no_fault c.add.new.board c.add.ensures.either c.add.ensures.touches (is_open g at)
    c.apply.new.self same pool c.wear.ensures.lawful many freed readied c.add.new.journal c.copy_last-copied.new.index copied.index in
    let after = c.in-Ok-add.ensures in
    subst (λ (v : InMemory). Renews {A = ⊤} means old c.add.new.board v made (Ok tt)) c.self.view_is
    (swapping.entry_added means (content g) old mid (was g at) (blocks_are g at) (sound_was g at) (stood g at) c.args.at (store g at) c.index_mut.result.now
    (here g at).0 (here g at).1 (linked g at)
    copy copied.copies copied.copy copied.spelled copied.clean copied.no_fault c.add.new.board c.add.ensures.either c.add.ensures.touches (is_open g at)
    c.apply.new.self same pool c.wear.ensures.lawful many freed readied c.add.new.journal c.copy_last-copied.new.index copied.index after.holds after.is_firm after.stands after.no_fault)

pub returns-in-Ok-add-clause-place : goal.returns-in-Ok-add-clause-place
returns-in-Ok-add-clause-place g c =
    let at = (goal.at.returns-in-Ok-add-clause-place g c).After-deref_mut in
    let means = g.B.Board.means in
    let old = c.args.board.now in
    let mid = c.copy_last-copied.new.board in
    let copied = c.in-Ok.ensures in
    let copy = c.in-Ok.copy in
    let pool = c.give.new.self in
    let many : blocks_of pool ≡ blocks_of c.self.inside.pool = ap length c.give.ensures.wear ∙ copied.taken.many in
    let freed = c.give.ensures.free ∙ ap (λ (l : List Bool). set l copy.old true) copied.taken.taken.free in
    let readied = c.give.ensures.ready ∙ ap (λ (l : List Bool). set l copy.old false) copied.taken.taken.ready in
    let same =
    swapping.made_after means (content g) old mid (was g at) (blocks_are g at) (sound_was g at) (stood g at) c.args.at (store g at) c.index_mut.result.now
    (here g at).0 (here g at).1 (linked g at)
    copy copied.copies copied.copy copied.spelled copied.clean copied.no_fault c.apply.result c.apply.new.self c.apply.ensures.ok c.apply.ensures.unfit
    c.apply.ensures.memory in
    let made : InMemory = swapping.made_now means (content g) old mid (was g at) (blocks_are g at) (sound_was g at) (stood g at) c.args.at (store g at) c.index_mut.result.now
    (here g at).0 (here g at).1 (linked g at)
    copy copied.copies copied.copy copied.spelled copied.clean copied.no_fault c.add.new.board c.add.ensures.either c.add.ensures.touches (is_open g at)
    c.apply.new.self same pool c.wear.ensures.lawful many freed readied c.add.new.journal c.copy_last-copied.new.index copied.index in
    subst (λ (v : InMemory). RenewsAt v made c.args.at) c.self.view_is
    (swapping.place_renewed means (content g) old mid (was g at) (blocks_are g at) (sound_was g at) (stood g at) c.args.at (store g at) c.index_mut.result.now
    (here g at).0 (here g at).1 (linked g at)
    copy copied.copies copied.copy copied.spelled copied.clean copied.no_fault c.add.new.board c.add.ensures.either c.add.ensures.touches (is_open g at)
    c.apply.new.self same pool c.wear.ensures.lawful many freed readied c.add.new.journal c.copy_last-copied.new.index copied.index)
