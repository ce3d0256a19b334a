use Rattle.std.proofs.Common.{◌≡◌, ◌<◌, ℕ, true, List, [], ◌∷◌, length, length-append, Some, sym, ◌∙◌, ap, subst, arith}
use Rattle.std.specs.Prelude.{IsSome, slice_get}
use Rattle.std.proofs.lemmas.Option.{same_Some}
use Rattle.block_pool.specs.Blocks.{blocks_of, free_count, is_free, is_ready}
use Rattle.chain_log.specs.Pages.{IsCleanFrom}
use Rattle.put_laws.specs.Puts.{SpellsAt}
use Rattle.space_packet.specs.Charge.{charge_of}
use Rattle.store_directory.specs.Changes.{Links, apply}
use Rattle.store_directory.specs.Directory.{Listed}
use Rattle.store_directory.specs.Entries.{entry_octets}
use Rattle.store_directory.specs.declared.row.Row.{Row}
use Rattle.store_load.specs.Extents.{end_of}
use Rattle.store_put.specs.Pools.{IsTaken}
use Rattle.store_put.specs.Recording.{stored_by}
use Rattle.store_put.proofs.Made.{is_some_of}
use Rattle.time_index.specs.declared.entry.Entry.{Entry}
use Rattle.vault.proofs.OfferMemory.{turn_at}
use Rattle.vault.proofs.OfferNeeds.{err_any, can_count_linked, free_left, link_fits, longer_at, ready_now}
use Rattle.vault.proofs.OffersNew.{offer_begins, quiet_new}
use Rattle.vault.proofs.Places.{of_some}
use Rattle.vault.specs.Memory.{InMemory}
use Rattle.vault.specs.Offering.{IsCounted, IsLinked, link_behind}
use Rattle.vault.proofs.vault.Vault.take_into_new.Goals as goal

pub begin_record-requires-clause-some : goal.begin_record-requires-clause-some
begin_record-requires-clause-some g c =
    let (start, old, put) = c.requires.putting in
    let stored = stored_by c.args.arrival.now in
    let turn = turn_at old c.args.self.now stored c.args.at put.changes c.args.text.now put.memory c.requires.within in
    let some = free_left g.B.Board.means start c.args.board.now old c.args.self.now stored c.args.at c.args.text.now put turn
    (c.requires.full turn.s turn.index turn.last turn.here) in
    subst (λ (v : InMemory). 0 < free_count v.pool) (sym c.self.view_is) some

pub begin_record-requires-clause-ready : goal.begin_record-requires-clause-ready
begin_record-requires-clause-ready g c told =
    let (start, old, put) = c.requires.putting in
    let stored = stored_by c.args.arrival.now in
    let turn = turn_at old c.args.self.now stored c.args.at put.changes c.args.text.now put.memory c.requires.within in
    let flash = g.B.Board.means.flash c.args.board.now in
    subst (λ (v : InMemory). (block : ℕ) → is_free v.pool block ≡ true → is_ready v.pool block ≡ true → IsCleanFrom flash block 0) (sym c.self.view_is)
    (ready_now g.B.Board.means start c.args.board.now old c.args.self.now stored c.args.at c.args.text.now put turn told)

pub returns-in_err-entry-clause-fails : goal.returns-in_err-entry-clause-fails
returns-in_err-entry-clause-fails g c = err_any c.from_residual.result (λ start old put.
    let stored = stored_by c.args.arrival.now in
    let turn = turn_at old c.args.self.now stored c.args.at put.changes c.args.text.now put.memory c.requires.within in
    let whole = c.args.arrival.now.packet.whole in
    let begun = c.begin_record.ensures.begins in
    quiet_new g.B.Board.means start c.args.board.now old c.args.self.now stored c.args.at c.args.text.now put turn c.args.leaving c.requires.takes
    whole.at_least whole.at_most (c.requires.full turn.s turn.index turn.last turn.here) begun.block c.begin_record.new.pool
    (subst (λ (v : InMemory). IsTaken v.pool c.begin_record.new.pool begun.block) c.self.view_is begun.taken) c.begin_record.new.board begun.touches)

pub link_block-requires-clause-fits : goal.link_block-requires-clause-fits
link_block-requires-clause-fits g c s there =
    let (start, old, put) = c.requires.putting in
    let stored = stored_by c.args.arrival.now in
    let turn = turn_at old c.args.self.now stored c.args.at put.changes c.args.text.now put.memory c.requires.within in
    let begun = c.in_ok-entry.ensures.begins in
    let s_is : turn.s ≡ s = same_Some turn.s s
    (sym turn.here.listed ∙ ap (λ (v : InMemory). slice_get v.directory.stores c.args.at) (sym c.self.view_is) ∙ there) in
    let block_is : begun.block ≡ c.in_ok-entry.entry.block = sym (ap (λ (e : Entry). e.block) begun.entry) in
    let free = subst (λ (v : InMemory). is_free v.pool begun.block ≡ true) c.self.view_is begun.taken.was_free in
    let fits = link_fits g.B.Board.means start c.args.board.now old c.args.self.now stored c.args.at c.args.text.now put turn
    (c.requires.full turn.s turn.index turn.last turn.here) begun.block free in
    let applied = subst (λ (v : InMemory). apply v.directory.directory (Links turn.s.identifier (link_behind turn.s begun.block ∷ [])) ≡ Some fits.m) (sym c.self.view_is) fits.applied in
    subst (λ (x : Listed). IsSome (apply c.self.inside.directory.directory (Links x.identifier (link_behind x c.in_ok-entry.entry.block ∷ [])))) s_is
    (subst (λ (b : ℕ). IsSome (apply c.self.inside.directory.directory (Links turn.s.identifier (link_behind turn.s b ∷ [])))) block_is
    (is_some_of (apply c.self.inside.directory.directory (Links turn.s.identifier (link_behind turn.s begun.block ∷ []))) fits.m applied))

pub count_in-requires-clause-counted : goal.count_in-requires-clause-counted
count_in-requires-clause-counted g c =
    let (start, old, put) = c.requires.putting in
    let now = c.args.self.now in
    let at = c.args.at in
    let stored = stored_by c.args.arrival.now in
    let turn = turn_at old now stored at put.changes c.args.text.now put.memory c.requires.within in
    let begun = c.in_ok-entry.ensures.begins in
    let there = ap (λ (v : InMemory). slice_get v.directory.stores at) c.self.view_is ∙ turn.here.listed in
    let pool = c.begin_record.new.pool in
    let mid = c.link_block.new.self in
    let mid_text = c.link_block.new.text in
    let block_is : c.in_ok-entry.entry.block ≡ begun.block = ap (λ (e : Entry). e.block) begun.entry in
    let linked = subst (λ (b : ℕ). IsLinked (record now { pool = pool }) mid b c.args.text.now mid_text turn.s) block_is
    (subst (λ (v : InMemory). IsLinked (record v { pool = pool }) mid c.in_ok-entry.entry.block c.args.text.now mid_text turn.s) c.self.view_is
    (c.link_block.ensures.linked turn.s there)) in
    let free = subst (λ (v : InMemory). is_free v.pool begun.block ≡ true) c.self.view_is begun.taken.was_free in
    can_count_linked g.B.Board.means start c.args.board.now old now stored at c.args.text.now put turn
    (c.requires.full turn.s turn.index turn.last turn.here) begun.block free c.args.leaving c.requires.takes mid mid_text pool linked
    c.in_ok-entry.entry begun.entry

pub count_in-requires-clause-room : goal.count_in-requires-clause-room
count_in-requires-clause-room g c =
    let (start, old, put) = c.requires.putting in
    let now = c.args.self.now in
    let at = c.args.at in
    let stored = stored_by c.args.arrival.now in
    let turn = turn_at old now stored at put.changes c.args.text.now put.memory c.requires.within in
    let there = ap (λ (v : InMemory). slice_get v.directory.stores at) c.self.view_is ∙ turn.here.listed in
    let text = (c.link_block.ensures.linked turn.s there).makes.text in
    let long = ap length text in
    let sum = length-append c.args.text.now (entry_octets (Links turn.s.identifier (link_behind turn.s c.in_ok-entry.entry.block ∷ []) ∷ [])) in
    let short = put.memory.short in
    let few = put.memory.walk.kept.stores.few in
    let within = c.requires.within in
    omega (arith, long, sum, short, few, within)

pub returns-clause-goes : goal.returns-clause-goes
returns-clause-goes g c start old put =
    let means = g.B.Board.means in
    let board = c.args.board.now in
    let new = c.begin_record.new.board in
    let now = c.args.self.now in
    let at = c.args.at in
    let text = c.args.text.now in
    let stored = stored_by c.args.arrival.now in
    let turn = turn_at old now stored at put.changes text put.memory c.requires.within in
    let begun = c.in_ok-entry.ensures.begins in
    let there = ap (λ (v : InMemory). slice_get v.directory.stores at) c.self.view_is ∙ turn.here.listed in
    let row_is = of_some (λ (s : Listed). c.row-row.result.now ≡ s.row) (slice_get c.self.inside.directory.stores at) turn.s c.row-row.ensures there in
    let whole = c.args.arrival.now.packet.whole in
    let full = c.requires.full turn.s turn.index turn.last turn.here in
    let pool = c.begin_record.new.pool in
    let mid = c.link_block.new.self in
    let mid_text = c.link_block.new.text in
    let next = c.count_in.new.self in
    let new_text = c.count_in.new.text in
    let entry = c.in_ok-entry.entry in
    let block_is : entry.block ≡ begun.block = ap (λ (e : Entry). e.block) begun.entry in
    let linked = subst (λ (b : ℕ). IsLinked (record now { pool = pool }) mid b text mid_text turn.s) block_is
    (subst (λ (v : InMemory). IsLinked (record v { pool = pool }) mid entry.block text mid_text turn.s) c.self.view_is
    (c.link_block.ensures.linked turn.s there)) in
    let taken = subst (λ (v : InMemory). IsTaken v.pool pool begun.block) c.self.view_is begun.taken in
    let many = begun.many ∙ ap (λ (v : InMemory). blocks_of v.pool) c.self.view_is in
    let longer_here = longer_at means start board old now stored at text put turn full begun.block taken.was_free c.args.leaving c.requires.takes mid mid_text pool linked in
    let counted = c.count_in.ensures.counted _ turn.index turn.last longer_here in
    let need = c.charge-need.ensures ∙ ap (λ (l : List ℕ). charge_of (length l)) c.bytes.ensures.octets in
    offer_begins means start board old now stored at text put turn c.args.leaving c.requires.takes whole.at_least whole.at_most full begun.block pool taken
    new begun.touches mid next mid_text new_text entry begun.entry c.wear.ensures.lawful many linked
    (subst (λ (n : ℕ). IsCounted mid next at c.args.leaving entry n mid_text new_text turn.s turn.index) need
    (record { others = counted.others; makes = counted.makes }))
    (λ told. g.met.B.Board.content_pages new told)
    (λ told. subst (λ (r : Row). SpellsAt (means.flash new).content begun.block 0 (end_of r) stored) row_is (begun.spelled told))
    (λ told. begun.clean told)

pub returns-clause-blocks : goal.returns-clause-blocks
returns-clause-blocks g c = c.count_in.ensures.blocks ∙ c.link_block.ensures.blocks ∙ ap (λ (v : InMemory). v.blocks) c.self.view_is

pub returns-clause-held : goal.returns-clause-held
returns-clause-held g c = c.count_in.ensures.held ∙ c.link_block.ensures.held ∙ ap (λ (v : InMemory). v.held) c.self.view_is
