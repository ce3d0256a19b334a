use Rattle.std.proofs.Common.{◌≡◌, ◌+◌, ◌*◌, ℕ, List, length, refl, sym, ◌∙◌, ap, subst, arith}
use Rattle.std.specs.Prelude.{slice_get}
use Rattle.std.proofs.lemmas.Option.{same_Some, slice_get_within}
use Rattle.board.specs.Device.{Device}
use Rattle.board.specs.Flash.{pages_from}
use Rattle.board.specs.Touches.{Touches}
use Rattle.chain_log.specs.Pages.{IsCleanFrom}
use Rattle.put_laws.specs.Indexes.{entry_of}
use Rattle.put_laws.specs.Puts.{SpellsAt, need_of}
use Rattle.space_packet.specs.Charge.{charge_of}
use Rattle.store_directory.specs.Directory.{Listed}
use Rattle.store_directory.specs.declared.row.Row.{Row}
use Rattle.store_load.specs.Extents.{end_of}
use Rattle.store_put.specs.Recording.{stored_by}
use Rattle.vault.proofs.OfferMemory.{turn_at}
use Rattle.vault.proofs.OfferNeeds.{err_any, can_count, clean_now, own_block, room_left}
use Rattle.vault.proofs.OffersLast.{offer_takes, quiet_last}
use Rattle.vault.proofs.Places.{of_some}
use Rattle.vault.specs.Memory.{InMemory}
use Rattle.vault.specs.Offering.{CanBeCounted, IsAt, IsCounted}
use Rattle.vault.specs.declared.last_block.LastBlock.{LastBlock}
use Rattle.vault.proofs.vault.Vault.take_into_last.Goals as goal

pub last_at-used-requires : goal.last_at-used-requires
last_at-used-requires g c =
    let (start, old, put) = c.requires.putting in
    let turn = turn_at old c.args.self.now (stored_by c.args.arrival.now) c.args.at put.changes c.args.text.now put.memory c.requires.within in
    slice_get_within c.args.self.now.lasts c.args.at turn.last turn.here.known

pub last_block-block-requires : goal.last_block-block-requires
last_block-block-requires g c =
    let (start, old, put) = c.requires.putting in
    let turn = turn_at old c.args.self.now (stored_by c.args.arrival.now) c.args.at put.changes c.args.text.now put.memory c.requires.within in
    let links_are = of_some (λ (s : Listed). c.links.result.now ≡ s.links) (slice_get c.self.inside.directory.stores c.args.at) turn.s c.links.ensures
    (ap (λ (v : InMemory). slice_get v.directory.stores c.args.at) c.self.view_is ∙ turn.here.listed) in
    let long = ap length links_are in
    let room = (room_left turn.s.links turn.last (c.requires.room turn.s turn.index turn.last turn.here)).0 in
    omega (arith, long, room)

pub append_record-requires-clause-own : goal.append_record-requires-clause-own
append_record-requires-clause-own g c =
    let (start, old, put) = c.requires.putting in
    let turn = turn_at old c.args.self.now (stored_by c.args.arrival.now) c.args.at put.changes c.args.text.now put.memory c.requires.within in
    let links_are = of_some (λ (s : Listed). c.links.result.now ≡ s.links) (slice_get c.self.inside.directory.stores c.args.at) turn.s c.links.ensures
    (ap (λ (v : InMemory). slice_get v.directory.stores c.args.at) c.self.view_is ∙ turn.here.listed) in
    let last = c.last_block-block.ensures in
    let own = own_block old.blocks c.args.self.now.directory.stores c.args.at turn.s last.link last.rest put.memory.walk.share turn.here.listed
    (sym links_are ∙ last.some) in
    let is = last.last in
    let blocks : old.blocks ≡ (g.B.Board.means.device c.args.board.now).blocks = put.device ∙ ap (λ (d : Device). d.blocks) (sym put.quiet.same) in
    (omega (arith, own.0, is), omega (arith, own.1, is, blocks))

pub append_record-requires-clause-fits : goal.append_record-requires-clause-fits
append_record-requires-clause-fits g c =
    let (start, old, put) = c.requires.putting in
    let turn = turn_at old c.args.self.now (stored_by c.args.arrival.now) c.args.at put.changes c.args.text.now put.memory c.requires.within in
    let same = same_Some c.last_at-used.result turn.last (sym c.last_at-used.ensures ∙ turn.here.known) in
    let used = ap (λ (l : LastBlock). l.used) same in
    let room = (room_left turn.s.links turn.last (c.requires.room turn.s turn.index turn.last turn.here)).1 in
    let long = c.args.arrival.now.packet.whole.at_most in
    omega (arith, used, room, long)

pub append_record-requires-clause-clean : goal.append_record-requires-clause-clean
append_record-requires-clause-clean g c told =
    let (start, old, put) = c.requires.putting in
    let means = g.B.Board.means in
    let stored = stored_by c.args.arrival.now in
    let turn = turn_at old c.args.self.now stored c.args.at put.changes c.args.text.now put.memory c.requires.within in
    let links_are = of_some (λ (s : Listed). c.links.result.now ≡ s.links) (slice_get c.self.inside.directory.stores c.args.at) turn.s c.links.ensures
    (ap (λ (v : InMemory). slice_get v.directory.stores c.args.at) c.self.view_is ∙ turn.here.listed) in
    let last = c.last_block-block.ensures in
    let same = same_Some c.last_at-used.result turn.last (sym c.last_at-used.ensures ∙ turn.here.known) in
    subst (λ (l : LastBlock). IsCleanFrom (means.flash c.args.board.now) c.last_block-block.result l.used) (sym same)
    (clean_now means start c.args.board.now old c.args.self.now stored c.args.at c.args.text.now put turn c.args.leaving c.requires.takes
    c.last_block-block.result last.link last.rest (sym links_are ∙ last.some) last.last (c.requires.room turn.s turn.index turn.last turn.here) told)

pub returns-in_err-entry-clause-fails : goal.returns-in_err-entry-clause-fails
returns-in_err-entry-clause-fails g c = err_any c.from_residual.result (λ start old put.
    let means = g.B.Board.means in
    let stored = stored_by c.args.arrival.now in
    let turn = turn_at old c.args.self.now stored c.args.at put.changes c.args.text.now put.memory c.requires.within in
    let links_are = of_some (λ (s : Listed). c.links.result.now ≡ s.links) (slice_get c.self.inside.directory.stores c.args.at) turn.s c.links.ensures
    (ap (λ (v : InMemory). slice_get v.directory.stores c.args.at) c.self.view_is ∙ turn.here.listed) in
    let last = c.last_block-block.ensures in
    let whole = c.args.arrival.now.packet.whole in
    let same = same_Some c.last_at-used.result turn.last (sym c.last_at-used.ensures ∙ turn.here.known) in
    quiet_last means start c.args.board.now old c.args.self.now stored c.args.at c.args.text.now put turn c.args.leaving c.requires.takes whole.at_least whole.at_most
    (c.requires.room turn.s turn.index turn.last turn.here) c.last_block-block.result last.link last.rest (sym links_are ∙ last.some) last.last c.append_record.new.board
    (subst (λ (l : LastBlock). Touches means (pages_from (256 * c.last_block-block.result + l.used) (need_of stored)) (need_of stored) 0 0 c.args.board.now c.append_record.new.board)
    same c.append_record.ensures.touches))

pub count_in-requires-clause-counted : goal.count_in-requires-clause-counted
count_in-requires-clause-counted g c =
    let (start, old, put) = c.requires.putting in
    let means = g.B.Board.means in
    let stored = stored_by c.args.arrival.now in
    let turn = turn_at old c.args.self.now stored c.args.at put.changes c.args.text.now put.memory c.requires.within in
    subst (λ (v : InMemory). CanBeCounted v c.args.at c.args.leaving c.in_ok-entry.entry) (sym c.self.view_is)
    (can_count means start c.args.board.now old c.args.self.now stored c.args.at c.args.text.now put turn c.args.leaving c.requires.takes
    c.args.self.now turn.s turn.last c.last_block-block.result c.last_at-used.result.used c.in_ok-entry.entry c.in_ok-entry.ensures.entry turn.here refl
    put.memory.walk.share)

pub returns-clause-goes : goal.returns-clause-goes
returns-clause-goes g c start old put =
    let means = g.B.Board.means in
    let board = c.args.board.now in
    let new = c.append_record.new.board in
    let now = c.args.self.now in
    let at = c.args.at in
    let stored = stored_by c.args.arrival.now in
    let turn = turn_at old now stored at put.changes c.args.text.now put.memory c.requires.within in
    let there = ap (λ (v : InMemory). slice_get v.directory.stores at) c.self.view_is ∙ turn.here.listed in
    let links_are = of_some (λ (s : Listed). c.links.result.now ≡ s.links) (slice_get c.self.inside.directory.stores at) turn.s c.links.ensures there in
    let row_is = of_some (λ (s : Listed). c.row-row.result.now ≡ s.row) (slice_get c.self.inside.directory.stores at) turn.s c.row-row.ensures there in
    let last = c.last_block-block.ensures in
    let block = c.last_block-block.result in
    let whole = c.args.arrival.now.packet.whole in
    let same = same_Some c.last_at-used.result turn.last (sym c.last_at-used.ensures ∙ turn.here.known) in
    let need = c.charge-need.ensures ∙ ap (λ (l : List ℕ). charge_of (length l)) c.bytes.ensures.octets in
    let touches = c.append_record.ensures.touches in
    let here_mid = subst (λ (v : InMemory). IsAt v at turn.s turn.index turn.last) (sym c.self.view_is) turn.here in
    offer_takes means start board old now stored at c.args.text.now put turn c.args.leaving c.requires.takes whole.at_least whole.at_most
    (c.requires.room turn.s turn.index turn.last turn.here) block last.link last.rest (sym links_are ∙ last.some) last.last new
    (subst (λ (l : LastBlock). Touches means (pages_from (256 * block + l.used) (need_of stored)) (need_of stored) 0 0 board new) same touches)
    c.count_in.new.self c.count_in.new.text c.in_ok-entry.entry
    (subst (λ (l : LastBlock). c.in_ok-entry.entry ≡ entry_of stored block l.used) same c.in_ok-entry.ensures.entry)
    (subst (λ (n : ℕ). IsCounted now c.count_in.new.self at c.args.leaving c.in_ok-entry.entry n c.args.text.now c.count_in.new.text turn.s turn.index)
    (λ i. (same i).used + need i)
    (subst (λ (v : InMemory). IsCounted v c.count_in.new.self at c.args.leaving c.in_ok-entry.entry (c.last_at-used.result.used + c.charge-need.result) c.args.text.now c.count_in.new.text
    turn.s turn.index) c.self.view_is
    (c.count_in.ensures.counted turn.s turn.index turn.last here_mid)))
    (λ told. g.met.B.Board.content_pages new told)
    (λ told. subst (λ (l : LastBlock). SpellsAt (means.flash new).content block l.used (end_of turn.s.row) stored) same
    (subst (λ (r : Row). SpellsAt (means.flash new).content block c.last_at-used.result.used (end_of r) stored) row_is (c.in_ok-entry.ensures.spelled told)))
    (λ told. subst (λ (l : LastBlock). IsCleanFrom (means.flash new) block (l.used + need_of stored)) same (c.in_ok-entry.ensures.clean told))

pub returns-clause-blocks : goal.returns-clause-blocks
returns-clause-blocks g c = c.count_in.ensures.blocks ∙ ap (λ (v : InMemory). v.blocks) c.self.view_is

pub returns-clause-held : goal.returns-clause-held
returns-clause-held g c = c.count_in.ensures.held ∙ ap (λ (v : InMemory). v.held) c.self.view_is
