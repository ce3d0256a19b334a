use Rattle.std.proofs.Common.{refl, sym, ◌∙◌, ap, subst}
use Rattle.std.specs.Prelude.{slice_get}
use Rattle.std.proofs.lemmas.List.{append-nil}
use Rattle.store_directory.specs.Directory.{Listed}
use Rattle.store_put.specs.Making.{Makes, changes_of_refusal}
use Rattle.store_put.specs.Recording.{stored_by}
use Rattle.vault.proofs.OfferMemory.{turn_at}
use Rattle.vault.proofs.OfferNeeds.{store_at}
use Rattle.vault.proofs.Offers.{offer_passes, offer_refuses}
use Rattle.vault.proofs.Places.{of_some}
use Rattle.vault.specs.Memory.{InMemory}
use Rattle.vault.proofs.vault.Vault.offer_to.Goals as goal

pub plan_at-requires : goal.plan_at-requires
plan_at-requires g c =
    let (start, old, put) = c.requires.putting in
    let stored = stored_by c.args.arrival.now in
    store_at old c.args.self.now stored c.args.at
    (turn_at old c.args.self.now stored c.args.at put.changes c.args.text.now put.memory c.requires.within)

pub is_full-requires : goal.is_full-requires
is_full-requires g c =
    let (start, old, put) = c.requires.putting in
    let stored = stored_by c.args.arrival.now in
    store_at old c.args.self.now stored c.args.at
    (turn_at old c.args.self.now stored c.args.at put.changes c.args.text.now put.memory c.requires.within)

pub returns-in-Stays-clause-goes : goal.returns-in-Stays-clause-goes
returns-in-Stays-clause-goes g c start old put =
    let now = c.args.self.now in
    let text = c.args.text.now in
    let stored = stored_by c.args.arrival.now in
    let turn = turn_at old now stored c.args.at put.changes text put.memory c.requires.within in
    offer_passes g.B.Board.means start c.args.board.now old now stored c.args.at text put turn now text refl
    (λ store shown patterns. c.in-Stays.ensures.decides turn.s turn.index turn.last turn.here store shown patterns)
    (record { made = refl; text = sym (append-nil text) })

pub returns-in-Refuses-clause-goes : goal.returns-in-Refuses-clause-goes
returns-in-Refuses-clause-goes g c start old put =
    let now = c.args.self.now in
    let at = c.args.at in
    let text = c.args.text.now in
    let new_text = c.tell_refusal.new.text in
    let stored = stored_by c.args.arrival.now in
    let turn = turn_at old now stored at put.changes text put.memory c.requires.within in
    let inside = c.self.inside in
    let next : InMemory = record {
      directory = c.tell_refusal.new.directory;
      indexes = inside.indexes.items;
      lasts = inside.lasts.items;
      pool = inside.pool;
      journal = inside.journal;
      blocks = inside.blocks;
      held = inside.held;
      is_open = inside.is_open;
    } in
    let there = ap (λ (v : InMemory). slice_get v.directory.stores at) c.self.view_is ∙ turn.here.listed in
    let makes = of_some (λ (s : Listed). Makes (changes_of_refusal s.row) inside.directory.directory next.directory.directory text new_text)
    (slice_get inside.directory.stores at) turn.s c.tell_refusal.ensures there in
    offer_refuses g.B.Board.means start c.args.board.now old now stored at text put turn next new_text
    (λ i. record (c.self.view_is i) { directory = c.tell_refusal.new.directory })
    (λ store shown patterns. (c.in-Refuses.ensures.decides turn.s turn.index turn.last turn.here store shown patterns).0)
    (subst (λ (v : InMemory). Makes (changes_of_refusal turn.s.row) v.directory.directory next.directory.directory text new_text) c.self.view_is makes)
