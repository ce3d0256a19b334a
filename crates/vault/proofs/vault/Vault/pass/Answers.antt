use Rattle.std.proofs.Common.{◌≡◌, ◌<◌, ℕ, length, Some, sym, ◌∙◌, ap, subst}
use Rattle.std.proofs.lemmas.Option.{slice_get_within}
use Rattle.board.specs.Meaning.{TellsFlash}
use Rattle.image_table.specs.Granting.{put_sent}
use Rattle.pst_model.specs.Rules.{grant}
use Rattle.pst_model.specs.Table.{Table}
use Rattle.retrieval.specs.Grants.{IsRowAt}
use Rattle.retrieval.specs.Picks.{sent_row}
use Rattle.retrieval.proofs.Firsts.{row_there}
use Rattle.store_directory.specs.Changes.{Put, apply}
use Rattle.store_directory.specs.Rows.{FitsRow}
use Rattle.store_directory.specs.declared.row.Row.{Row}
use Rattle.vault.proofs.Passed.{picked_store, row_ahead, row_fits, sent_becomes, sent_entered, sent_needs_none}
use Rattle.vault.proofs.Stands.{ok_gives}
use Rattle.vault.specs.Changing.{Becomes, CanBeEntered, NeedsNone}
use Rattle.vault.specs.Memory.{InMemory, IsSound}
use Rattle.vault.specs.Standing.{StandsFor}
use Rattle.vault.proofs.vault.Vault.pass.Given.{Over}
use Rattle.vault.proofs.vault.Vault.pass.Goals as goal
use Rattle.vault.proofs.vault.Vault.pass.Goals.{After-row}

pub row-requires : goal.row-requires
row-requires g c =
    let is = c.self.view_is in
    let sound = subst IsSound is (c.self.invariant.1 (ap (λ (v : InMemory). v.is_open) is ∙ c.requires.is_open)) in
    let store = picked_store c.args.self.now c.args.pick.now sound c.requires.picked in
    subst (λ (v : InMemory). c.args.pick.now.at < length v.directory.stores) (sym is)
    (slice_get_within c.args.self.now.directory.stores c.args.pick.now.at store.s store.there)

sound_here : (g : Over) (c : After-row g) → IsSound c.args.self.now
sound_here g c =
    let is = c.self.view_is in
    subst IsSound is (c.self.invariant.1 (ap (λ (v : InMemory). v.is_open) is ∙ c.requires.is_open))

-- the row that was read
row_here : (g : Over) (c : After-row g) → IsRowAt c.args.self.now.directory.stores c.args.pick.now.at c.row.result.now
row_here g c = subst (λ (v : InMemory). IsRowAt v.directory.stores c.args.pick.now.at c.row.result.now) c.self.view_is c.row.ensures

pub after_sent-row-requires : goal.after_sent-row-requires
after_sent-row-requires g c =
    row_ahead c.args.self.now c.args.pick.now c.row.result.now (sound_here g c) c.requires.picked (row_here g c)

-- the change

pub enter-requires-clause-fits : goal.enter-requires-clause-fits
enter-requires-clause-fits g c =
    let at = (goal.at.enter-requires-clause-fits g c).After-row in
    subst FitsRow (sym c.after_sent-row.ensures)
    (row_fits c.args.self.now c.args.pick.now c.row.result.now (sound_here g at) c.requires.picked (row_here g at))

pub enter-requires-clause-can_be_entered : goal.enter-requires-clause-can_be_entered
enter-requires-clause-can_be_entered g c =
    let at = (goal.at.enter-requires-clause-can_be_entered g c).After-row in
    subst (λ (r : Row). CanBeEntered c.args.self.now.directory.directory (Put r)) (sym c.after_sent-row.ensures)
    (sent_entered c.args.self.now c.args.pick.now c.row.result.now (sound_here g at) c.requires.picked (row_here g at))

pub enter-requires-clause-memory : goal.enter-requires-clause-memory
enter-requires-clause-memory g c =
    let at = (goal.at.enter-requires-clause-memory g c).After-row in
    subst (λ (r : Row). NeedsNone (Put r) c.args.self.now.directory.stores) (sym c.after_sent-row.ensures)
    (sent_needs_none c.args.self.now c.args.pick.now c.row.result.now (sound_here g at) c.requires.picked (row_here g at))

-- the table behind it
becomes : (g : Over) (c : After-row g) (made : Row) (table : Table) (number : ℕ) → made ≡ sent_row c.args.pick.now.range c.row.result.now
    → StandsFor c.args.self.now (g.B.Board.means.flash c.args.board.now) table
    → Becomes c.args.self.now (Put made) (g.B.Board.means.flash c.args.board.now) (grant number table).table
becomes g c made table number is stands =
    let flash = g.B.Board.means.flash c.args.board.now in
    subst (λ (r : Row). Becomes c.args.self.now (Put r) flash (grant number table).table) (sym is)
    (sent_becomes c.args.self.now c.args.pick.now c.row.result.now (sound_here g c) c.requires.picked (row_here g c) flash table number stands)

pub returns-clause-any_moment : goal.returns-clause-any_moment
returns-clause-any_moment g c told table number stands =
    let at = (goal.at.returns-clause-any_moment g c).After-row in
    c.enter.ensures.any_moment told table (grant number table).table stands (becomes g at c.after_sent-row.result table number c.after_sent-row.ensures stands)

pub returns-clause-stands : goal.returns-clause-stands
returns-clause-stands g c =
    let means = g.B.Board.means in
    let at = (goal.at.returns-clause-stands g c).After-row in
    let old = means.flash c.args.board.now in
    let new = means.flash c.enter.new.board in
    ok_gives c.enter.result
    (TellsFlash means c.args.board.now → (table next : Table) → StandsFor c.args.self.now old table
    → Becomes c.args.self.now (Put c.after_sent-row.result) old next → StandsFor c.enter.new.self new next)
    (TellsFlash means c.args.board.now → (table : Table) (number : ℕ) → StandsFor c.args.self.now old table
    → StandsFor c.enter.new.self new (grant number table).table)
    c.enter.ensures.stands
    (λ is told table number stands. is told table (grant number table).table stands (becomes g at c.after_sent-row.result table number c.after_sent-row.ensures stands))

pub returns-clause-after : goal.returns-clause-after
returns-clause-after g c =
    let at = (goal.at.returns-clause-after g c).After-row in
    let d = c.args.self.now.directory in
    let next = c.enter.new.self.directory.directory in
    record {
      others = c.enter.ensures.after.others;
      directory = λ row here.
          let same : c.row.result.now ≡ row =
          (let store = picked_store c.args.self.now c.args.pick.now (sound_here g at) c.requires.picked in
          row_there d.stores c.args.pick.now.at c.row.result.now store.s (row_here g at) store.there
          ∙ sym (row_there d.stores c.args.pick.now.at row store.s here store.there)) in
          ok_gives c.enter.result
          (apply d.directory (Put c.after_sent-row.result) ≡ Some next) (apply d.directory (put_sent c.args.pick.now row) ≡ Some next)
          c.enter.ensures.after.directory
          (λ applied. subst (λ (r : Row). apply d.directory (Put r) ≡ Some next) (c.after_sent-row.ensures ∙ ap (sent_row c.args.pick.now.range) same) applied);
    }
