use Rattle.std.proofs.Common.{◌≡◌, length, take, sym, ◌∙◌, ap, subst, arith}
use Rattle.std.proofs.lemmas.Result.{on_err_weaker, on_ok_weaker}
use Rattle.listing.specs.Lists.{ToldTable}
use Rattle.listing.specs.Parts.{row_at}
use Rattle.listing.proofs.Runs.{line_broke, line_sent}
use Rattle.listing.proofs.ShownStores.{text_here, told_store}
use Rattle.pst_model.specs.Listing.{store_words, words_line}
use Rattle.pst_model.specs.Table.{Table}
use Rattle.store_directory.specs.Directory.{Listed}
use Rattle.store_directory.specs.declared.row.Row.{Row}
use Rattle.store_policy.specs.Shown.{IsShown}
use Rattle.std.specs.Prelude.{slice_get}
use Rattle.vault.proofs.Places.{of_some, some_at}
use Rattle.listing.proofs.sending.send_row.Given.{Over}
use Rattle.listing.proofs.sending.send_row.Goals as goal
use Rattle.listing.proofs.sending.send_row.Goals.{After-write_store-size}

-- the line that was written is that of the store in the table
line : (g : Over) (c : After-write_store-size g) (table : Table) → ToldTable g.B.Board.means c.args.vault.now c.args.board.now table
    → take c.write_store-size.result c.write_store-size.new.out ≡ row_at c.args.at table
line g c table (told, stands) =
    let view = c.view-view.result in
    let within = ap (λ d. length d.stores) c.view-view.ensures.view.directory in
    let (s, is) = some_at view.directory.now.stores c.args.at (omega (arith, within, c.requires.within)) in
    let (store, here, shown) = told_store view c.args.at s c.index_at-index.result.now c.view-view.ensures.view is c.index_at-index.ensures stands in
    let row = of_some (λ (s : Listed). c.row-row.result.now ≡ s.row) (slice_get view.directory.now.stores c.args.at) s c.row-row.ensures is in
    (c.write_store-size.ensures.line store (subst (λ (r : Row). IsShown store r c.index_at-index.result.now) (sym row) shown.shown)).front
    ∙ sym (text_here (λ store. words_line (store_words store)) table.stores c.args.at store here)

pub returns-clause-ok : goal.returns-clause-ok
returns-clause-ok g c =
    on_ok_weaker c.send_line.result
    (line_sent g.B.Board.means (ToldTable g.B.Board.means c.args.vault.now c.args.board.now) c.args.board.now c.send_line.new.board _ (row_at c.args.at)
    (line g (goal.at.returns-clause-ok g c).After-write_store-size))
    c.send_line.ensures.ok

pub returns-clause-err : goal.returns-clause-err
returns-clause-err g c =
    on_err_weaker c.send_line.result
    (line_broke g.B.Board.means (ToldTable g.B.Board.means c.args.vault.now c.args.board.now) c.args.board.now c.send_line.new.board _ (row_at c.args.at)
    (line g (goal.at.returns-clause-err g c).After-write_store-size))
    c.send_line.ensures.err
