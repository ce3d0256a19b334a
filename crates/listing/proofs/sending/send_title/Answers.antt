use Rattle.std.proofs.Common.{◌≡◌, ◌+◌, List, ◌++◌, length, sym, ◌∙◌, ap, arith}
use Rattle.std.proofs.lemmas.Result.{on_err_weaker, on_ok_weaker}
use Rattle.std.specs.Bool.{⊤}
use Rattle.std.specs.List.{flat_map, sum_by}
use Rattle.std.specs.Prelude.{slice_get}
use Rattle.control_defs.specs.declared.patterns.Pattern.{Pattern}
use Rattle.listing.specs.Lists.{ToldTable}
use Rattle.listing.specs.Parts.{one_at, row_at, title_at, title_lines}
use Rattle.listing.proofs.Places.{lines-title, row-front, row-title}
use Rattle.listing.proofs.Runs.{breaks_on, breaks_within, lists_as, lists_on, same_text}
use Rattle.listing.proofs.ShownStores.{told_store}
use Rattle.octet_fields.proofs.Results.{on_err}
use Rattle.pst_model.specs.Listing.{pattern_line}
use Rattle.pst_model.specs.Table.{Table}
use Rattle.store_directory.specs.Directory.{Listed}
use Rattle.vault.proofs.Places.{of_some, some_at}
use Rattle.listing.proofs.sending.send_title.Given.{Over}
use Rattle.listing.proofs.sending.send_title.Goals as goal
use Rattle.listing.proofs.sending.send_title.Goals.{After-list-patterns}

pub returns-in_err-send_row-clause-err : goal.returns-in_err-send_row-clause-err
returns-in_err-send_row-clause-err g c =
    let told = ToldTable g.B.Board.means c.args.vault.now c.args.board.now in
    let stores = c.args.vault.now.directory.stores in
    let (s, is) = some_at stores c.args.at (omega (arith, c.requires.within)) in
    let lines = lines-title c.args.at stores s is in
    on_err c.from_residual.result
    (breaks_within g.B.Board.means told told (λ table here. here) c.args.board.now c.send_row.new.board (row_at c.args.at) (title_at c.args.at)
    (λ table here. row-front c.args.at table) (omega arith) (omega (arith, lines)) c.in_err-send_row.ensures.err)

-- the patterns are those of the store in the table
title : (g : Over) (c : After-list-patterns g) (table : Table) → ToldTable g.B.Board.means c.args.vault.now c.args.board.now table
    → row_at c.args.at table ++ flat_map pattern_line c.list-patterns.result.now ≡ title_at c.args.at table
title g c table (told, stands) =
    let view = c.view.result in
    let stores = view.directory.now.stores in
    let within = ap (λ d. length d.stores) c.view.ensures.view.directory in
    let (s, is) = some_at stores c.args.at (omega (arith, within, c.requires.within)) in
    let (index, there) = some_at view.indexes.now c.args.at
    (omega (arith, c.requires.within, c.view.ensures.sound.as_many, ap length c.view.ensures.view.indexes)) in
    let (store, here, shown) = told_store view c.args.at s index c.view.ensures.view is there stands in
    let patterns = of_some (λ (s : Listed). c.patterns.result.now ≡ s.patterns) (slice_get stores c.args.at) s c.patterns.ensures is in
    row-title c.args.at table store c.list-patterns.result.now here (c.list-patterns.ensures.list ∙ patterns ∙ sym shown.patterns)

count : (g : Over) (c : After-list-patterns g) → 1 + length c.list-patterns.result.now ≡ sum_by title_lines (one_at c.args.vault.now.directory.stores c.args.at)
count g c =
    let view = c.view.result in
    let stores = view.directory.now.stores in
    let within = ap (λ d. length d.stores) c.view.ensures.view.directory in
    let (s, is) = some_at stores c.args.at (omega (arith, within, c.requires.within)) in
    let patterns = of_some (λ (s : Listed). c.patterns.result.now ≡ s.patterns) (slice_get stores c.args.at) s c.patterns.ensures is in
    ap (λ (patterns : List Pattern). 1 + length patterns) (c.list-patterns.ensures.list ∙ patterns)
    ∙ sym (lines-title c.args.at stores s is)
    ∙ ap (λ d. sum_by title_lines (one_at d.stores c.args.at)) c.view.ensures.view.directory

pub returns-clause-ok : goal.returns-clause-ok
returns-clause-ok g c =
    let told = ToldTable g.B.Board.means c.args.vault.now c.args.board.now in
    let after = (goal.at.returns-clause-ok g c).After-list-patterns in
    on_ok_weaker c.send_patterns.result
    (λ lists.
    lists_as g.B.Board.means told told (λ table here. here) c.args.board.now c.send_patterns.new.board
    (λ table. row_at c.args.at table ++ flat_map pattern_line c.list-patterns.result.now) (title_at c.args.at)
    (title g after) (omega arith) (count g after)
    (lists_on g.B.Board.means told (λ _. ⊤) (λ table here. tt) c.args.board.now c.send_row.new.board c.send_patterns.new.board (row_at c.args.at)
    (λ _. flat_map pattern_line c.list-patterns.result.now) c.in_ok-send_row.ensures.ok lists))
    c.send_patterns.ensures.ok

pub returns-clause-err : goal.returns-clause-err
returns-clause-err g c =
    let told = ToldTable g.B.Board.means c.args.vault.now c.args.board.now in
    let after = (goal.at.returns-clause-err g c).After-list-patterns in
    on_err_weaker c.send_patterns.result
    (λ breaks.
    breaks_within g.B.Board.means told told (λ table here. here) c.args.board.now c.send_patterns.new.board
    (λ table. row_at c.args.at table ++ flat_map pattern_line c.list-patterns.result.now) (title_at c.args.at)
    (λ table here. same_text _ _ (title g after table here)) (omega arith) (omega (arith, count g after))
    (breaks_on g.B.Board.means told (λ _. ⊤) (λ table here. tt) c.args.board.now c.send_row.new.board c.send_patterns.new.board (row_at c.args.at)
    (λ _. flat_map pattern_line c.list-patterns.result.now) c.in_ok-send_row.ensures.ok breaks))
    c.send_patterns.ensures.err
