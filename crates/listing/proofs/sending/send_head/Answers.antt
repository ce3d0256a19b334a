use Rattle.std.proofs.Common.{◌≡◌, ◌+◌, List, ◌++◌, length, refl, sym, ◌∙◌, ap, arith}
use Rattle.std.proofs.lemmas.Result.{on_err_weaker, on_ok_weaker}
use Rattle.std.specs.Bool.{⊤}
use Rattle.std.specs.List.{flat_map}
use Rattle.control_defs.specs.declared.patterns.Pattern.{Pattern}
use Rattle.listing.specs.Lists.{ToldTable}
use Rattle.listing.proofs.Runs.{breaks_on, breaks_within, lists_as, lists_on, same_text}
use Rattle.octet_fields.proofs.Results.{on_err}
use Rattle.pst_model.specs.Listing.{forward_line, table_line}
use Rattle.pst_model.specs.Table.{Table}
use Rattle.listing.proofs.sending.send_head.Given.{Over}
use Rattle.listing.proofs.sending.send_head.Goals as goal
use Rattle.listing.proofs.sending.send_head.Goals.{After-list-patterns}

pub returns-in_err-send_clock-clause-err : goal.returns-in_err-send_clock-clause-err
returns-in_err-send_clock-clause-err g c =
    let told = ToldTable g.B.Board.means c.args.vault.now c.args.board.now in
    on_err c.from_residual.result
    (breaks_within g.B.Board.means told told (λ table here. here) c.args.board.now c.send_clock.new.board table_line
    (λ table. table_line table ++ flat_map forward_line table.forward) (λ table here. (flat_map forward_line table.forward, refl))
    (omega arith) (omega arith) c.in_err-send_clock.ensures.err)

-- the patterns are those of the table
forward : (g : Over) (c : After-list-patterns g) (table : Table) → ToldTable g.B.Board.means c.args.vault.now c.args.board.now table
    → table_line table ++ flat_map forward_line c.list-patterns.result.now ≡ table_line table ++ flat_map forward_line table.forward
forward g c table (told, stands) =
    let shown = stands.shows c.view.result c.view.ensures.view in
    ap (λ (patterns : List Pattern). table_line table ++ flat_map forward_line patterns) (c.list-patterns.ensures.list ∙ c.forward.ensures ∙ sym shown.forward)

count : (g : Over) (c : After-list-patterns g) → 1 + length c.list-patterns.result.now ≡ 1 + length c.args.vault.now.directory.forward
count g c = ap (λ (patterns : List Pattern). 1 + length patterns) (c.list-patterns.ensures.list ∙ c.forward.ensures ∙ ap (λ d. d.forward) c.view.ensures.view.directory)

pub returns-clause-ok : goal.returns-clause-ok
returns-clause-ok g c =
    let told = ToldTable g.B.Board.means c.args.vault.now c.args.board.now in
    let after = (goal.at.returns-clause-ok g c).After-list-patterns in
    on_ok_weaker c.send_patterns.result
    (λ lists.
    lists_as g.B.Board.means told told (λ table here. here) c.args.board.now c.send_patterns.new.board
    (λ table. table_line table ++ flat_map forward_line c.list-patterns.result.now) (λ table. table_line table ++ flat_map forward_line table.forward)
    (forward g after) (omega arith) (count g after)
    (lists_on g.B.Board.means told (λ _. ⊤) (λ table here. tt) c.args.board.now c.send_clock.new.board c.send_patterns.new.board table_line
    (λ _. flat_map forward_line c.list-patterns.result.now) c.in_ok-send_clock.ensures.ok lists))
    c.send_patterns.ensures.ok

pub returns-clause-err : goal.returns-clause-err
returns-clause-err g c =
    let told = ToldTable g.B.Board.means c.args.vault.now c.args.board.now in
    let after = (goal.at.returns-clause-err g c).After-list-patterns in
    on_err_weaker c.send_patterns.result
    (λ breaks.
    breaks_within g.B.Board.means told told (λ table here. here) c.args.board.now c.send_patterns.new.board
    (λ table. table_line table ++ flat_map forward_line c.list-patterns.result.now) (λ table. table_line table ++ flat_map forward_line table.forward)
    (λ table here. same_text _ _ (forward g after table here)) (omega arith) (omega (arith, count g after))
    (breaks_on g.B.Board.means told (λ _. ⊤) (λ table here. tt) c.args.board.now c.send_clock.new.board c.send_patterns.new.board table_line
    (λ _. flat_map forward_line c.list-patterns.result.now) c.in_ok-send_clock.ensures.ok breaks))
    c.send_patterns.ensures.err
