use Rattle.std.proofs.Common.{sym}
use Rattle.std.proofs.lemmas.List.{take_rest}
use Rattle.store_directory.proofs.StoreTexts.{listed-no_links, listed-no_patterns, listed-parts}
use Rattle.store_directory.proofs.store_text.store_from.Goals as goal

pub returns-in_err-patterns-clause-store : goal.returns-in_err-patterns-clause-store
returns-in_err-patterns-clause-store c =
    rw c.from_residual-in_err-patterns.ensures
    (listed-no_patterns c.args.text.now _ c.in_ok-row.row (sym c.in_ok-row.ensures.value) (take_rest c.args.text.now 29) c.in_err-patterns.ensures)

pub returns-in_err-links-clause-store : goal.returns-in_err-links-clause-store
returns-in_err-links-clause-store c =
    rw c.from_residual-in_err-links.ensures
    (listed-no_links c.args.text.now _ c.in_ok-patterns.rest.now c.in_ok-row.row c.in_ok-patterns.patterns (sym c.in_ok-row.ensures.value)
    (take_rest c.args.text.now 29) c.in_ok-patterns.ensures c.in_err-links.ensures)

pub returns-clause-store : goal.returns-clause-store
returns-clause-store c =
    listed-parts c.args.text.now _ c.in_ok-patterns.rest.now c.in_ok-links.rest.now c.in_ok-row.row c.in_ok-patterns.patterns c.in_ok-links.links
    (sym c.in_ok-row.ensures.value) (take_rest c.args.text.now 29) c.in_ok-patterns.ensures c.in_ok-links.ensures
