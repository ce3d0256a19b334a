use Rattle.std.proofs.Common.{List, ℕ, ap, refl, subst, ⊎_elim}
use Rattle.image_board.specs.Reading.{octets_left}
use Rattle.pusstore.specs.Printing.{EndsPrinting}
use Rattle.pusstore.proofs.Generated.{generate_none, prints_generate}
use Rattle.pusstore.proofs.Printed.{prints}
use Rattle.pusstore.proofs.Silent.{known_outcome, prints_format, prints_list, prints_refused, prints_run}
use Rattle.pusstore.proofs.session.session.Goals as goal
use Rattle.traffic_gen.specs.Traffic.{traffic_of}

pub returns-clause-prints : goal.returns-clause-prints
returns-clause-prints g c are told =
    let ended = c.station-ending.ensures in
    let before = g.W.Write.contents c.args.output.now in
    let after = g.W.Write.contents c.print_sent-printed.new.output in
    let same = ap (λ (input : g.row.R.Denot). octets_left (g.R.Read.remaining input)) c.new-source.ensures.input in
    subst (λ (text : List ℕ). EndsPrinting c.args.blocks text before after c.outcome.result) same
    (prints _ c.new-source.result c.station-ending.new.source told before after
    c.args.blocks c.in-Ok.board c.station-ending.new.board c.in-Ok.ensures c.station-ending.result (ended.taken told) (ended.fresh are refl)
    c.outcome.result c.starved.result c.print_sent-printed.result
    c.outcome.ensures.unprinted c.outcome.ensures.no_memory c.outcome.ensures.same c.print_sent-printed.ensures.printed)

pub returns-clause-format : goal.returns-clause-format
returns-clause-format g c are =
    prints_format (g.W.Write.contents c.args.output.now) (g.W.Write.contents c.print_sent-printed.new.output)
    c.args.blocks c.in-Ok.board c.station-ending.new.board c.in-Ok.ensures
    c.station-ending.result c.outcome.result c.starved.result c.print_sent-printed.result
    c.outcome.ensures.unprinted c.outcome.ensures.no_memory c.outcome.ensures.same c.print_sent-printed.ensures.printed
    (c.station-ending.ensures.format are).0

pub returns-clause-generate : goal.returns-clause-generate
returns-clause-generate g c number count are =
    prints_generate (g.W.Write.contents c.args.output.now) (g.W.Write.contents c.print_sent-printed.new.output)
    c.args.blocks (traffic_of number count) c.in-Ok.board c.station-ending.new.board c.in-Ok.ensures
    c.station-ending.result (c.station-ending.ensures.generate number count are).0 c.outcome.result c.starved.result c.print_sent-printed.result
    c.outcome.ensures.unprinted c.outcome.ensures.no_memory c.outcome.ensures.same c.print_sent-printed.ensures.printed

pub returns-in_default-clause-generate : goal.returns-in_default-clause-generate
returns-in_default-clause-generate g c number count are = generate_none c.args.blocks (traffic_of number count) (g.W.Write.contents c.args.output.now)

pub returns-clause-unheld : goal.returns-clause-unheld
returns-clause-unheld g c are =
    ⊎_elim
    (λ run. prints_run (g.W.Write.contents c.args.output.now) (g.W.Write.contents c.print_sent-printed.new.output)
    c.args.blocks c.in-Ok.board c.station-ending.new.board c.in-Ok.ensures
    c.station-ending.result c.outcome.result c.starved.result c.print_sent-printed.result
    c.outcome.ensures.unprinted c.outcome.ensures.no_memory c.outcome.ensures.same c.print_sent-printed.ensures.printed
    _ c.new-source.result c.station-ending.new.source c.requires.least (c.station-ending.ensures.run run))
    (λ list. prints_list (g.W.Write.contents c.args.output.now) (g.W.Write.contents c.print_sent-printed.new.output)
    c.args.blocks c.in-Ok.board c.station-ending.new.board c.in-Ok.ensures
    c.station-ending.result c.outcome.result c.starved.result c.print_sent-printed.result
    c.outcome.ensures.unprinted c.outcome.ensures.no_memory c.outcome.ensures.same c.print_sent-printed.ensures.printed
    c.requires.least (c.station-ending.ensures.list list).0)
    are

pub returns-clause-words : goal.returns-clause-words
returns-clause-words g c unknown =
    let ended = c.station-ending.ensures in
    let bad = ended.words.1 unknown in
    prints_refused (g.W.Write.contents c.args.output.now) (g.W.Write.contents c.print_sent-printed.new.output)
    c.args.blocks c.in-Ok.board c.station-ending.new.board c.in-Ok.ensures
    c.station-ending.result c.outcome.result c.starved.result c.print_sent-printed.result
    c.outcome.ensures.unprinted c.outcome.ensures.no_memory c.outcome.ensures.same c.print_sent-printed.ensures.printed
    bad (ended.unchanged bad).0

pub returns-clause-known : goal.returns-clause-known
returns-clause-known g c known =
    known_outcome c.station-ending.result c.outcome.result c.starved.result c.print_sent-printed.result
    c.outcome.ensures.unprinted c.outcome.ensures.no_memory c.outcome.ensures.same (λ bad. c.station-ending.ensures.words.0 bad known)
