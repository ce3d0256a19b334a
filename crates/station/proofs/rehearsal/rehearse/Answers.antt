use Rattle.std.proofs.Common.{◌≡◌, ◌≤◌, ◌*◌, ◌/◌, ℕ, [], ◌∷◌, inl, inr, refl, sym, ◌∙◌, arith}
use Rattle.std.specs.Prelude.{codes}
use Rattle.board.specs.Laws.{content_pages}
use Rattle.station.proofs.Rehearsals.{rehearsed_format, rehearsed_fresh, rehearsed_generate, rehearsed_list, rehearsed_run}
use Rattle.station.proofs.rehearsal.rehearse.Goals as goal

sixteen : (n : ℕ) → 16 * 65536 ≤ n → 16 ≤ n / 65536
sixteen n least = omega arith

-- these are two words
not_run : codes "fresh" ∷ [] ≡ codes "run" ∷ [] → ⊥
not_run is = absurd cc

pub returns-clause-run : goal.returns-clause-run
returns-clause-run c are =
    let ended = c.station-ending.ensures in
    rehearsed_run c.args.image.items c.args.text.items c.in_ok-board.board c.new-source.result (sixteen _ c.requires.least) (content_pages c.in_ok-board.board.history) c.in_ok-board.ensures c.new-source.ensures
    c.station-ending.result c.station-ending.new.board c.station-ending.new.source (ended.run are)
    (λ table held. ended.complete (inl are) refl refl (λ again. (table, held)))

pub returns-clause-fresh : goal.returns-clause-fresh
returns-clause-fresh c are =
    let ended = c.station-ending.ensures in
    rehearsed_fresh c.args.image.items c.args.text.items c.in_ok-board.board c.new-source.result (sixteen _ c.requires.least) (content_pages c.in_ok-board.board.history) c.in_ok-board.ensures c.new-source.ensures
    c.station-ending.result c.station-ending.new.board c.station-ending.new.source (ended.fresh are)
    (ended.complete (inr are) refl refl (λ other. absurd (not_run (sym are ∙ other))))

pub returns-clause-format : goal.returns-clause-format
returns-clause-format c are =
    let ended = c.station-ending.ensures.format are in
    rehearsed_format c.args.image.items c.args.text.items c.in_ok-board.board c.new-source.result (sixteen _ c.requires.least) (content_pages c.in_ok-board.board.history) c.in_ok-board.ensures c.new-source.ensures
    c.station-ending.result c.station-ending.new.board c.station-ending.new.source ended.0 ended.1

pub returns-clause-generate : goal.returns-clause-generate
returns-clause-generate c number count are =
    let ended = c.station-ending.ensures.generate number count are in
    rehearsed_generate c.args.image.items c.args.text.items c.in_ok-board.board c.new-source.result (sixteen _ c.requires.least) (content_pages c.in_ok-board.board.history) c.in_ok-board.ensures c.new-source.ensures
    c.station-ending.result c.station-ending.new.board c.station-ending.new.source number count ended.0 ended.1

pub returns-clause-list : goal.returns-clause-list
returns-clause-list c are =
    let ended = c.station-ending.ensures.list are in
    rehearsed_list c.args.image.items c.args.text.items c.in_ok-board.board c.new-source.result (sixteen _ c.requires.least) (content_pages c.in_ok-board.board.history) c.in_ok-board.ensures c.new-source.ensures
    c.station-ending.result c.station-ending.new.board c.station-ending.new.source ended.0 ended.1
