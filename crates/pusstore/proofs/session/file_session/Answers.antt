use Rattle.std.proofs.Common.{List, ℕ, ap, subst, ⊎_elim}
use Rattle.image_board.specs.FileBoard.{file_means}
use Rattle.image_board.specs.Reading.{octets_left}
use Rattle.pusstore.specs.Printing.{EndsTaking}
use Rattle.pusstore.proofs.Filed.{list_refused, list_unwritten, run_refused, sends_once}
use Rattle.pusstore.proofs.session.file_session.Goals as goal
use Rattle.traffic_gen.specs.Traffic.{traffic_of}

pub returns-clause-reading : goal.returns-clause-reading
returns-clause-reading g c are told =
    let same = ap (λ (input : g.row.R.Denot). octets_left (g.R.Read.remaining input)) c.new-source.ensures.input in
    subst (λ (text : List ℕ). EndsTaking text c.station.result) same (record {
      left = octets_left (g.R.Read.remaining c.station.new.source.input);
      taken = c.station.ensures.taken told;
      reads = c.station.ensures.reading are told;
    })

pub returns-clause-generate : goal.returns-clause-generate
returns-clause-generate g c number count are =
    sends_once file_means c.args.board.now c.station.new.board c.station.result (traffic_of number count) (c.station.ensures.generate number count are).0

pub returns-clause-list : goal.returns-clause-list
returns-clause-list g c are = list_unwritten file_means c.args.board.now c.station.new.board c.station.result (c.station.ensures.list are).0

pub returns-clause-refused : goal.returns-clause-refused
returns-clause-refused g c are is =
    ⊎_elim
    (λ run. run_refused file_means c.args.board.now c.station.new.board c.station.result _ c.new-source.result c.station.new.source (c.station.ensures.run run) is)
    (λ list. list_refused file_means c.args.board.now c.station.new.board c.station.result (c.station.ensures.list list).0 is)
    are
