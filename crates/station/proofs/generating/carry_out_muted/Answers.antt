use Rattle.std.proofs.Common.{refl, ap, ◌∙◌}
use Rattle.pst_model.specs.Text.{commands_of, first_bad}
use Rattle.station.specs.Reading.{text_limit}
use Rattle.station.proofs.Traffic.{carries_traffic, none_rose}
use Rattle.station.proofs.generating.carry_out_muted.Goals as goal
use Rattle.traffic_gen.specs.Meaning.{traffic_means}
use Rattle.traffic_gen.specs.Traffic.{traffic_of}

pub returns-clause-carries : goal.returns-clause-carries
returns-clause-carries g c =
    let laws = c.traffic_reads_back.ensures in
    let short = laws.size c.args.number c.args.count c.requires.least c.requires.most in
    carries_traffic g.B.Board.means traffic_means c.args.muted.now c.open_session.new.board c.new-traffic.result c.open_session.new.source c.open_session.result c.open_session.new.tally c.open_session.ensures
    (traffic_of c.args.number c.args.count) refl none_rose
    (ap (first_bad text_limit) c.new-traffic.ensures.left ∙ laws.good text_limit c.args.number c.args.count c.requires.most short)
    (ap (commands_of text_limit) c.new-traffic.ensures.left ∙ laws.commands text_limit c.args.number c.args.count c.requires.most short)
