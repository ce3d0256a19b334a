use Rattle.std.proofs.Common.{◌*◌, length, rules}
use Rattle.board.specs.Meaning.{TellsFlash}
use Rattle.commit_gate.specs.Entries.{area_of}
use Rattle.journal_reader.proofs.Fronts.{front_held, no_front}
use Rattle.journal_reader.proofs.half.read_front.Goals as goal

pub returns-in-Ok-Some-clause-held : goal.returns-in-Ok-Some-clause-held
returns-in-Ok-Some-clause-held g c =
    let means = g.B.Board.means in
    let old = c.args.board.now in
    front_held (length c.args.wear.now) (area_of (256 * c.args.area.first) (means.flash old).content) (TellsFlash means old) c.in-Ok-Some.text.now c.in-Ok-Some.next
    c.spelled_by.new.wear c.spelled_by.result (λ told. search rules) c.spelled_by.ensures.spelled

pub returns-in-Ok-None-clause-held : goal.returns-in-Ok-None-clause-held
returns-in-Ok-None-clause-held g c told =
    no_front (length c.args.wear.now) (area_of (256 * c.args.area.first) (g.B.Board.means.flash c.args.board.now).content) (search rules)
