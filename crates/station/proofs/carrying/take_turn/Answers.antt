use Rattle.std.proofs.Common.{Err, Ok, refl, ap, sym, ◌∙◌}
use Rattle.station.proofs.Answered.{bad_by, carried_by, done_by, fault_by, source_by}
use Rattle.station.proofs.Progress.{Steps, ended_finished}
use Rattle.station.specs.Endings.{ending_after}
use Rattle.station.proofs.carrying.take_turn.Given.{Over}
use Rattle.station.proofs.carrying.take_turn.Goals as goal
use Rattle.station.proofs.carrying.take_turn.Goals.{After-next_line}
use Rattle.session_text.specs.declared.fault.LineEnd.TheVariants.{Bad}
use Rattle.session_text.specs.Lending.{reader_of, turn_of}

-- what the reader came to, and asked of the source
steps : (g : Over) (c : After-next_line g)
    → Steps g.S.Source.means (reader_of c.args.lines.now) (reader_of c.next_line.follows.lender-at-none) c.args.source.now c.next_line.new.source (turn_of c.next_line.result)
steps g c = record {
  moves = c.next_line.follows.holds-at-none.0;
  asks = c.next_line.follows.holds-at-none.1;
  tells = c.next_line.ensures.same;
  faults = c.next_line.ensures.faults;
}

pub returns-in-Ok-None-clause-ends : goal.returns-in-Ok-None-clause-ends
returns-in-Ok-None-clause-ends g c first origin begun carried =
    let at = goal.at.returns-in-Ok-None-clause-ends g c in
    done_by g.S.Source.means (reader_of c.args.lines.now) (reader_of c.next_line.follows.lender-at-none) c.args.source.now c.next_line.new.source c.next_line.result
    (steps g at.After-next_line) g.B.Board.means first c.args.board.now origin begun c.args.handler.now c.requires.board.blocks c.args.tally.now carried
    c.finish.new.board c.finish.result c.finish.ensures.board c.finish.ensures.sound c.finish.ensures.ending (c.in-Ok-None.is ∙ ap Ok c.in-Ok-None.field-0-is) (rw c.in-Ok-None.field-0-is at c.in-Ok-None.ensures.no_fault)

pub returns-in-Err-Bad-clause-ends : goal.returns-in-Err-Bad-clause-ends
returns-in-Err-Bad-clause-ends g c first origin begun carried =
    let at = goal.at.returns-in-Err-Bad-clause-ends g c in
    bad_by g.S.Source.means (reader_of c.args.lines.now) (reader_of c.next_line.follows.lender-at-none) c.args.source.now c.next_line.new.source c.next_line.result
    (steps g at.After-next_line) g.B.Board.means first c.args.board.now origin begun c.args.handler.now c.requires.board.blocks c.args.tally.now carried
    c.finish-in-Err-Bad.new.board c.finish-in-Err-Bad.result c.finish-in-Err-Bad.ensures.board c.finish-in-Err-Bad.ensures.sound _ _ c.finish-in-Err-Bad.ensures.ending (c.in-Err-Bad.is ∙ ap Err (c.in-Err-Bad.field-0-is ∙ (λ j. Bad (sym c.in-Err-Bad.line-is j) (sym c.in-Err-Bad.why-is j)))) (rw c.in-Err-Bad.field-0-is at c.in-Err-Bad.ensures.no_fault)

pub returns-in-Err-Source-clause-ends : goal.returns-in-Err-Source-clause-ends
returns-in-Err-Source-clause-ends g c first origin begun carried =
    let at = goal.at.returns-in-Err-Source-clause-ends g c in
    source_by g.S.Source.means (reader_of c.args.lines.now) (reader_of c.next_line.follows.lender-at-none) c.args.source.now c.next_line.new.source c.next_line.result
    (steps g at.After-next_line) g.B.Board.means first c.args.board.now origin begun c.args.handler.now c.requires.board.blocks c.args.tally.now carried
    c.finish-in-Err-Source.new.board c.finish-in-Err-Source.result c.finish-in-Err-Source.ensures.board c.finish-in-Err-Source.ensures.sound c.finish-in-Err-Source.ensures.ending (c.in-Err-Source.is ∙ ap Err c.in-Err-Source.field-0-is) (rw c.in-Err-Source.field-0-is at c.in-Err-Source.ensures.cause)

pub returns-in-Ok-clause-goes_on : goal.returns-in-Ok-clause-goes_on
returns-in-Ok-clause-goes_on g c first origin begun carried =
    let at = goal.at.returns-in-Ok-clause-goes_on g c in
    carried_by g.S.Source.means (reader_of c.args.lines.now) (reader_of c.next_line.follows.lender-at-none) c.args.source.now c.next_line.new.source c.next_line.result
    (steps g at.After-next_line) g.B.Board.means first c.args.board.now origin begun c.args.handler.now c.requires.board.blocks c.args.tally.now carried
    c.in-Ok-Some.command (c.in-Ok-Some.is ∙ ap Ok c.in-Ok-Some.field-0-is) (rw c.in-Ok-Some.field-0-is at c.in-Ok-Some.ensures.no_fault)
    c.carry_out.new.board c.carry_out.new.handler c.carry_out.result c.carry_out.ensures.answers c.carry_out.ensures.work c.in-Ok.sent c.in-Ok.is c.add.new.self c.add.ensures

pub returns-in-Err-clause-ends : goal.returns-in-Err-clause-ends
returns-in-Err-clause-ends g c first origin begun carried =
    let at = goal.at.returns-in-Err-clause-ends g c in
    ended_finished g.B.Board.means g.S.Source.means first c.carry_out.new.board c.carry_out.new.board origin c.next_line.new.source begun (ending_after c.in-Err.fault) c.ending_of.result c.args.tally.now refl c.ending_of.ensures
    (fault_by g.S.Source.means (reader_of c.args.lines.now) (reader_of c.next_line.follows.lender-at-none) c.args.source.now c.next_line.new.source c.next_line.result
    (steps g at.After-next_line) g.B.Board.means first c.args.board.now origin begun c.args.handler.now c.requires.board.blocks c.args.tally.now carried
    c.in-Ok-Some.command (c.in-Ok-Some.is ∙ ap Ok c.in-Ok-Some.field-0-is) (rw c.in-Ok-Some.field-0-is at c.in-Ok-Some.ensures.no_fault)
    c.carry_out.new.board c.carry_out.new.handler c.carry_out.result c.carry_out.ensures.answers c.carry_out.ensures.work c.in-Err.fault c.in-Err.is)
