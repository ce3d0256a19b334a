use Rattle.std.proofs.Common.{◌≡◌, ◌∙◌, true, false, ℕ, List, Ok, Err, None, sym, ap, subst, refl, arith}
use Rattle.pst_model.specs.Forms.{Reading}
use Rattle.session_text.specs.declared.fault.LineEnd.{LineEnd}
use Rattle.session_text.specs.Lending.{line_turn, reader_of}
use Rattle.session_text.specs.Read.{said_in}
use Rattle.session_text.specs.Reader.{IsDecided, Reader}
use Rattle.session_text.specs.Turns.{MovesOn, Turn}
use Rattle.session_text.proofs.Advances.{IsLine, MovesOn-line, MovesOn-last, MovesOn-bad, MovesOn-end, MovesOn-closed, MovesOn-failed, Asks-found, Asks-none, first-line, first-last, first-past, spare_closed, spare_dead, spare_most}
use Rattle.session_text.proofs.Decisions.{decided_found, decided_on}
use Rattle.session_text.proofs.Turned.{on_nothing, turn_passed}
use Rattle.session_text.proofs.lines.Lines.pass_line.Goals as goal

pub returns-in-Ok-clause-moves : goal.returns-in-Ok-clause-moves
returns-in-Ok-clause-moves g c =
    let line : IsLine c.find_line.new.held c.in-Line.length = record { split = c.in-Line.ensures.found.0; none = c.in-Line.ensures.found.1 } in
    subst (MovesOn (reader_of c.args.self.now) (reader_of c.pass_read.new.self) _ _ _) (turn_passed c.pass_read.new.self.packet.items c.in-Ok.said c.passed_of.result c.passed_of.ensures)
    (MovesOn-line (reader_of c.args.self.now) (reader_of c.pass_read.new.self) _ c.find_line.new.held _ _ c.in-Line.length (said_in c.pass_read.new.self.packet.items c.in-Ok.said)
    line c.in-Line.ensures.text c.in-Ok.ensures.reading c.in-Ok.ensures.moved c.requires c.pass_read.new.self.within)

pub returns-in-Ok-clause-asks : goal.returns-in-Ok-clause-asks
returns-in-Ok-clause-asks g c =
    Asks-found (reader_of c.args.self.now) (reader_of c.pass_read.new.self) _ c.find_line.new.held _ _ _ _ 0 c.requires c.if-self.false
    c.in-Line.ensures.text c.in-Line.ensures.takes.0 c.in-Line.ensures.takes.1 (omega (arith, spare_most (reader_of c.pass_read.new.self)))

pub returns-in-Ok-clause-still : goal.returns-in-Ok-clause-still
returns-in-Ok-clause-still g c =
    λ decided. (c.find_line.ensures.still (decided_found (reader_of c.args.self.now) c.if-self.false decided)).0

pub returns-in-Err-clause-still : goal.returns-in-Err-clause-still
returns-in-Err-clause-still g c =
    λ decided. (c.find_line.ensures.still (decided_found (reader_of c.args.self.now) c.if-self.false decided)).0

pub returns-in-Ok-pass_read-clause-still : goal.returns-in-Ok-pass_read-clause-still
returns-in-Ok-pass_read-clause-still g c =
    λ decided. (c.find_line.ensures.still (decided_found (reader_of c.args.self.now) c.if-self.false decided)).0

pub returns-in-Err-pass_read-clause-still : goal.returns-in-Err-pass_read-clause-still
returns-in-Err-pass_read-clause-still g c =
    λ decided. (c.find_line.ensures.still (decided_found (reader_of c.args.self.now) c.if-self.false decided)).0

pub returns-in-Past-clause-still : goal.returns-in-Past-clause-still
returns-in-Past-clause-still g c =
    λ decided. (c.find_line.ensures.still (decided_found (reader_of c.args.self.now) c.if-self.false decided)).0

pub returns-in-Failed-clause-still : goal.returns-in-Failed-clause-still
returns-in-Failed-clause-still g c =
    λ decided. (c.find_line.ensures.still (decided_found (reader_of c.args.self.now) c.if-self.false decided)).0

pub returns-in-Ok-clause-decided : goal.returns-in-Ok-clause-decided
returns-in-Ok-clause-decided g c =
    let line : IsLine c.find_line.new.held c.in-Line.length = record { split = c.in-Line.ensures.found.0; none = c.in-Line.ensures.found.1 } in
    λ decided.
    let kept : c.find_line.new.held ≡ c.args.self.now.held = (c.find_line.ensures.still (decided_found (reader_of c.args.self.now) c.if-self.false decided)).1 in
    let mid : Reader = record (reader_of c.args.self.now) { pending = c.find_line.new.held } in
    let still : IsDecided mid = subst (λ (held : List ℕ). IsDecided (record (reader_of c.args.self.now) { pending = held })) (sym kept) decided in
    on_nothing c.pass_read.new.self.packet.items c.in-Ok.said c.passed_of.result (IsDecided (reader_of c.pass_read.new.self)) c.passed_of.ensures
    (λ none. subst IsDecided (sym c.in-Ok.ensures.moved) (decided_on mid c.in-Line.length c.if-self.false line (c.in-Ok.ensures.reading ∙ ap Ok none) still))

pub returns-in-Err-clause-moves : goal.returns-in-Err-clause-moves
returns-in-Err-clause-moves g c =
    let line : IsLine c.find_line.new.held c.in-Line.length = record { split = c.in-Line.ensures.found.0; none = c.in-Line.ensures.found.1 } in
    let bad = c.in-Err.ensures.reading in
    subst (MovesOn (reader_of c.args.self.now) (reader_of c.pass_read.new.self) _ _ _) (ap (λ (end : LineEnd). line_turn c.pass_read.new.self.packet.items (Err end)) (sym bad.1))
    (MovesOn-bad (reader_of c.args.self.now) (reader_of c.pass_read.new.self) _ c.find_line.new.held _ _ bad.0 c.in-Line.ensures.text
    (λ told. first-line (reader_of c.args.self.now) c.find_line.new.held _ c.in-Line.length bad.0 line bad.2) c.in-Err.ensures.err c.args.self.now.within)

pub returns-in-Err-clause-asks : goal.returns-in-Err-clause-asks
returns-in-Err-clause-asks g c =
    Asks-found (reader_of c.args.self.now) (reader_of c.pass_read.new.self) _ c.find_line.new.held _ _ _ _ 0 c.requires c.if-self.false
    c.in-Line.ensures.text c.in-Line.ensures.takes.0 c.in-Line.ensures.takes.1 (omega (arith, spare_most (reader_of c.pass_read.new.self)))

pub returns-in-Ok-pass_read-clause-moves : goal.returns-in-Ok-pass_read-clause-moves
returns-in-Ok-pass_read-clause-moves g c =
    let found = c.in-Last.ensures.found in
    subst (MovesOn (reader_of c.args.self.now) (record (reader_of c.pass_read-in-Last.new.self) { closed = true }) _ _ _)
    (turn_passed c.pass_read-in-Last.new.self.packet.items c.in-Ok-pass_read.said c.passed_of-in-Ok-pass_read.result c.passed_of-in-Ok-pass_read.ensures)
    (MovesOn-last (reader_of c.args.self.now) (record (reader_of c.pass_read-in-Last.new.self) { closed = true }) _ c.find_line.new.held _ _ c.in-Last.length
    (said_in c.pass_read-in-Last.new.self.packet.items c.in-Ok-pass_read.said) found.0 found.1 found.2 found.3 c.in-Last.ensures.text c.in-Ok-pass_read.ensures.reading
    (ap (λ (r : Reader). record r { closed = true }) c.in-Ok-pass_read.ensures.moved) c.requires c.pass_read-in-Last.new.self.within)

pub returns-in-Ok-pass_read-clause-asks : goal.returns-in-Ok-pass_read-clause-asks
returns-in-Ok-pass_read-clause-asks g c =
    let new : Reader = record (reader_of c.pass_read-in-Last.new.self) { closed = true } in
    Asks-found (reader_of c.args.self.now) new _ c.find_line.new.held _ _ _ _ 1 c.requires c.if-self.false
    c.in-Last.ensures.text c.in-Last.ensures.takes.0 c.in-Last.ensures.takes.1 (omega (arith, spare_closed new refl))

pub returns-in-Err-pass_read-clause-moves : goal.returns-in-Err-pass_read-clause-moves
returns-in-Err-pass_read-clause-moves g c =
    let found = c.in-Last.ensures.found in
    let bad = c.in-Err-pass_read.ensures.reading in
    subst (MovesOn (reader_of c.args.self.now) (reader_of c.pass_read-in-Last.new.self) _ _ _) (ap (λ (end : LineEnd). line_turn c.pass_read-in-Last.new.self.packet.items (Err end)) (sym bad.1))
    (MovesOn-bad (reader_of c.args.self.now) (reader_of c.pass_read-in-Last.new.self) _ c.find_line.new.held _ _ bad.0 c.in-Last.ensures.text
    (λ told. first-last (reader_of c.args.self.now) c.find_line.new.held _ c.in-Last.length bad.0 found.0 found.1 found.2 (found.3 told) bad.2) c.in-Err-pass_read.ensures.err c.args.self.now.within)

pub returns-in-Err-pass_read-clause-asks : goal.returns-in-Err-pass_read-clause-asks
returns-in-Err-pass_read-clause-asks g c =
    let dead = ap (λ (r : Reader). r.live) c.in-Err-pass_read.ensures.err in
    Asks-found (reader_of c.args.self.now) (reader_of c.pass_read-in-Last.new.self) _ c.find_line.new.held _ _ _ _ 1 c.requires c.if-self.false
    c.in-Last.ensures.text c.in-Last.ensures.takes.0 c.in-Last.ensures.takes.1 (omega (arith, spare_dead (reader_of c.pass_read-in-Last.new.self) dead))

pub returns-in-Past-clause-moves : goal.returns-in-Past-clause-moves
returns-in-Past-clause-moves g c =
    let found = c.in-Past.ensures.found in
    subst (MovesOn (reader_of c.args.self.now) (reader_of c.end_past.new.self) _ _ _) (ap (λ (end : LineEnd). line_turn c.end_past.new.self.packet.items (Err end)) (sym c.end_past.ensures.bad))
    (MovesOn-bad (reader_of c.args.self.now) (reader_of c.end_past.new.self) _ c.find_line.new.held _ _ _ c.in-Past.ensures.text
    (λ told. first-past (reader_of c.args.self.now) c.find_line.new.held _ found.0 found.1 found.2 c.args.self.now.within) c.end_past.ensures.ended c.args.self.now.within)

pub returns-in-Past-clause-asks : goal.returns-in-Past-clause-asks
returns-in-Past-clause-asks g c =
    Asks-found (reader_of c.args.self.now) (reader_of c.end_past.new.self) _ c.find_line.new.held _ _ _ _ 0 c.requires c.if-self.false
    c.in-Past.ensures.text c.in-Past.ensures.takes.0 c.in-Past.ensures.takes.1 (omega (arith, spare_most (reader_of c.end_past.new.self)))
