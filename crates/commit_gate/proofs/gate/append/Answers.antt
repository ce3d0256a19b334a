use Rattle.std.proofs.Common.{◌≡◌, ◌⊎◌, inl, inr, ℕ, ◌+◌, ◌*◌, ◌≤◌, [], ◌∷◌, ◌++◌, length}
use Rattle.std.proofs.Common.{sym, subst, arith}
use Rattle.board.specs.Flash.{Flash}
use Rattle.board.specs.Meaning.{TellsFlash}
use Rattle.commit_gate.specs.Entries.{open_page, payload_pages}
use Rattle.commit_gate.specs.Commits.{Stands}
use Rattle.commit_gate.proofs.Images.{entry_stands}
use Rattle.commit_gate.proofs.Stages.{Ready, Shows}
use Rattle.commit_gate.proofs.Stages as stages
use Rattle.commit_gate.proofs.gate.append.Given.{Over}
use Rattle.commit_gate.proofs.gate.append.Goals as goal
use Rattle.commit_gate.proofs.gate.append.Goals.{After-write_text, After-barrier, After-program}
use Rattle.commit_gate.proofs.gate.append.Goals.{After-barrier-2}

-- the area lies on the device
area_fits : (first blocks : ℕ) → (first ≡ 3) ⊎ (first ≡ 5) → 16 ≤ blocks
    → 256 * first + 512 ≤ 256 * blocks
area_fits first blocks (inl three) enough = omega arith
area_fits first blocks (inr five) enough = omega arith

-- the entry fits, and its pages are clean
ready : (g : Over) (c : After-write_text g) → TellsFlash g.B.Board.means c.args.board.now
    → Ready g.B.Board.means c.args.board.now (256 * c.args.area.first) c.args.at c.args.entry.now
ready g c told =
    let old = c.args.board.now in
    record {
      told = told;
      shortest = c.requires.shortest;
      longest = c.requires.longest;
      room = c.requires.room;
      fits = area_fits c.args.area.first (g.B.Board.means.device old).blocks c.requires.first
          (g.met.B.Board.enough_blocks old);
      clean = c.requires.clean told;
      erased_blank = λ p. g.met.B.Board.erased_blank old p told;
    }

-- what stops leave where the payload failed, its barrier, the gate, and the last barrier or nothing
payload_left : (g : Over) (c : After-write_text g) → Shows g.B.Board.means c.args.board.now
    (256 * c.args.area.first) c.args.at c.args.entry.now c.write_text.new.board
payload_left g c has start entries = stages.ends_in_payload has c.write_text.ensures.touches

barrier_left : (g : Over) (c : After-barrier g) → Shows g.B.Board.means c.args.board.now
    (256 * c.args.area.first) c.args.at c.args.entry.now c.barrier.new.self
barrier_left g c has start entries stands =
    stages.ends_in_barrier has c.write_text.ensures.touches stands
    (c.in_ok-write_text.ensures.ok has.told) c.barrier.ensures.touches

gate_left : (g : Over) (c : After-program g) → Shows g.B.Board.means c.args.board.now
    (256 * c.args.area.first) c.args.at c.args.entry.now c.program.new.board
gate_left g c has start entries stands =
    stages.ends_in_gate has c.write_text.ensures.touches stands
    (c.in_ok-write_text.ensures.ok has.told) c.barrier.ensures.touches
    c.in_ok-barrier.ensures.ok c.program.ensures.touches

end_left : (g : Over) (c : After-barrier-2 g) → Shows g.B.Board.means c.args.board.now
    (256 * c.args.area.first) c.args.at c.args.entry.now c.barrier-2.new.self
unfolding open_page
end_left g c has start entries stands =
    stages.ends_in_last_barrier has c.write_text.ensures.touches stands
    (c.in_ok-write_text.ensures.ok has.told) c.barrier.ensures.touches
    c.in_ok-barrier.ensures.ok c.program.ensures.touches
    c.in_ok-program.ensures.ok c.barrier-2.ensures.touches

-- the images at each moment

pub returns-in_err-write_text-clause-any_moment : goal.returns-in_err-write_text-clause-any_moment
returns-in_err-write_text-clause-any_moment g c told start entries stands =
    let at = goal.at.returns-in_err-write_text-clause-any_moment g c in
    (payload_left g at.After-write_text (ready g at.After-write_text told)
    start entries stands).any_moment

pub returns-in_err-barrier-clause-any_moment : goal.returns-in_err-barrier-clause-any_moment
returns-in_err-barrier-clause-any_moment g c told start entries stands =
    let at = goal.at.returns-in_err-barrier-clause-any_moment g c in
    (barrier_left g at.After-barrier (ready g at.After-write_text told)
    start entries stands).any_moment

pub returns-in_err-program-clause-any_moment : goal.returns-in_err-program-clause-any_moment
returns-in_err-program-clause-any_moment g c told start entries stands =
    let at = goal.at.returns-in_err-program-clause-any_moment g c in
    (gate_left g at.After-program (ready g at.After-write_text told)
    start entries stands).any_moment

pub returns-in_err-barrier-2-clause-any_moment : goal.returns-in_err-barrier-2-clause-any_moment
returns-in_err-barrier-2-clause-any_moment g c told start entries stands =
    let at = goal.at.returns-in_err-barrier-2-clause-any_moment g c in
    (end_left g at.After-barrier-2 (ready g at.After-write_text told)
    start entries stands).any_moment

pub returns-clause-any_moment : goal.returns-clause-any_moment
returns-clause-any_moment g c told start entries stands =
    let at = goal.at.returns-clause-any_moment g c in
    (end_left g at.After-barrier-2 (ready g at.After-write_text told)
    start entries stands).any_moment

-- the moments in their turns

pub returns-in_err-write_text-clause-in_turn : goal.returns-in_err-write_text-clause-in_turn
returns-in_err-write_text-clause-in_turn g c told start entries stands =
    let at = goal.at.returns-in_err-write_text-clause-in_turn g c in
    (payload_left g at.After-write_text (ready g at.After-write_text told)
    start entries stands).turns

pub returns-in_err-barrier-clause-in_turn : goal.returns-in_err-barrier-clause-in_turn
returns-in_err-barrier-clause-in_turn g c told start entries stands =
    let at = goal.at.returns-in_err-barrier-clause-in_turn g c in
    (barrier_left g at.After-barrier (ready g at.After-write_text told) start entries stands).turns

pub returns-in_err-program-clause-in_turn : goal.returns-in_err-program-clause-in_turn
returns-in_err-program-clause-in_turn g c told start entries stands =
    let at = goal.at.returns-in_err-program-clause-in_turn g c in
    (gate_left g at.After-program (ready g at.After-write_text told) start entries stands).turns

pub returns-in_err-barrier-2-clause-in_turn : goal.returns-in_err-barrier-2-clause-in_turn
returns-in_err-barrier-2-clause-in_turn g c told start entries stands =
    let at = goal.at.returns-in_err-barrier-2-clause-in_turn g c in
    (end_left g at.After-barrier-2 (ready g at.After-write_text told) start entries stands).turns

pub returns-clause-in_turn : goal.returns-clause-in_turn
returns-clause-in_turn g c told start entries stands =
    let at = goal.at.returns-clause-in_turn g c in
    (end_left g at.After-barrier-2 (ready g at.After-write_text told) start entries stands).turns

-- what was touched

pub returns-in_err-barrier-clause-touches : goal.returns-in_err-barrier-clause-touches
returns-in_err-barrier-clause-touches g c =
    stages.touched_by_barrier g.B.Board.means (256 * c.args.area.first) c.args.at c.args.entry.now
    c.write_text.ensures.touches c.barrier.ensures.touches

pub returns-in_err-program-clause-touches : goal.returns-in_err-program-clause-touches
returns-in_err-program-clause-touches g c =
    stages.touched_by_gate g.B.Board.means (256 * c.args.area.first) c.args.at c.args.entry.now
    c.write_text.ensures.touches c.barrier.ensures.touches c.program.ensures.touches

pub returns-in_err-barrier-2-clause-touches : goal.returns-in_err-barrier-2-clause-touches
returns-in_err-barrier-2-clause-touches g c =
    stages.touched_by_all g.B.Board.means (256 * c.args.area.first) c.args.at c.args.entry.now
    c.write_text.ensures.touches c.barrier.ensures.touches c.program.ensures.touches
    c.barrier-2.ensures.touches

pub returns-clause-touches : goal.returns-clause-touches
returns-clause-touches g c =
    stages.touched_by_all g.B.Board.means (256 * c.args.area.first) c.args.at c.args.entry.now
    c.write_text.ensures.touches c.barrier.ensures.touches c.program.ensures.touches
    c.barrier-2.ensures.touches

-- the flash in the end

pub returns-clause-flash : goal.returns-clause-flash
unfolding open_page
returns-clause-flash g c told =
    stages.entry_is (ready g (goal.at.returns-clause-flash g c).After-write_text told)
    c.write_text.ensures.touches (c.in_ok-write_text.ensures.ok told) c.barrier.ensures.touches
    c.in_ok-barrier.ensures.ok
    c.program.ensures.touches c.in_ok-program.ensures.ok c.in_ok-barrier-2.ensures.ok

pub returns-clause-stands : goal.returns-clause-stands
returns-clause-stands g c told start entries stands =
    let means = g.B.Board.means in
    let old = c.args.board.now in
    let base = 256 * c.args.area.first in
    let entry = c.args.entry.now in
    let has = ready g (goal.at.returns-clause-stands g c).After-write_text told in
    subst (λ (f : Flash). Stands f base start (entries ++ entry ∷ [])
    (c.args.at + 1 + payload_pages (length entry))) (sym (returns-clause-flash g c told))
    (entry_stands (means.device old).blocks (means.flash old) base c.args.at entry has.shortest
    has.longest has.room has.fits has.clean has.erased_blank start entries stands)
