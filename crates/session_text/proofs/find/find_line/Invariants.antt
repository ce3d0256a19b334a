use Rattle.std.proofs.Common.{◌+◌, ◌-◌, ◌≡◌, ◌≤◌, ◌++◌, length, take}
use Rattle.std.specs.Prelude.{Contains, IsTrue}
use Rattle.session_text.specs.Find.{IsFound}
use Rattle.session_text.proofs.find.find_line.Given as goal

abbrev pub invariant-takes : goal.invariant-takes
invariant-takes g l =
    let input = g.S.Source.means in
    record {
      short : l.seen ≤ 131200;
      within : l.seen ≤ length l.held;
      unended : ¬ (Contains (take l.seen l.held) 10);
      holds : IsFound l.room l.fn.held → IsFound l.room l.held;
      still : IsFound l.room l.fn.held → l.source ≡ l.fn.source;
      kept : IsFound l.room l.fn.held → l.held ≡ l.fn.held;
      text : IsTrue (input.tells l.fn.source) → l.held ++ input.left l.source ≡ l.fn.held ++ input.left l.fn.source;
      same : input.tells l.source ≡ input.tells l.fn.source;
      faults : input.faults l.source ≡ input.faults l.fn.source;
      takes_from : input.takes l.fn.source ≤ input.takes l.source;
      takes_to : input.takes l.source + length l.fn.held ≤ input.takes l.fn.source + length l.held;
    }

abbrev pub decreases-takes : goal.decreases-takes
decreases-takes g l = 131201 - length l.held
