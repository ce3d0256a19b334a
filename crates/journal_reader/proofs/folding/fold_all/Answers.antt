use Rattle.std.proofs.Common.{◌<◌, ◌≤◌, ◌*◌, ◌-◌, refl, sym, ◌∙◌, ap, subst, arith, Some, rules}
use Rattle.board.specs.Flash.{Flash}
use Rattle.board.proofs.Reading.{reads_most, reads_none, reads_on}
use Rattle.board.proofs.Works.{tells_too}
use Rattle.commit_gate.specs.Entries.{area_of}
use Rattle.journal_reader.specs.Steps.{StepsFrom, step_reads}
use Rattle.journal_reader.specs.declared.folding.Step.TheVariants as steps
use Rattle.journal_reader.specs.declared.stop.ReadStop.{ReadStop}
use Rattle.journal_reader.proofs.Rests.{rest_end, rest_next, rest_refused}
use Rattle.journal_reader.proofs.folding.fold_all.Goals as goal

pub loop-next-init : goal.loop-next-init
loop-next-init g c =
    let means = g.B.Board.means in
    let old = c.args.board.now in
    record {
      later = omega arith;
      within = c.requires.start;
      room = c.requires.room;
      rest = λ told. refl;
      reads = reads_most means old old (reads_none means old (λ image told left. g.met.B.Board.images_now old image told left)) (omega arith);
      no_fault = refl;
    }

pub loop-next-preserved : goal.loop-next-preserved
loop-next-preserved g c =
    let means = g.B.Board.means in
    let old = c.args.board.now in
    let mid = c.loop-next.board in
    let new = c.fold_next.new.board in
    let so_far = c.loop-next.invariant in
    let next = c.in-Ok-Next.next in
    let d = c.loop-next.directory.directory in
    let e = c.fold_next.new.directory.directory in
    let range : (c.loop-next.at < next) × (next ≤ 512) = search rules in
    let most : step_reads {E = ReadStop} c.loop-next.at c.fold_next.result ≤ next - c.loop-next.at = search rules in
    record {
      later = omega (arith, so_far.later, range.0);
      within = range.1;
      room = search rules;
      rest = λ told.
          let flash = (so_far.reads.stays told).flash in
          let told_here = tells_too so_far.reads.same told in
          let here = λ (f : Flash). area_of (256 * c.args.area.first) f.content in
          let step : StepsFrom (here (means.flash mid)) c.loop-next.at d e (steps.Next next) = search rules in
          let there = subst (λ (f : Flash). StepsFrom (here f) c.loop-next.at d e (steps.Next next)) flash step in
          rest_next (here (means.flash old)) c.loop-next.at there.0 next d e there.1 there.2 ∙ so_far.rest told;
      reads = reads_most means old new (reads_on means old mid new so_far.reads c.fold_next.ensures.reads) (omega (arith, most, so_far.later, range.0));
      no_fault = c.in-Ok-Next.ensures.no_fault ∙ so_far.no_fault;
    }

pub returns-in-Ok-End-clause-folded : goal.returns-in-Ok-End-clause-folded
returns-in-Ok-End-clause-folded g c told =
    let means = g.B.Board.means in
    let so_far = c.loop-next.invariant in
    let flash = (so_far.reads.stays told).flash in
    let here = λ (f : Flash). area_of (256 * c.args.area.first) f.content in
    let d = c.loop-next.directory.directory in
    let e = c.fold_next.new.directory.directory in
    let told_here = tells_too so_far.reads.same told in
    let step : StepsFrom (here (means.flash c.loop-next.board)) c.loop-next.at d e steps.End = search rules in
    let there = subst (λ (f : Flash). StepsFrom (here f) c.loop-next.at d e steps.End) flash step in
    sym (so_far.rest told) ∙ rest_end (here (means.flash c.args.board.now)) c.loop-next.at d there.0 ∙ ap Some (sym there.1)

pub returns-in-Ok-Refused-clause-folded : goal.returns-in-Ok-Refused-clause-folded
returns-in-Ok-Refused-clause-folded g c told =
    let means = g.B.Board.means in
    let so_far = c.loop-next.invariant in
    let flash = (so_far.reads.stays told).flash in
    let here = λ (f : Flash). area_of (256 * c.args.area.first) f.content in
    let d = c.loop-next.directory.directory in
    let told_here = tells_too so_far.reads.same told in
    let step : StepsFrom (here (means.flash c.loop-next.board)) c.loop-next.at d c.fold_next.new.directory.directory steps.Refused = search rules in
    let there = subst (λ (f : Flash). StepsFrom (here f) c.loop-next.at d c.fold_next.new.directory.directory steps.Refused) flash step in
    sym (so_far.rest told) ∙ rest_refused (here (means.flash c.args.board.now)) c.loop-next.at d there
