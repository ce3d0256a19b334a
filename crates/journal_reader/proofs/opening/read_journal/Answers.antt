use Rattle.std.proofs.Common.{◌≡◌, Some, None, length, sym, ◌∙◌, ap, rules}
use Rattle.board.specs.Flash.{Flash}
use Rattle.board.proofs.Reading.{reads_on}
use Rattle.board.proofs.Works.{tells_too}
use Rattle.board.specs.Reads.{ReadsOnly}
use Rattle.meta_journal.specs.Directories.{chosen}
use Rattle.journal_reader.specs.Halves.{halves_in}
use Rattle.journal_reader.proofs.Choices.{chosen_by_votes, reads_by_votes}
use Rattle.journal_reader.proofs.opening.read_journal.Goals as goal

pub returns-in-Ok-Some-clause-held : goal.returns-in-Ok-Some-clause-held
returns-in-Ok-Some-clause-held g c told =
    let means = g.B.Board.means in
    let n = length c.args.wear.now in
    let told_mid = tells_too c.read_roots.ensures.reads.same told in
    let flash = (c.read_roots.ensures.reads.stays told).flash in
    let reads : chosen n c.choice.result (halves_in n (means.flash c.read_roots.new.board).content) ≡ Some c.in-Ok-Some.directory.directory = search rules in
    chosen_by_votes (means.device c.args.board.now).blocks n c.in-Ok.votes.votes (means.flash c.args.board.now).content (Some c.in-Ok-Some.directory.directory)
    c.requires.blocks (c.in-Ok.ensures.votes told)
    (sym (ap (λ (f : Flash). chosen n c.choice.result (halves_in n f.content)) flash ∙ ap (λ v. chosen n v (halves_in n (means.flash c.args.board.now).content)) c.choice.ensures) ∙ reads)

pub returns-in-Ok-None-clause-held : goal.returns-in-Ok-None-clause-held
returns-in-Ok-None-clause-held g c told =
    let means = g.B.Board.means in
    let n = length c.args.wear.now in
    let told_mid = tells_too c.read_roots.ensures.reads.same told in
    let flash = (c.read_roots.ensures.reads.stays told).flash in
    let reads : chosen n c.choice.result (halves_in n (means.flash c.read_roots.new.board).content) ≡ None = search rules in
    chosen_by_votes (means.device c.args.board.now).blocks n c.in-Ok.votes.votes (means.flash c.args.board.now).content None
    c.requires.blocks (c.in-Ok.ensures.votes told)
    (sym (ap (λ (f : Flash). chosen n c.choice.result (halves_in n f.content)) flash ∙ ap (λ v. chosen n v (halves_in n (means.flash c.args.board.now).content)) c.choice.ensures) ∙ reads)

pub returns-in-Ok-Some-clause-few_reads : goal.returns-in-Ok-Some-clause-few_reads
returns-in-Ok-Some-clause-few_reads g c told =
    let means = g.B.Board.means in
    let old = c.args.board.now in
    reads_by_votes (λ n. ReadsOnly means n old c.read_chosen.new.board) c.in-Ok.votes.votes (means.flash old).content c.choice.result
    (c.in-Ok.ensures.votes told) c.choice.ensures
    (reads_on means old c.read_roots.new.board c.read_chosen.new.board c.read_roots.ensures.reads c.read_chosen.ensures.reads)

pub returns-in-Ok-None-clause-few_reads : goal.returns-in-Ok-None-clause-few_reads
returns-in-Ok-None-clause-few_reads g c told =
    let means = g.B.Board.means in
    let old = c.args.board.now in
    reads_by_votes (λ n. ReadsOnly means n old c.read_chosen.new.board) c.in-Ok.votes.votes (means.flash old).content c.choice.result
    (c.in-Ok.ensures.votes told) c.choice.ensures
    (reads_on means old c.read_roots.new.board c.read_chosen.new.board c.read_roots.ensures.reads c.read_chosen.ensures.reads)

pub returns-in-Err-read_chosen-clause-few_reads : goal.returns-in-Err-read_chosen-clause-few_reads
returns-in-Err-read_chosen-clause-few_reads g c told =
    let means = g.B.Board.means in
    let old = c.args.board.now in
    reads_by_votes (λ n. ReadsOnly means n old c.read_chosen.new.board) c.in-Ok.votes.votes (means.flash old).content c.choice.result
    (c.in-Ok.ensures.votes told) c.choice.ensures
    (reads_on means old c.read_roots.new.board c.read_chosen.new.board c.read_roots.ensures.reads c.read_chosen.ensures.reads)
