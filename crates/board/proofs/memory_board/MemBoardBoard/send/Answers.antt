use Rattle.std.proofs.Common.{[], length, refl}
use Rattle.std.proofs.lemmas.List.{append-nil}
use Rattle.board.specs.declared.step.Step.TheVariants.{Send}
use Rattle.board.specs.Flash.{IsImage}
use Rattle.board.specs.Memory.{flash_of, moment_of, sent_at}
use Rattle.board.specs.Moments.{GainsFront}
use Rattle.board.proofs.Runs.{gains_none}
use Rattle.board.proofs.Steps.{content_seen, grew_flash, grew_leaves, grew_sends}
use Rattle.board.proofs.memory_board.MemBoardBoard.send.Goals as goal

pub returns-in-Ok-clause-any_moment : goal.returns-in-Ok-clause-any_moment
returns-in-Ok-clause-any_moment c told =
    let old = c.args.self.now in
    let bytes = c.args.bytes.now in
    let before = sent_at old (moment_of old) in
    grew_sends old _ (Send (length bytes)) bytes c.in-Ok.ensures.ok (GainsFront before bytes) (gains_none before bytes)
    (record { front = bytes; prefix = ([], append-nil bytes); gained = refl })

pub returns-in-Ok-clause-stays : goal.returns-in-Ok-clause-stays
returns-in-Ok-clause-stays c told =
    let old = c.args.self.now in
    let bytes = c.args.bytes.now in
    record {
      flash = grew_flash old.history c.send.new.self (Send (length bytes)) bytes c.in-Ok.ensures.ok;
      seen = λ seen. content_seen c.send.new.self;
      leaves = grew_leaves old _ (Send (length bytes)) bytes c.in-Ok.ensures.ok
          (IsImage old.history.blocks (flash_of old)) (λ image is. is) (λ image is. is);
    }
