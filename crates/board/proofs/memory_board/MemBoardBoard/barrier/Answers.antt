use Rattle.std.proofs.Common.{inl, inr, [], refl, arith, rules}
use Rattle.board.specs.declared.step.Step.TheVariants.{Barrier}
use Rattle.board.specs.Flash.{IsImage, firm}
use Rattle.board.specs.Kept.{Grew, Stayed}
use Rattle.board.specs.Memory.{flash_of}
use Rattle.board.specs.Touches.{no_page}
use Rattle.board.proofs.Pages.{blank_page, image_of_firm}
use Rattle.board.proofs.Steps.{content_seen, either_way, grew_flash, grew_leaves, ok_gives, stayed_leaves}
use Rattle.board.proofs.Stepped.{grew_kept, grew_unsent, stayed_kept, stayed_unsent}
use Rattle.board.proofs.Touching.{firm_elsewhere}
use Rattle.board.proofs.memory_board.MemBoardBoard.barrier.Goals as goal

pub keep-requires-clause-fits : goal.keep-requires-clause-fits
keep-requires-clause-fits c = record { octets = blank_page; places = omega arith }

pub returns-clause-ok : goal.returns-clause-ok
returns-clause-ok c = ok_gives c.keep.result _ _ c.keep.ensures.ok (λ grew told. grew_flash c.args.self.now.history c.keep.new.history Barrier [] grew)

pub returns-clause-seen : goal.returns-clause-seen
returns-clause-seen c = ok_gives c.keep.result _ _ c.keep.ensures.ok (λ grew told. content_seen c.keep.new.history)

pub returns-clause-touches : goal.returns-clause-touches
returns-clause-touches c =
    let old = c.args.self.now in
    let new = c.keep.new.history in
    let blocks = old.history.blocks in
    let either = either_way c.keep.result (Grew Barrier [] old.history new) (Stayed old.history new) c.keep.ensures.ok c.keep.ensures.err in
    record {
      others = λ told. elim either [
        | inl grew ↦ grew_kept no_page old.history _ Barrier [] grew (firm_elsewhere no_page (flash_of old) (firm (flash_of old)) refl)
        | inr stayed ↦ stayed_kept no_page old.history _ stayed
      ];
      leaves = λ told. elim either [
        | inl grew ↦ grew_leaves old _ Barrier [] grew (IsImage blocks (flash_of old)) (λ image is. is) (image_of_firm blocks (flash_of old))
        | inr stayed ↦ stayed_leaves old _ (IsImage blocks (flash_of old)) stayed (λ image is. is)
      ];
      unsent = λ told. elim either [
        | inl grew ↦ grew_unsent old _ Barrier grew
        | inr stayed ↦ stayed_unsent old _ stayed
      ];
      same = search rules;
      work = search rules;
    }
