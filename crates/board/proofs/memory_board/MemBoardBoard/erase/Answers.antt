use Rattle.std.proofs.Common.{inl, inr, [], arith, refl, rules}
use Rattle.board.specs.declared.step.Step.TheVariants.{Erase, TornErase}
use Rattle.board.specs.Flash.{IsImage, Torn, Unchanged, loosened, pages_of_block, wiped}
use Rattle.board.specs.History.{torn}
use Rattle.board.specs.Kept.{Grew, Stayed}
use Rattle.board.specs.Memory.{flash_of}
use Rattle.board.proofs.Pages.{blank_page, image_of_loosened, image_of_wiped, image_of_written}
use Rattle.board.proofs.Steps.{content_seen, either_way, grew_flash, grew_leaves, grew_moment, grew_quietly, ok_gives, stayed_flash, stayed_leaves, stayed_moment, stayed_quietly}
use Rattle.board.proofs.Stepped.{grew_kept, grew_unsent, stayed_kept, stayed_unsent}
use Rattle.board.proofs.Touching.{kept_elsewhere, wiped_elsewhere, written_elsewhere}
use Rattle.board.proofs.memory_board.MemBoardBoard.erase.Goals as goal

-- the call that is planned to fail
pub tear-requires-clause-fits : goal.tear-requires-clause-fits
tear-requires-clause-fits c = record { octets = blank_page; places = omega arith }

pub returns-then-fails_next-clause-err : goal.returns-then-fails_next-clause-err
returns-then-fails_next-clause-err c told =
    let old = c.args.self.now.history in
    let new = c.tear.new.history in
    elim c.tear.ensures.torn [
      | inl grew ↦ Torn (flash_of c.args.self.now).content (grew_flash old new (TornErase c.args.block) [] grew.0)
      | inr stayed ↦ Unchanged (stayed_flash old new stayed.0)
    ]

pub returns-then-fails_next-clause-touches : goal.returns-then-fails_next-clause-touches
returns-then-fails_next-clause-touches c =
    let old = c.args.self.now in
    let blocks = old.history.blocks in
    let these = pages_of_block c.args.block in
    let flash = flash_of old in
    record {
      others = λ told. elim c.tear.ensures.torn [
        | inl grew ↦ grew_kept these old.history _ (TornErase c.args.block) [] grew.0 (kept_elsewhere (written_elsewhere these flash.content flash (torn these flash) refl))
        | inr stayed ↦ stayed_kept these old.history _ stayed.0
      ];
      leaves = λ told. elim c.tear.ensures.torn [
        | inl grew ↦ grew_leaves old _ (TornErase c.args.block) [] grew.0 (IsImage blocks (loosened these flash)) (image_of_loosened blocks these flash) (image_of_written blocks these flash.content flash)
        | inr stayed ↦ stayed_leaves old _ (IsImage blocks (loosened these flash)) stayed.0 (image_of_loosened blocks these flash)
      ];
      unsent = λ told. elim c.tear.ensures.torn [
        | inl grew ↦ grew_unsent old _ (TornErase c.args.block) grew.0
        | inr stayed ↦ stayed_unsent old _ stayed.0
      ];
      same = search rules;
      work = search rules;
    }

pub returns-then-fails_next-clause-failed : goal.returns-then-fails_next-clause-failed
returns-then-fails_next-clause-failed c =
    let old = c.args.self.now.history in
    let new = c.tear.new.history in
    let step = TornErase c.args.block in
    elim c.tear.ensures.torn [
      | inl grew ↦ inl (record {
        planned = c.fails_next.ensures.fails.0 c.if-fails_next.true;
        moment = grew_moment old new step [] grew.0;
        flash = grew_flash old new step [] grew.0;
        sent = grew_quietly old new step grew.0;
        starved = grew.1;
      })
      | inr stayed ↦ inr (record {
        moment = stayed_moment old new stayed.0;
        flash = stayed_flash old new stayed.0;
        sent = stayed_quietly old new stayed.0;
        starved = stayed.1;
      })
    ]

-- the call that is not
pub keep-requires-clause-fits : goal.keep-requires-clause-fits
keep-requires-clause-fits c = record { octets = blank_page; places = omega arith }

pub returns-clause-ok : goal.returns-clause-ok
returns-clause-ok c = ok_gives c.keep.result _ _ c.keep.ensures.ok (λ grew told. grew_flash c.args.self.now.history c.keep.new.history (Erase c.args.block) [] grew)

pub returns-clause-seen : goal.returns-clause-seen
returns-clause-seen c = ok_gives c.keep.result _ _ c.keep.ensures.ok (λ grew told. content_seen c.keep.new.history)

pub returns-clause-touches : goal.returns-clause-touches
returns-clause-touches c =
    let old = c.args.self.now in
    let new = c.keep.new.history in
    let blocks = old.history.blocks in
    let these = pages_of_block c.args.block in
    let flash = flash_of old in
    let step = Erase c.args.block in
    let either = either_way c.keep.result (Grew step [] old.history new) (Stayed old.history new) c.keep.ensures.ok c.keep.ensures.err in
    record {
      others = λ told. elim either [
        | inl grew ↦ grew_kept these old.history _ step [] grew (kept_elsewhere (wiped_elsewhere these flash (wiped these flash) refl))
        | inr stayed ↦ stayed_kept these old.history _ stayed
      ];
      leaves = λ told. elim either [
        | inl grew ↦ grew_leaves old _ step [] grew (IsImage blocks (loosened these flash)) (image_of_loosened blocks these flash) (image_of_wiped blocks these flash)
        | inr stayed ↦ stayed_leaves old _ (IsImage blocks (loosened these flash)) stayed (image_of_loosened blocks these flash)
      ];
      unsent = λ told. elim either [
        | inl grew ↦ grew_unsent old _ step grew
        | inr stayed ↦ stayed_unsent old _ stayed
      ];
      same = search rules;
      work = search rules;
    }
