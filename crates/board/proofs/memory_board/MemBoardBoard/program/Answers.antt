use Rattle.std.proofs.Common.{inl, inr, [], List, ℕ, ◌+◌, ◌*◌, ◌∙◌, ap, arith, refl, rules}
use Rattle.board.specs.declared.step.Step.TheVariants.{Program, TornProgram}
use Rattle.board.specs.Flash.{IsImage, Torn, Unchanged, loosened, only_page, written}
use Rattle.board.specs.History.{torn}
use Rattle.board.specs.Kept.{Grew, Stayed}
use Rattle.board.specs.Memory.{flash_of}
use Rattle.board.proofs.Pages.{blank_page, image_of_loosened, image_of_written}
use Rattle.board.proofs.Steps.{content_seen, either_way, grew_flash, grew_leaves, grew_moment, grew_quietly, ok_gives, stayed_flash, stayed_leaves, stayed_moment, stayed_quietly}
use Rattle.board.proofs.Stepped.{grew_kept, grew_unsent, stayed_kept, stayed_unsent}
use Rattle.board.proofs.Touching.{kept_elsewhere, written_elsewhere}
use Rattle.board.proofs.memory_board.MemBoardBoard.program.Goals as goal

-- the call that is planned to fail
pub tear-requires-clause-fits : goal.tear-requires-clause-fits
tear-requires-clause-fits c = record { octets = blank_page; places = omega arith }

pub returns-then-fails_next-clause-err : goal.returns-then-fails_next-clause-err
returns-then-fails_next-clause-err c told =
    let old = c.args.self.now.history in
    let new = c.tear.new.history in
    elim c.tear.ensures.torn [
      | inl grew ↦ Torn (flash_of c.args.self.now).content (grew_flash old new (TornProgram (256 * c.args.block + c.args.page)) [] grew.0)
      | inr stayed ↦ Unchanged (stayed_flash old new stayed.0)
    ]

pub returns-then-fails_next-clause-touches : goal.returns-then-fails_next-clause-touches
returns-then-fails_next-clause-touches c =
    let old = c.args.self.now in
    let blocks = old.history.blocks in
    let these = only_page (256 * c.args.block + c.args.page) in
    let flash = flash_of old in
    record {
      others = λ told. elim c.tear.ensures.torn [
        | inl grew ↦ grew_kept these old.history _ (TornProgram (256 * c.args.block + c.args.page)) [] grew.0 (kept_elsewhere (written_elsewhere these flash.content flash (torn these flash) refl))
        | inr stayed ↦ stayed_kept these old.history _ stayed.0
      ];
      leaves = λ told. elim c.tear.ensures.torn [
        | inl grew ↦ grew_leaves old _ (TornProgram (256 * c.args.block + c.args.page)) [] grew.0 (IsImage blocks (loosened these flash)) (image_of_loosened blocks these flash) (image_of_written blocks these flash.content flash)
        | inr stayed ↦ stayed_leaves old _ (IsImage blocks (loosened these flash)) stayed.0 (image_of_loosened blocks these flash)
      ];
      unsent = λ told. elim c.tear.ensures.torn [
        | inl grew ↦ grew_unsent old _ (TornProgram (256 * c.args.block + c.args.page)) grew.0
        | inr stayed ↦ stayed_unsent old _ stayed.0
      ];
      same = search rules;
      work = search rules;
    }

pub returns-then-fails_next-clause-failed : goal.returns-then-fails_next-clause-failed
returns-then-fails_next-clause-failed c =
    let old = c.args.self.now.history in
    let new = c.tear.new.history in
    let step = TornProgram (256 * c.args.block + c.args.page) in
    elim c.tear.ensures.torn [
      | inl grew ↦ inl (record {
        planned = c.fails_next.ensures.fails.0 c.if-fails_next.true;
        moment = grew_moment old new step [] grew.0;
        flash = grew_flash old new step [] grew.0;
        sent = grew_quietly old new step grew.0;
        starved = grew.1;
      })
      | inr stayed ↦ inr (record {
        moment = stayed_moment old new stayed.0;
        flash = stayed_flash old new stayed.0;
        sent = stayed_quietly old new stayed.0;
        starved = stayed.1;
      })
    ]

-- the call that is not
pub returns-clause-ok : goal.returns-clause-ok
returns-clause-ok c =
    let old = c.args.self.now.history in
    let place = 256 * c.args.block + c.args.page in
    ok_gives c.keep.result _ _ c.keep.ensures.ok (λ grew told.
    grew_flash old c.keep.new.history (Program place c.in-Ok.octets) [] grew
    ∙ ap (λ (octets : List ℕ). written (only_page place) (λ _. octets) (flash_of c.args.self.now)) (c.in-Ok.ensures.ok ∙ c.page_of.ensures.same))

pub returns-clause-seen : goal.returns-clause-seen
returns-clause-seen c = ok_gives c.keep.result _ _ c.keep.ensures.ok (λ grew told. content_seen c.keep.new.history)

-- there was no memory for the page
pub returns-in_default-clause-touches : goal.returns-in_default-clause-touches
returns-in_default-clause-touches c =
    let old = c.args.self.now in
    let blocks = old.history.blocks in
    let these = only_page (256 * c.args.block + c.args.page) in
    let flash = flash_of old in
    let stayed : Stayed old.history old.history = record { blocks = refl; first = refl; steps = refl; sent = refl } in
    record {
      others = λ told. stayed_kept these old.history _ stayed;
      leaves = λ told. stayed_leaves old _ (IsImage blocks (loosened these flash)) stayed (image_of_loosened blocks these flash);
      unsent = λ told. stayed_unsent old _ stayed;
      same = search rules;
      work = search rules;
    }

pub returns-clause-touches : goal.returns-clause-touches
returns-clause-touches c =
    let old = c.args.self.now in
    let new = c.keep.new.history in
    let blocks = old.history.blocks in
    let these = only_page (256 * c.args.block + c.args.page) in
    let flash = flash_of old in
    let step = Program (256 * c.args.block + c.args.page) c.in-Ok.octets in
    let either = either_way c.keep.result (Grew step [] old.history new) (Stayed old.history new) c.keep.ensures.ok c.keep.ensures.err in
    record {
      others = λ told. elim either [
        | inl grew ↦ grew_kept these old.history _ step [] grew (kept_elsewhere (written_elsewhere these (λ _. c.in-Ok.octets.value) flash (written these (λ _. c.in-Ok.octets.value) flash) refl))
        | inr stayed ↦ stayed_kept these old.history _ stayed
      ];
      leaves = λ told. elim either [
        | inl grew ↦ grew_leaves old _ step [] grew (IsImage blocks (loosened these flash)) (image_of_loosened blocks these flash) (image_of_written blocks these (λ _. c.in-Ok.octets.value) flash)
        | inr stayed ↦ stayed_leaves old _ (IsImage blocks (loosened these flash)) stayed (image_of_loosened blocks these flash)
      ];
      unsent = λ told. elim either [
        | inl grew ↦ grew_unsent old _ step grew
        | inr stayed ↦ stayed_unsent old _ stayed
      ];
      same = search rules;
      work = search rules;
    }
