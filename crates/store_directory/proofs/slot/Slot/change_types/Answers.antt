use Rattle.std.proofs.Common.{refl, ap}
use Rattle.std.proofs.lemmas.Result.{on_err_weaker, on_ok_weaker}
use Rattle.store_directory.proofs.slot.Slot.change_types.Goals as goal

pub returns-clause-ok : goal.returns-clause-ok
returns-clause-ok c = on_ok_weaker c.change_patterns.result (λ changed. rw changed refl) c.change_patterns.ensures.ok

pub returns-clause-err : goal.returns-clause-err
returns-clause-err c =
    on_err_weaker c.change_patterns.result (
    λ err. (rw err.0 refl, ap (λ p. record { row = c.args.self.now.row; patterns = p; links = c.args.self.now.links; largest = c.args.self.now.largest }) err.1)
    ) c.change_patterns.ensures.err

pub returns-clause-keeps : goal.returns-clause-keeps
returns-clause-keeps c = record {
  row = refl;
  largest = refl;
  slot = λ slot. record {
    listed = record { lawful = slot.listed.lawful; fits = slot.listed.fits; patterns = c.change_patterns.ensures.lawful; links = slot.listed.links; fitting = slot.listed.fitting };
    within = slot.within;
    room = slot.room;
  };
}
