use Rattle.std.proofs.Common.{◌≡◌, inl, inr, [], ◌∷◌, ◌++◌, get_or, length, refl, arith}
use Rattle.board.specs.declared.step.Step.TheVariants.{Send}
use Rattle.board.proofs.Histories.{page_after, page_still, sent_after, sent_still, steps_still_fit}
use Rattle.board.proofs.Pages.{blank_page}
use Rattle.board.proofs.Steps.{both_err, both_ok, either_way}
use Rattle.board.proofs.history.History.send.Goals as goal

pub invariant_of-self : goal.invariant_of-self
invariant_of-self c =
    let old = c.args.self.now in
    let bytes = c.args.bytes.now in
    let step = Send (length bytes) in
    let all = c.keep_sent.ensures in
    let sent = c.keep_sent.new.sent.items in
    let steps = c.keep_sent.new.steps.items in
    record {
      least = old.least;
      most = old.most;
      first_fits = old.first_fits;
      steps_fit = steps_still_fit old steps step c.keep_sent.result all.ok all.err (record { octets = blank_page; places = omega arith });
      all_pages = old.all_pages;
      pages_are = λ p lt. elim (either_way c.keep_sent.result (steps ≡ old.steps.items ++ step ∷ []) (steps ≡ old.steps.items) all.ok all.err) [
        | inl more ↦ page_after old steps step more p (get_or old.pages.items p []) (old.pages_are p lt)
        | inr same ↦ page_still old steps same p (get_or old.pages.items p []) (old.pages_are p lt)
      ];
      sent_is = elim (either_way c.keep_sent.result ((steps ≡ old.steps.items ++ step ∷ []) × (sent ≡ old.sent.items ++ bytes)) ((steps ≡ old.steps.items) × (sent ≡ old.sent.items)) (both_ok c.keep_sent.result _ _ all.ok all.ok_sent) (both_err c.keep_sent.result _ _ all.err all.err_sent)) [
        | inl more ↦ sent_after old steps step more.0 sent bytes more.1 refl
        | inr same ↦ sent_still old steps same.0 sent same.1
      ];
    }
