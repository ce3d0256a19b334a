-- What a call of a board in memory leaves of the pages that are not its own, and of what was sent.
use Rattle.std.proofs.Common.{◌≡◌, ℕ, Bool, List, [], refl, sym, ◌∙◌, ap, subst, arith}
use Rattle.std.proofs.lemmas.List.{append-nil}
use Rattle.board.specs.declared.history.History.{History}
use Rattle.board.specs.declared.memory.MemBoard.{MemBoard}
use Rattle.board.specs.declared.step.Step.{Step}
use Rattle.board.specs.Flash.{Flash}
use Rattle.board.specs.History.{flash_after_step}
use Rattle.board.specs.Kept.{Grew, Stayed}
use Rattle.board.specs.Memory.{memory_means, moment_of, sent_at}
use Rattle.board.specs.Moments.{SendsNothing}
use Rattle.board.specs.Touches.{KeptElsewhere}
use Rattle.board.proofs.Steps.{flash_in, grew_flash, grew_sends, stayed_flash, stayed_moment, stayed_sent}
use Rattle.board.proofs.Touching.{kept_elsewhere, same_elsewhere}

-- with one step more
pub grew_kept : (these : ℕ → Bool) (old new : History) (step : Step) (bytes : List ℕ) → Grew step bytes old new
    → KeptElsewhere these (flash_in old) (flash_after_step step (flash_in old)) → KeptElsewhere these (flash_in old) (flash_in new)
grew_kept these old new step bytes grew kept =
    subst (λ (f : Flash). KeptElsewhere these (flash_in old) f) (sym (grew_flash old new step bytes grew)) kept

pub grew_unsent : (old new : MemBoard) (step : Step) → Grew step [] old.history new.history → SendsNothing memory_means old new
grew_unsent old new step grew =
    grew_sends old new step [] grew (λ octets. octets ≡ sent_at old (moment_of old)) refl (append-nil (sent_at old (moment_of old)))

-- with none
pub stayed_kept : (these : ℕ → Bool) (old new : History) → Stayed old new → KeptElsewhere these (flash_in old) (flash_in new)
stayed_kept these old new stayed = kept_elsewhere (same_elsewhere these (flash_in old) (flash_in new) (stayed_flash old new stayed))

pub stayed_unsent : (old new : MemBoard) → Stayed old.history new.history → SendsNothing memory_means old new
stayed_unsent old new stayed = record {
  later = omega (arith, long);
  each = λ t from to. let end : t ≡ moment_of old = omega (arith, long) in same t ∙ ap (sent_at old) end;
  past = λ t le. same t;
}
  where
    long : moment_of new ≡ moment_of old
    long = stayed_moment old.history new.history stayed

    same : (t : ℕ) → sent_at new t ≡ sent_at old t
    same = stayed_sent old.history new.history stayed
