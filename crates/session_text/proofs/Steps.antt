-- What a reader comes to by several steps.
use Rattle.std.proofs.Common.{◌≡◌, ℕ, ◌+◌, ◌≤◌, ◌<◌, Bool, List, length, refl, ◌∙◌, subst, arith}
use Rattle.std.specs.Prelude.{IsTrue}
use Rattle.pst_model.specs.Command.{Command}
use Rattle.session_text.specs.Progress.{HasRead}
use Rattle.session_text.specs.Reader.{Reader}
use Rattle.session_text.specs.Turns.{Asks, Ended, Failed, MovesOn, Nothing, OnLine, Said, Turn, Wrong}

-- lines that say nothing were passed
pub record Passes (old new : Reader) (told : Bool) (before after : List ℕ) : Type 0 where
  pub limit : new.limit ≡ old.limit
  pub live : IsTrue new.live
  pub place : old.place ≤ new.place
  pub within : new.place ≤ new.limit
  pub reads : IsTrue told → (text : List ℕ) (done : List Command) → HasRead text done old before → HasRead text done new after

pub passes_none : (old : Reader) (told : Bool) (before : List ℕ) → IsTrue old.live → old.place ≤ old.limit → Passes old old told before before
passes_none old told before live within = record { limit = refl; live = live; place = omega arith; within = within; reads = λ tells text done has. has }

pub passes_on : (old mid new : Reader) (told : Bool) (before between after : List ℕ) → Passes old mid told before between → MovesOn mid new told between after Nothing → Passes old new told before after
passes_on old mid new told before between after passes moves = record {
  limit = moves.limit ∙ passes.limit;
  live = moves.live;
  place = omega (arith, passes.place, moves.progress);
  within = moves.within;
  reads = λ tells text done has. moves.reads tells text done (passes.reads tells text done has);
}

-- a later place on a line
later : (turn : Turn) (old mid new : ℕ) → old ≤ mid → OnLine turn (mid < new) → OnLine turn (old < new)
later (Said command) old mid new le lt = omega arith
later Nothing old mid new le lt = omega arith
later Ended old mid new le lt = tt
later (Wrong line why) old mid new le lt = tt
later Failed old mid new le lt = tt

-- and then a step was made
pub passes_then : (old mid new : Reader) (told : Bool) (before between after : List ℕ) (turn : Turn) → Passes old mid told before between → MovesOn mid new told between after turn → MovesOn old new told before after turn
passes_then old mid new told before between after turn passes moves = record {
  limit = moves.limit ∙ passes.limit;
  live = moves.live;
  progress = later turn old.place mid.place new.place passes.place moves.progress;
  within = moves.within;
  reads = λ tells text done has. moves.reads tells text done (passes.reads tells text done has);
}

-- the same of a source that tells as before
pub passes_last : (old mid new : Reader) (told told' : Bool) (before between after : List ℕ) (turn : Turn) → told' ≡ told → Passes old mid told before between → MovesOn mid new told' between after turn
    → MovesOn old new told before after turn
passes_last old mid new told told' before between after turn same passes moves =
    passes_then old mid new told before between after turn passes (subst (λ (t : Bool). MovesOn mid new t between after turn) same moves)

pub asks_then : (old mid new : Reader) (told told' : Bool) (before between after : List ℕ) (first second third : ℕ) → told' ≡ told → Asks old mid told before between first second → Asks mid new told' between after second third
    → Asks old new told before after first third
asks_then old mid new told told' before between after first second third same one two = record {
  rises = omega (arith, one.rises, two.rises);
  most = λ tells. omega (arith, one.most tells, two.most (same ∙ tells));
}
