-- What a session on a device in a file counts.
use Rattle.std.proofs.Common.{◌≡◌, ◌⊎◌, inl, inr, List}
use Rattle.board.specs.Meaning.{BoardMeaning, SourceMeaning, TellsLink}
use Rattle.pst_model.specs.Command.{Command}
use Rattle.station.specs.declared.ending.Ending.{Ending}
use Rattle.station.specs.declared.ending.Ending.TheVariants.{Done, LinkFault, NotHeld}
use Rattle.station.specs.Generating.{Generates, IsUnsent}
use Rattle.station.specs.Station.{Lists, Runs, SendsNone, WritesNothing}
use Rattle.pusstore.specs.Filing.{IsRefused, IsUnwritten, SendsOnce}

module _ {B : Type 0} (means : BoardMeaning B) (old new : B) (ending : Ending) where
  unwritten_by : WritesNothing means old new → IsUnwritten (means.counts old) (means.counts new)
  unwritten_by writes = record { programs = writes.programs; erases = writes.erases }

  refused_by : WritesNothing means old new → SendsNone means old new → IsRefused (means.counts old) (means.counts new)
  refused_by writes sends = record { unwritten = unwritten_by writes; sends = sends.uncalled }

  pub list_unwritten : Lists means old new ending → IsUnwritten (means.counts old) (means.counts new)
  list_unwritten lists = unwritten_by lists.listing.writes

  pub list_refused : Lists means old new ending → ending ≡ NotHeld → IsRefused (means.counts old) (means.counts new)
  list_refused lists is = refused_by lists.listing.writes (lists.refused is).0

  pub run_refused : {S : Type 0} (input : SourceMeaning S) (origin source : S) → Runs means input old new origin source ending → ending ≡ NotHeld
      → IsRefused (means.counts old) (means.counts new)
  run_refused input origin source runs is = refused_by (runs.refused is).0.writes (runs.refused is).0.sends

  pub sends_once : (commands : List Command) → Generates means commands old new ending → SendsOnce (means.counts old) (means.counts new) ending
  sends_once commands generates = record { most = generates.calls; none = λ undone unlinked. by undone unlinked generates.ends }
    where
      by : (ending ≡ Done → ⊥) → (ending ≡ LinkFault → ⊥)
          → (ending ≡ Done) ⊎ (ending ≡ LinkFault) ⊎ (IsUnsent ending × ((means.counts new).sends ≡ (means.counts old).sends)
          × (TellsLink means old → means.sent new (means.moment new) ≡ means.sent old (means.moment old)))
          → (means.counts new).sends ≡ (means.counts old).sends
      by undone unlinked (inl is) = absurd (undone is)
      by undone unlinked (inr (inl is)) = absurd (unlinked is)
      by undone unlinked (inr (inr (is, sends, sent))) = sends
