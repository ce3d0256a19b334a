-- If nothing failed, a session ends as its text says, unless there was no memory.
use Rattle.std.proofs.Common.{◌≡◌, ◌≢◌, ◌⊎◌, inl, inr, ℕ, List, Option, Some, None, refl, sym, subst}
use Rattle.std.specs.Prelude.{IsTrue, MatchOption}
use Rattle.board.specs.Counts.{Rose}
use Rattle.board.specs.Meaning.{BoardMeaning, SourceMeaning}
use Rattle.station.specs.declared.ending.Ending.{Ending}
use Rattle.station.specs.declared.ending.Ending.TheVariants.{BadLine, BadWords, Done, FlashFault, LinkFault, Mismatch, NoMemory, NotHeld, SourceFault}
use Rattle.station.specs.Reading.{EndsAsTold, EndsReading, text_limit}
use Rattle.station.specs.Session.{EndsHolding}
use Rattle.station.specs.Station.{Begins, Begun, HasCauses, Unbegun}
use Rattle.pst_model.specs.declared.faults.LineFault.{LineFault}
use Rattle.pst_model.specs.Command.{Command}
use Rattle.pst_model.specs.Table.{Table}
use Rattle.pst_model.specs.Text.{first_bad}

-- what the first bad line, or that there is none, says of an ending
told_by : Option (ℕ × LineFault) → Ending → Type 0
told_by bad ending = MatchOption bad ((ending ≡ Done) ⊎ (ending ≡ NoMemory)) (λ line. (ending ≡ BadLine line.0 line.1) ⊎ (ending ≡ NoMemory))

starved : (bad : Option (ℕ × LineFault)) → told_by bad NoMemory
unfolding told_by
starved None = inr refl
starved (Some bad) = inr refl

module _ {B S : Type 0} (means : BoardMeaning B) (input : SourceMeaning S) (old new : B) (origin source : S) (blocks : ℕ) (table : Table) (done others : List Command) where
  as_told : (ending : Ending) → EndsReading (input.left origin) (input.left source) done ending → EndsHolding means blocks table done others new ending
      → ending ≢ FlashFault → ending ≢ LinkFault → ending ≢ SourceFault → EndsAsTold (input.left origin) ending
  unfolding told_by
  as_told Done reading holding flash link source = subst (λ (bad : Option (ℕ × LineFault)). told_by bad Done) (sym reading.0) (inl refl)
  as_told (BadLine line why) reading holding flash link source = subst (λ (bad : Option (ℕ × LineFault)). told_by bad (BadLine line why)) (sym reading.0) (inl refl)
  as_told SourceFault reading holding flash link source = absurd (source refl)
  as_told NoMemory reading holding flash link source = starved (first_bad text_limit (input.left origin))
  as_told LinkFault reading holding flash link source = absurd (link refl)
  as_told FlashFault reading holding flash link source = absurd (flash refl)
  as_told (Mismatch block page kept found) reading holding flash link source = absurd holding
  as_told NotHeld reading holding flash link source = absurd holding
  as_told BadWords reading holding flash link source = absurd holding

module _ {B S : Type 0} (means : BoardMeaning B) (input : SourceMeaning S) (table : Table) (old new : B) (origin source : S) (ending : Ending) where
  pub begins_as_told : Begins means input table old new origin source ending → HasCauses means input old new origin source ending → IsTrue (input.tells origin)
      → ¬ (Rose (means.counts old).flash_faults (means.counts new).flash_faults) → ¬ (Rose (means.counts old).link_faults (means.counts new).link_faults)
      → ¬ (Rose (input.faults origin) (input.faults source)) → EndsAsTold (input.left origin) ending
  begins_as_told (Begun start carries) causes told flash link source' =
      as_told means input old new origin source (means.device old).blocks table carries.done carries.others ending (carries.reading told) carries.holding
      (λ is. flash (causes.board.flash is)) (λ is. link (causes.board.link is)) (λ is. source' (causes.source_cause is))
  begins_as_told (Unbegun never) causes told flash link source' = absurd (flash (causes.board.flash never.failed))
