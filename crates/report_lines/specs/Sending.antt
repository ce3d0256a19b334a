-- What a run of sends does with the lines of outputs.
use Rattle.std.specs.Prelude.{◌≡◌, ◌++◌, List, length}
use Rattle.board.specs.Counts.{Rose, RoseBy, Sends}
use Rattle.board.specs.Meaning.{BoardMeaning, TellsFlash, TellsLink}
use Rattle.board.specs.Moments.{GainsFront, SendsOnly}
use Rattle.board.specs.Reads.{FlashStays}
use Rattle.pst_model.specs.Rules.{Output}
use Rattle.pst_model.specs.Run.{lines_of}

module _ {B : Type 0} (means : BoardMeaning B) where
  -- All lines of the outputs were sent, one behind the other and each by a call of its own, and no call failed.
  -- The flash is as it was.
  pub record SendsLines (old new : B) (outputs : List Output) : Type 0 where
    pub gained : TellsLink means old
        → means.sent new (means.moment new) ≡ means.sent old (means.moment old) ++ lines_of outputs
    pub moments : TellsLink means old
        → SendsOnly means old new (GainsFront (means.sent old (means.moment old)) (lines_of outputs))
    pub stays : TellsFlash means old → FlashStays means old new
    pub same : means.device new ≡ means.device old
    pub work : Sends (length outputs) (means.counts old) (means.counts new)
    pub calls : RoseBy (length outputs) (means.counts old).sends (means.counts new).sends
    pub no_fault : (means.counts new).link_faults ≡ (means.counts old).link_faults

  -- The link failed within the lines of the outputs: a front of them was sent, by at most a call for each.
  pub record BreaksIn (old new : B) (outputs : List Output) : Type 0 where
    pub moments : TellsLink means old
        → SendsOnly means old new (GainsFront (means.sent old (means.moment old)) (lines_of outputs))
    pub stays : TellsFlash means old → FlashStays means old new
    pub same : means.device new ≡ means.device old
    pub work : Sends (length outputs) (means.counts old) (means.counts new)
    pub cause : Rose (means.counts old).link_faults (means.counts new).link_faults
