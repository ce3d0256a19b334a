-- Generated traffic, on a board whose link is muted.
use Rattle.std.proofs.Common.{◌≡◌, ◌≢◌, ◌⊎◌, inl, inr, ℕ, false, List, [], ◌∷◌, ◌++◌, Some, None, length, refl, sym, ◌∙◌, ap, subst, arith}
use Rattle.std.proofs.lemmas.Bool.{cond-true}
use Rattle.std.specs.Prelude.{IsTrue}
use Rattle.board.specs.Counts.{Rose}
use Rattle.board.specs.Device.{Device, Lower}
use Rattle.board.specs.Meaning.{BoardMeaning, SourceMeaning, TellsFlash}
use Rattle.board.specs.Moments.{LeavesOnly}
use Rattle.muted_board.specs.Muted.{board_of, device_of, muted_means}
use Rattle.muted_board.specs.declared.muted_board.MutedBoard.{MutedBoard}
use Rattle.pst_model.specs.declared.faults.LineFault.{LineFault}
use Rattle.pst_model.specs.Command.{Command}
use Rattle.pst_model.specs.Run.{run}
use Rattle.pst_model.specs.Table.{after_format}
use Rattle.pst_model.specs.Text.{commands_of, first_bad}
use Rattle.station.specs.declared.ending.Ending.{Ending}
use Rattle.station.specs.declared.ending.Ending.TheVariants.{BadLine, BadWords, Done, FlashFault, LinkFault, Mismatch, NoMemory, NotHeld, SourceFault}
use Rattle.station.specs.declared.tally.Tally.{Tally}
use Rattle.station.specs.Carrying.{EndsOnTable}
use Rattle.station.specs.Generating.{CarriesTraffic, IsUnsent, LinkStays, TrafficHeld, TrafficOnTable}
use Rattle.station.specs.Opening.{Opened}
use Rattle.station.specs.Reading.{EndsReading, text_limit}
use Rattle.station.specs.Session.{EndsHolding, HoldsAll}
use Rattle.station.specs.Station.{Held, IsCaused}
use Rattle.station.specs.Tallies.{IsTallyOf}
use Rattle.station.specs.Turns.{HoldsPrefix}
use Rattle.station.proofs.Fronts.{commands_stand_in_front}
use Rattle.station.proofs.Turns.{prefix_more}
use Rattle.turn_laws.specs.Turns.{outputs_of}

pub none_rose : Rose 0 0 → ⊥
none_rose (inl less) = omega (arith, less)
none_rose (inr is) = absurd cc

none_some : (bad : ℕ × LineFault) → None ≡ Some bad → ⊥
none_some bad is = cc

-- what a device says of the board below
no_board : Lower
no_board = record { name = 0; tells_link = false; sent = []; sends = 0; link_faults = 0 }

abbrev first_of : List Lower → Lower
first_of [] = no_board
first_of (lower ∷ others) = lower

abbrev rest_of : List Lower → List Lower
rest_of [] = []
rest_of (lower ∷ others) = others

abbrev below : Device → Lower
below device = first_of device.over

abbrev others_below : Device → List Lower
others_below device = rest_of device.over

-- a text that is carried out on a muted board, and whose source never fails
module _ {B S : Type 0} (means : BoardMeaning B) (input : SourceMeaning S) (muted muted' : MutedBoard B) (source source' : S) (ending : Ending) (tally : Tally)
    (opened : Opened (muted_means means) input muted muted' source source' ending tally)
    (commands : List Command) (told : IsTrue (input.tells source)) (unfailed : Rose (input.faults source) (input.faults source') → ⊥)
    (good : first_bad text_limit (input.left source) ≡ None) (all : commands_of text_limit (input.left source) ≡ commands) where
  abbrev old : B
  old = board_of muted

  abbrev new : B
  new = board_of muted'

  abbrev blocks : ℕ
  blocks = (means.device old).blocks

  device : device_of means muted' ≡ device_of means muted
  device = opened.keeps.device

  lower : below (device_of means muted') ≡ below (device_of means muted)
  lower = ap below device

  tells_link : (means.device new).tells_link ≡ (means.device old).tells_link
  tells_link = ap (λ (l : Lower). l.tells_link) lower

  same : means.device new ≡ means.device old
  same = λ j. record {
    blocks = ap (λ (d : Device). d.blocks) device j;
    tells_flash = ap (λ (d : Device). d.tells_flash) device j;
    tells_link = tells_link j;
    over = ap others_below device j;
  }

  unsent : LinkStays means old new
  unsent = record {
    sent = λ link.
        sym (cond-true (means.device new).tells_link (means.sent new (means.moment new)) [] (tells_link ∙ link))
        ∙ ap (λ (l : Lower). l.sent) lower
        ∙ cond-true (means.device old).tells_link (means.sent old (means.moment old)) [] link;
    sends = ap (λ (l : Lower). l.sends) lower;
  }

  no_link_fault : ending ≢ LinkFault
  no_link_fault is = none_rose (opened.causes.board.link is)

  caused : IsCaused means old new ending
  caused = record {
    flash = opened.causes.board.flash;
    link = λ is. absurd (no_link_fault is);
    mismatch = opened.causes.board.mismatch;
    flash_kept = opened.causes.board.flash_kept;
    link_kept = λ other. ap (λ (l : Lower). l.link_faults) lower;
  }

  reading : EndsReading (input.left source) (input.left source') opened.done ending
  reading = opened.reading told

  ends : (ending ≡ Done) ⊎ IsUnsent ending
  ends = by ending refl reading
    where
      by : (e : Ending) → ending ≡ e → EndsReading (input.left source) (input.left source') opened.done e → (ending ≡ Done) ⊎ IsUnsent ending
      by Done is read = inl is
      by BadWords is read = absurd (opened.known is)
      by (BadLine line why) is read = absurd (none_some (line, why) (sym good ∙ read.0))
      by NotHeld is read = inr (inr (inr (inl is)))
      by FlashFault is read = inr (inl is)
      by LinkFault is read = absurd (no_link_fault is)
      by SourceFault is read = absurd (unfailed (opened.causes.source_cause is))
      by (Mismatch block page kept found) is read = inr (inr (inr (inr (block, page, kept, found, is))))
      by NoMemory is read = inr (inr (inl is))

  module _ (flash : TellsFlash means old) (held : Held means old after_format) where
    on : EndsOnTable (muted_means means) muted muted' after_format opened.done opened.others ending
    on = opened.on_table flash after_format held

    -- the commands that were read are the first ones
    prefix : LeavesOnly means old new (HoldsPrefix blocks after_format commands)
    prefix = record {
      later = on.prefix.later;
      each = λ t image from to left. whole image (on.prefix.each t image from to left);
      past = on.prefix.past;
      kept = on.prefix.kept;
    }
      where
        whole : (image : ℕ → List ℕ) → HoldsPrefix blocks after_format (opened.done ++ opened.others) image → HoldsPrefix blocks after_format commands image
        whole image holds =
            let (rest, is) = commands_stand_in_front (input.left source) (input.left source') (opened.taken told) in
            subst (λ (cs : List Command). HoldsPrefix blocks after_format cs image)
            (ap (λ (cs : List Command). cs ++ rest) (opened.read told) ∙ is ∙ all)
            (prefix_more blocks after_format (opened.done ++ opened.others) rest image holds)

    all_done : (e : Ending) → ending ≡ e → EndsReading (input.left source) (input.left source') opened.done e → e ≡ Done → opened.done ≡ commands
    all_done e is read at = (subst (EndsReading (input.left source) (input.left source') opened.done) at read).2 ∙ all

    -- which table is held in the end
    holding : (e : Ending) → ending ≡ e → EndsReading (input.left source) (input.left source') opened.done e
        → EndsHolding (muted_means means) blocks after_format opened.done opened.others muted' e → TrafficHeld means blocks commands new e
    holding Done is read holds =
        subst (λ (cs : List Command). HoldsAll means blocks (run blocks after_format cs).table new) (all_done Done is read refl)
        (record { content = holds.content; leaves = holds.leaves; later = holds.later })
    holding BadWords is read holds = holds
    holding (BadLine line why) is read holds = absurd (none_some (line, why) (sym good ∙ read.0))
    holding NotHeld is read holds = holds
    holding FlashFault is read holds = tt
    holding LinkFault is read holds = absurd (no_link_fault is)
    holding SourceFault is read holds = absurd (unfailed (opened.causes.source_cause is))
    holding (Mismatch block page kept found) is read holds = holds
    holding NoMemory is read holds =
        subst (λ (cs : List Command). HoldsAll means blocks (run blocks after_format cs).table new) read.0
        (record { content = holds.content; leaves = holds.leaves; later = holds.later })

    on_table : TrafficOnTable means blocks commands old new ending tally
    on_table = record {
      prefix = prefix;
      held = holding ending refl reading on.holding;
      counted = λ is.
          subst (λ (cs : List Command). IsTallyOf (length cs) (outputs_of blocks after_format cs) tally) (all_done ending refl reading is)
          (opened.counted flash after_format held);
    }

  pub carries_traffic : CarriesTraffic means commands old new ending tally
  carries_traffic = record { ends = ends; on_table = on_table; unsent = unsent; caused = caused; same = same }

-- the same of the boards under other names
pub as_lent : {B : Type 0} (means : BoardMeaning B) (commands : List Command) (lower lower' old new : B) (ending : Ending) (tally : Tally)
    → CarriesTraffic means commands lower lower' ending tally → lower ≡ old → lower' ≡ new → CarriesTraffic means commands old new ending tally
as_lent means commands lower lower' old new ending tally carries is is' =
    subst (λ board. CarriesTraffic means commands board new ending tally) is
    (subst (λ board. CarriesTraffic means commands lower board ending tally) is' carries)
