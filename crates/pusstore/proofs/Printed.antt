-- What a session on the table after a format prints, of what its device was sent.
use Rattle.std.proofs.Common.{◌≡◌, ◌⊎◌, ℕ, Bool, true, false, List, [], ◌++◌, refl, sym, ◌∙◌, ap, subst, arith}
use Rattle.std.specs.Prelude.{IsTrue, Option, length, take, ◌-◌}
use Rattle.std.specs.Io.KnownBytes.{Appends}
use Rattle.board.specs.declared.memory.MemBoard.{MemBoard}
use Rattle.board.specs.Flash.{blank}
use Rattle.board.specs.Device.{Device}
use Rattle.board.specs.Meaning.{SourceMeaning}
use Rattle.board.specs.Memory.{IsNewBoard, device_of, memory_means, moment_of, sent_at}
use Rattle.board.specs.Moments.{IsPrefixOf}
use Rattle.station.specs.declared.ending.Ending.{Ending}
use Rattle.station.specs.declared.ending.Ending.TheVariants.{BadLine, BadWords, Done, FlashFault, LinkFault, Mismatch, NoMemory, NotHeld, SourceFault}
use Rattle.station.specs.Reading.{EndsReading, read_of, taken_of, text_limit, whole_read}
use Rattle.station.specs.Session.{Carries, EndsHolding, EndsSending, SendsAll}
use Rattle.station.specs.Station.{Begins, Begun, Unbegun}
use Rattle.pst_model.specs.Command.{Command}
use Rattle.pst_model.specs.Table.{after_format}
use Rattle.pst_model.specs.Text.{commands_of}
use Rattle.pusstore.specs.Printing.{EndsPrinting, IsOfDevice, PrintsDone, PrintsFront, lines_for}
use Rattle.pusstore.proofs.Silent.{by_outcome, gains_nothing, sent_none}
use Rattle.turn_laws.specs.Turns.{outputs_of}

-- a program that found no memory for its device
pub prints_none : (blocks : ℕ) (text : List ℕ) (known : Option (List ℕ)) → EndsPrinting blocks text known known NoMemory
prints_none blocks text known = record {
  left = text;
  taken = let none : 0 ≡ length text - length text = omega arith in ap (λ (n : ℕ). take n text ++ text) none;
  front = [];
  prefix = (lines_for blocks (read_of text text), refl);
  printed = gains_nothing known;
}

module _ (text left : List ℕ) (before after : Option (List ℕ)) (blocks : ℕ) (board board' : MemBoard)
    (made : IsNewBoard blocks (λ p. blank) true board) (taken : text ≡ taken_of text left ++ left) where
  -- its blocks
  here : (device_of board).blocks ≡ blocks
  here = ap (λ (device : Device). device.blocks) made.device

  module _ (gained : Appends before after (sent_at board' (moment_of board'))) where
    -- nothing was sent
    unsent_front : sent_at board' (moment_of board') ≡ [] → PrintsFront blocks text before after
    unsent_front unsent = record {
      left = left;
      taken = taken;
      front = [];
      prefix = (lines_for blocks (read_of text left), refl);
      printed = subst (λ (octets : List ℕ). Appends before after octets) unsent gained;
    }

    unsent_done : sent_at board' (moment_of board') ≡ [] → PrintsDone blocks text before after
    unsent_done unsent = record {
      left = left;
      taken = taken;
      done = [];
      others = read_of text left;
      read = refl;
      printed = subst (λ (octets : List ℕ). Appends before after octets) unsent gained;
    }

    module _ (done others : List Command) (read : done ++ others ≡ read_of text left) where
      -- all lines for the commands that were carried out
      sent_done : SendsAll memory_means board board' (outputs_of (device_of board).blocks after_format done) → Appends before after (lines_for blocks done)
      sent_done sends = subst (λ (octets : List ℕ). Appends before after octets)
          (sends.octets refl ∙ ap (λ (old : List ℕ). old ++ lines_for (device_of board).blocks done) made.sent ∙ ap (λ (n : ℕ). lines_for n done) here) gained

      sent_for : (commands : List Command) → done ≡ commands → SendsAll memory_means board board' (outputs_of (device_of board).blocks after_format done)
          → Appends before after (lines_for blocks commands)
      sent_for commands is sends = subst (λ (list : List Command). Appends before after (lines_for blocks list)) is (sent_done sends)

      -- a program that printed all that its device was sent, and ends as its session did
      prints_as : (ending : Ending) → EndsReading text left done ending → EndsHolding memory_means (device_of board).blocks after_format done others board' ending
          → EndsSending memory_means (device_of board).blocks after_format done others board board' ending
          → PrintsFront blocks text before after → EndsPrinting blocks text before after ending
      prints_as Done reading holding sending front = (reading.0, sent_for (commands_of text_limit text) reading.2 sending)
      prints_as (BadLine line why) reading holding sending front = (reading.0, sent_for (commands_of text_limit text) reading.1 sending)
      prints_as SourceFault reading holding sending front = record {
        left = left;
        taken = taken;
        none_bad = reading.0;
        printed = sent_for (whole_read text left) reading.1 sending;
      }
      prints_as FlashFault reading holding sending front = record {
        left = left;
        taken = taken;
        done = done;
        others = others;
        read = read;
        printed = sent_done sending;
      }
      prints_as LinkFault reading holding sending front = tt
      prints_as NoMemory reading holding sending front = front
      prints_as NotHeld reading holding sending front = absurd holding
      prints_as (Mismatch block page kept found) reading holding sending front = absurd holding
      prints_as BadWords reading holding sending front = absurd holding

module _ {S : Type 0} (input : SourceMeaning S) (origin source : S) (told : IsTrue (input.tells origin)) (before after : Option (List ℕ)) (blocks : ℕ) (board board' : MemBoard)
    (made : IsNewBoard blocks (λ p. blank) true board) (ending : Ending)
    (taken : input.left origin ≡ taken_of (input.left origin) (input.left source) ++ input.left source) where
  many : (device_of board).blocks ≡ blocks
  many = ap (λ (device : Device). device.blocks) made.device

  -- what was sent is a prefix of the lines for the commands read
  front_of : (start : ℕ) → Carries memory_means input start after_format board board' origin source ending
      → Appends before after (sent_at board' (moment_of board')) → PrintsFront blocks (input.left origin) before after
  front_of start carries gained =
      let moments = carries.moments refl in
      let front = moments.each (moment_of board') moments.later (omega arith) in
      record {
        left = input.left source;
        taken = taken;
        front = front.front;
        prefix = subst (λ (n : ℕ). IsPrefixOf front.front (lines_for n (read_of (input.left origin) (input.left source)))) many
            (subst (λ (list : List Command). IsPrefixOf front.front (lines_for (device_of board).blocks list)) (carries.read told) front.prefix);
        printed = subst (λ (octets : List ℕ). Appends before after octets) (front.gained ∙ ap (λ (old : List ℕ). old ++ front.front) made.sent) gained;
      }

  module _ (begins : Begins memory_means input after_format board board' origin source ending) (gained : Appends before after (sent_at board' (moment_of board'))) where
    prints_front : PrintsFront blocks (input.left origin) before after
    prints_front = by begins
      where
        by : Begins memory_means input after_format board board' origin source ending → PrintsFront blocks (input.left origin) before after
        by (Begun start carries) = front_of start carries gained
        by (Unbegun never) =
            unsent_front (input.left origin) (input.left source) before after blocks board board' made taken gained (sent_none before after blocks board board' made (never.sends.unsent refl))

    prints_ended : EndsPrinting blocks (input.left origin) before after ending
    prints_ended = by begins
      where
        by : Begins memory_means input after_format board board' origin source ending → EndsPrinting blocks (input.left origin) before after ending
        by (Begun start carries) =
            prints_as (input.left origin) (input.left source) before after blocks board board' made taken gained carries.done carries.others (carries.read told)
            ending (carries.reading told) carries.holding carries.sending (front_of start carries gained)
        by (Unbegun never) = subst (λ (e : Ending). EndsPrinting blocks (input.left origin) before after e) (sym never.failed)
            (unsent_done (input.left origin) (input.left source) before after blocks board board' made taken gained (sent_none before after blocks board board' made (never.sends.unsent refl)))

  pub prints : Begins memory_means input after_format board board' origin source ending → (result : Ending) (starved printed : Bool)
      → (printed ≡ false → result ≡ LinkFault)
      → (printed ≡ true → starved ≡ true → IsOfDevice ending → result ≡ NoMemory)
      → (printed ≡ true → (starved ≡ false) ⊎ (IsOfDevice ending → ⊥) → result ≡ ending)
      → (IsTrue printed → Appends before after (sent_at board' (moment_of board'))) → EndsPrinting blocks (input.left origin) before after result
  prints begins result starved printed unprinted no_memory same gained =
      by_outcome (λ (e : Ending). EndsPrinting blocks (input.left origin) before after e) ending result starved printed unprinted no_memory same tt
      (λ is of. prints_front begins (gained is)) (λ is. prints_ended begins (gained is))
