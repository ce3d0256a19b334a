-- What generated traffic prints, of what its device was sent.
use Rattle.std.proofs.Common.{◌≡◌, ◌⊎◌, ℕ, Bool, true, false, List, [], ◌++◌, length, refl, sym, ◌∙◌, ap, subst, arith, inl, inr}
use Rattle.std.specs.Prelude.{IsTrue, Option}
use Rattle.std.specs.Io.KnownBytes.{Appends}
use Rattle.board.specs.declared.memory.MemBoard.{MemBoard}
use Rattle.board.specs.Device.{Device}
use Rattle.board.specs.Flash.{blank}
use Rattle.board.specs.Memory.{IsNewBoard, device_of, memory_means, moment_of, sent_at}
use Rattle.pst_model.specs.Command.{Command}
use Rattle.pst_model.specs.Table.{after_format}
use Rattle.pusstore.specs.Printing.{EndsGenerate, IsOfDevice, PrintsPart, PrintsSummary}
use Rattle.pusstore.proofs.Silent.{by_outcome, gains_nothing}
use Rattle.station.specs.declared.ending.Ending.{Ending}
use Rattle.station.specs.declared.ending.Ending.TheVariants.{Done, FlashFault, LinkFault, Mismatch, NoMemory, NotHeld}
use Rattle.station.specs.Generating.{EndsTraffic, FormatFailed, Generates, IsUnsent, SummarySent, TrafficBegun}
use Rattle.station.specs.Summary.{summary_line}
use Rattle.station.specs.Tallies.{IsTallyOf, no_tally}
use Rattle.turn_laws.specs.Turns.{outputs_of}

-- no part of a line
part_none : (before after : Option (List ℕ)) → Appends before after [] → PrintsPart before after
part_none before after gained = record { tally = no_tally; front = []; prefix = (summary_line no_tally, refl); printed = gained }

-- no memory for the device
pub generate_none : (blocks : ℕ) (commands : List Command) (known : Option (List ℕ)) → EndsGenerate blocks commands known known NoMemory
generate_none blocks commands known = part_none known known (gains_nothing known)

module _ (before after : Option (List ℕ)) (blocks : ℕ) (commands : List Command) (board board' : MemBoard) (made : IsNewBoard blocks (λ p. blank) true board)
    (ending : Ending) (generates : Generates memory_means commands board board' ending) where
  many : (device_of board).blocks ≡ blocks
  many = ap (λ (device : Device). device.blocks) made.device

  module _ (gained : Appends before after (sent_at board' (moment_of board'))) where
    unsent : sent_at board' (moment_of board') ≡ sent_at board (moment_of board) → Appends before after []
    unsent same = subst (Appends before after) (same ∙ made.sent) gained

    module _ (begun : TrafficBegun memory_means commands board board' ending) where
      sent_begun : sent_at begun.begun (moment_of begun.begun) ≡ []
      sent_begun = let none = begun.unsent refl in none.each (moment_of begun.begun) none.later (omega arith) ∙ made.sent

      line_sent : (e : Ending) → ending ≡ e → SummarySent memory_means begun.traffic.tally begun.begun board' e
      line_sent e is = subst (SummarySent memory_means begun.traffic.tally begun.begun board') is (begun.traffic.sent refl)

      held : (e : Ending) → ending ≡ e → EndsTraffic memory_means (device_of board).blocks commands board' e
      held e is = subst (EndsTraffic memory_means (device_of board).blocks commands board') is begun.traffic.held

      all_printed : ending ≡ Done → PrintsSummary blocks commands before after
      all_printed is = record {
        tally = begun.traffic.tally;
        counted = subst (λ (n : ℕ). IsTallyOf (length commands) (outputs_of n after_format commands) begun.traffic.tally) many (begun.traffic.counted (inl is));
        printed = subst (Appends before after) (line_sent Done is ∙ ap (λ (octets : List ℕ). octets ++ summary_line begun.traffic.tally) sent_begun) gained;
      }

      part_printed : ending ≡ LinkFault → PrintsPart before after
      part_printed is =
          let gains = line_sent LinkFault is in
          record {
            tally = begun.traffic.tally;
            front = gains.front;
            prefix = gains.prefix;
            printed = subst (Appends before after) (gains.gained ∙ ap (λ (octets : List ℕ). octets ++ gains.front) sent_begun) gained;
          }

    -- an ending that no session on a told flash has
    other : (e : Ending) → ending ≡ e → (EndsTraffic memory_means (device_of board).blocks commands board' e → ⊥) → (FlashFault ≡ e → ⊥) → ⊥
    other e is none unlike = by (generates.begins refl)
      where
        by : TrafficBegun memory_means commands board board' ending ⊎ FormatFailed memory_means board board' ending → ⊥
        by (inl begun) = none (held begun e is)
        by (inr failed) = unlike (sym failed.failed ∙ is)

    pub whole : EndsGenerate blocks commands before after ending
    whole = by generates.ends
      where
        done : ending ≡ Done → TrafficBegun memory_means commands board board' ending ⊎ FormatFailed memory_means board board' ending → EndsGenerate blocks commands before after ending
        done is (inl begun) = subst (EndsGenerate blocks commands before after) (sym is) (all_printed begun is)
        done is (inr failed) = let no : Done ≡ FlashFault = sym is ∙ failed.failed in absurd cc

        by_unsent : IsUnsent ending → Appends before after [] → EndsGenerate blocks commands before after ending
        by_unsent (inl is) none = subst (EndsGenerate blocks commands before after) (sym is) none
        by_unsent (inr (inl is)) none = subst (EndsGenerate blocks commands before after) (sym is) (part_none before after none)
        by_unsent (inr (inr (inl is))) none = absurd (other NotHeld is (λ held. held) (λ unlike. cc))
        by_unsent (inr (inr (inr (block, page, kept, found, is)))) none = absurd (other (Mismatch block page kept found) is (λ held. held) (λ unlike. cc))

        by : (ending ≡ Done) ⊎ (ending ≡ LinkFault) ⊎ (IsUnsent ending × ((memory_means.counts board').sends ≡ (memory_means.counts board).sends)
            × (IsTrue true → sent_at board' (moment_of board') ≡ sent_at board (moment_of board))) → EndsGenerate blocks commands before after ending
        by (inl is) = done is (generates.begins refl)
        by (inr (inl is)) = subst (EndsGenerate blocks commands before after) (sym is) tt
        by (inr (inr (is, sends, same))) = by_unsent is (unsent (same refl))

    pub part : IsOfDevice ending → PrintsPart before after
    part (inl flash) = by generates.ends
      where
        by : (ending ≡ Done) ⊎ (ending ≡ LinkFault) ⊎ (IsUnsent ending × ((memory_means.counts board').sends ≡ (memory_means.counts board).sends)
            × (IsTrue true → sent_at board' (moment_of board') ≡ sent_at board (moment_of board))) → PrintsPart before after
        by (inl is) = let no : Done ≡ FlashFault = sym is ∙ flash in absurd cc
        by (inr (inl is)) = let no : LinkFault ≡ FlashFault = sym is ∙ flash in absurd cc
        by (inr (inr (is, sends, same))) = part_none before after (unsent (same refl))
    part (inr link) = by (generates.begins refl)
      where
        by : TrafficBegun memory_means commands board board' ending ⊎ FormatFailed memory_means board board' ending → PrintsPart before after
        by (inl begun) = part_printed begun link
        by (inr failed) = let no : LinkFault ≡ FlashFault = sym link ∙ failed.failed in absurd cc

  pub prints_generate : (result : Ending) (starved printed : Bool)
      → (printed ≡ false → result ≡ LinkFault)
      → (printed ≡ true → starved ≡ true → IsOfDevice ending → result ≡ NoMemory)
      → (printed ≡ true → (starved ≡ false) ⊎ (IsOfDevice ending → ⊥) → result ≡ ending)
      → (IsTrue printed → Appends before after (sent_at board' (moment_of board'))) → EndsGenerate blocks commands before after result
  prints_generate result starved printed unprinted no_memory same gained =
      by_outcome (EndsGenerate blocks commands before after) ending result starved printed unprinted no_memory same tt
      (λ is of. part (gained is) of) (λ is. whole (gained is))
