-- What a call of the device in memory is to the board over it.
use Rattle.std.proofs.Common.{◌≡◌, ℕ, Bool, List}
use Rattle.board.specs.Counts.{Works}
use Rattle.board.specs.Memory as memory
use Rattle.board.specs.Moments.{GainsFront, IsPrefixOf, LeavesOnly, SendsNothing, SendsOnly}
use Rattle.board.specs.Reads.{FlashStays, ReadsOnly}
use Rattle.board.specs.Touches.{Touches}
use Rattle.board.proofs.Runs.{prefix_trans}
use Rattle.trials.specs.HalfBoard.{counts_of, half_means, moment_of, sent_at}
use Rattle.trials.specs.declared.half_board.HalfBoard.{HalfBoard}

module _ (old new : HalfBoard) where
  -- a prefix of a prefix of the octets
  pub moments_step : (bytes part : List ℕ) → SendsOnly memory.memory_means old.board new.board (GainsFront (sent_at old (moment_of old)) part) → IsPrefixOf part bytes
      → SendsOnly half_means old new (GainsFront (sent_at old (moment_of old)) bytes)
  moments_step bytes part moments prefix = record {
    later = moments.later;
    each = λ t from to.
        let gains = moments.each t from to in
        record { front = gains.front; prefix = prefix_trans gains.front part bytes gains.prefix prefix; gained = gains.gained };
    past = moments.past;
  }

  leaves_step : {P : (ℕ → List ℕ) → Type 0} → LeavesOnly memory.memory_means old.board new.board P → LeavesOnly half_means old new P
  leaves_step leaves = record { later = leaves.later; each = leaves.each; past = leaves.past; kept = leaves.kept }

  unsent_step : SendsNothing memory.memory_means old.board new.board → SendsNothing half_means old new
  unsent_step unsent = record { later = unsent.later; each = unsent.each; past = unsent.past }

  pub stays_step : FlashStays memory.memory_means old.board new.board → FlashStays half_means old new
  stays_step stays = record { flash = stays.flash; seen = stays.seen; leaves = leaves_step stays.leaves }

  module _ (kept : new.link_faults ≡ old.link_faults) where
    works_step : {reads programs erases barriers : ℕ} → Works reads programs erases barriers (memory.counts_of old.board) (memory.counts_of new.board)
        → Works reads programs erases barriers (counts_of old) (counts_of new)
    works_step works = record {
      flash_faults = works.flash_faults;
      link_faults = kept;
      reads_from = works.reads_from;
      reads_to = works.reads_to;
      programs_from = works.programs_from;
      programs_to = works.programs_to;
      erases_from = works.erases_from;
      erases_to = works.erases_to;
      barriers_from = works.barriers_from;
      barriers_to = works.barriers_to;
      sends = works.sends;
    }

    pub reads_step : {most : ℕ} → ReadsOnly memory.memory_means most old.board new.board → ReadsOnly half_means most old new
    reads_step reads = record {
      stays = λ told. stays_step (reads.stays told);
      unsent = λ told. unsent_step (reads.unsent told);
      same = reads.same;
      work = works_step reads.work;
    }

    pub touches_step : {these : ℕ → Bool} {programs erases barriers : ℕ} → Touches memory.memory_means these programs erases barriers old.board new.board
        → Touches half_means these programs erases barriers old new
    touches_step touches = record {
      others = touches.others;
      leaves = λ told. leaves_step (touches.leaves told);
      unsent = λ told. unsent_step (touches.unsent told);
      same = touches.same;
      work = works_step touches.work;
    }
