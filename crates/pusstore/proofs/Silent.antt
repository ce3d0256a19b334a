-- What a program comes to whose session sent nothing, and what comes of an ending in general.
use Rattle.std.proofs.Common.{◌≡◌, ◌≢◌, ◌⊎◌, ◌≤◌, ℕ, Bool, true, false, List, [], Some, None, refl, sym, ◌∙◌, subst, arith, inl, inr, ⊎_elim}
use Rattle.std.proofs.lemmas.List.{append-nil}
use Rattle.std.specs.Prelude.{IsTrue, Option}
use Rattle.std.specs.Io.KnownBytes.{Appends}
use Rattle.board.specs.declared.memory.MemBoard.{MemBoard}
use Rattle.board.specs.Flash.{blank}
use Rattle.board.specs.Memory.{IsNewBoard, memory_means, moment_of, sent_at}
use Rattle.board.specs.Meaning.{SourceMeaning}
use Rattle.board.specs.Moments.{SendsNothing}
use Rattle.station.specs.declared.ending.Ending.{Ending}
use Rattle.station.specs.declared.ending.Ending.TheVariants.{BadLine, BadWords, Done, FlashFault, LinkFault, Mismatch, NoMemory, NotHeld, SourceFault}
use Rattle.station.specs.Station.{Formats, Lists, Runs}
use Rattle.pusstore.specs.Printing.{EndsFormat, EndsRefused, EndsUnheld, IsOfDevice}
use Rattle.pusstore.proofs.Blank.{new_holds_none}

-- a writer that gained nothing
pub gains_nothing : (known : Option (List ℕ)) → Appends known known []
gains_nothing None = tt
gains_nothing (Some xs) = sym (append-nil xs)

device_or : (ending : Ending) → IsOfDevice ending ⊎ (IsOfDevice ending → ⊥)
device_or Done = inr (λ of. ⊎_elim (λ is. cc) (λ is. cc) of)
device_or BadWords = inr (λ of. ⊎_elim (λ is. cc) (λ is. cc) of)
device_or (BadLine line why) = inr (λ of. ⊎_elim (λ is. cc) (λ is. cc) of)
device_or NotHeld = inr (λ of. ⊎_elim (λ is. cc) (λ is. cc) of)
device_or FlashFault = inl (inl refl)
device_or LinkFault = inl (inr refl)
device_or SourceFault = inr (λ of. ⊎_elim (λ is. cc) (λ is. cc) of)
device_or (Mismatch block page kept found) = inr (λ of. ⊎_elim (λ is. cc) (λ is. cc) of)
device_or NoMemory = inr (λ of. ⊎_elim (λ is. cc) (λ is. cc) of)

-- What the program comes to is its session's ending, that its device found no memory, or that its
-- output was not printed.
pub by_outcome : (P : Ending → Type 0) (ending result : Ending) (starved printed : Bool)
    → (printed ≡ false → result ≡ LinkFault)
    → (printed ≡ true → starved ≡ true → IsOfDevice ending → result ≡ NoMemory)
    → (printed ≡ true → (starved ≡ false) ⊎ (IsOfDevice ending → ⊥) → result ≡ ending)
    → P LinkFault → (printed ≡ true → IsOfDevice ending → P NoMemory) → (printed ≡ true → P ending) → P result
by_outcome P ending result starved false unprinted no_memory same link memory ended = subst P (sym (unprinted refl)) link
by_outcome P ending result false true unprinted no_memory same link memory ended = subst P (sym (same refl (inl refl))) (ended refl)
by_outcome P ending result true true unprinted no_memory same link memory ended =
    elim (device_or ending) [
      | inl is ↦ subst P (sym (no_memory refl refl is)) (memory refl is)
      | inr not ↦ subst P (sym (same refl (inr not))) (ended refl)
    ]

-- a session whose words are known
pub known_outcome : (ending result : Ending) (starved printed : Bool)
    → (printed ≡ false → result ≡ LinkFault)
    → (printed ≡ true → starved ≡ true → IsOfDevice ending → result ≡ NoMemory)
    → (printed ≡ true → (starved ≡ false) ⊎ (IsOfDevice ending → ⊥) → result ≡ ending)
    → ending ≢ BadWords → result ≢ BadWords
known_outcome ending result starved printed unprinted no_memory same known =
    by_outcome (λ (e : Ending). e ≢ BadWords) ending result starved printed unprinted no_memory same (λ is. cc) (λ is of again. cc) (λ is. known)

-- one of three endings
by_three : (P : Ending → Type 0) (one two three ending : Ending) → P one → P two → P three → (ending ≡ one) ⊎ (ending ≡ two) ⊎ (ending ≡ three) → P ending
by_three P one two three ending first second third is =
    ⊎_elim (λ is. subst P (sym is) first) (λ others. ⊎_elim (λ is. subst P (sym is) second) (λ is. subst P (sym is) third) others) is

module _ (before after : Option (List ℕ)) (blocks : ℕ) (board board' : MemBoard) (made : IsNewBoard blocks (λ p. blank) true board) where
  -- a device that was sent nothing
  pub sent_none : SendsNothing memory_means board board' → sent_at board' (moment_of board') ≡ []
  sent_none unsent = unsent.each (moment_of board') unsent.later (omega arith) ∙ made.sent

  nothing : SendsNothing memory_means board board' → Appends before after (sent_at board' (moment_of board')) → Appends before after []
  nothing unsent gained = subst (λ (octets : List ℕ). Appends before after octets) (sent_none unsent) gained

  module _ (ending result : Ending) (starved printed : Bool)
      (unprinted : printed ≡ false → result ≡ LinkFault)
      (no_memory : printed ≡ true → starved ≡ true → IsOfDevice ending → result ≡ NoMemory)
      (same : printed ≡ true → (starved ≡ false) ⊎ (IsOfDevice ending → ⊥) → result ≡ ending)
      (gained : IsTrue printed → Appends before after (sent_at board' (moment_of board'))) where
    pub prints_format : Formats memory_means board board' ending → EndsFormat before after result
    prints_format formats =
        by_outcome (EndsFormat before after) ending result starved printed unprinted no_memory same tt
        (λ is of. nothing (formats.sends.unsent refl) (gained is))
        (λ is. ⊎_elim (λ done. subst (EndsFormat before after) (sym done) (nothing (formats.sends.unsent refl) (gained is)))
        (λ failed. subst (EndsFormat before after) (sym failed) (nothing (formats.sends.unsent refl) (gained is))) formats.ends)

    -- a session on a device that holds no table
    unheld_by : SendsNothing memory_means board board' → (ending ≡ NotHeld) ⊎ (ending ≡ FlashFault) ⊎ (ending ≡ NoMemory) → EndsUnheld before after result
    unheld_by unsent ends =
        by_outcome (EndsUnheld before after) ending result starved printed unprinted no_memory same tt
        (λ is of. nothing unsent (gained is))
        (λ is. let none = nothing unsent (gained is) in by_three (EndsUnheld before after) NotHeld FlashFault NoMemory ending none none none ends)

    pub prints_run : {S : Type 0} (input : SourceMeaning S) (origin source : S) → 16 ≤ blocks → Runs memory_means input board board' origin source ending
        → EndsUnheld before after result
    prints_run input origin source least runs =
        let unheld = runs.unheld refl (new_holds_none blocks board least made) in
        unheld_by (unheld.1.sends.unsent refl) unheld.0

    pub prints_list : 16 ≤ blocks → Lists memory_means board board' ending → EndsUnheld before after result
    prints_list least lists =
        let unheld = lists.unheld refl (new_holds_none blocks board least made) in
        unheld_by (unheld.1.unsent refl) unheld.0

    -- words that are not known
    pub prints_refused : ending ≡ BadWords → board' ≡ board → EndsRefused before after result
    prints_refused bad kept =
        by_outcome (EndsRefused before after) ending result starved printed unprinted no_memory same tt
        (λ is of. unsent (gained is))
        (λ is. subst (EndsRefused before after) (sym bad) (unsent (gained is)))
      where
        unsent : Appends before after (sent_at board' (moment_of board')) → Appends before after []
        unsent gained = subst (λ (octets : List ℕ). Appends before after octets) (subst (λ (b : MemBoard). sent_at b (moment_of b) ≡ []) (sym kept) made.sent) gained

-- no memory for the device

pub formats_none : (known : Option (List ℕ)) → EndsFormat known known NoMemory
formats_none known = gains_nothing known

pub unheld_none : (known : Option (List ℕ)) → EndsUnheld known known NoMemory
unheld_none known = gains_nothing known

pub refused_none : (known : Option (List ℕ)) → EndsRefused known known NoMemory
refused_none known = gains_nothing known
