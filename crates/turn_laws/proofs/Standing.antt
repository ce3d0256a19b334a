-- Tables that are in turn, whatever commands are read behind.
use Rattle.std.proofs.Common.{◌≡◌, ◌≤◌, ◌<◌, ℕ, zero, suc, ◌+◌, ◌-◌, arith, List, [], ◌∷◌, ◌++◌, length, refl, sym, ◌∙◌, ap, subst, append_assoc, length-append}
use Rattle.std.proofs.lemmas.List.{length-take-le, take-append-drop, take-append-le}
use Rattle.std.proofs.lemmas.List.Elements.{All-append, All-weaker}
use Rattle.std.specs.Prelude.{All, drop, take}
use Rattle.board.specs.Moments.{GainsFront, IsPrefixOf}
use Rattle.board.proofs.Runs.{gains_none, prefix_append, prefix_trans}
use Rattle.pst_model.specs.Acknowledged.{acknowledged}
use Rattle.pst_model.specs.Command.{Command}
use Rattle.pst_model.specs.Rules.{Output, Step}
use Rattle.pst_model.specs.Run.{lines_of, run, run_from, step}
use Rattle.pst_model.specs.Table.{Table}
use Rattle.pst_model.proofs.Runs.{lines_of-append, run-more_outputs, run_from-append}
use Rattle.turn_laws.specs.Turns.{IsInTurn, SendsInTurn, octets_after, outputs_of, table_after, unsent}
use Rattle.turn_laws.proofs.Numbered.{IsBetween, run_between}
use Rattle.turn_laws.proofs.Sending.{acknowledged_front, acknowledged_most, unsent_append, unsent_each, unsent_none}

-- a list of commands at the next one
record NextOf (commands : List Command) (n : ℕ) : Type 0 where
  command : Command
  others : List Command
  whole : take n commands ++ command ∷ others ≡ commands
  next : take n commands ++ command ∷ [] ≡ take (n + 1) commands

next_of : (commands : List Command) (n : ℕ) → n < length commands → NextOf commands n
next_of [] n lt = absurd (omega (arith, lt))
next_of (command ∷ commands) zero lt = record { command = command; others = commands; whole = refl; next = refl }
next_of (command ∷ commands) (suc n) lt =
    let rest : NextOf commands n = next_of commands n (omega (arith, lt)) in
    let count : suc (n + 1) ≡ suc n + 1 = omega arith in
    record {
      command = rest.command;
      others = rest.others;
      whole = ap (λ (more : List Command). command ∷ more) rest.whole;
      next = ap (λ (more : List Command). command ∷ more) rest.next ∙ ap (λ (m : ℕ). take m (command ∷ commands)) count;
    }

module _ (blocks : ℕ) (table : Table) where
  -- the outputs for the commands behind others
  abbrev pub outputs_behind : (first others : List Command) → List Output
  outputs_behind first others = (run_from blocks (1 + length first) (run blocks table first).table others).outputs

  pub outputs_split : (first others : List Command) → outputs_of blocks table (first ++ others) ≡ outputs_of blocks table first ++ outputs_behind first others
  outputs_split first others = ap (λ (all : Step). all.outputs) (run_from-append blocks 1 table first others)

  lines_split : (first others : List Command) → length (lines_of (outputs_of blocks table (first ++ others))) ≡ length (lines_of (outputs_of blocks table first)) + length (lines_of (outputs_behind first others))
  lines_split first others =
      ap (λ (outputs : List Output). length (lines_of outputs)) (outputs_split first others)
      ∙ ap (λ (octets : List ℕ). length octets) (lines_of-append (outputs_of blocks table first) (outputs_behind first others))
      ∙ length-append (lines_of (outputs_of blocks table first)) (lines_of (outputs_behind first others))

  lines_front : (first others : List Command) → IsPrefixOf (lines_of (outputs_of blocks table first)) (lines_of (outputs_of blocks table (first ++ others)))
  lines_front first others =
      (lines_of (outputs_behind first others), sym (lines_of-append (outputs_of blocks table first) (outputs_behind first others)) ∙ ap lines_of (sym (outputs_split first others)))

  -- octets of the lines for the first commands acknowledge no other command
  holds_first : (first others : List Command) (octets : ℕ) → octets ≤ length (lines_of (outputs_of blocks table first))
      → acknowledged (outputs_of blocks table (first ++ others)) octets ≤ length first
  holds_first first others octets le =
      let most = acknowledged_most (length first) (outputs_of blocks table first) octets
      (All-weaker (IsBetween 1 (1 + length first)) (λ (output : Output). output.command ≤ length first) (λ output between. omega (arith, between.1))
      (outputs_of blocks table first) (run_between blocks 1 table first)) in
      let same = ap (λ (outputs : List Output). acknowledged outputs octets) (outputs_split first others)
      ∙ acknowledged_front (outputs_of blocks table first) (outputs_behind first others) octets le in
      subst (λ n. n ≤ length first) (sym same) most

  -- where the lines for the first commands were sent, all others are of a later one
  ahead_of : (first others : List Command) (octets : ℕ) → length (lines_of (outputs_of blocks table first)) ≤ octets
      → All (λ number. length first < number) (unsent (outputs_of blocks table (first ++ others)) octets)
  ahead_of first others octets le =
      let left = octets - length (lines_of (outputs_of blocks table first)) in
      let rest = unsent_each (λ number. length first < number) (outputs_behind first others) left
      (All-weaker (IsBetween (1 + length first) (1 + length first + length others)) (λ (output : Output). length first < output.command) (λ output between. omega (arith, between.0))
      (outputs_behind first others) (run_between blocks (1 + length first) (run blocks table first).table others)) in
      let same = ap (λ (outputs : List Output). unsent outputs octets) (outputs_split first others)
      ∙ unsent_append (outputs_of blocks table first) (outputs_behind first others) octets
      ∙ ap (λ (numbers : List ℕ). numbers ++ unsent (outputs_behind first others) left) (unsent_none (outputs_of blocks table first) octets le) in
      subst (λ (numbers : List ℕ). All (λ number. length first < number) numbers) (sym same) rest

  -- all lines of the first commands were sent, and no other ones
  pub stands_between : (first others : List Command) (octets : ℕ) → octets ≡ length (lines_of (outputs_of blocks table first))
      → IsInTurn blocks table (first ++ others) octets (length first)
  stands_between first others octets is = record {
    within = let both = length-append first others in omega (arith, both);
    acknowledged = holds_first first others octets (omega (arith, is));
    ahead = All-weaker (λ number. length first < number) (λ number. length first ≤ number) (λ number lt. omega (arith, lt))
        (unsent (outputs_of blocks table (first ++ others)) octets) (ahead_of first others octets (omega (arith, is)));
  }

  -- all lines of the first commands were sent, and some of the next one's
  pub stands_within : (first others : List Command) (command : Command) (octets : ℕ) → length (lines_of (outputs_of blocks table first)) ≤ octets
      → octets ≤ length (lines_of (outputs_of blocks table (first ++ command ∷ []))) → IsInTurn blocks table (first ++ command ∷ others) octets (length first + 1)
  stands_within first others command octets from to = record {
    within = let both = length-append first (command ∷ others) in omega (arith, both);
    acknowledged =
        let most = holds_first (first ++ command ∷ []) others octets to in
        let joined = append_assoc first (command ∷ []) others in
        let count = length-append first (command ∷ []) in
        let same : acknowledged (outputs_of blocks table ((first ++ command ∷ []) ++ others)) octets ≡ acknowledged (outputs_of blocks table (first ++ command ∷ others)) octets =
        ap (λ (commands : List Command). acknowledged (outputs_of blocks table commands) octets) joined in
        omega (arith, most, same, count);
    ahead = All-weaker (λ number. length first < number) (λ number. length first + 1 ≤ number) (λ number lt. omega (arith, lt))
        (unsent (outputs_of blocks table (first ++ command ∷ others)) octets) (ahead_of first (command ∷ others) octets from);
  }

  -- more commands that are read
  pub stands_on : (commands more : List Command) (octets kept : ℕ) → octets ≤ length (lines_of (outputs_of blocks table commands))
      → IsInTurn blocks table commands octets kept → IsInTurn blocks table (commands ++ more) octets kept
  stands_on commands more octets kept le turn = record {
    within = let both = length-append commands more in omega (arith, both, turn.within);
    acknowledged = subst (λ n. n ≤ kept)
        (sym (ap (λ (outputs : List Output). acknowledged outputs octets) (outputs_split commands more) ∙ acknowledged_front (outputs_of blocks table commands) (outputs_behind commands more) octets le))
        turn.acknowledged;
    ahead =
        let left = octets - length (lines_of (outputs_of blocks table commands)) in
        let same = ap (λ (outputs : List Output). unsent outputs octets) (outputs_split commands more)
        ∙ unsent_append (outputs_of blocks table commands) (outputs_behind commands more) octets in
        let later = unsent_each (λ number. kept ≤ number) (outputs_behind commands more) left
        (All-weaker (IsBetween (1 + length commands) (1 + length commands + length more)) (λ (output : Output). kept ≤ output.command) (λ output between. omega (arith, between.0, turn.within))
        (outputs_behind commands more) (run_between blocks (1 + length commands) (run blocks table commands).table more)) in
        subst (λ (numbers : List ℕ). All (λ number. kept ≤ number) numbers) (sym same)
        (All-append (λ number. kept ≤ number) (unsent (outputs_of blocks table commands) octets) (unsent (outputs_behind commands more) left) turn.ahead later);
  }

  -- the octets sent, as they stand behind what was sent before
  pub sends_between : (done others : List Command) (before : List ℕ) → SendsInTurn blocks table (done ++ others) before (before ++ lines_of (outputs_of blocks table done)) (length done)
  sends_between done others before = record {
    gains = record { front = lines_of (outputs_of blocks table done); prefix = lines_front done others; gained = refl };
    turn = stands_between done others (length (lines_of (outputs_of blocks table done))) refl;
  }

  module _ (done : List Command) (command : Command) where
    -- the lines of the next command
    abbrev own : List ℕ
    own = lines_of (step blocks (length done + 1) command (run blocks table done).table).outputs

    lines_next : lines_of (outputs_of blocks table (done ++ command ∷ [])) ≡ lines_of (outputs_of blocks table done) ++ own
    lines_next =
        ap lines_of (run-more_outputs blocks table done command)
        ∙ lines_of-append (outputs_of blocks table done) (step blocks (length done + 1) command (run blocks table done).table).outputs

    lines_on : (others : List Command) → IsPrefixOf (lines_of (outputs_of blocks table done) ++ own) (lines_of (outputs_of blocks table (done ++ command ∷ others)))
    lines_on others =
        let front = lines_front (done ++ command ∷ []) others in
        let joined = append_assoc done (command ∷ []) others in
        (front.0, ap (λ (lines : List ℕ). lines ++ front.0) (sym lines_next) ∙ front.1 ∙ ap (λ (commands : List Command). lines_of (outputs_of blocks table commands)) joined)

    pub sends_within : (others : List Command) (before octets : List ℕ) → GainsFront (before ++ lines_of (outputs_of blocks table done)) own octets
        → SendsInTurn blocks table (done ++ command ∷ others) before octets (length done + 1)
    sends_within others before octets gains =
        let lines = lines_of (outputs_of blocks table done) in
        let sent = length-append lines gains.front in
        let whole = length-append gains.front gains.prefix.0 in
        let next = ap (λ (xs : List ℕ). length xs) lines_next in
        let both = length-append lines own in
        let same = ap (λ (xs : List ℕ). length xs) gains.prefix.1 in
        record {
          gains = record {
            front = lines ++ gains.front;
            prefix = prefix_trans (lines ++ gains.front) (lines ++ own) (lines_of (outputs_of blocks table (done ++ command ∷ others))) (prefix_append lines gains.front own gains.prefix) (lines_on others);
            gained = gains.gained ∙ append_assoc before lines gains.front;
          };
          turn = stands_within done others command (length (lines ++ gains.front)) (omega (arith, sent)) (omega (arith, sent, whole, next, both, same));
        }

    pub sends_durable : (others : List Command) (before : List ℕ) → SendsInTurn blocks table (done ++ command ∷ others) before (before ++ lines_of (outputs_of blocks table done)) (length done + 1)
    sends_durable others before = sends_within others before (before ++ lines_of (outputs_of blocks table done)) (gains_none (before ++ lines_of (outputs_of blocks table done)) own)

  pub sends_on : (commands more : List Command) (before octets : List ℕ) (kept : ℕ) → SendsInTurn blocks table commands before octets kept
      → SendsInTurn blocks table (commands ++ more) before octets kept
  sends_on commands more before octets kept sends =
      let whole = length-append sends.gains.front sends.gains.prefix.0 in
      let same = ap (λ (xs : List ℕ). length xs) sends.gains.prefix.1 in
      record {
        gains = record {
          front = sends.gains.front;
          prefix = prefix_trans sends.gains.front (lines_of (outputs_of blocks table commands)) (lines_of (outputs_of blocks table (commands ++ more))) sends.gains.prefix (lines_front commands more);
          gained = sends.gains.gained;
        };
        turn = stands_on commands more (length sends.gains.front) kept (omega (arith, whole, same)) sends.turn;
      }

  -- the same by counts of commands
  pub counts_between : (commands : List Command) (n : ℕ) → n ≤ length commands → IsInTurn blocks table commands (octets_after blocks table commands n) n
  counts_between commands n le =
      let turn = stands_between (take n commands) (drop n commands) (octets_after blocks table commands n) refl in
      let there = subst (λ (all : List Command). IsInTurn blocks table all (octets_after blocks table commands n) (length (take n commands))) (take-append-drop n commands) turn in
      subst (λ (k : ℕ). IsInTurn blocks table commands (octets_after blocks table commands n) k) (length-take-le n commands le) there

  pub counts_within : (commands : List Command) (n octets : ℕ) → n < length commands → octets_after blocks table commands n ≤ octets
      → octets ≤ octets_after blocks table commands (n + 1) → IsInTurn blocks table commands octets (n + 1)
  counts_within commands n octets lt from to =
      let split : NextOf commands n = next_of commands n lt in
      let most : octets ≤ length (lines_of (outputs_of blocks table (take n commands ++ split.command ∷ []))) =
      subst (λ (first : List Command). octets ≤ length (lines_of (outputs_of blocks table first))) (sym split.next) to in
      let turn = stands_within (take n commands) split.others split.command octets from most in
      let there = subst (λ (all : List Command). IsInTurn blocks table all octets (length (take n commands) + 1)) split.whole turn in
      subst (λ (k : ℕ). IsInTurn blocks table commands octets (k + 1)) (length-take-le n commands (omega (arith, lt))) there

  pub counts_durable : (commands : List Command) (n : ℕ) → n < length commands → IsInTurn blocks table commands (octets_after blocks table commands n) (n + 1)
  counts_durable commands n lt =
      let split : NextOf commands n = next_of commands n lt in
      let more = lines_split (take n commands) (split.command ∷ []) in
      let same : length (lines_of (outputs_of blocks table (take n commands ++ split.command ∷ []))) ≡ octets_after blocks table commands (n + 1) =
      ap (λ (first : List Command). length (lines_of (outputs_of blocks table first))) split.next in
      counts_within commands n (octets_after blocks table commands n) lt (omega arith) (omega (arith, more, same))

  -- the table after the first commands
  pub table_on : (commands more : List Command) (kept : ℕ) → kept ≤ length commands → table_after blocks table (commands ++ more) kept ≡ table_after blocks table commands kept
  table_on commands more kept le = ap (λ (first : List Command). (run blocks table first).table) (take-append-le kept commands more le)
