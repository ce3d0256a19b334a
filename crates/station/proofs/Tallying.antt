-- What commands come to, one command further.
use Rattle.std.proofs.Common.{◌≡◌, ℕ, ◌+◌, List, [], ◌∷◌, ◌++◌, length, length-append, refl, sym, subst, arith}
use Rattle.pst_model.specs.Command.{Command}
use Rattle.pst_model.specs.Rules.{Output}
use Rattle.pst_model.specs.Run.{run, step}
use Rattle.pst_model.specs.Table.{Table}
use Rattle.pst_model.proofs.Runs.{run-more_outputs}
use Rattle.report_lines.specs.Counting.{IsCountOf, and_then}
use Rattle.report_lines.specs.declared.sent.Sent.{Sent}
use Rattle.report_lines.proofs.Counted.{counted_on}
use Rattle.station.specs.declared.tally.Tally.{Tally}
use Rattle.station.specs.Tallies.{IsSmall, IsTallyOf, and_sent, no_tally, sent_in}
use Rattle.turn_laws.specs.Turns.{outputs_of}

-- before the first command
pub tally_none : (tally : Tally) → tally ≡ no_tally → IsTallyOf 0 [] tally
tally_none tally is = subst (IsTallyOf 0 []) (sym is)
    (record { commands = refl; lines = record { forwarded = refl; replies = refl; retrieved = refl; octets = refl } })

pub small_none : {tally : Tally} → tally ≡ no_tally → (most : ℕ) → IsSmall most tally
small_none {tally} is most = subst (IsSmall most) (sym is)
    (record { commands = omega arith; forwarded = omega arith; replies = omega arith; retrieved = omega arith; octets = omega arith })

pub tally_more : (blocks : ℕ) (table : Table) (done : List Command) (command : Command) (tally : Tally) (sent : Sent)
    → IsTallyOf (length done) (outputs_of blocks table done) tally
    → IsCountOf (step blocks (length done + 1) command (run blocks table done).table).outputs sent
    → IsTallyOf (length (done ++ command ∷ [])) (outputs_of blocks table (done ++ command ∷ [])) (and_sent tally sent)
tally_more blocks table done command tally sent one two = record {
  commands = omega (arith, one.commands, length-append done (command ∷ []));
  lines = subst (λ (outputs : List Output). IsCountOf outputs (and_then (sent_in tally) sent))
      (sym (run-more_outputs blocks table done command))
      (counted_on (outputs_of blocks table done) (step blocks (length done + 1) command (run blocks table done).table).outputs (sent_in tally) sent one.lines two);
}
