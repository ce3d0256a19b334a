-- The work of commands, one command further, and in the end.
use Rattle.std.proofs.Common.{◌≡◌, ◌≤◌, ◌<◌, inl, inr, ℕ, zero, suc, ◌+◌, ◌*◌, ◌/◌, List, [], ◌∷◌, ◌++◌, length, length-append, ◌∙◌, ap, arith}
use Rattle.board.specs.Counts.{Counts}
use Rattle.handler.specs.Working.{pages_retrieved}
use Rattle.pst_model.specs.Command.{Command}
use Rattle.pst_model.specs.Rules.{Output}
use Rattle.pst_model.specs.Run.{run, run_from, step}
use Rattle.pst_model.specs.Table.{Table}
use Rattle.pst_model.proofs.Runs.{run-more_outputs}
use Rattle.station.specs.Working.{ArePlain, CommandWorks, IsPlain, NoneIsStale, Worked, WorksFor, pages_put, put_from}
use Rattle.turn_laws.specs.Turns.{outputs_of}
use Rattle.vault.specs.Memory.{InMemory}

pub plain_split : (done : List Command) (command : Command) → ArePlain (done ++ command ∷ []) → ArePlain done × IsPlain command
plain_split [] command plain = (tt, plain.0)
plain_split (first ∷ done) command plain =
    let (all, this) = plain_split done command plain.1 in
    ((plain.0, all), this)

-- the pages of one command more, and of more outputs

put_more : (blocks number : ℕ) (table : Table) (done : List Command) (command : Command)
    → put_from blocks number table (done ++ command ∷ []) ≡ put_from blocks number table done + pages_put command (run_from blocks number table done).table
put_more blocks number table [] command = omega arith
put_more blocks number table (first ∷ done) command =
    let rest = put_more blocks (number + 1) (step blocks number first table).table done command in
    omega (arith, rest)

retrieved_more : (outputs more : List Output) → pages_retrieved (outputs ++ more) ≡ pages_retrieved outputs + pages_retrieved more
retrieved_more [] more = omega arith
retrieved_more (output ∷ outputs) more = let rest = retrieved_more outputs more in omega (arith, rest)

-- before the first command
pub worked_none : (blocks : ℕ) (table : Table) (vault : InMemory) (counts : Counts) → NoneIsStale vault → Worked blocks table [] vault counts counts
worked_none blocks table vault counts fresh = record {
  fresh = fresh;
  reads = omega arith;
  switches = 0;
  programs = omega arith;
  few = λ one. absurd (omega arith);
  left = λ one. absurd (omega arith);
}

-- the other half counts once more, behind so many commands

switch_few : (switches n room : ℕ) → (1 ≤ switches → 412 * switches + 20 ≤ 7 * n + room) → room < 21 → 412 * (switches + 1) ≤ 7 * (n + 1) + 412
switch_few zero n room left short = omega arith
switch_few (suc switches) n room left short = let more = left (omega arith) in omega (arith, more)

switch_left : (switches n room now : ℕ) → (1 ≤ switches → 412 * switches + 20 ≤ 7 * n + room) → room < 21 → 432 ≤ now + 7
    → 412 * (switches + 1) + 20 ≤ 7 * (n + 1) + now
switch_left zero n room now left short enough = omega arith
switch_left (suc switches) n room now left short enough = let more = left (omega arith) in omega (arith, more)

most_switches : (switches n : ℕ) → (1 ≤ switches → 412 * switches ≤ 7 * n + 412) → switches ≤ (7 * n) / 412 + 1
most_switches zero n few = omega arith
most_switches (suc switches) n few = let more = few (omega arith) in omega (arith, more)

pub worked_more : (blocks : ℕ) (table : Table) (done : List Command) (command : Command) (was now : InMemory) (first old new : Counts)
    → Worked blocks table done was first old
    → CommandWorks command (run blocks table done).table (step blocks (length done + 1) command (run blocks table done).table).outputs was now old new
    → Worked blocks table (done ++ command ∷ []) now first new
worked_more blocks table done command was now first old new worked works =
    let own = (step blocks (length done + 1) command (run blocks table done).table).outputs in
    let pages = pages_put command (run blocks table done).table in
    let many : length (done ++ command ∷ []) ≡ length done + 1 = length-append done (command ∷ []) in
    let put = put_more blocks 1 table done command in
    let retrieved : pages_retrieved (outputs_of blocks table (done ++ command ∷ [])) ≡ pages_retrieved (outputs_of blocks table done) + pages_retrieved own =
    ap pages_retrieved (run-more_outputs blocks table done command) ∙ retrieved_more (outputs_of blocks table done) own in
    let reads : new.reads ≤ first.reads + pages_retrieved (outputs_of blocks table (done ++ command ∷ [])) =
    omega (arith, worked.reads, works.reads, retrieved) in
    elim works.enters [
      | inl kept ↦ record {
        fresh = works.fresh;
        reads = reads;
        switches = worked.switches;
        programs = (let more = kept.1 in omega (arith, worked.programs, more, put, many));
        few = λ one. (let few = worked.few one in omega (arith, few, many));
        left = λ one. (let left = worked.left one in let room = kept.0 in omega (arith, left, room, many));
      }
      | inr switched ↦ record {
        fresh = works.fresh;
        reads = reads;
        switches = worked.switches + 1;
        programs = (let more = switched.2 in omega (arith, worked.programs, more, put, many));
        few = λ one. (let more = switch_few worked.switches (length done) was.journal.room worked.left switched.0 in omega (arith, more, many));
        left = λ one.
            (let more = switch_left worked.switches (length done) was.journal.room now.journal.room worked.left switched.0 switched.1 in
            omega (arith, more, many));
      }
    ]

pub works_for : {blocks : ℕ} {table : Table} {done : List Command} {vault : InMemory} {old new : Counts} → Worked blocks table done vault old new
    → WorksFor blocks table done 0 0 old new
works_for {blocks} {table} {done} {vault} {old} {new} worked =
    let few : worked.switches ≤ (7 * length done) / 412 + 1 = most_switches worked.switches (length done) worked.few in
    record {
      reads_to = omega (arith, worked.reads);
      programs_to = omega (arith, worked.programs, few);
    }

-- the work since earlier counts
pub works_since : {blocks : ℕ} {table : Table} {commands : List Command} {reads programs : ℕ} {mid new : Counts} (more_reads more_programs : ℕ) (old : Counts)
    → WorksFor blocks table commands reads programs mid new → mid.reads + reads ≤ old.reads + more_reads → mid.programs + programs ≤ old.programs + more_programs
    → WorksFor blocks table commands more_reads more_programs old new
works_since more_reads more_programs old works reads programs = record {
  reads_to = omega (arith, works.reads_to, reads);
  programs_to = omega (arith, works.programs_to, programs);
}
