-- The work of two runs of calls, and what one board of a run tells the next.
use Rattle.std.proofs.Common.{◌≡◌, inl, inr, ℕ, ◌+◌, ◌≤◌, refl, ◌∙◌, ap, arith}
use Rattle.board.specs.Counts.{Counts, Rose, RoseBy, Sends, Works}
use Rattle.board.specs.Device.{Device}
use Rattle.std.specs.Prelude.{IsTrue}

-- the work of two runs
pub works_on : {r p e b s q f c : ℕ} {old mid new : Counts}
    → Works r p e b old mid → Works s q f c mid new → Works (r + s) (p + q) (e + f) (b + c) old new
works_on first second = record {
  flash_faults = omega (arith, first.flash_faults, second.flash_faults);
  link_faults = second.link_faults ∙ first.link_faults;
  reads_from = omega (arith, first.reads_from, second.reads_from);
  reads_to = omega (arith, first.reads_to, second.reads_to);
  programs_from = omega (arith, first.programs_from, second.programs_from);
  programs_to = omega (arith, first.programs_to, second.programs_to);
  erases_from = omega (arith, first.erases_from, second.erases_from);
  erases_to = omega (arith, first.erases_to, second.erases_to);
  barriers_from = omega (arith, first.barriers_from, second.barriers_from);
  barriers_to = omega (arith, first.barriers_to, second.barriers_to);
  sends = second.sends ∙ first.sends;
}

pub works_none : (old : Counts) → Works 0 0 0 0 old old
works_none old = record {
  flash_faults = omega arith;
  link_faults = refl;
  reads_from = omega arith;
  reads_to = omega arith;
  programs_from = omega arith;
  programs_to = omega arith;
  erases_from = omega arith;
  erases_to = omega arith;
  barriers_from = omega arith;
  barriers_to = omega arith;
  sends = refl;
}

-- at most as much as is allowed
pub works_most : {r p e b s q f c : ℕ} {old new : Counts}
    → Works r p e b old new → r ≤ s → p ≤ q → e ≤ f → b ≤ c → Works s q f c old new
works_most work reads programs erases barriers = record {
  flash_faults = work.flash_faults;
  link_faults = work.link_faults;
  reads_from = work.reads_from;
  reads_to = omega (arith, work.reads_to, reads);
  programs_from = work.programs_from;
  programs_to = omega (arith, work.programs_to, programs);
  erases_from = work.erases_from;
  erases_to = omega (arith, work.erases_to, erases);
  barriers_from = work.barriers_from;
  barriers_to = omega (arith, work.barriers_to, barriers);
  sends = work.sends;
}

-- the sends of two runs
pub sends_on : {m n : ℕ} {old mid new : Counts} → Sends m old mid → Sends n mid new → Sends (m + n) old new
sends_on first second = record {
  link_faults = omega (arith, first.link_faults, second.link_faults);
  flash_faults = second.flash_faults ∙ first.flash_faults;
  reads = second.reads ∙ first.reads;
  programs = second.programs ∙ first.programs;
  erases = second.erases ∙ first.erases;
  barriers = second.barriers ∙ first.barriers;
  sends_from = omega (arith, first.sends_from, second.sends_from);
  sends_to = omega (arith, first.sends_to, second.sends_to);
}

pub sends_none : (old : Counts) → Sends 0 old old
sends_none old = record {
  link_faults = omega arith;
  flash_faults = refl;
  reads = refl;
  programs = refl;
  erases = refl;
  barriers = refl;
  sends_from = omega arith;
  sends_to = omega arith;
}

pub sends_most : {m n : ℕ} {old new : Counts} → Sends m old new → m ≤ n → Sends n old new
sends_most sends le = record {
  link_faults = sends.link_faults;
  flash_faults = sends.flash_faults;
  reads = sends.reads;
  programs = sends.programs;
  erases = sends.erases;
  barriers = sends.barriers;
  sends_from = sends.sends_from;
  sends_to = omega (arith, sends.sends_to, le);
}

-- a count that rose, rose by one
pub rose_by_one : (old new : ℕ) → Rose old new → RoseBy 1 old new
rose_by_one old new (inl more) = omega arith
rose_by_one old new (inr full) = omega arith

-- a count that does not fall rose by nothing at least
pub rose_by_none : (old new : ℕ) → old ≤ new → RoseBy 0 old new
rose_by_none old new le = omega arith

-- a count that rose twice
pub rose_by_both : (m n old mid new : ℕ) → RoseBy m old mid → RoseBy n mid new → RoseBy (m + n) old new
rose_by_both m n old mid new first second = omega arith

-- what one board of a run tells, the next tells too
pub tells_too : {old new : Device} → new ≡ old → IsTrue old.tells_flash → IsTrue new.tells_flash
tells_too same told = ap (λ (d : Device). d.tells_flash) same ∙ told
