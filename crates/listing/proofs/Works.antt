-- The work of a listing, and the causes of its faults.
use Rattle.std.proofs.Common.{◌≡◌, ◌≤◌, ℕ, ◌+◌, refl, ◌∙◌, subst, arith}
use Rattle.board.specs.Counts.{Counts, Rose, Sends, Works}
use Rattle.listing.specs.Faults.{IsCauseOf}
use Rattle.listing.specs.Lists.{ReadsAndSends}
use Rattle.listing.specs.declared.fault.ListingFault.{ListingFault}
use Rattle.listing.specs.declared.fault.ListingFault.TheVariants.{Flash, Link, Mismatch}

pub work_none : (old : Counts) → ReadsAndSends 0 0 old old
work_none old = record {
  flash_faults = omega arith;
  link_faults = omega arith;
  reads_from = omega arith;
  reads_to = omega arith;
  programs = refl;
  erases = refl;
  barriers = refl;
  sends_from = omega arith;
  sends_to = omega arith;
}

pub work_on : {p l q m : ℕ} {old mid new : Counts} → ReadsAndSends p l old mid → ReadsAndSends q m mid new → ReadsAndSends (p + q) (l + m) old new
work_on first second = record {
  flash_faults = omega (arith, first.flash_faults, second.flash_faults);
  link_faults = omega (arith, first.link_faults, second.link_faults);
  reads_from = omega (arith, first.reads_from, second.reads_from);
  reads_to = omega (arith, first.reads_to, second.reads_to);
  programs = second.programs ∙ first.programs;
  erases = second.erases ∙ first.erases;
  barriers = second.barriers ∙ first.barriers;
  sends_from = omega (arith, first.sends_from, second.sends_from);
  sends_to = omega (arith, first.sends_to, second.sends_to);
}

pub work_within : {p l q m : ℕ} {old new : Counts} → ReadsAndSends p l old new → p ≤ q → l ≤ m → ReadsAndSends q m old new
work_within work pages lines = record {
  flash_faults = work.flash_faults;
  link_faults = work.link_faults;
  reads_from = work.reads_from;
  reads_to = omega (arith, work.reads_to, pages);
  programs = work.programs;
  erases = work.erases;
  barriers = work.barriers;
  sends_from = work.sends_from;
  sends_to = omega (arith, work.sends_to, lines);
}

-- reads alone, and sends alone

pub work_read : {n : ℕ} {old new : Counts} → Works n 0 0 0 old new → ReadsAndSends n 0 old new
work_read work = record {
  flash_faults = work.flash_faults;
  link_faults = omega (arith, work.link_faults);
  reads_from = work.reads_from;
  reads_to = work.reads_to;
  programs = omega (arith, work.programs_from, work.programs_to);
  erases = omega (arith, work.erases_from, work.erases_to);
  barriers = omega (arith, work.barriers_from, work.barriers_to);
  sends_from = omega (arith, work.sends);
  sends_to = omega (arith, work.sends);
}

pub work_sent : {n : ℕ} {old new : Counts} → Sends n old new → ReadsAndSends 0 n old new
work_sent work = record {
  flash_faults = omega (arith, work.flash_faults);
  link_faults = work.link_faults;
  reads_from = omega (arith, work.reads);
  reads_to = omega (arith, work.reads);
  programs = work.programs;
  erases = work.erases;
  barriers = work.barriers;
  sends_from = work.sends_from;
  sends_to = work.sends_to;
}

-- the cause of a fault behind calls that did not fail
pub cause_on : (fault : ListingFault) (old mid new : Counts) → mid.flash_faults ≡ old.flash_faults → mid.link_faults ≡ old.link_faults
    → IsCauseOf fault mid new → IsCauseOf fault old new
cause_on Flash old mid new flash link (rose, same) = (subst (λ n. Rose n new.flash_faults) flash rose, same ∙ link)
cause_on Link old mid new flash link (rose, same) = (subst (λ n. Rose n new.link_faults) link rose, same ∙ flash)
cause_on (Mismatch block page kept found) old mid new flash link (first, second) = (first ∙ flash, second ∙ link)
