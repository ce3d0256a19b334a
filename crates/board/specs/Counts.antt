-- How often the outside has failed, and the work that it was asked for.
use Rattle.std.specs.Prelude.{◌≡◌, ◌⊎◌, ℕ, ◌+◌, ◌<◌, ◌≤◌, min}

-- Each of them counts the calls that failed too.
pub record Counts : Type 0 where
  pub flash_faults : ℕ
  pub link_faults : ℕ
  pub reads : ℕ
  pub programs : ℕ
  pub erases : ℕ
  pub barriers : ℕ
  pub sends : ℕ

-- a count is greater, or stands at its end
abbrev pub Rose : ℕ → ℕ → Type 0
Rose old new = (old < new) ⊎ (new ≡ 18446744073709551615)

-- a count is greater by so many at least, or stands at its end
abbrev pub RoseBy : ℕ → ℕ → ℕ → Type 0
RoseBy n old new = min (old + n) 18446744073709551615 ≤ new

-- Calls of the flash, with at most so many of each kind. The link was not called, so its faults stay.
pub record Works (reads programs erases barriers : ℕ) (old new : Counts) : Type 0 where
  pub flash_faults : old.flash_faults ≤ new.flash_faults
  pub link_faults : new.link_faults ≡ old.link_faults
  pub reads_from : old.reads ≤ new.reads
  pub reads_to : new.reads ≤ old.reads + reads
  pub programs_from : old.programs ≤ new.programs
  pub programs_to : new.programs ≤ old.programs + programs
  pub erases_from : old.erases ≤ new.erases
  pub erases_to : new.erases ≤ old.erases + erases
  pub barriers_from : old.barriers ≤ new.barriers
  pub barriers_to : new.barriers ≤ old.barriers + barriers
  pub sends : new.sends ≡ old.sends

-- Calls of the link alone, at most so many.
pub record Sends (sends : ℕ) (old new : Counts) : Type 0 where
  pub link_faults : old.link_faults ≤ new.link_faults
  pub flash_faults : new.flash_faults ≡ old.flash_faults
  pub reads : new.reads ≡ old.reads
  pub programs : new.programs ≡ old.programs
  pub erases : new.erases ≡ old.erases
  pub barriers : new.barriers ≡ old.barriers
  pub sends_from : old.sends ≤ new.sends
  pub sends_to : new.sends ≤ old.sends + sends
