-- How far the block at the end of a chain is filled.
use Rattle.std.specs.Prelude.{ℕ, ◌+◌, Result, Ok, Err}

-- a block, and how many of its pages are taken, from page 0 on
pub record Filling : Type 0 where
  pub block : ℕ
  pub used : ℕ

-- How many are taken after an append of this many pages: all of them if a program failed, so that
-- no record fits any more.
abbrev pub used_after : {A E : Type 0} → ℕ → ℕ → Result A E → ℕ
used_after pages used (Ok page) = used + pages
used_after pages used (Err failed) = 256

abbrev pub after_append : {A E : Type 0} → ℕ → Filling → Result A E → Filling
after_append pages tail answer =
    record { block = tail.block; used = used_after pages tail.used answer }
