-- One thing for each kind of call.
use Rattle.std.specs.Prelude.{ℕ, ◌+◌, min}
use Rattle.board.specs.declared.calls.CallKind.{CallKind}
use Rattle.board.specs.declared.calls.CallKind.TheVariants.{Read, Program, Erase, Barrier, Send}

pub record PerKind (A : Type 0) : Type 0 where
  pub reads : A
  pub programs : A
  pub erases : A
  pub barriers : A
  pub sends : A

-- that of one kind
abbrev pub at_kind : {A : Type 0} → CallKind → PerKind A → A
at_kind Read all = all.reads
at_kind Program all = all.programs
at_kind Erase all = all.erases
at_kind Barrier all = all.barriers
at_kind Send all = all.sends

-- that of one kind changed, and the others as they were
abbrev pub changed : {A : Type 0} → CallKind → (A → A) → PerKind A → PerKind A
changed Read change all = record all { reads = change all.reads }
changed Program change all = record all { programs = change all.programs }
changed Erase change all = record all { erases = change all.erases }
changed Barrier change all = record all { barriers = change all.barriers }
changed Send change all = record all { sends = change all.sends }

-- the same for each kind
abbrev pub each : {A : Type 0} → A → PerKind A
each one = record { reads = one; programs = one; erases = one; barriers = one; sends = one }

-- a count that rose by one, or stands at its end
abbrev pub one_more : ℕ → ℕ
one_more count = min (count + 1) 18446744073709551615
