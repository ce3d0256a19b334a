-- How many commands the traffic has.
use Rattle.std.proofs.Common.{◌≡◌, ◌≢◌, ◌⊎◌, inl, inr, ℕ, zero, suc, ◌+◌, ◌-◌, ◌/◌, ◌%◌, ◌<◌, ◌≤◌, ◌==◌, Bool, true, false, ◌∷◌, ◌++◌, length, refl, ap, arith, length-append}
use Rattle.std.specs.Prelude.{if◌then◌else◌}
use Rattle.std.proofs.lemmas.Bool.{cases_eq, eq-eqb, ne_eqb}
use Rattle.pst_model.specs.Command.{Command, Arrival, Grant, Idle}
use Rattle.traffic_gen.specs.Lawful.{commands_in}
use Rattle.traffic_gen.specs.Traffic.{after_draws, drawn_packet, grants, pass, passes, retrieval, setup, time_of, traffic_of, where_so}

-- one, where a test holds
abbrev one_where : Bool → ℕ
one_where so = if so then 1 else 0

length-where : (so : Bool) (command : Command) → length (where_so so command) ≡ one_where so
length-where true command = refl
length-where false command = refl

-- how many of the first numbers leave this rest
fourth : (number : ℕ) → number / 4 + one_where (number % 4 == 3) ≡ (number + 1) / 4
fourth number = by (cases_eq (number % 4) 3)
  where
    by : (number % 4 ≡ 3) ⊎ (number % 4 ≡ 3 → ⊥) → number / 4 + one_where (number % 4 == 3) ≡ (number + 1) / 4
    by (inl last) = rw (eq-eqb (number % 4) 3 last) (omega arith)
    by (inr other) = rw (ne_eqb (number % 4) 3 other) (omega arith)

sixty_fourth : (number : ℕ) → number / 64 + one_where (number % 64 == 63) ≡ (number + 1) / 64
sixty_fourth number = by (cases_eq (number % 64) 63)
  where
    by : (number % 64 ≡ 63) ⊎ (number % 64 ≡ 63 → ⊥) → number / 64 + one_where (number % 64 == 63) ≡ (number + 1) / 64
    by (inl last) = rw (eq-eqb (number % 64) 63 last) (omega arith)
    by (inr other) = rw (ne_eqb (number % 64) 63 other) (omega arith)

-- how often a number comes among so many from one on
abbrev times_met : (wanted number more : ℕ) → ℕ
times_met wanted number zero = 0
times_met wanted number (suc more) = one_where (number == wanted) + times_met wanted (number + 1) more

met-past : (wanted number more : ℕ) → wanted < number → times_met wanted number more ≡ 0
met-past wanted number zero past = refl
met-past wanted number (suc more) past =
    let rest = met-past wanted (number + 1) more (omega arith) in
    let none : number ≢ wanted = λ is. omega arith in
    rw (ne_eqb number wanted none) (omega arith)

met-once : (wanted number more : ℕ) → number ≤ wanted → wanted < number + more → times_met wanted number more ≡ 1
met-once wanted number zero from to = absurd (omega arith)
met-once wanted number (suc more) from to = by (cases_eq number wanted) (met-once wanted (number + 1) more)
  where
    by : (number ≡ wanted) ⊎ (number ≡ wanted → ⊥) → (number + 1 ≤ wanted → wanted < (number + 1) + more → times_met wanted (number + 1) more ≡ 1) → times_met wanted number (suc more) ≡ 1
    by (inl here) later = let none = met-past wanted (number + 1) more (omega arith) in rw (eq-eqb number wanted here) (omega arith)
    by (inr other) later = let once = later (omega arith) (omega arith) in rw (ne_eqb number wanted other) (omega arith)

length-pass : (total number state : ℕ) → length (pass total number state)
    ≡ 1 + one_where (number % 4 == 3) + one_where (number % 64 == 63) + one_where (number == total / 2) + one_where (number == total - 1)
length-pass total number state =
    let first = Arrival (time_of number) (drawn_packet number state) ∷ where_so (number % 4 == 3) (Grant (time_of number)) in
    let idle = where_so (number % 64 == 63) (Idle (time_of number)) in
    let second = where_so (number == total / 2) (retrieval number 5 2) in
    let third = where_so (number == total - 1) (retrieval number 6 3) in
    omega (
      arith,
      length-append (first ++ idle ++ second) third,
      length-append (first ++ idle) second,
      length-append first idle,
      length-where (number % 4 == 3) (Grant (time_of number)),
      length-where (number % 64 == 63) (Idle (time_of number)),
      length-where (number == total / 2) (retrieval number 5 2),
      length-where (number == total - 1) (retrieval number 6 3),
    )

length-passes : (total number state more : ℕ) → length (passes total number state more) + number / 4 + number / 64
    ≡ more + (number + more) / 4 + (number + more) / 64 + times_met (total / 2) number more + times_met (total - 1) number more
length-passes total number state zero = let same : number + 0 ≡ number = omega arith in rw same (omega arith)
length-passes total number state (suc more) =
    let later = length-passes total (number + 1) (after_draws state) more in
    let same : (number + 1) + more ≡ number + suc more = omega arith in
    let fourths = ap (λ (n : ℕ). n / 4) same in
    let sixty_fourths = ap (λ (n : ℕ). n / 64) same in
    omega (
      arith,
      length-append (pass total number state) (passes total (number + 1) (after_draws state) more),
      length-pass total number state,
      fourth number,
      sixty_fourth number,
    )

length-grants : (total more : ℕ) → length (grants total more) ≡ more
length-grants total zero = refl
length-grants total (suc more) = let later = length-grants total more in omega arith

pub length-traffic : (number total : ℕ) → 1 ≤ total → length (traffic_of number total) ≡ commands_in total
length-traffic number total some =
    let same : 0 + total ≡ total = omega arith in
    let fourths = ap (λ (n : ℕ). n / 4) same in
    let sixty_fourths = ap (λ (n : ℕ). n / 64) same in
    let half = met-once (total / 2) 0 total (omega arith) (omega arith) in
    let last = met-once (total - 1) 0 total (omega arith) (omega arith) in
    omega (
      arith,
      length-append (setup ++ passes total 0 number total) (grants total total),
      length-append setup (passes total 0 number total),
      length-passes total 0 number total,
      length-grants total total,
    )
