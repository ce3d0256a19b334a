-- What is still to come: the commands that are written next, and those behind them.
use Rattle.std.proofs.Common.{◌≡◌, ◌≢◌, ◌⊎◌, inl, inr, ℕ, zero, suc, ◌+◌, ◌-◌, ◌*◌, ◌<◌, ◌≤◌, ◌==◌, List, [], ◌∷◌, ◌++◌, length, min, take, sym, ap, ◌∙◌, append_assoc, arith}
use Rattle.std.proofs.lemmas.Bool.{cases_lt, cond-false, cond-true, le-leb, lt-leb, ne_eqb}
use Rattle.std.specs.Prelude.{nat_le, slice_range}
use Rattle.pst_model.specs.Command.{Command, Grant}
use Rattle.traffic_gen.specs.Lines.{text_of}
use Rattle.traffic_gen.specs.Steps.{behind, next_of, state_behind}
use Rattle.traffic_gen.specs.Traffic.{after_draws, grants, pass, passes, setup, time_of}
use Rattle.traffic_gen.proofs.Pieces.{taken_front}
use Rattle.traffic_gen.proofs.Texts.{text_of-append}

-- what is written next, by how often lines were made

pub next_of-pass : (total state made : ℕ) → made ≢ 0 → made ≤ total → next_of total state made ≡ pass total (made - 1) state
next_of-pass total state made some within =
    cond-false (made == 0) setup _ (ne_eqb made 0 some) ∙ cond-true (nat_le made total) (pass total (made - 1) state) _ (le-leb made total within)

pub next_of-grant : (total state made : ℕ) → total < made → made ≤ 2 * total → next_of total state made ≡ Grant (time_of total) ∷ []
next_of-grant total state made past within =
    let some : made ≢ 0 = omega arith in
    cond-false (made == 0) setup _ (ne_eqb made 0 some) ∙ cond-false (nat_le made total) (pass total (made - 1) state) _ (lt-leb made total past)
    ∙ cond-true (nat_le made (2 * total)) (Grant (time_of total) ∷ []) [] (le-leb made (2 * total) within)

pub next_of-none : (total state made : ℕ) → total < made → 2 * total < made → next_of total state made ≡ []
next_of-none total state made past over =
    let some : made ≢ 0 = omega arith in
    cond-false (made == 0) setup _ (ne_eqb made 0 some) ∙ cond-false (nat_le made total) (pass total (made - 1) state) _ (lt-leb made total past)
    ∙ cond-false (nat_le made (2 * total)) (Grant (time_of total) ∷ []) [] (lt-leb made (2 * total) over)

-- the commands behind a line that is written next

behind-setup : (total state : ℕ) → behind total state 0 ≡ setup ++ behind total state 1
behind-setup total state =
    let all : total - 0 ≡ total = omega arith in
    let grants_all : total - (0 - total) ≡ total = omega arith in
    append_assoc setup (passes total 0 state total) (grants total total)
    ∙ ap (λ (n : ℕ). setup ++ (passes total 0 state n ++ grants total total)) (sym all)
    ∙ ap (λ (n : ℕ). setup ++ (passes total 0 state (total - 0) ++ grants total n)) (sym grants_all)

behind-pass : (total state number : ℕ) → number < total → behind total state (suc number) ≡ pass total number state ++ behind total (after_draws state) (suc (number + 1))
behind-pass total state number within =
    let more : total - number ≡ suc (total - (number + 1)) = omega arith in
    let none : total - (number - total) ≡ total - ((number + 1) - total) = omega arith in
    let rest = passes total (number + 1) (after_draws state) (total - (number + 1)) in
    ap (λ (n : ℕ). passes total number state n ++ grants total (total - (number - total))) more
    ∙ append_assoc (pass total number state) rest (grants total (total - (number - total)))
    ∙ ap (λ (n : ℕ). pass total number state ++ (rest ++ grants total n)) none

behind-grant : (total state number : ℕ) → total ≤ number → number < 2 * total → behind total state (suc number) ≡ Grant (time_of total) ∷ behind total state (suc (number + 1))
behind-grant total state number past within =
    let none : total - number ≡ 0 = omega arith in
    let still : total - (number + 1) ≡ 0 = omega arith in
    let more : total - (number - total) ≡ suc (total - ((number + 1) - total)) = omega arith in
    ap (λ (n : ℕ). passes total number state n ++ grants total (total - (number - total))) none
    ∙ ap (grants total) more
    ∙ ap (λ (n : ℕ). Grant (time_of total) ∷ (passes total (number + 1) state n ++ grants total (total - ((number + 1) - total)))) (sym still)

pub behind-end : (total state made : ℕ) → made ≡ 2 * total + 1 → behind total state made ≡ []
behind-end total state zero is = absurd (omega arith)
behind-end total state (suc number) is =
    let none : total - number ≡ 0 = omega arith in
    let no_more : total - (number - total) ≡ 0 = omega arith in
    ap (λ (n : ℕ). passes total number state n ++ grants total (total - (number - total))) none ∙ ap (grants total) no_more

-- how often lines were made then
abbrev pub made_behind : (total made : ℕ) → ℕ
made_behind total made = min (made + 1) (2 * total + 1)

state_behind-pass : (total state made : ℕ) → made ≢ 0 → made ≤ total → state_behind total state made ≡ after_draws state
state_behind-pass total state made some within =
    cond-false (made == 0) state _ (ne_eqb made 0 some) ∙ cond-true (nat_le made total) (after_draws state) state (le-leb made total within)

state_behind-later : (total state made : ℕ) → total < made → state_behind total state made ≡ state
state_behind-later total state made past =
    let some : made ≢ 0 = omega arith in
    cond-false (made == 0) state _ (ne_eqb made 0 some) ∙ cond-false (nat_le made total) (after_draws state) state (lt-leb made total past)

abbrev Splits : (total state made : ℕ) → Type 0
Splits total state made = behind total state made ≡ next_of total state made ++ behind total (state_behind total state made) (made_behind total made)

splits-setup : (total state : ℕ) → Splits total state 0
splits-setup total state =
    let one : 1 ≡ made_behind total 0 = omega arith in
    behind-setup total state ∙ ap (λ (n : ℕ). setup ++ behind total state n) one

splits-pass : (total state number : ℕ) → number < total → Splits total state (suc number)
splits-pass total state number within =
    let some : suc number ≢ 0 = omega arith in
    let low : suc number - 1 ≡ number = omega arith in
    let made : suc (number + 1) ≡ made_behind total (suc number) = omega arith in
    let next : next_of total state (suc number) ≡ pass total number state =
    next_of-pass total state (suc number) some (omega arith) ∙ ap (λ (n : ℕ). pass total n state) low in
    behind-pass total state number within
    ∙ ap (λ (commands : List Command). commands ++ behind total (after_draws state) (suc (number + 1))) (sym next)
    ∙ ap (λ (x : ℕ). next_of total state (suc number) ++ behind total x (suc (number + 1))) (sym (state_behind-pass total state (suc number) some (omega arith)))
    ∙ ap (λ (n : ℕ). next_of total state (suc number) ++ behind total (state_behind total state (suc number)) n) made

splits-grant : (total state number : ℕ) → total ≤ number → number < 2 * total → Splits total state (suc number)
splits-grant total state number past within =
    let made : suc (number + 1) ≡ made_behind total (suc number) = omega arith in
    behind-grant total state number past within
    ∙ ap (λ (commands : List Command). commands ++ behind total state (suc (number + 1))) (sym (next_of-grant total state (suc number) (omega arith) (omega arith)))
    ∙ ap (λ (x : ℕ). next_of total state (suc number) ++ behind total x (suc (number + 1))) (sym (state_behind-later total state (suc number) (omega arith)))
    ∙ ap (λ (n : ℕ). next_of total state (suc number) ++ behind total (state_behind total state (suc number)) n) made

splits-end : (total state number : ℕ) → 1 ≤ total → number ≡ 2 * total → Splits total state (suc number)
splits-end total state number some is =
    behind-end total state (suc number) (omega arith)
    ∙ sym (behind-end total (state_behind total state (suc number)) (made_behind total (suc number)) (omega arith))
    ∙ ap (λ (commands : List Command). commands ++ behind total (state_behind total state (suc number)) (made_behind total (suc number)))
    (sym (next_of-none total state (suc number) (omega arith) (omega arith)))

pub splits : (total state made : ℕ) → 1 ≤ total → made ≤ 2 * total + 1 → Splits total state made
splits total state zero some within = splits-setup total state
splits total state (suc number) some within = by (cases_lt number total) (cases_lt number (2 * total))
  where
    by : (number < total) ⊎ (total ≤ number) → (number < 2 * total) ⊎ (2 * total ≤ number) → Splits total state (suc number)
    by (inl low) other = splits-pass total state number low
    by (inr past) (inl low) = splits-grant total state number past low
    by (inr past) (inr over) = splits-end total state number some (omega arith)

pub text-splits : (total state made : ℕ) → 1 ≤ total → made ≤ 2 * total + 1
    → text_of (behind total state made) ≡ text_of (next_of total state made) ++ text_of (behind total (state_behind total state made) (made_behind total made))
text-splits total state made some within =
    ap text_of (splits total state made some within) ∙ text_of-append (next_of total state made) (behind total (state_behind total state made) (made_behind total made))

-- nothing is written only at the end
pub at_end : (total state made : ℕ) → 1 ≤ total → made ≤ 2 * total + 1 → length (text_of (next_of total state made)) ≡ 0 → text_of (behind total state made) ≡ []
at_end total state zero some within none = absurd (omega arith)
at_end total state (suc number) some within none = by (cases_lt number total) (cases_lt number (2 * total))
  where
    by : (number < total) ⊎ (total ≤ number) → (number < 2 * total) ⊎ (2 * total ≤ number) → text_of (behind total state (suc number)) ≡ []
    by (inl low) other =
        let is = ap (λ (commands : List Command). length (text_of commands)) (next_of-pass total state (suc number) (λ e. omega arith) (omega arith)) in
        absurd (omega (arith, is))
    by (inr past) (inl low) =
        let is = ap (λ (commands : List Command). length (text_of commands)) (next_of-grant total state (suc number) (omega arith) (omega arith)) in
        absurd (omega (arith, is))
    by (inr past) (inr over) = ap text_of (behind-end total state (suc number) (omega arith))

-- the lines that were written next, with what is to come behind them
pub made_text : (lines rest : List ℕ) (total state made to next count : ℕ) → lines ≡ text_of (next_of total state made) ++ rest → to ≡ length (text_of (next_of total state made))
    → next ≡ state_behind total state made → count ≡ made_behind total made → 1 ≤ total → made ≤ 2 * total + 1
    → slice_range lines 0 to ++ text_of (behind total next count) ≡ text_of (behind total state made)
made_text lines rest total state made to next count is long state_is made_is some within =
    let text = text_of (next_of total state made) in
    let whole : to - 0 ≡ to = omega arith in
    let front : slice_range lines 0 to ≡ text = ap (λ (n : ℕ). take n lines) whole ∙ taken_front text rest lines to is long in
    ap (λ (xs : List ℕ). xs ++ text_of (behind total next count)) front
    ∙ ap (λ (x : ℕ). text ++ text_of (behind total x count)) state_is
    ∙ ap (λ (n : ℕ). text ++ text_of (behind total (state_behind total state made) n)) made_is
    ∙ sym (text-splits total state made some within)
