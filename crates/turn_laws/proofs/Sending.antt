-- What octets of the lines of outputs acknowledge, and which lines they do not hold.
use Rattle.std.proofs.Common.{◌≡◌, ◌≤◌, ℕ, ◌-◌, arith, Bool, true, false, List, [], ◌∷◌, ◌++◌, length, refl, sym, ◌∙◌, ap, append_assoc, length-append}
use Rattle.std.proofs.Math.Nat.{max-le}
use Rattle.std.proofs.lemmas.Bool.{cond_both, cond-false, le-ltb}
use Rattle.std.proofs.lemmas.List.Elements.{All-append, All-cons, All-head, All-nil, All-tail}
use Rattle.std.specs.Prelude.{◌==◌, ◌&&◌, All, if◌then◌else◌, max, nat_lt}
use Rattle.pst_model.specs.Acknowledged.{acknowledged, acknowledges}
use Rattle.pst_model.specs.Output.{output_line}
use Rattle.pst_model.specs.Rules.{Output}
use Rattle.pst_model.specs.Run.{lines_of}
use Rattle.turn_laws.specs.Turns.{if_unsent, unsent}

-- how many octets the line of an output has
abbrev line_length : Output → ℕ
line_length output = length (output_line output.channel output.packet)

-- octets acknowledge no command behind all those of the outputs
pub acknowledged_most : (most : ℕ) (outputs : List Output) (octets : ℕ) → All (λ (output : Output). output.command ≤ most) outputs → acknowledged outputs octets ≤ most
acknowledged_most most [] octets all = omega arith
acknowledged_most most (output ∷ outputs) octets all =
    let here : (if acknowledges output.kind then output.command else 0) ≤ most = cond_both (acknowledges output.kind) output.command 0 (λ n. n ≤ most)
    (λ does. All-head (λ (o : Output). o.command ≤ most) output outputs all) (λ not. omega arith) in
    let rest = acknowledged_most most outputs (octets - line_length output) (All-tail (λ (o : Output). o.command ≤ most) output outputs all) in
    cond_both (octets == 0) 0 (max (if acknowledges output.kind then output.command else 0) (acknowledged outputs (octets - line_length output))) (λ n. n ≤ most)
    (λ none. omega arith) (λ some. max-le here rest)

acknowledged_none : (outputs : List Output) → acknowledged outputs 0 ≡ 0
acknowledged_none [] = refl
acknowledged_none (output ∷ outputs) = refl

-- outputs behind all octets are not acknowledged
pub acknowledged_front : (first others : List Output) (octets : ℕ) → octets ≤ length (lines_of first) → acknowledged (first ++ others) octets ≡ acknowledged first octets
acknowledged_front [] others octets le =
    let none : octets ≡ 0 = omega (arith, le) in
    ap (acknowledged others) none ∙ acknowledged_none others
acknowledged_front (output ∷ first) others octets le =
    let joined = length-append (output_line output.channel output.packet) (lines_of first) in
    let rest : octets - line_length output ≤ length (lines_of first) = omega (arith, le, joined) in
    ap (λ (n : ℕ). if octets == 0 then 0 else max (if acknowledges output.kind then output.command else 0) n)
    (acknowledged_front first others (octets - line_length output) rest)

-- what is not sent of two lists of outputs
pub unsent_append : (first others : List Output) (octets : ℕ) → unsent (first ++ others) octets ≡ unsent first octets ++ unsent others (octets - length (lines_of first))
unsent_append [] others octets =
    let whole : octets ≡ octets - 0 = omega arith in
    ap (unsent others) whole
unsent_append (output ∷ first) others octets =
    let joined = length-append (output_line output.channel output.packet) (lines_of first) in
    let left : octets - line_length output - length (lines_of first) ≡ octets - length (lines_of (output ∷ first)) = omega (arith, joined) in
    ap (λ (numbers : List ℕ). if_unsent output octets ++ numbers) (unsent_append first others (octets - line_length output))
    ∙ ap (λ (n : ℕ). if_unsent output octets ++ (unsent first (octets - line_length output) ++ unsent others n)) left
    ∙ sym (append_assoc (if_unsent output octets) (unsent first (octets - line_length output)) (unsent others (octets - length (lines_of (output ∷ first)))))

held : (output : Output) (octets : ℕ) → line_length output ≤ octets → if_unsent output octets ≡ []
held output octets whole = by (acknowledges output.kind) (nat_lt octets (line_length output)) (le-ltb octets (line_length output) whole)
  where
    by : (acknowledging short : Bool) → short ≡ false → (if acknowledging && short then output.command ∷ [] else []) ≡ []
    by true short is = cond-false short (output.command ∷ []) [] is
    by false short is = refl

-- nothing where all lines are sent
pub unsent_none : (outputs : List Output) (octets : ℕ) → length (lines_of outputs) ≤ octets → unsent outputs octets ≡ []
unsent_none [] octets le = refl
unsent_none (output ∷ outputs) octets le =
    let joined = length-append (output_line output.channel output.packet) (lines_of outputs) in
    let whole : line_length output ≤ octets = omega (arith, le, joined) in
    let rest : length (lines_of outputs) ≤ octets - line_length output = omega (arith, le, joined) in
    ap (λ (numbers : List ℕ). numbers ++ unsent outputs (octets - line_length output)) (held output octets whole) ∙ unsent_none outputs (octets - line_length output) rest

-- what is not sent is of the commands of the outputs
pub unsent_each : (P : ℕ → Type 0) (outputs : List Output) (octets : ℕ) → All (λ (output : Output). P output.command) outputs → All P (unsent outputs octets)
unsent_each P [] octets all = All-nil P
unsent_each P (output ∷ outputs) octets all =
    All-append P (if_unsent output octets) (unsent outputs (octets - line_length output))
    (cond_both (acknowledges output.kind && nat_lt octets (line_length output)) (output.command ∷ []) [] (All P)
    (λ is. All-cons P output.command [] (All-head (λ (o : Output). P o.command) output outputs all) (All-nil P))
    (λ not. All-nil P))
    (unsent_each P outputs (octets - line_length output) (All-tail (λ (o : Output). P o.command) output outputs all))
