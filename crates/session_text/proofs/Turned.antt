-- What a line comes to, by what it says.
use Rattle.std.proofs.Common.{◌≡◌, List, ℕ, Option, Some, None, Ok, refl, sym, subst, ap, ◌∙◌}
use Rattle.pst_model.specs.Command.{Command}
use Rattle.session_text.specs.declared.form.Form.{Form}
use Rattle.session_text.specs.declared.lines.Passed.{Passed}
use Rattle.session_text.specs.Lending.{line_turn}
use Rattle.session_text.specs.Passing.{passed_by}
use Rattle.session_text.specs.Read.{said_in}
use Rattle.session_text.specs.Turns.{OnNothing, Turn}
use Rattle.session_text.proofs.Advances.{turn_said}

turn_by : (packet : List ℕ) (said : Option Form) → turn_said (said_in packet said) ≡ line_turn packet (Ok (passed_by said))
turn_by packet (Some form) = refl
turn_by packet None = refl

pub turn_passed : (packet : List ℕ) (said : Option Form) (passed : Passed) → passed ≡ passed_by said → turn_said (said_in packet said) ≡ line_turn packet (Ok passed)
turn_passed packet said passed is = turn_by packet said ∙ ap (λ (p : Passed). line_turn packet (Ok p)) (sym is)

nothing_by : (said : Option Command) (P : Type 0) → (said ≡ None → P) → OnNothing (turn_said said) P
nothing_by (Some command) P p = tt
nothing_by None P p = p refl

pub on_nothing : (packet : List ℕ) (said : Option Form) (passed : Passed) (P : Type 0) → passed ≡ passed_by said → (said_in packet said ≡ None → P) → OnNothing (line_turn packet (Ok passed)) P
on_nothing packet said passed P is p = subst (λ (t : Turn). OnNothing t P) (turn_passed packet said passed is) (nothing_by (said_in packet said) P p)
