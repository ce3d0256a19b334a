-- The text of commands that stand behind one another.
use Rattle.std.proofs.Common.{◌≡◌, ◌-◌, ◌/◌, ◌%◌, ◌==◌, Bool, true, false, List, ℕ, [], ◌∷◌, ◌++◌, refl, sym, ap, ◌∙◌, append_assoc, append-nil}
use Rattle.std.specs.Prelude.{if◌then◌else◌}
use Rattle.pst_model.specs.Command.{Command, Arrival, Grant, Idle}
use Rattle.traffic_gen.specs.Lines.{command_line, packet_line, text_of, timed_line}
use Rattle.traffic_gen.specs.Traffic.{drawn_packet, pass, retrieval, time_of, where_so}

pub text_of-append : (front behind : List Command) → text_of (front ++ behind) ≡ text_of front ++ text_of behind
text_of-append [] behind = refl
text_of-append (command ∷ front) behind =
    ap (λ (text : List ℕ). command_line command ++ text) (text_of-append front behind) ∙ sym (append_assoc (command_line command) (text_of front) (text_of behind))

pub text_of-four : (a b c d : List Command) → text_of (a ++ b ++ c ++ d) ≡ ((text_of a ++ text_of b) ++ text_of c) ++ text_of d
text_of-four a b c d =
    text_of-append (a ++ b ++ c) d
    ∙ ap (λ (text : List ℕ). text ++ text_of d) (text_of-append (a ++ b) c ∙ ap (λ (text : List ℕ). text ++ text_of c) (text_of-append a b))

-- the text of a command where a test holds
pub text_where : (so : Bool) (command : Command) → text_of (where_so so command) ≡ if so then command_line command else []
text_where true command = append-nil (command_line command)
text_where false command = refl

-- the text of what comes with an arrival, part by part
abbrev pub pass_parts : (total number state moment : ℕ) → List ℕ
pass_parts total number state moment =
    (((packet_line 65 (time_of number) (drawn_packet number state)
    ++ (if number % 4 == 3 then timed_line 71 moment else []))
    ++ (if number % 64 == 63 then timed_line 73 moment else []))
    ++ text_of (where_so (number == total / 2) (retrieval number 5 2)))
    ++ text_of (where_so (number == total - 1) (retrieval number 6 3))

module _ (total number state : ℕ) where
  abbrev moment : ℕ
  moment = time_of number

  abbrev line : List ℕ
  line = packet_line 65 moment (drawn_packet number state)

  abbrev granted : List Command
  granted = where_so (number % 4 == 3) (Grant moment)

  abbrev idle : List Command
  idle = where_so (number % 64 == 63) (Idle moment)

  abbrev second : List Command
  second = where_so (number == total / 2) (retrieval number 5 2)

  abbrev third : List Command
  third = where_so (number == total - 1) (retrieval number 6 3)

  pub text_of-pass : (at : ℕ) → at ≡ moment → pass_parts total number state at ≡ text_of (pass total number state)
  text_of-pass at is =
      ap (pass_parts total number state) is
      ∙ sym (
      text_of-four (Arrival moment (drawn_packet number state) ∷ granted) idle second third
      ∙ ap (λ (text : List ℕ). (((line ++ text) ++ text_of idle) ++ text_of second) ++ text_of third) (text_where (number % 4 == 3) (Grant moment))
      ∙ ap (λ (text : List ℕ). (((line ++ (if number % 4 == 3 then timed_line 71 moment else [])) ++ text) ++ text_of second) ++ text_of third)
      (text_where (number % 64 == 63) (Idle moment))
      )
