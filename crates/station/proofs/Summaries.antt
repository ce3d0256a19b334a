-- The line of a tally, put together from its words.
use Rattle.std.proofs.Common.{◌≡◌, ℕ, List, [], ◌++◌, ◌∙◌, ap, append_assoc}
use Rattle.std.specs.Prelude.{codes, decimal}
use Rattle.station.specs.declared.tally.Tally.{Tally}
use Rattle.station.specs.Summary.{summary_line}

-- a word and a number that were put in front of more
put_behind : (line word number more : List ℕ) → ((line ++ word) ++ number) ++ more ≡ line ++ (word ++ (number ++ more))
put_behind line word number more = append_assoc (line ++ word) number more ∙ append_assoc line word (number ++ more)

-- what stands behind each number

abbrev behind4 : Tally → List ℕ
behind4 tally = codes " octets " ++ (decimal tally.octets ++ codes "\n")

abbrev behind3 : Tally → List ℕ
behind3 tally = codes " retrieved " ++ (decimal tally.retrieved ++ behind4 tally)

abbrev behind2 : Tally → List ℕ
behind2 tally = codes " replies " ++ (decimal tally.replies ++ behind3 tally)

abbrev behind1 : Tally → List ℕ
behind1 tally = codes " forwarded " ++ (decimal tally.forwarded ++ behind2 tally)

pub summary_spelled : (tally : Tally) (l0 l1 l2 l3 l4 l5 l6 l7 : List ℕ)
    → l0 ≡ [] → l1 ≡ l0 ++ codes "commands " → l2 ≡ l1 ++ decimal tally.commands
    → l3 ≡ (l2 ++ codes " forwarded ") ++ decimal tally.forwarded
    → l4 ≡ (l3 ++ codes " replies ") ++ decimal tally.replies
    → l5 ≡ (l4 ++ codes " retrieved ") ++ decimal tally.retrieved
    → l6 ≡ (l5 ++ codes " octets ") ++ decimal tally.octets
    → l7 ≡ l6 ++ codes "\n" → l7 ≡ summary_line tally
summary_spelled tally l0 l1 l2 l3 l4 l5 l6 l7 is0 is1 is2 is3 is4 is5 is6 is7 =
    is7
    ∙ ap (λ (l : List ℕ). l ++ codes "\n") is6
    ∙ put_behind l5 (codes " octets ") (decimal tally.octets) (codes "\n")
    ∙ ap (λ (l : List ℕ). l ++ behind4 tally) is5
    ∙ put_behind l4 (codes " retrieved ") (decimal tally.retrieved) (behind4 tally)
    ∙ ap (λ (l : List ℕ). l ++ behind3 tally) is4
    ∙ put_behind l3 (codes " replies ") (decimal tally.replies) (behind3 tally)
    ∙ ap (λ (l : List ℕ). l ++ behind2 tally) is3
    ∙ put_behind l2 (codes " forwarded ") (decimal tally.forwarded) (behind2 tally)
    ∙ ap (λ (l : List ℕ). l ++ behind1 tally) is2
    ∙ append_assoc l1 (decimal tally.commands) (behind1 tally)
    ∙ ap (λ (l : List ℕ). l ++ (decimal tally.commands ++ behind1 tally)) (is1 ∙ ap (λ (l : List ℕ). l ++ codes "commands ") is0)
