-- The line that sums up generated traffic.
use Rattle.std.specs.Prelude.{ℕ, List, [], ◌∷◌, codes}
use Rattle.std.specs.Fmt.{decimal}
use Rattle.pst_model.specs.Listing.{words_line}
use Rattle.station.specs.declared.tally.Tally.{Tally}

-- how many commands and lines of each kind there were, and how many octets the lines have
abbrev pub summary_line : Tally → List ℕ
summary_line tally = words_line (
    codes "commands" ∷ decimal tally.commands
    ∷ codes "forwarded" ∷ decimal tally.forwarded
    ∷ codes "replies" ∷ decimal tally.replies
    ∷ codes "retrieved" ∷ decimal tally.retrieved
    ∷ codes "octets" ∷ decimal tally.octets ∷ [])
