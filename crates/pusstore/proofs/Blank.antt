-- A new device in memory holds no table.
use Rattle.std.proofs.Common.{◌≡◌, ◌≤◌, ℕ, true, List, refl, ◌∙◌, ap, arith}
use Rattle.board.specs.declared.memory.MemBoard.{MemBoard}
use Rattle.board.specs.Flash.{blank}
use Rattle.board.specs.Memory.{IsNewBoard, device_of, flash_of, memory_means}
use Rattle.station.specs.Station.{HeldNone}
use Rattle.meta_journal.proofs.Folds.{none_chosen}
use Rattle.root_vote.specs.declared.votes.Choice.TheVariants.{Nobody}
use Rattle.root_vote.specs.Roots.{choice_by, choice_of, root_in}
use Rattle.vault.proofs.Stands.{no_directory}

-- three blank root pages agree on nothing
blank_votes : choice_by (root_in blank) (root_in blank) (root_in blank) ≡ Nobody
unfolding root_in blank
blank_votes = refl

blank_choice : (content : ℕ → List ℕ) → content 0 ≡ blank → content 256 ≡ blank → content 512 ≡ blank → choice_of content ≡ Nobody
unfolding choice_of
blank_choice content first second third =
    ap (λ (page : List ℕ). choice_by (root_in page) (root_in (content 256)) (root_in (content 512))) first
    ∙ ap (λ (page : List ℕ). choice_by (root_in blank) (root_in page) (root_in (content 512))) second
    ∙ ap (λ (page : List ℕ). choice_by (root_in blank) (root_in blank) (root_in page)) third
    ∙ blank_votes

pub new_holds_none : (blocks : ℕ) (board : MemBoard) → 16 ≤ blocks → IsNewBoard blocks (λ p. blank) true board → HeldNone memory_means board
new_holds_none blocks board least made =
    no_directory (device_of board).blocks (flash_of board).content
    (none_chosen (device_of board).blocks (flash_of board).content
    (blank_choice (flash_of board).content (made.content_is 0 (omega arith)) (made.content_is 256 (omega arith)) (made.content_is 512 (omega arith))))
