-- The flash and the link after the steps of a board in memory.
use Rattle.std.specs.Prelude.{ℕ, ◌+◌, ◌*◌, ◌≤◌, Bool, true, false, List, [], ◌∷◌, get_or}
use Rattle.board.specs.declared.step.First.{First}
use Rattle.board.specs.declared.step.First.TheVariants.{Blank, Pages}
use Rattle.board.specs.declared.step.Step.{Step}
use Rattle.board.specs.declared.step.Step.TheVariants.{Program, TornProgram, Erase, TornErase, Barrier, Send}
use Rattle.board.specs.Flash.{Flash, IsPage, blank, firm, only_page, pages_of_block, wiped, written}

-- nothing is loose at first, and the pages of an image are not erased
abbrev pub first_flash : First → Flash
first_flash Blank = record { content = λ p. blank; erased = λ p. true; loose = λ p. false }
first_flash (Pages pages) = record { content = λ p. get_or pages.items p []; erased = λ p. false; loose = λ p. false }

-- what a program or an erase of these pages that was planned to fail leaves: their octets, and no more trust in them
abbrev pub torn : (ℕ → Bool) → Flash → Flash
torn these flash = written these flash.content flash

abbrev pub flash_after_step : Step → Flash → Flash
flash_after_step (Program place octets) flash = written (only_page place) (λ _. octets.value) flash
flash_after_step (TornProgram place) flash = torn (only_page place) flash
flash_after_step (Erase block) flash = wiped (pages_of_block block) flash
flash_after_step (TornErase block) flash = torn (pages_of_block block) flash
flash_after_step Barrier flash = firm flash
flash_after_step (Send length) flash = flash

abbrev pub flash_after : List Step → Flash → Flash
flash_after [] flash = flash
flash_after (step ∷ steps) flash = flash_after steps (flash_after_step step flash)

-- the octets of a step that programs a page
abbrev pub octets_of : Step → List ℕ
octets_of (Program place octets) = octets.value
octets_of (TornProgram place) = blank
octets_of (Erase block) = blank
octets_of (TornErase block) = blank
octets_of Barrier = blank
octets_of (Send length) = blank

-- the first page behind those that a step changes
abbrev pub end_of : Step → ℕ
end_of (Program place octets) = place + 1
end_of (TornProgram place) = place + 1
end_of (Erase block) = 256 * block + 256
end_of (TornErase block) = 256 * block + 256
end_of Barrier = 0
end_of (Send length) = 0

-- a step of a device of so many pages
pub record IsStep (pages : ℕ) (step : Step) : Type 0 where
  pub octets : IsPage (octets_of step)
  pub places : end_of step ≤ pages

-- how many octets were sent
abbrev pub sent_by_step : Step → ℕ
sent_by_step (Program place octets) = 0
sent_by_step (TornProgram place) = 0
sent_by_step (Erase block) = 0
sent_by_step (TornErase block) = 0
sent_by_step Barrier = 0
sent_by_step (Send length) = length

abbrev pub sent_by : List Step → ℕ
sent_by [] = 0
sent_by (step ∷ steps) = sent_by_step step + sent_by steps
