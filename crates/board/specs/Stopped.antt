-- What a stop leaves in each page of a board in memory.
use Rattle.std.specs.Prelude.{◌≡◌, ◌≤◌, ℕ, false, List, [], ◌∷◌, get_or, length, replicate, if◌then◌else◌}
use Rattle.board.specs.declared.step.Step.{Step}
use Rattle.board.specs.declared.step.Step.TheVariants.{Program, TornProgram, Erase, TornErase, Barrier, Send}
use Rattle.board.specs.declared.stop.Torn.{Torn}
use Rattle.board.specs.declared.stop.Torn.TheVariants.{Done, Undone, Fill}
use Rattle.board.specs.declared.stop.Walk.{Walk}
use Rattle.board.specs.Flash.{Flash}
use Rattle.board.specs.History.{flash_after_step}

-- what each page held when it was last firm: a barrier makes all firm as they are
abbrev pub firm_after_step : Step → Flash → (ℕ → List ℕ) → ℕ → List ℕ
firm_after_step (Program place octets) flash firm = firm
firm_after_step (TornProgram place) flash firm = firm
firm_after_step (Erase block) flash firm = firm
firm_after_step (TornErase block) flash firm = firm
firm_after_step Barrier flash firm = flash.content
firm_after_step (Send length) flash firm = firm

abbrev pub firm_from : List Step → Flash → (ℕ → List ℕ) → ℕ → List ℕ
firm_from [] flash firm = firm
firm_from (step ∷ steps) flash firm = firm_from steps (flash_after_step step flash) (firm_after_step step flash firm)

-- after the steps of a flash that was firm at first
abbrev pub firm_after : List Step → Flash → ℕ → List ℕ
firm_after steps flash = firm_from steps flash flash.content

-- this octet throughout
unfoldable pub filled : ℕ → List ℕ
filled octet = replicate 256 octet

-- what a loose page holds after the stop
abbrev pub left_by : Torn → (now firm : List ℕ) → List ℕ
left_by Done now firm = now
left_by Undone now firm = firm
left_by (Fill octet) now firm = filled octet

-- what each page holds after the stop
abbrev pub stopped : Torn → Flash → (ℕ → List ℕ) → ℕ → List ℕ
stopped torn flash firm p = if flash.loose p then left_by torn (flash.content p) (firm p) else flash.content p

-- The lists go over so many pages.
pub record HasPages (count : ℕ) (walk : Walk) : Type 0 where
  pub pages : count ≤ length walk.pages.items
  pub firm : count ≤ length walk.firm.items
  pub loose : length walk.loose.items ≡ count

-- The lists show this flash at a page, and what it held when it was last firm.
pub record Shows (flash : Flash) (firm : ℕ → List ℕ) (walk : Walk) (p : ℕ) : Type 0 where
  pub content : get_or walk.pages.items p [] ≡ flash.content p
  pub last_firm : get_or walk.firm.items p [] ≡ firm p
  pub loose : get_or walk.loose.items p false ≡ flash.loose p
  pub agree : flash.loose p ≡ false → firm p ≡ flash.content p
