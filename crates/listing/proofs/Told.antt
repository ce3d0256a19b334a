-- What is told of a table, as a listing goes on.
use Rattle.std.proofs.Common.{◌≡◌, ℕ, Bool, true, List, Result, Ok, Err, OnOk, sym, ◌∙◌, ap, subst}
use Rattle.board.specs.Flash.{Flash}
use Rattle.board.specs.Meaning.{BoardMeaning, TellsFlash}
use Rattle.board.specs.Reads.{FlashStays}
use Rattle.board.proofs.Works.{tells_too}
use Rattle.listing.specs.Lists.{Breaks, Lists, ToldTable}
use Rattle.std.specs.Result.{IfErr}
use Rattle.listing.specs.declared.fault.ListingFault.{ListingFault}
use Rattle.pst_model.specs.Table.{Table}
use Rattle.record_view.specs.Records.{Meaning}
use Rattle.vault.specs.Memory.{InMemory}
use Rattle.vault.specs.Standing.{StandsFor}

-- a vault that another record is held by, and that is open or not
abbrev pub Others : InMemory → InMemory → Bool → Type 0
Others old new is_open = new ≡ record old { held = new.held; is_open = is_open }

pub others_none : (vault : InMemory) → vault.is_open ≡ true → Others vault vault true
others_none vault is = ap (λ (b : Bool). record vault { is_open = b }) is

pub others_on : (old mid new : InMemory) (first second : Bool) → Others old mid first → Others mid new second → Others old new second
others_on old mid new first second one two = two ∙ ap (λ (v : InMemory). record v { held = new.held; is_open = second }) one

-- the law that fetches change nothing of what a vault stands for
abbrev pub KeepTheTable : Type 0
KeepTheTable = (vault : InMemory) (flash : Flash) (table : Table) (held : Meaning) (is_open : Bool)
    → StandsFor vault flash table → StandsFor (record vault { held = held; is_open = is_open }) flash table

pub stands_on : KeepTheTable → (old new : InMemory) (is_open : Bool) (flash later : Flash) (table : Table) → Others old new is_open → later ≡ flash
    → StandsFor old flash table → StandsFor new later table
stands_on law old new is_open flash later table after same stands =
    subst (λ (v : InMemory). StandsFor v later table) (sym after)
    (subst (λ (f : Flash). StandsFor (record old { held = new.held; is_open = is_open }) f table) (sym same) (law old flash table new.held is_open stands))

module _ {B : Type 0} (means : BoardMeaning B) where
  -- the vault and the table are as they were, and the flash too
  pub told_on : KeepTheTable → (vault later : InMemory) (is_open : Bool) (old new : B) → Others vault later is_open
      → means.device new ≡ means.device old → (TellsFlash means old → FlashStays means old new)
      → (table : Table) → ToldTable means vault old table → ToldTable means later new table
  told_on law vault later is_open old new after same stays table (told, stands) =
      (tells_too same told, stands_on law vault later is_open (means.flash old) (means.flash new) table after (stays told).flash stands)

  -- the same of the same vault
  pub told_still : (vault : InMemory) (old new : B) → means.device new ≡ means.device old → (TellsFlash means old → FlashStays means old new)
      → (table : Table) → ToldTable means vault old table → ToldTable means vault new table
  told_still vault old new same stays table (told, stands) =
      (tells_too same told, subst (λ (f : Flash). StandsFor vault f table) (sym (stays told).flash) stands)

  -- a run stays, whether it ended early or not
  pub stays_by : (told : Table → Type 0) (text : Table → List ℕ) (pages lines : ℕ) (result : Result (Unit {0}) ListingFault) (old new : B)
      → OnOk result (Lists means told text pages lines old new) → IfErr result (λ fault. Breaks means told text pages lines fault old new)
      → TellsFlash means old → FlashStays means old new
  stays_by is text pages lines (Ok answer) old new ok err told = ok.runs.stays told
  stays_by is text pages lines (Err fault) old new ok err told = err.runs.stays told
