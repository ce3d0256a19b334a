-- A packet that arrives: an idle one changes the clock, and another one is put behind the renewals that it needs.
use Rattle.std.proofs.Common.{◌≡◌, ◌==◌, ◌≤◌, ◌<◌, ℕ, Bool, true, List, [], Some, sym, ◌∙◌, ap, subst, arith}
use Rattle.std.specs.Prelude.{max}
use Rattle.std.proofs.lemmas.Bool.{cond-true}
use Rattle.board.specs.Flash.{Flash}
use Rattle.board.specs.Meaning.{BoardMeaning}
use Rattle.board.proofs.Works.{works_most, works_none}
use Rattle.image_table.proofs.Frames.{table_loads}
use Rattle.image_table.proofs.Puts.{clock_goes}
use Rattle.pst_model.specs.Arrivals.{arrive, forwarded_on, offer}
use Rattle.pst_model.specs.Replies.{behind_outputs}
use Rattle.pst_model.specs.Rules.{Step}
use Rattle.pst_model.specs.Table.{Table}
use Rattle.put_laws.proofs.Clocks.{clock_applies}
use Rattle.space_packet.specs.Packet.{apid_of}
use Rattle.store_directory.specs.Changes.{Clock}
use Rattle.store_directory.specs.Directory.{Directory}
use Rattle.vault.proofs.Entered.{here}
use Rattle.vault.proofs.SameRecords.{keep_same}
use Rattle.vault.specs.Changing.{Becomes, CanBeEntered}
use Rattle.vault.specs.Memory.{InMemory, IsSound}
use Rattle.vault.specs.Putting.{PutsWithin}
use Rattle.vault.specs.Standing.{StandsFor}

-- the clock can be set to a later time
pub clock_entered : (d : Directory) (now reports : ℕ) → reports < 16384 → d.now ≤ now → CanBeEntered d (Clock now reports)
clock_entered d now reports few later = (
  record d { now = now; reports = reports },
  clock_applies d now reports few,
  record { later = later; stores = keep_same d.stores },
)

-- an idle packet raises the time of the table alone
idle : (number moment : ℕ) (packet : List ℕ) (table : Table) → (apid_of packet == 2047) ≡ true
    → (arrive number moment packet table).table ≡ record table { now = max table.now moment }
idle number moment packet table is =
    let now = max table.now moment in
    ap (λ (step : Step). step.table)
    (cond-true (apid_of packet == 2047) (record { table = record table { now = now }; outputs = [] })
    (behind_outputs (forwarded_on number packet table) (offer number moment (record { time = now; octets = packet }) table)) is)

pub clock_becomes : (vault : InMemory) (flash : Flash) (table : Table) (number moment now reports : ℕ) (packet : List ℕ) → IsSound vault → StandsFor vault flash table
    → (apid_of packet == 2047) ≡ true → now ≡ max vault.directory.now moment → reports ≡ vault.directory.reports
    → Becomes vault (Clock now reports) flash (arrive number moment packet table).table
clock_becomes vault flash table number moment now reports packet sound stands is now_is reports_is next applied =
    let d = vault.directory.directory in
    let by = here vault flash table sound stands in
    let whole = (table_loads vault.blocks flash.content d table by).whole in
    let same_now : table.now ≡ d.now = sym (ap (λ (t : Table). t.now) whole) in
    let same_reports : table.reports ≡ d.reports = sym (ap (λ (t : Table). t.reports) whole) in
    let later : d.now ≤ now = omega (arith, now_is) in
    let time : now ≡ max table.now moment = now_is ∙ ap (λ (n : ℕ). max n moment) (sym same_now) in
    let count : reports ≡ table.reports = reports_is ∙ sym same_reports in
    clock_goes vault.blocks flash.content d table now reports next by applied later
    ∙ (λ i. Some (record table { now = time i; reports = count i }))
    ∙ ap Some (sym (idle number moment packet table is))

-- no work
pub none_within : {B : Type 0} (means : BoardMeaning B) (old new : B) (was : InMemory) (packet : List ℕ) → new ≡ old → PutsWithin means old new was packet
none_within {B} means old new was packet same =
    subst (λ (board : B). PutsWithin means old board was packet) (sym same)
    (λ table view is shown. works_most (works_none (means.counts old)) (omega arith) (omega arith) (omega arith) (omega arith))

-- what is other behind a change of the directory, and behind a renewal and a put

pub after_entry : (old new : InMemory) (is_open : Bool) → new ≡ record old { directory = new.directory; journal = new.journal; is_open = is_open }
    → new ≡ record old {
      directory = new.directory;
      indexes = new.indexes;
      lasts = new.lasts;
      pool = new.pool;
      journal = new.journal;
      is_open = is_open;
    }
after_entry old new is_open is = λ i. record (is i) { indexes = new.indexes; lasts = new.lasts; pool = new.pool }

pub after_both : (was first new : InMemory) (is_open : Bool)
    → first ≡ record was {
      directory = first.directory;
      indexes = first.indexes;
      lasts = first.lasts;
      pool = first.pool;
      journal = first.journal;
      is_open = true;
    }
    → new ≡ record first {
      directory = new.directory;
      indexes = new.indexes;
      lasts = new.lasts;
      pool = new.pool;
      journal = new.journal;
      is_open = is_open;
    }
    → new ≡ record was {
      directory = new.directory;
      indexes = new.indexes;
      lasts = new.lasts;
      pool = new.pool;
      journal = new.journal;
      is_open = is_open;
    }
after_both was first new is_open renewed put =
    put ∙ (λ i. record (renewed i) {
      directory = new.directory;
      indexes = new.indexes;
      lasts = new.lasts;
      pool = new.pool;
      journal = new.journal;
      is_open = is_open;
    })

-- the work of a put behind no renewal
pub renewed_within : {B : Type 0} (means : BoardMeaning B) (old mid new : B) (was first : InMemory) (packet : List ℕ) → mid ≡ old → first ≡ was
    → PutsWithin means mid new first packet → PutsWithin means old new was packet
renewed_within {B} means old mid new was first packet same_board same_vault within =
    subst (λ (board : B). PutsWithin means board new was packet) same_board
    (subst (λ (v : InMemory). PutsWithin means mid new v packet) same_vault within)
