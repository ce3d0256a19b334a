-- The images of a flash for which a vault stands.
use Rattle.std.proofs.Common.{◌≡◌, ℕ, Bool, List, sym, ◌∙◌}
use Rattle.std.proofs.lemmas.Option.{same_Some}
use Rattle.board.specs.Flash.{Flash, IsImage}
use Rattle.image_table.proofs.DataPages.{data_page}
use Rattle.image_table.proofs.Frames.{records_kept, table_loads}
use Rattle.image_table.proofs.Standing.{table_here}
use Rattle.image_table.specs.Standing.{HoldsTable}
use Rattle.meta_journal.proofs.Switched.{standing_holds}
use Rattle.pst_model.specs.Table.{Table}
use Rattle.record_view.specs.Records.{Meaning}
use Rattle.vault.proofs.Fetched.{by_directory}
use Rattle.vault.specs.Memory.{InMemory, IsSound}
use Rattle.vault.specs.Standing.{StandsFor}

pub image_holds : (vault : InMemory) (flash : Flash) (table : Table) (image : ℕ → List ℕ) → IsSound vault → StandsFor vault flash table
    → IsImage vault.blocks flash image → HoldsTable vault.blocks table image
image_holds vault flash table image sound stands is =
    let d = vault.directory.directory in
    let here = by_directory vault.blocks flash.content d table stands.directory stands.holds in
    let share = (table_loads vault.blocks flash.content d table here).share in
    table_here vault.blocks image d table
    (standing_holds vault.blocks flash d sound.least stands.firm_journal stands.directory image is)
    (records_kept vault.blocks flash.content image stands.pages is.pages d
    (λ p there. let page = data_page vault.blocks flash.content stands.pages p d share there in
    is.firm_pages p page.high (stands.firm_records p there)) table here)

pub one_table : (vault : InMemory) (flash : Flash) (table other : Table) → StandsFor vault flash table → StandsFor vault flash other → other ≡ table
one_table vault flash table other first second = same_Some other table (sym second.holds ∙ first.holds)

-- a fetch changes nothing of what a vault stands for
pub still_stands : (vault : InMemory) (flash : Flash) (table : Table) (held : Meaning) (is_open : Bool) → StandsFor vault flash table
    → StandsFor (record vault { held = held; is_open = is_open }) flash table
still_stands vault flash table held is_open stands = record {
  pages = stands.pages;
  holds = stands.holds;
  directory = stands.directory;
  shows = λ view is. stands.shows view (record { directory = is.directory; indexes = is.indexes; blocks = is.blocks });
  journal = stands.journal;
  stores = stands.stores;
  ready = stands.ready;
  firm_journal = stands.firm_journal;
  firm_records = stands.firm_records;
}
