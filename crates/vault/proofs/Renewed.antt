-- A table whose store's last block is renewed: it is the same at each moment.
use Rattle.std.proofs.Common.{◌≡◌, inl, inr, ℕ, ◌+◌, ◌<◌, Bool, true, false, List, [], ◌∷◌, Some, sym, ◌∙◌, subst, arith}
use Rattle.block_pool.specs.Blocks.{is_free}
use Rattle.board.specs.Flash.{Flash, IsContent, IsImage, loosened, pages_of_block}
use Rattle.board.specs.Touches.{KeptElsewhere}
use Rattle.board.proofs.Pages.{elsewhere, outside}
use Rattle.commit_gate.specs.Entries.{area_of}
use Rattle.commit_gate.proofs.AreaPages.{area_same}
use Rattle.image_table.proofs.DataPages.{data_page}
use Rattle.image_table.proofs.Frames.{records_kept, same_records}
use Rattle.image_table.proofs.Puts.{block_swapped}
use Rattle.image_table.proofs.Standing.{table_here}
use Rattle.image_table.specs.Standing.{Beside, HoldsTable}
use Rattle.image_table.specs.Table.{in_records, table_by}
use Rattle.meta_journal.proofs.Switched.{standing_holds}
use Rattle.meta_journal.specs.Halves.{half_base, half_of}
use Rattle.meta_journal.specs.Journals.{FirmJournal, HoldsEither}
use Rattle.meta_journal.specs.Standing as journals
use Rattle.pst_model.specs.Table.{Table}
use Rattle.record_view.specs.declared.link.Link.{Link}
use Rattle.root_vote.specs.Roots.{root_in}
use Rattle.store_directory.specs.Changes.{Swap, apply}
use Rattle.store_directory.specs.Checkpoints.{is_lawful}
use Rattle.store_directory.specs.Directory.{Directory, Listed, find_store}
use Rattle.store_load.specs.Claims.{may_share}
use Rattle.store_load.specs.Moving.{SpellsLast}
use Rattle.vault.proofs.DataBlocks.{data_out}
use Rattle.vault.proofs.Fetched.{by_directory}
use Rattle.vault.proofs.FreeBlocks.{free_beside}
use Rattle.vault.specs.Changing.{IsKept, journal_pages}
use Rattle.vault.specs.Memory.{InMemory, IsSound}
use Rattle.vault.specs.Standing.{StandsFor}

module _ (vault : InMemory) (flash : Flash) (table : Table) (fresh : ℕ) (sound : IsSound vault) (stands : StandsFor vault flash table)
    (free : is_free vault.pool fresh ≡ true) where
  abbrev d : Directory
  d = vault.directory.directory

  abbrev these : ℕ → Bool
  these = pages_of_block fresh

  here : table_by vault.blocks flash.content d ≡ Some table
  here = by_directory vault.blocks flash.content d table stands.directory stands.holds

  beside : Beside flash d these
  beside = free_beside vault flash fresh stands.pages sound free

  firm_loosened : FirmJournal (loosened these flash)
  firm_loosened p low = elsewhere (these p) true (flash.loose p) (beside.journal p low) ∙ stands.firm_journal p low

  -- while a free block is written, each image holds the table
  pub while_copying : (image : ℕ → List ℕ) → IsImage vault.blocks (loosened these flash) image → HoldsTable vault.blocks table image
  while_copying image is =
      table_here vault.blocks image d table
      (standing_holds vault.blocks (loosened these flash) d sound.least firm_loosened stands.directory image is)
      (records_kept vault.blocks flash.content image stands.pages is.pages d
      (λ p there. let page = data_page vault.blocks flash.content stands.pages p d sound.share there in
      is.firm_pages p page.high (elsewhere (these p) true (flash.loose p) (beside.records p there) ∙ stands.firm_records p there)) table here)

  -- and the flash with it holds what it held
  module _ (copied : Flash) (kept : KeptElsewhere these flash copied) (pages : IsContent vault.blocks copied.content) where
    same_pages : (p : ℕ) → in_records flash.content p d ≡ true → copied.content p ≡ flash.content p
    same_pages p there = kept.content p (beside.records p there)

    pub by_copied : table_by vault.blocks copied.content d ≡ Some table
    by_copied = records_kept vault.blocks flash.content copied.content stands.pages pages d same_pages table here

    image_copied : IsImage vault.blocks (loosened these flash) copied.content
    image_copied = record {
      pages = pages;
      firm_pages = λ p high loose. kept.content p (outside (these p) (flash.loose p) loose).0;
    }

    pub kept_copied : IsKept vault.blocks d copied
    kept_copied = record {
      holds = standing_holds vault.blocks (loosened these flash) d sound.least firm_loosened stands.directory copied.content image_copied;
      is_firm = λ p low. kept.firm p (beside.journal p low) (stands.firm_journal p low);
    }

    firm_copied : (p : ℕ) → in_records copied.content p d ≡ true → copied.loose p ≡ false
    firm_copied p there =
        let was : in_records flash.content p d ≡ true =
        sym (same_records vault.blocks flash.content copied.content stands.pages pages d same_pages table here p) ∙ there in
        kept.firm p (beside.records p was) (stands.firm_records p was)

    pub journal_copied : journals.StandsFor vault.journal copied
    journal_copied =
        let base = half_base (half_of vault.journal.root) in
        let same : (p : ℕ) → p < 1792 → copied.content p ≡ flash.content p = λ p low. kept.content p (beside.journal p low) in
        let area : area_of base flash.content ≡ area_of base copied.content =
        (λ i q. sym (area_same base flash.content copied.content q (λ lt. same (base + q) (omega (arith, lt)))) i) in
        record {
          votes = stands.journal.votes
              ∙ sym (λ i. root_in (same 0 (omega arith) i) ∷ root_in (same 256 (omega arith) i) ∷ root_in (same 512 (omega arith) i) ∷ []);
          agree = stands.journal.agree;
          ends = λ some. subst (λ (a : ℕ → List ℕ). journals.EndsAt a (journals.room_from vault.journal)) area (stands.journal.ends some);
          clean = λ q from lt.
              let was = stands.journal.clean q from lt in
              let out = beside.journal (base + q) (omega (arith, lt)) in
              (kept.erased (base + q) out ∙ was.0, kept.firm (base + q) out was.1);
        }

    -- while the entry is added that names the new block, each image holds the table too
    module _ (identifier : ℕ) (s : Listed) (new : Link) (next : Directory) (found : find_store identifier d.stores ≡ Some s)
        (applied : apply d (Swap identifier new) ≡ Some next) (lawful : is_lawful next ≡ true) (share : may_share 240 vault.blocks next.stores ≡ true)
        (spells : SpellsLast copied.content s.row s.links new) where
      pub by_next : table_by vault.blocks copied.content next ≡ Some table
      by_next =
          block_swapped vault.blocks copied.content d next table identifier s new
          (record { pages = pages; directory = sound.kept; loads = by_copied; applied = applied; lawful = lawful; share = share }) found spells

      pub while_swapping : (image : ℕ → List ℕ) → HoldsEither vault.blocks journal_pages copied d next image → HoldsTable vault.blocks table image
      while_swapping image either = elim either [
        | inl was ↦ table_here vault.blocks image d table was.holds
            (records_kept vault.blocks copied.content image pages was.elsewhere.pages d
            (λ p there. let page = data_page vault.blocks copied.content pages p d sound.share there in
            was.elsewhere.firm_pages p page.high
            (elsewhere (journal_pages p) true (copied.loose p) (data_out p page.low) ∙ firm_copied p there)) table by_copied)
        | inr now ↦ table_here vault.blocks image next table now.holds
            (records_kept vault.blocks copied.content image pages now.pages next
            (λ p there. let page = data_page vault.blocks copied.content pages p next share there in
            now.elsewhere p page.high (data_out p page.low)) table by_next)
      ]
