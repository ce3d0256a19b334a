-- A flash that stands for a table, and its images.
use Rattle.std.proofs.Common.{◌≡◌, inl, inr, ℕ, ◌*◌, ◌<◌, ◌≤◌, Bool, true, false, List, Some, refl, sym, ◌∙◌}
use Rattle.board.specs.Flash.{Flash, IsContent, IsImage, loosened}
use Rattle.board.specs.Touches.{KeptElsewhere}
use Rattle.board.proofs.Pages.{elsewhere}
use Rattle.meta_journal.specs.Directories.{directory_of}
use Rattle.meta_journal.specs.Journals.{HoldsEither}
use Rattle.meta_journal.proofs.Committed.{journal_holds}
use Rattle.meta_journal.proofs.Staying.{journal_stays}
use Rattle.pst_model.specs.Table.{Table}
use Rattle.root_vote.specs.declared.root.Root.{Root}
use Rattle.store_directory.specs.Directory.{Directory}
use Rattle.image_table.specs.Standing.{Beside, HoldsEitherTable, HoldsTable, StandsFor}
use Rattle.image_table.specs.Table.{in_records, table_by, table_of}
use Rattle.image_table.proofs.DataPages.{data_page}
use Rattle.image_table.proofs.Frames.{records_kept, same_records, table_loads}

pub table_here : (blocks : ℕ) (image : ℕ → List ℕ) (d : Directory) (table : Table) → directory_of blocks image ≡ Some d
    → table_by blocks image d ≡ Some table → HoldsTable blocks table image
unfolding table_of
table_here blocks image d table is by = rw is by

module _ (blocks : ℕ) (root : Root) (d : Directory) (at : ℕ) (table : Table) (flash : Flash)
    (stands : StandsFor blocks root d at table flash) where
  -- the records of an image that keeps the firm data pages that they stand in
  loads_there : (image : ℕ → List ℕ) → IsContent blocks image
      → ((p : ℕ) → p < 256 * blocks → 1792 ≤ p → in_records flash.content p d ≡ true → image p ≡ flash.content p)
      → table_by blocks image d ≡ Some table
  loads_there image pages same =
      records_kept blocks flash.content image stands.pages pages d
      (λ p h. let page = data_page blocks flash.content stands.pages p d (table_loads blocks flash.content d table stands.loads).share h in
      same p page.high page.low h) table stands.loads

  pub held_now : (image : ℕ → List ℕ) → 16 ≤ blocks → at ≤ 512 → IsImage blocks flash image → HoldsTable blocks table image
  held_now image enough within is =
      table_here blocks image d table
      (journal_holds blocks flash root d at enough within stands.journal image is)
      (loads_there image is.pages (λ p high low h. is.firm_pages p high (stands.firm_records p h)))

  module _ (these : ℕ → Bool) (beside : Beside flash d these) where
    loosened_kept : KeptElsewhere these flash (loosened these flash)
    loosened_kept = record {
      content = λ p off. refl;
      erased = λ p off. refl;
      firm = λ p off was. elsewhere (these p) true (flash.loose p) off ∙ was;
    }

    pub held_beside : (image : ℕ → List ℕ) → 16 ≤ blocks → at ≤ 512 → IsImage blocks (loosened these flash) image → HoldsTable blocks table image
    held_beside image enough within is =
        table_here blocks image d table
        (journal_holds blocks (loosened these flash) root d at enough within
        (journal_stays blocks root d at these flash (loosened these flash) within beside.journal loosened_kept stands.journal) image is)
        (loads_there image is.pages
        (λ p high low h. is.firm_pages p high (elsewhere (these p) true (flash.loose p) (beside.records p h) ∙ stands.firm_records p h)))

    pub stands_beside : (new : Flash) → 16 ≤ blocks → at ≤ 512 → KeptElsewhere these flash new → IsContent blocks new.content
        → StandsFor blocks root d at table new
    stands_beside new enough within kept pages =
        let same : (p : ℕ) → in_records flash.content p d ≡ true → new.content p ≡ flash.content p = λ p h. kept.content p (beside.records p h) in
        record {
          pages = pages;
          journal = journal_stays blocks root d at these flash new within beside.journal kept stands.journal;
          loads = records_kept blocks flash.content new.content stands.pages pages d same table stands.loads;
          firm_records = λ p h.
              let was : in_records flash.content p d ≡ true =
              sym (same_records blocks flash.content new.content stands.pages pages d same table stands.loads p) ∙ h in
              kept.firm p (beside.records p was) (stands.firm_records p was);
        }

  pub held_either : (next : Directory) (after : Table) (these : ℕ → Bool) (image : ℕ → List ℕ)
      → ((p : ℕ) → 1792 ≤ p → these p ≡ false) → table_by blocks flash.content next ≡ Some after
      → HoldsEither blocks these flash d next image → HoldsEitherTable blocks table after image
  held_either next after these image off loads (inl before) =
      inl (table_here blocks image d table before.holds
      (loads_there image before.elsewhere.pages
      (λ p high low h. before.elsewhere.firm_pages p high (elsewhere (these p) true (flash.loose p) (off p low) ∙ stands.firm_records p h))))
  held_either next after these image off loads (inr behind) =
      inr (table_here blocks image next after behind.holds
      (records_kept blocks flash.content image stands.pages behind.pages next
      (λ p h. let page = data_page blocks flash.content stands.pages p next (table_loads blocks flash.content next after loads).share h in
      behind.elsewhere p page.high (off p page.low)) after loads))
