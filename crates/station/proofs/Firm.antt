-- A flash of which nothing is loose: each image that a stop leaves holds what the flash holds.
use Rattle.std.proofs.Common.{◌≡◌, ◌≤◌, ℕ, ◌+◌, ◌*◌, List, refl, sym, ◌∙◌, arith}
use Rattle.board.specs.Flash.{Flash, IsContent, IsImage}
use Rattle.board.specs.Touches.{KeptElsewhere, no_page}
use Rattle.image_table.specs.Standing.{HoldsTable}
use Rattle.image_table.proofs.DataPages.{data_page}
use Rattle.image_table.proofs.Frames.{table_loads, table_same}
use Rattle.meta_journal.specs.Halves.{half_base}
use Rattle.meta_journal.specs.Standing.{AllFirm}
use Rattle.pst_model.specs.Table.{Table}
use Rattle.vault.proofs.Fetched.{by_directory}

pub firm_holds : (blocks : ℕ) (flash : Flash) (table : Table) (image : ℕ → List ℕ) → 16 ≤ blocks → IsContent blocks flash.content → AllFirm flash
    → HoldsTable blocks table flash.content → IsImage blocks flash image → HoldsTable blocks table image
firm_holds blocks flash table image least content firm holds is =
    table_same blocks flash.content image content is.pages
    (record {
      journal = record {
        roots = λ block lt. is.firm_pages (256 * block) (omega arith) (firm (256 * block));
        halves = λ half q lt counts within. is.firm_pages (half_base half + q) (omega arith) (firm (half_base half + q));
      };
      records = λ d held p there.
          let here = by_directory blocks flash.content d table held holds in
          let page = data_page blocks flash.content content p d (table_loads blocks flash.content d table here).share there in
          is.firm_pages p page.high (firm p);
    })
    table holds

-- a barrier, or one that failed, changes nothing of it
pub still_firm : (old new : Flash) → KeptElsewhere no_page old new → AllFirm old → new ≡ old
still_firm old new kept firm = λ j. record {
  content = λ p. kept.content p refl j;
  erased = λ p. kept.erased p refl j;
  loose = λ p. (kept.firm p refl (firm p) ∙ sym (firm p)) j;
}
