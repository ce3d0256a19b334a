-- While pages are written that the table from before is not read from, the flash holds what it held.
use Rattle.std.proofs.Common.{◌≡◌, ℕ, ◌+◌, ◌*◌, ◌<◌, ◌≤◌, Bool, true, false, List, [], ◌∷◌, Some, refl, sym, ◌∙◌, subst, arith}
use Rattle.std.specs.Prelude.{slice_get}
use Rattle.std.proofs.lemmas.Bool.{false≢true}
use Rattle.board.specs.Flash.{Flash, IsContent, IsImage, loosened, pages_from, pages_of_block}
use Rattle.board.specs.Touches.{KeptElsewhere}
use Rattle.board.proofs.Pages.{below_pages, elsewhere, outside}
use Rattle.commit_gate.specs.Entries.{area_of}
use Rattle.commit_gate.proofs.AreaPages.{area_same}
use Rattle.image_table.proofs.DataPages.{data_page}
use Rattle.image_table.proofs.Frames.{records_kept, same_records, table_loads}
use Rattle.image_table.proofs.Standing.{table_here}
use Rattle.image_table.specs.Standing.{Beside, HoldsTable}
use Rattle.image_table.specs.Table.{in_records, table_by}
use Rattle.meta_journal.proofs.Switched.{standing_holds}
use Rattle.meta_journal.specs.Halves.{half_base, half_of}
use Rattle.meta_journal.specs.Journals.{FirmJournal}
use Rattle.meta_journal.specs.Standing as journals
use Rattle.pst_model.specs.Table.{Table}
use Rattle.put_laws.specs.Puts.{is_unnamed}
use Rattle.put_laws.proofs.NewPages.{off_behind, off_unnamed}
use Rattle.record_view.specs.declared.link.Link.{Link}
use Rattle.root_vote.specs.Roots.{root_in}
use Rattle.store_directory.specs.Directory.{Directory, Listed}
use Rattle.store_load.specs.Claims.{may_share}
use Rattle.store_load.specs.Extents.{last_of}
use Rattle.store_load.specs.Moving.{used_by}
use Rattle.vault.specs.Changing.{IsKept}

-- The flash holds a directory with its table, whose records are firm, and a journal.
pub record HoldsStill (blocks : ℕ) (d : Directory) (kept_journal : journals.Kept) (table : Table) (flash : Flash) : Type 0 where
  pub pages : IsContent blocks flash.content
  pub kept : IsKept blocks d flash
  pub journal : journals.StandsFor kept_journal flash
  pub loads : table_by blocks flash.content d ≡ Some table
  pub firm_records : (p : ℕ) → in_records flash.content p d ≡ true → flash.loose p ≡ false

decide : (b : Bool) → (b ≡ true → ⊥) → b ≡ false
decide true h = absurd (h refl)
decide false h = refl

-- the pages of a data block that no store names are beside the table
pub beside_unnamed : (blocks : ℕ) (d : Directory) (table : Table) (flash : Flash) (block : ℕ) → IsContent blocks flash.content
    → table_by blocks flash.content d ≡ Some table → 7 ≤ block → is_unnamed block d ≡ true → Beside flash d (pages_of_block block)
beside_unnamed blocks d table flash block pages loads low unnamed = record {
  journal = λ p below. below_pages (256 * block) 256 p (omega (arith, below, low));
  records = λ p there. decide (pages_of_block block p)
      (λ inside. false≢true (sym (off_unnamed blocks flash.content d table block p pages loads unnamed inside) ∙ there));
}

-- and so are those of a last block behind its last record
pub beside_behind : (blocks : ℕ) (d : Directory) (table : Table) (flash : Flash) (at : ℕ) (s : Listed) (link : Link) (links : List Link) (count : ℕ)
    → IsContent blocks flash.content → table_by blocks flash.content d ≡ Some table → slice_get d.stores at ≡ Some s → s.links ≡ link ∷ links
    → used_by flash.content s.row link links + count ≤ 256 → 7 ≤ (last_of link links).block
    → Beside flash d (pages_from (256 * (last_of link links).block + used_by flash.content s.row link links) count)
beside_behind blocks d table flash at s link links count pages loads listed some few low =
    let first = 256 * (last_of link links).block + used_by flash.content s.row link links in
    record {
      journal = λ p below. below_pages first count p (omega (arith, below, low));
      records = λ p there. decide (pages_from first count p)
          (λ inside. false≢true (sym (off_behind blocks flash.content d table at s link links count p pages loads listed some few inside) ∙ there));
    }

module _ (blocks : ℕ) (d : Directory) (journal : journals.Kept) (table : Table) (flash : Flash) (least : 16 ≤ blocks)
    (holds : HoldsStill blocks d journal table flash) (these : ℕ → Bool) (beside : Beside flash d these) where
  share : may_share 240 blocks d.stores ≡ true
  share = (table_loads blocks flash.content d table holds.loads).share

  firm_loosened : FirmJournal (loosened these flash)
  firm_loosened p low = elsewhere (these p) true (flash.loose p) (beside.journal p low) ∙ holds.kept.is_firm p low

  -- while they are written, each image holds the table
  pub while_beside : (image : ℕ → List ℕ) → IsImage blocks (loosened these flash) image → HoldsTable blocks table image
  while_beside image is =
      table_here blocks image d table
      (standing_holds blocks (loosened these flash) d least firm_loosened holds.kept.holds image is)
      (records_kept blocks flash.content image holds.pages is.pages d
      (λ p there. let page = data_page blocks flash.content holds.pages p d share there in
      is.firm_pages p page.high (elsewhere (these p) true (flash.loose p) (beside.records p there) ∙ holds.firm_records p there)) table holds.loads)

  -- and the flash with them holds it
  module _ (new : Flash) (kept : KeptElsewhere these flash new) (pages : IsContent blocks new.content) where
    same_pages : (p : ℕ) → in_records flash.content p d ≡ true → new.content p ≡ flash.content p
    same_pages p there = kept.content p (beside.records p there)

    loads_new : table_by blocks new.content d ≡ Some table
    loads_new = records_kept blocks flash.content new.content holds.pages pages d same_pages table holds.loads

    image_new : IsImage blocks (loosened these flash) new.content
    image_new = record {
      pages = pages;
      firm_pages = λ p high loose. kept.content p (outside (these p) (flash.loose p) loose).0;
    }

    firm_new : (p : ℕ) → in_records new.content p d ≡ true → new.loose p ≡ false
    firm_new p there =
        let was : in_records flash.content p d ≡ true =
        sym (same_records blocks flash.content new.content holds.pages pages d same_pages table holds.loads p) ∙ there in
        kept.firm p (beside.records p was) (holds.firm_records p was)

    journal_new : journals.StandsFor journal new
    journal_new =
        let base = half_base (half_of journal.root) in
        let same : (p : ℕ) → p < 1792 → new.content p ≡ flash.content p = λ p low. kept.content p (beside.journal p low) in
        let area : area_of base flash.content ≡ area_of base new.content =
        (λ i q. sym (area_same base flash.content new.content q (λ lt. same (base + q) (omega (arith, lt)))) i) in
        record {
          votes = holds.journal.votes
              ∙ sym (λ i. root_in (same 0 (omega arith) i) ∷ root_in (same 256 (omega arith) i) ∷ root_in (same 512 (omega arith) i) ∷ []);
          agree = holds.journal.agree;
          ends = λ some. subst (λ (a : ℕ → List ℕ). journals.EndsAt a (journals.room_from journal)) area (holds.journal.ends some);
          clean = λ q from lt.
              let was = holds.journal.clean q from lt in
              let out = beside.journal (base + q) (omega (arith, lt)) in
              (kept.erased (base + q) out ∙ was.0, kept.firm (base + q) out was.1);
        }

    pub holds_on : HoldsStill blocks d journal table new
    holds_on = record {
      pages = pages;
      kept = record {
        holds = standing_holds blocks (loosened these flash) d least firm_loosened holds.kept.holds new.content image_new;
        is_firm = λ p low. kept.firm p (beside.journal p low) (holds.kept.is_firm p low);
      };
      journal = journal_new;
      loads = loads_new;
      firm_records = firm_new;
    }
