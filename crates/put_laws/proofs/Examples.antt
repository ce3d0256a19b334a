-- A packet that arrives after a format: the store takes it into its first block. So the premises of the
-- laws can be met.
use Rattle.std.proofs.Common.{◌≡◌, ℕ, nat_lt, ◌<◌, ◌==◌, Bool, true, false, List, [], ◌∷◌, map, Some, refl, ap, arith}
use Rattle.std.specs.Prelude.{All, if◌then◌else◌}
use Rattle.std.specs.List.{list_all}
use Rattle.std.proofs.lemmas.Bool.{and_parts, ltb-true}
use Rattle.std.proofs.lemmas.List.Elements.{All-cons, All-nil}
use Rattle.board.specs.Flash.{IsContent, IsPage, blank}
use Rattle.board.proofs.Pages.{blank_page}
use Rattle.commit_gate.specs.Entries.{octets_from}
use Rattle.control_defs.specs.Lists.{IsPatternList}
use Rattle.control_defs.specs.Patterns.{IsPattern}
use Rattle.control_defs.specs.declared.patterns.Pattern.TheVariants.{Every}
use Rattle.control_defs.proofs.Tested.{lawful-from_test}
use Rattle.image_table.specs.Table.{table_by}
use Rattle.pst_model.specs.Arrivals.{arrive}
use Rattle.pst_model.specs.Table.{Stored, after_format, boot_store}
use Rattle.record_view.specs.Records.{record_at}
use Rattle.store_directory.specs.Changes.{Change, Clock, Links, Put}
use Rattle.store_directory.specs.Checkpoints.{is_lawful}
use Rattle.store_directory.specs.Directory.{Directory, FitsLink, IsDirectory, IsListed, Listed, is_new}
use Rattle.store_directory.specs.Entries.{entry_octets}
use Rattle.store_directory.specs.Folds.{fold_entry}
use Rattle.store_directory.specs.Format.{first_directory, first_row, first_store}
use Rattle.store_load.specs.Claims.{all_links, block_of}
use Rattle.store_load.specs.Kept.{kept_of}
use Rattle.store_load.proofs.KeptRows.{image_of, link, packet, page_of}
use Rattle.put_laws.specs.Puts.{Accepts, SpellsAt, is_unnamed}
use Rattle.put_laws.specs.Walks.{clock_of}
use Rattle.put_laws.proofs.Beginning as beginning
use Rattle.put_laws.proofs.Clocks as clocks
use Rattle.put_laws.proofs.Ending as ending

abbrev image : ℕ → List ℕ
image = image_of ((1792, page_of 0 4) ∷ [])

abbrev stored : Stored
stored = record { time = 4; octets = packet }

all_octets : (page : List ℕ) → list_all (λ octet. nat_lt octet 256) page ≡ true → All (λ octet. octet < 256) page
all_octets [] low = All-nil (λ octet. octet < 256)
all_octets (octet ∷ page) low =
    let parts = and_parts (nat_lt octet 256) (list_all (λ octet. nat_lt octet 256) page) low in
    All-cons (λ octet. octet < 256) octet page (ltb-true octet 256 parts.0) (all_octets page parts.1)

pages : IsContent 16 image
pages p within = pick (p == 1792)
  where
    pick : (b : Bool) → IsPage (if b then page_of 0 4 else blank)
    pick true = record { size = refl; octets = all_octets (page_of 0 4) refl }
    pick false = blank_page

formatted_table : table_by 16 image first_directory ≡ Some after_format
unfolding table_by kept_of is_lawful
formatted_table = refl

accepts : Accepts boot_store stored 0
accepts = record { offered = refl; room = refl; leaving = refl; short = omega arith }

spelled : SpellsAt image 7 0 0 stored
unfolding record_at octets_from blank
spelled = refl

every_fits : IsPatternList (Every ∷ [])
every_fits = lawful-from_test (Every ∷ []) (All-cons IsPattern Every [] tt (All-nil IsPattern)) refl

kept : IsDirectory first_directory
kept = record {
  now = omega arith;
  reports = omega arith;
  forward = lawful-from_test [] (All-nil IsPattern) refl;
  stores = record {
    few = omega arith;
    reserved = omega arith;
    distinct = refl;
    each =
        All-cons IsListed first_store []
        (record {
          lawful = refl;
          fits = record {
            identifier = omega arith;
            size = omega arith;
            channel = omega arith;
            first = omega arith;
            count = omega arith;
            behind = omega arith;
            next = omega arith;
            end = omega arith;
          };
          patterns = every_fits;
          links = omega arith;
          fitting = All-nil FitsLink;
        }) (All-nil IsListed);
  };
}

-- the entry: the clock, the link and the row
abbrev entry : List Change
entry = Clock 4 0 ∷ Links 1 (link 7 0 ∷ []) ∷ Put (record first_row { count = 1 }) ∷ []

arrived : (next : Directory) × (fold_entry first_directory (entry_octets entry) ≡ Some next)
    × (table_by 16 image next ≡ Some (arrive 0 4 packet after_format).table)
arrived =
    let (start, applied, walk) = clocks.begins 16 image first_directory after_format stored pages kept formatted_table (omega arith) (omega arith) in
    let unnamed : is_unnamed 7 start ≡ true = ap (λ (stores : List Listed). is_new 7 (map block_of (all_links stores))) walk.left in
    let step =
    beginning.begins 16 image first_directory after_format stored 0 (clock_of stored after_format ∷ []) start first_store boot_store 0 (link 7 0) walk
    (record { listed = refl; shown = refl }) accepts
    (record { own = refl; numbered = omega arith; unnamed = unnamed; first = refl; full = tt; spelled = spelled }) in (
      step.next,
      ending.folds 16 image first_directory after_format stored 1 entry step.next step.walk,
      ending.ends 16 image first_directory after_format 0 4 packet 1 entry step.next step.walk (omega arith) refl,
    )
