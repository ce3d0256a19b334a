-- A store that was loaded is in place.
use Rattle.std.proofs.Common.{◌≡◌, ℕ, ◌<◌, ◌≤◌, true, List, [], ◌∷◌, All, length, arith}
use Rattle.record_view.specs.Records.{Meaning}
use Rattle.record_view.specs.declared.link.Link.{Link}
use Rattle.store_directory.specs.Rows.{is_lawful_row}
use Rattle.store_directory.specs.declared.row.Row.{Row}
use Rattle.store_load.specs.Extents.{AreGiven, end_of, extent_to, extents_from, extents_of, last_read, pages_in}
use Rattle.store_load.specs.Held.{IsHeld}
use Rattle.store_load.specs.Keeping.{IsLinkOf}
use Rattle.store_load.proofs.Held.{in_range}
use Rattle.store_load.proofs.Records.{few_records, given_length, given_within}
use Rattle.time_index.specs.TimeIndex.{TimeIndex}
use Rattle.image_table.specs.Table.{table_rule}
use Rattle.store_put.specs.Ranges.{AreFew, AreFewIn, IsInPlace}

few_held : (used end : ℕ) (link : Link) (links : List Link) (reads : List (List Meaning)) → AreGiven (extents_from end link links) reads
    → used ≡ pages_in (last_read reads) → AreFew used end link links
few_held used end link [] [] given uses = absurd given
few_held used end link [] (records ∷ next ∷ reads) given uses = absurd given.1
few_held used end link [] (records ∷ []) given uses =
    let long = given_length (extent_to end link) records given.0 in omega (arith, uses, long, few_records records)
few_held used end link (next ∷ links) [] given uses = absurd given
few_held used end link (next ∷ []) (records ∷ []) given uses = absurd given.1
few_held used end link (next ∷ third ∷ links) (records ∷ []) given uses = absurd given.1
few_held used end link (next ∷ links) (records ∷ others ∷ reads) given uses =
    let long = given_length (extent_to next.first link) records given.0 in
    let within = given_within (extent_to next.first link) records given.0 in
    (omega (arith, long, within, few_records records), few_held used end next links (others ∷ reads) given.1 uses)

few_in : (used : ℕ) (row : Row) (links : List Link) (reads : List (List Meaning)) → AreGiven (extents_of row links) reads
    → used ≡ pages_in (last_read reads) → AreFewIn used (end_of row) links
few_in used row [] reads given uses = tt
few_in used row (link ∷ links) reads given uses = few_held used (end_of row) link links reads given uses

pub held_in_place : (blocks now : ℕ) (row : Row) (links : List Link) (index : TimeIndex) (used : ℕ) → IsHeld table_rule now row links index used
    → All (IsLinkOf blocks) links → length links ≤ 512 → is_lawful_row row ≡ true → row.first < 4294967296 → IsInPlace now row links index used
held_in_place blocks now row links index used held own few lawful low = record {
  in_range = in_range table_rule blocks now row links index used held own few (omega arith) lawful low;
  few = few_in used row links held.reads held.given held.used_is;
}
