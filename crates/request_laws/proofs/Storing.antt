-- The changes of a store in its place: another row, or other patterns.
use Rattle.std.proofs.Common.{◌≡◌, ℕ, ◌<◌, ◌≤◌, ◌^◌, Bool, true, List, length, Option, Some, refl, sym, ◌∙◌, ap, subst, arith}
use Rattle.std.specs.Prelude.{All, find}
use Rattle.std.specs.Option.{option_and_then}
use Rattle.control_defs.specs.Patterns.{HasPatternOctets, IsPattern}
use Rattle.control_defs.specs.declared.patterns.Pattern.{Pattern}
use Rattle.control_defs.proofs.PatternOctets.{length-pattern_octets}
use Rattle.block_pool.specs.Sizes.{blocks_for_size}
use Rattle.image_table.proofs.SentRows.{untrimmed}
use Rattle.pst_model.specs.Changes.{is_named, with_store}
use Rattle.pst_model.specs.Table.{Store, Table}
use Rattle.record_view.specs.declared.link.Link.{Link}
use Rattle.store_directory.specs.Changes.{Put, Types, apply, change_store, listed_by, put_row, with_types}
use Rattle.store_directory.specs.Directory.{Directory, IsDirectory, IsListed, Listed, find_store, put_store}
use Rattle.store_directory.specs.Options.{◌>>=◌}
use Rattle.store_directory.specs.Rows.{FitsRow, is_lawful_row}
use Rattle.store_directory.specs.declared.row.Row.{Row}
use Rattle.store_directory.proofs.Applied.{with-some}
use Rattle.store_directory.proofs.Puts.{put-is}
use Rattle.request_laws.specs.Changing.{BeginsWell, IsListedAs, IsTableOf, KeepsRecords}
use Rattle.request_laws.proofs.Finding.{found_has}
use Rattle.request_laws.proofs.Applying.{Makes, changes, found_here, records_stay}
use Rattle.request_laws.proofs.PatternLists.{Lists}
use Rattle.request_laws.proofs.Stays.{begins_kept, length_kept, reserved_kept}

module _ (before : Directory) (table : Table) (directory : IsDirectory before) (begins : All BeginsWell before.stores) (is_of : IsTableOf table before) where
  -- another row of a store
  module _ (identifier : ℕ) (store made : Store) (s : Listed) (row : Row) (there : find (is_named identifier) table.stores ≡ Some store) (found : find_store identifier before.stores ≡ Some s)
      (own : s.identifier ≡ identifier) where
    abbrev put : Listed
    put = record s { row = row }

    puts : KeepsRecords s put → IsListed put → IsListedAs made put → made.packets ≡ store.packets
        → Makes before table (record table { stores = with_store identifier made table.stores }) (Put row)
    unfolding apply
    puts keeps listed is same =
        let begin = found_has BeginsWell identifier before.stores s begins found in
        let new_begins = begins_kept s put keeps begin in
        let new_found = found_here before table directory begins is_of identifier store made s put there found own keeps listed is same in
        let stay = records_stay before table directory begins is_of identifier store made s put there found own keeps listed is same in
        let stores = put_store put before.stores in
        let listed_is : listed_by row (find_store row.identifier before.stores) ≡ put =
        ap (listed_by row) new_found ∙ ap (λ (links : List Link). record put { links = links }) (untrimmed row s.links new_begins) in
        changes before table directory begins is_of identifier store made s put there found own keeps listed is same (Put row)
        (with-some before (put_row row before.stores) stores
        (put-is row before.stores put stores listed_is refl
        (record {
          lawful = listed.lawful;
          few = omega (arith, length_kept before.stores stores stay, directory.stores.few);
          reserved = omega (arith, reserved_kept before.stores stores stay, directory.stores.reserved);
          links = listed.links;
        })))
        listed.fits tt tt (omega arith)

    -- one that is made of the row that stands
    pub puts_row : KeepsRecords s put → (is_lawful_row s.row ≡ true → is_lawful_row row ≡ true) → (FitsRow s.row → FitsRow row) → IsListedAs made put → made.packets ≡ store.packets
        → Makes before table (record table { stores = with_store identifier made table.stores }) (Put row)
    puts_row keeps lawful fits is same =
        let old = found_has IsListed identifier before.stores s directory.stores.each found in
        puts keeps
        (record {
          lawful = lawful old.lawful;
          fits = fits old.fits;
          patterns = old.patterns;
          links = subst (λ (n : ℕ). length s.links ≤ blocks_for_size n) (sym keeps.size) old.links;
          fitting = old.fitting;
        })
        is same

  -- other patterns of a store
  module _ (identifier : ℕ) (store : Store) (s : Listed) (there : find (is_named identifier) table.stores ≡ Some store) (found : find_store identifier before.stores ≡ Some s)
      (own : s.identifier ≡ identifier) (alike : IsListedAs store s) where
    pub types : (add : Bool) (pattern : Pattern) (patterns : List Pattern) → identifier < 2 ^ 16 → IsPattern pattern → HasPatternOctets pattern → Lists add pattern s.patterns patterns
        → Makes before table (record table { stores = with_store identifier (record store { patterns = patterns }) table.stores }) (Types identifier add pattern)
    unfolding apply
    types add pattern patterns low lawful octets lists =
        let old = found_has IsListed identifier before.stores s directory.stores.each found in
        let new : Listed = record s { patterns = patterns } in
        let changed : with_types add pattern s ≡ Some new = ap (option_and_then (λ (l : List Pattern). Some (record s { patterns = l }))) lists.changed in
        changes before table directory begins is_of identifier store (record store { patterns = patterns }) s new there found own
        (record { identifier = refl; size = refl; first = refl; count = refl; links = refl })
        (record { lawful = old.lawful; fits = old.fits; patterns = lists.lawful; links = old.links; fitting = old.fitting })
        (record {
          identifier = alike.identifier;
          kind = alike.kind;
          size = alike.size;
          channel = alike.channel;
          storage = alike.storage;
          open_on = alike.open_on;
          told = alike.told;
          behind = alike.behind;
          range = alike.range;
          patterns = refl;
        })
        refl (Types identifier add pattern)
        (with-some before (change_store identifier (with_types add pattern) before.stores) (put_store new before.stores)
        (ap (λ (o : Option Listed). o >>= λ old. with_types add pattern old >>= λ new. Some (put_store new before.stores)) found
        ∙ ap (λ (o : Option Listed). o >>= λ new. Some (put_store new before.stores)) changed))
        (low, lawful, octets) lawful lawful (omega (arith, length-pattern_octets pattern))
