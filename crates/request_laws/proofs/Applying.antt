-- One change of a directory with a table, and what both are behind it.
use Rattle.std.proofs.Common.{◌≡◌, ℕ, ◌≤◌, Bool, List, length, map, Some, refl, ◌∙◌, ap, subst, arith}
use Rattle.std.specs.Prelude.{All, find}
use Rattle.control_defs.specs.Patterns.{HasPatternOctets, IsPattern}
use Rattle.control_defs.specs.declared.patterns.Pattern.{Pattern}
use Rattle.control_defs.proofs.PatternOctets.{length-pattern_octets}
use Rattle.pst_model.specs.Changes.{is_named, with_store}
use Rattle.pst_model.specs.Table.{Store, Table}
use Rattle.store_directory.specs.Changes.{Change, Forward, apply}
use Rattle.store_directory.specs.Directory.{Directory, IsDirectory, IsListed, Listed, find_store, put_store, with_stores}
use Rattle.store_directory.specs.Entries.{CanBeWritten, FitsChange, change_octets}
use Rattle.store_directory.specs.Kept.{IsChange}
use Rattle.store_directory.proofs.Applied.{forward-some}
use Rattle.request_laws.specs.Changing.{AllKeepRecords, AreListedAs, BeginsWell, IsListedAs, IsTableOf, KeepsRecords}
use Rattle.request_laws.proofs.Finding.{found_has, packets_of, put_all, put_as, put_keeps, put_packets}
use Rattle.request_laws.proofs.PatternLists.{Lists}
use Rattle.request_laws.proofs.Stays.{begins_kept, directory_kept, kept_same}

-- A change that was made of a directory, and the table that belongs to it then.
pub record Makes (before : Directory) (table made : Table) (change : Change) : Type 0 where
  pub next : Directory
  pub applied : apply before change ≡ Some next
  pub fits : FitsChange change
  pub can_be_written : CanBeWritten change
  pub in_range : IsChange change
  pub short : length (change_octets change) ≤ 30
  pub directory : IsDirectory next
  pub begins : All BeginsWell next.stores
  pub is_of : IsTableOf made next
  pub now : next.now ≡ before.now
  pub reports : next.reports ≡ before.reports
  pub records : AllKeepRecords before.stores next.stores
  pub packets : map packets_of made.stores ≡ map packets_of table.stores

module _ (before : Directory) (table : Table) (directory : IsDirectory before) (begins : All BeginsWell before.stores) (is_of : IsTableOf table before) where
  -- the patterns of what is forwarded
  pub forwards : (add : Bool) (pattern : Pattern) (patterns : List Pattern) → IsPattern pattern → HasPatternOctets pattern → Lists add pattern before.forward patterns
      → Makes before table (record table { forward = patterns }) (Forward add pattern)
  forwards add pattern patterns lawful octets lists = record {
    next = record before { forward = patterns };
    applied = forward-some before add pattern patterns lists.changed;
    fits = (lawful, octets);
    can_be_written = lawful;
    in_range = lawful;
    short = omega (arith, length-pattern_octets pattern);
    directory = record { now = directory.now; reports = directory.reports; forward = lists.lawful; stores = directory.stores };
    begins = begins;
    is_of = record { now = is_of.now; reports = is_of.reports; forward = refl; stores = is_of.stores };
    now = refl;
    reports = refl;
    records = kept_same before.stores;
    packets = refl;
  }

  -- another store in the place of one, which keeps its records
  module _ (identifier : ℕ) (store made : Store) (s new : Listed) (there : find (is_named identifier) table.stores ≡ Some store) (found : find_store identifier before.stores ≡ Some s)
      (own : s.identifier ≡ identifier) (keeps : KeepsRecords s new) (listed : IsListed new) (is : IsListedAs made new) (same : made.packets ≡ store.packets) where
    named : new.identifier ≡ identifier
    named = keeps.identifier ∙ own

    pub found_here : find_store new.identifier before.stores ≡ Some s
    found_here = ap (λ (n : ℕ). find_store n before.stores) named ∙ found

    abbrev after : List Listed
    after = put_store new before.stores

    pub records_stay : AllKeepRecords before.stores after
    records_stay = put_keeps s new before.stores found_here keeps

    module _ (change : Change) (applied : apply before change ≡ Some (with_stores before after)) (fits : FitsChange change) (can : CanBeWritten change) (in_range : IsChange change)
        (short : length (change_octets change) ≤ 30) where
      pub changes : Makes before table (record table { stores = with_store identifier made table.stores }) change
      changes = record {
        next = with_stores before after;
        applied = applied;
        fits = fits;
        can_be_written = can;
        in_range = in_range;
        short = short;
        directory = directory_kept before after directory records_stay (put_all IsListed new before.stores directory.stores.each listed);
        begins = put_all BeginsWell new before.stores begins (begins_kept s new keeps (found_has BeginsWell identifier before.stores s begins found));
        is_of = record {
          now = is_of.now;
          reports = is_of.reports;
          forward = is_of.forward;
          stores =
              subst (λ (n : ℕ). AreListedAs (with_store n made table.stores) after) named
              (put_as made new table.stores before.stores s is_of.stores found_here is);
        };
        now = refl;
        reports = refl;
        records = records_stay;
        packets = put_packets identifier made store table.stores there same;
      }
