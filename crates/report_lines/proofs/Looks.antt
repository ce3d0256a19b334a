-- What a report says of the store with an identifier, by a look-up in memory.
use Rattle.std.proofs.Common.{◌≡◌, ℕ, Bool, true, false, List, [], ◌∷◌, Option, Some, None, refl, ◌∙◌, ap}
use Rattle.std.proofs.lemmas.Bool.{eqb-true}
use Rattle.std.specs.Prelude.{IfSome, IsSomeAnd, find, if◌then◌else◌, slice_get}
use Rattle.control_defs.specs.declared.patterns.Pattern.{Pattern}
use Rattle.pst_model.specs.Changes.{is_named}
use Rattle.pst_model.specs.Contents.{summary_where, types_where}
use Rattle.pst_model.specs.declared.rows.SummaryRow.{SummaryRow}
use Rattle.pst_model.specs.Reports.{types_report}
use Rattle.pst_model.specs.Table.{Store, Table}
use Rattle.report_lines.specs.Rows.{summary_by}
use Rattle.report_lines.proofs.Showing.{summary-shown}
use Rattle.store_directory.specs.Directory.{place_of}
use Rattle.store_directory.specs.declared.row.Row.{Row}
use Rattle.store_policy.specs.Shown.{IsShown, IsTableShown}
use Rattle.store_policy.specs.declared.view.View.{View}
use Rattle.store_policy.proofs.Lookups.{looked-up, pair-at, patterns-at}
use Rattle.time_index.specs.TimeIndex.{TimeIndex}

-- a store that is found has the identifier
named-if : (identifier : ℕ) (store : Store) (others : Option Store) (test : Bool) → is_named identifier store ≡ test
    → IfSome others (λ (s : Store). s.identifier ≡ identifier) → IfSome (if test then Some store else others) (λ (s : Store). s.identifier ≡ identifier)
named-if identifier store others true is rest = eqb-true store.identifier identifier is
named-if identifier store others false is rest = rest

found-named : (identifier : ℕ) (stores : List Store) → IfSome (find (is_named identifier) stores) (λ (s : Store). s.identifier ≡ identifier)
found-named identifier [] = tt
found-named identifier (store ∷ stores) =
    named-if identifier store (find (is_named identifier) stores) (is_named identifier store) refl (found-named identifier stores)

summary-by : (found : Option Store) (row : Row) (index : TimeIndex) → IsSomeAnd found (λ store. IsShown store row index) → summary_where found ≡ summary_by row index ∷ []
summary-by (Some store) row index shown = ap (λ (r : SummaryRow). r ∷ []) (summary-shown store row index shown)
summary-by None row index shown = absurd shown

types-by : (identifier : ℕ) (found : Option Store) (patterns : List Pattern) → IfSome found (λ store. store.identifier ≡ identifier) → IsSomeAnd found (λ store. store.patterns ≡ patterns)
    → types_where found ≡ types_report identifier patterns ∷ []
types-by identifier (Some store) patterns named has =
    ap (λ (n : ℕ). types_report n store.patterns ∷ []) named ∙ ap (λ (p : List Pattern). types_report identifier p ∷ []) has
types-by identifier None patterns named has = absurd has

module _ (view : View) (identifier : ℕ) (table : Table) (shown : IsTableShown table view) where
  pub summary-at : (at : ℕ) (row : Row) (index : TimeIndex) → Some at ≡ place_of identifier view.directory.now.stores
      → IfSome (slice_get view.directory.now.stores at) (λ l. row ≡ l.row) → slice_get view.indexes.now at ≡ Some index
      → summary_where (find (is_named identifier) table.stores) ≡ summary_by row index ∷ []
  summary-at at row index place is has =
      let pair = pair-at view identifier at row index (looked-up view identifier (Some at) place).0 is has in
      summary-by (find (is_named identifier) table.stores) row index (pair.found table shown)

  pub summary-none : None ≡ place_of identifier view.directory.now.stores → summary_where (find (is_named identifier) table.stores) ≡ []
  summary-none place = ap summary_where ((looked-up view identifier None place).1.absent table shown)

  pub types-at : (at : ℕ) (patterns : List Pattern) → Some at ≡ place_of identifier view.directory.now.stores
      → IfSome (slice_get view.directory.now.stores at) (λ l. patterns ≡ l.patterns)
      → types_where (find (is_named identifier) table.stores) ≡ types_report identifier patterns ∷ []
  types-at at patterns place is =
      let taken = patterns-at view identifier at patterns (looked-up view identifier (Some at) place).0 is in
      types-by identifier (find (is_named identifier) table.stores) patterns (found-named identifier table.stores) (taken.found table shown)

  pub types-none : None ≡ place_of identifier view.directory.now.stores → types_where (find (is_named identifier) table.stores) ≡ []
  types-none place = ap types_where ((looked-up view identifier None place).1.absent table shown)
