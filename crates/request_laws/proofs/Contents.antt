-- The content report of a request, where there is one.
use Rattle.std.proofs.Common.{◌≡◌, ℕ, suc, ◌+◌, ◌==◌, ◌&&◌, nat_lt, false, List, [], ◌∷◌, ◌++◌, length, Option, Some, None, Ok, refl, sym, ◌∙◌, ap, subst, arith}
use Rattle.std.specs.Prelude.{All, find}
use Rattle.std.specs.List.{flat_map}
use Rattle.std.proofs.lemmas.Bool.{eq-eqb, false≢true, le-ltb, lt-ltb}
use Rattle.std.proofs.lemmas.List.Elements.{All-head, All-tail}
use Rattle.control_defs.specs.declared.instructions.Instruction.{Instruction}
use Rattle.control_defs.specs.declared.instructions.Instruction.TheVariants.{ForwardAdd, ForwardDelete, ForwardReport, Enable, Disable, AddTypes, DeleteTypes, ReportTypes, StartRange, DeleteUpTo, Summary, OpenFrom, Resume, Suspend, Abort, Status, Create, Remove, Configuration, Copy, Resize, ToCircular, ToBounded, Channel}
use Rattle.pst_model.specs.Answers.{Carried, carried_by, carry_out, carry_out_from}
use Rattle.pst_model.specs.Changes.{is_named, where_found}
use Rattle.pst_model.specs.Contents.{content_report, summary_asked, summary_by, summary_where, types_where}
use Rattle.pst_model.specs.Items.{kind_asked}
use Rattle.pst_model.specs.Table.{Store, Table}
use Rattle.pst_model.specs.declared.rows.SummaryRow.{SummaryRow}
use Rattle.request_laws.specs.Counting.{CanBeCarried, ask_content, one_if}

-- Summaries: each instruction that does not fail has a row.

abbrev IsSummary : Instruction → Type 0
IsSummary (Summary store) = Unit {0}
IsSummary _ = ⊥

no_kind : {P : Type 0} {subtype : ℕ} → subtype ≡ 12 → (subtype == 12) ≡ false → P
no_kind {P} {subtype} same other = absurd (false≢true (sym other ∙ eq-eqb subtype 12 same))

is_summary : (store : ℕ) (item : Instruction) → kind_asked item ≡ kind_asked (Summary store) → IsSummary item
is_summary store (Summary other) is = tt
is_summary store (ForwardAdd pattern) is = no_kind (ap (λ (kind : ℕ × ℕ). kind.1) is) refl
is_summary store (ForwardDelete pattern) is = no_kind (ap (λ (kind : ℕ × ℕ). kind.1) is) refl
is_summary store (Enable other) is = no_kind (ap (λ (kind : ℕ × ℕ). kind.1) is) refl
is_summary store (Disable other) is = no_kind (ap (λ (kind : ℕ × ℕ). kind.1) is) refl
is_summary store (AddTypes other pattern) is = no_kind (ap (λ (kind : ℕ × ℕ). kind.1) is) refl
is_summary store (DeleteTypes other pattern) is = no_kind (ap (λ (kind : ℕ × ℕ). kind.1) is) refl
is_summary store (StartRange other t1 t2) is = no_kind (ap (λ (kind : ℕ × ℕ). kind.1) is) refl
is_summary store (DeleteUpTo other t) is = no_kind (ap (λ (kind : ℕ × ℕ). kind.1) is) refl
is_summary store (OpenFrom other t) is = no_kind (ap (λ (kind : ℕ × ℕ). kind.1) is) refl
is_summary store (Resume other) is = no_kind (ap (λ (kind : ℕ × ℕ). kind.1) is) refl
is_summary store (Suspend other) is = no_kind (ap (λ (kind : ℕ × ℕ). kind.1) is) refl
is_summary store (Abort other) is = no_kind (ap (λ (kind : ℕ × ℕ). kind.1) is) refl
is_summary store (Create other kind size channel) is = no_kind (ap (λ (kind : ℕ × ℕ). kind.1) is) refl
is_summary store (Remove other) is = no_kind (ap (λ (kind : ℕ × ℕ). kind.1) is) refl
is_summary store (Copy from to t1 t2) is = no_kind (ap (λ (kind : ℕ × ℕ). kind.1) is) refl
is_summary store (Resize other size) is = no_kind (ap (λ (kind : ℕ × ℕ). kind.1) is) refl
is_summary store (ToCircular other) is = no_kind (ap (λ (kind : ℕ × ℕ). kind.1) is) refl
is_summary store (ToBounded other) is = no_kind (ap (λ (kind : ℕ × ℕ). kind.1) is) refl
is_summary store (Channel other channel) is = no_kind (ap (λ (kind : ℕ × ℕ). kind.1) is) refl
is_summary store ForwardReport is = no_kind (ap (λ (kind : ℕ × ℕ). kind.1) is) refl
is_summary store (ReportTypes other) is = no_kind (ap (λ (kind : ℕ × ℕ). kind.1) is) refl
is_summary store Status is = no_kind (ap (λ (kind : ℕ × ℕ). kind.1) is) refl
is_summary store Configuration is = no_kind (ap (λ (kind : ℕ × ℕ). kind.1) is) refl

abbrev AllSummaries : List Instruction → Type 0
AllSummaries [] = Unit {0}
AllSummaries (item ∷ items) = IsSummary item × AllSummaries items

all_summaries : (store : ℕ) (items : List Instruction) → All (λ (item : Instruction). kind_asked item ≡ kind_asked (Summary store)) items → AllSummaries items
all_summaries store [] all = tt
all_summaries store (item ∷ items) all =
    let same : Instruction → Type 0 = λ item. kind_asked item ≡ kind_asked (Summary store) in
    (is_summary store item (All-head same item items all), all_summaries store items (All-tail same item items all))

record Summed (table : Table) (items : List Instruction) (carried : Carried) : Type 0 where
  same : carried.table ≡ table
  sum : length (flat_map (summary_asked table.stores) items) + length carried.failures ≡ length items

summed : (blocks number : ℕ) (items : List Instruction) (table : Table) → AllSummaries items → Summed table items (carry_out_from blocks number items table)
summed blocks number [] table all = record { same = refl; sum = refl }
summed blocks number (Summary store ∷ items) table all =
    by (find (is_named store) table.stores) refl (summed blocks (number + 1) items table all.1)
  where
    first_is : Option Store → Carried
    first_is found = carried_by number table (where_found (λ (_ : Store). Ok table) found) (carry_out_from blocks (number + 1) items)

    SummedBy : Option Store → Type 0
    SummedBy found =
        ((first_is found).table ≡ table)
        × (length (summary_where found ++ flat_map (summary_asked table.stores) items) + length (first_is found).failures ≡ suc (length items))

    summed_by : (found : Option Store) → Summed table items (carry_out_from blocks (number + 1) items table) → SummedBy found
    summed_by (Some x) rest = (rest.same, omega (arith, rest.sum))
    summed_by None rest = (rest.same, omega (arith, rest.sum))

    by : (found : Option Store) → find (is_named store) table.stores ≡ found → Summed table items (carry_out_from blocks (number + 1) items table)
        → Summed table (Summary store ∷ items) (carry_out_from blocks number (Summary store ∷ items) table)
    by found is rest =
        let whole : SummedBy (find (is_named store) table.stores) = subst SummedBy (sym is) (summed_by found rest) in
        record { same = whole.0; sum = whole.1 }
summed blocks number (ForwardAdd pattern ∷ items) table all = absurd all.0
summed blocks number (ForwardDelete pattern ∷ items) table all = absurd all.0
summed blocks number (ForwardReport ∷ items) table all = absurd all.0
summed blocks number (Enable store ∷ items) table all = absurd all.0
summed blocks number (Disable store ∷ items) table all = absurd all.0
summed blocks number (AddTypes store pattern ∷ items) table all = absurd all.0
summed blocks number (DeleteTypes store pattern ∷ items) table all = absurd all.0
summed blocks number (ReportTypes store ∷ items) table all = absurd all.0
summed blocks number (StartRange store t1 t2 ∷ items) table all = absurd all.0
summed blocks number (DeleteUpTo store t ∷ items) table all = absurd all.0
summed blocks number (OpenFrom store t ∷ items) table all = absurd all.0
summed blocks number (Resume store ∷ items) table all = absurd all.0
summed blocks number (Suspend store ∷ items) table all = absurd all.0
summed blocks number (Abort store ∷ items) table all = absurd all.0
summed blocks number (Status ∷ items) table all = absurd all.0
summed blocks number (Create store kind size channel ∷ items) table all = absurd all.0
summed blocks number (Remove store ∷ items) table all = absurd all.0
summed blocks number (Configuration ∷ items) table all = absurd all.0
summed blocks number (Copy from to t1 t2 ∷ items) table all = absurd all.0
summed blocks number (Resize store size ∷ items) table all = absurd all.0
summed blocks number (ToCircular store ∷ items) table all = absurd all.0
summed blocks number (ToBounded store ∷ items) table all = absurd all.0
summed blocks number (Channel store channel ∷ items) table all = absurd all.0

summary_once : (rows : List SummaryRow) (failed all : ℕ) → length rows + failed ≡ all → length (summary_by rows) ≡ one_if (nat_lt failed all)
summary_once [] failed all sum = ap one_if (sym (le-ltb failed all (omega (arith, sum))))
summary_once (row ∷ rows) failed all sum = ap one_if (sym (lt-ltb failed all (omega (arith, sum))))

module _ (blocks : ℕ) (table : Table) where
  abbrev HasContent : List Instruction → Type 0
  HasContent items =
      length (content_report items (carry_out blocks items table).table)
      ≡ one_if (ask_content items && nat_lt (length (carry_out blocks items table).failures) (length items))

  types_once : (store : ℕ) → HasContent (ReportTypes store ∷ [])
  types_once store = by (find (is_named store) table.stores) refl
    where
      carried : Option Store → Carried
      carried found = carried_by 1 table (where_found (λ (_ : Store). Ok table) found) (carry_out_from blocks (1 + 1) [])

      HasTypes : (found looked : Option Store) → Type 0
      HasTypes found looked = length (types_where looked) ≡ one_if (nat_lt (length (carried found).failures) 1)

      both : (found : Option Store) → HasTypes found found
      both (Some x) = refl
      both None = refl

      same : (found : Option Store) → (carried found).table ≡ table
      same (Some x) = refl
      same None = refl

      by : (found : Option Store) → find (is_named store) table.stores ≡ found → HasContent (ReportTypes store ∷ [])
      by found is =
          ap (λ (t : Table). length (types_where (find (is_named store) t.stores))) (same (find (is_named store) table.stores))
          ∙ both (find (is_named store) table.stores)

  pub content : (items : List Instruction) → CanBeCarried items → HasContent items
  content [] request = refl
  content (ForwardReport ∷ []) request = refl
  content (ForwardReport ∷ item ∷ items) request = absurd (omega (arith, request.asked.few))
  content (Status ∷ []) request = refl
  content (Status ∷ item ∷ items) request = absurd (omega (arith, request.asked.few))
  content (Configuration ∷ []) request = refl
  content (Configuration ∷ item ∷ items) request = absurd (omega (arith, request.asked.few))
  content (ReportTypes store ∷ []) request = types_once store
  content (ReportTypes store ∷ item ∷ items) request = absurd (omega (arith, request.asked.few))
  content (Summary store ∷ items) request =
      let whole = summed blocks 1 (Summary store ∷ items) table (all_summaries store (Summary store ∷ items) request.asked.kind) in
      ap (λ (t : Table). length (summary_by (flat_map (summary_asked t.stores) (Summary store ∷ items)))) whole.same
      ∙ summary_once (flat_map (summary_asked table.stores) (Summary store ∷ items)) (length (carry_out blocks (Summary store ∷ items) table).failures) (length (Summary store ∷ items)) whole.sum
  content (ForwardAdd pattern ∷ items) request = refl
  content (ForwardDelete pattern ∷ items) request = refl
  content (Enable store ∷ items) request = refl
  content (Disable store ∷ items) request = refl
  content (AddTypes store pattern ∷ items) request = refl
  content (DeleteTypes store pattern ∷ items) request = refl
  content (StartRange store t1 t2 ∷ items) request = refl
  content (DeleteUpTo store t ∷ items) request = refl
  content (OpenFrom store t ∷ items) request = refl
  content (Resume store ∷ items) request = refl
  content (Suspend store ∷ items) request = refl
  content (Abort store ∷ items) request = refl
  content (Create store kind size channel ∷ items) request = refl
  content (Remove store ∷ items) request = refl
  content (Copy from to t1 t2 ∷ items) request = refl
  content (Resize store size ∷ items) request = refl
  content (ToCircular store ∷ items) request = refl
  content (ToBounded store ∷ items) request = refl
  content (Channel store channel ∷ items) request = refl
