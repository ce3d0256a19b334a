use Rattle.std.proofs.Common.{◌<◌, ℕ, [], ◌∷◌, length, sym, ◌∙◌, ap, subst, arith}
use Rattle.std.proofs.lemmas.List.Elements.{All-get_or}
use Rattle.std.proofs.lemmas.Option.{get_or_from_slice_get}
use Rattle.pst_model.specs.declared.rows.SummaryRow.{SummaryRow}
use Rattle.report_lines.specs.Times.{HaveTimes}
use Rattle.report_lines.proofs.Looks.{summary-at, summary-none}
use Rattle.time_index.specs.TimeIndex.{TimeIndex}
use Rattle.report_lines.proofs.rows.summary_where.Goals as goal

pub returns-in_default-clause-row : goal.returns-in_default-clause-row
returns-in_default-clause-row c table shown =
    sym (summary-none c.args.view.now c.args.store table shown (sym c.in_default.is ∙ c.find.ensures.place))

pub summary_of-requires : goal.summary_of-requires
summary_of-requires c =
    let indexes = c.args.view.now.indexes.now in
    let index = c.index_at-index.result.now in
    let within : c.in-Some.at < length indexes = omega (arith, c.in-Some.ensures.within, c.requires.indexes) in
    subst (λ (i : TimeIndex). HaveTimes i.entries) (get_or_from_slice_get indexes c.in-Some.at index index c.index_at-index.ensures)
    (All-get_or (λ (i : TimeIndex). HaveTimes i.entries) indexes c.in-Some.at index within c.requires.timed)

pub returns-clause-row : goal.returns-clause-row
returns-clause-row c table shown =
    ap (λ (row : SummaryRow). row ∷ []) c.summary_of.ensures.row
    ∙ sym (summary-at c.args.view.now c.args.store table shown c.in-Some.at c.row-row.result.now c.index_at-index.result.now (sym c.in-Some.is ∙ c.find.ensures.place) c.row-row.ensures c.index_at-index.ensures)
