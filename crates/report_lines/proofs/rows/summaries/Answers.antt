use Rattle.std.proofs.Common.{◌≡◌, ◌<◌, ◌+◌, List, ◌++◌, All, length, take, Option, sym, ◌∙◌, ap, subst, arith}
use Rattle.std.proofs.lemmas.List.{append-nil}
use Rattle.std.proofs.lemmas.List.Elements.{All-push}
use Rattle.std.proofs.lemmas.Option.{get_or_from_slice_get}
use Rattle.std.specs.List.{flat_map}
use Rattle.std.specs.Prelude.{option_to_list}
use Rattle.pus_report.proofs.Lists.{flat_map-more}
use Rattle.pus_request.specs.View.{listed}
use Rattle.pst_model.specs.declared.rows.SummaryRow.{SummaryRow}
use Rattle.pst_model.specs.Contents.{summary_asked}
use Rattle.pst_model.specs.Reports.{HasTimes}
use Rattle.pst_model.specs.Table.{Table}
use Rattle.store_policy.specs.Shown.{IsTableShown}
use Rattle.report_lines.proofs.rows.summaries.Goals as goal
use Rattle.report_lines.proofs.rows.summaries.Goals.{in-Some, in_default}

pub loop-at-preserved : goal.loop-at-preserved
loop-at-preserved c =
    let so_far = c.loop-at.invariant in
    let items = listed c.args.items.now in
    let at = c.loop-at.at in
    let within : at < length items = omega (arith, c.loop-at-test.true, c.len-at-end.ensures.length) in
    let more = λ (table : Table) (shown : IsTableShown table c.args.view.now).
    let asked = summary_asked table.stores in
    let next : c.loop-at.rows.items ++ option_to_list c.summary_asked.result ≡ flat_map asked (take (at + 1) items) =
    ap (λ (l : List SummaryRow). l ++ option_to_list c.summary_asked.result) (so_far.rows table shown)
    ∙ ap (λ (l : List SummaryRow). flat_map asked (take at items) ++ l) (c.summary_asked.ensures.row table shown ∙ ap asked (sym (get_or_from_slice_get items at c.get.result c.get.result c.get.ensures.item)))
    ∙ flat_map-more asked items at c.get.result within in
    next in
    elim c.match-summary_asked.branch [
      | in-Some w ↦
          record {
            rows = λ table shown. ap (λ rows. rows.items) w.rows-is ∙ w.push.ensures.items ∙ ap (λ (row : Option SummaryRow). c.loop-at.rows.items ++ option_to_list row) (sym w.in-Some.is) ∙ more table shown;
            few = omega (arith, so_far.few, w.push.ensures.len, ap (λ rows. length rows.items) w.rows-is);
            times = subst (All HasTimes) (sym (ap (λ rows. rows.items) w.rows-is ∙ w.push.ensures.items)) (All-push HasTimes c.loop-at.rows.items w.in-Some.row so_far.times w.in-Some.ensures.times);
          }
      | in_default w ↦
          record {
            rows = λ table shown. ap (λ rows. rows.items) w.rows-is ∙ sym (append-nil c.loop-at.rows.items) ∙ ap (λ (row : Option SummaryRow). c.loop-at.rows.items ++ option_to_list row) (sym w.in_default.is) ∙ more table shown;
            few = omega (arith, so_far.few, ap (λ rows. length rows.items) w.rows-is);
            times = subst (All HasTimes) (sym (ap (λ rows. rows.items) w.rows-is)) so_far.times;
          }
    ]
