use Rattle.std.proofs.Common.{List, [], ◌∷◌, ◌++◌, ◌∙◌, ap, arith}
use Rattle.pst_model.specs.declared.rows.StatusRow.{StatusRow}
use Rattle.report_lines.specs.Rows.{status_by}
use Rattle.report_lines.proofs.Showing.{one_more}
use Rattle.report_lines.proofs.rows.statuses.Goals as goal

pub loop-at-preserved : goal.loop-at-preserved
loop-at-preserved c =
    let so_far = c.loop-at.invariant in
    record {
      rows = c.push.ensures.items ∙ ap (λ (rows : List StatusRow). rows ++ c.status_at.result ∷ []) so_far.rows
          ∙ one_more status_by c.args.directory.now.directory.stores c.loop-at.at c.status_at.result (omega (arith, c.loop-at-test.true, c.len-at-end.ensures.len)) c.status_at.ensures;
      few = omega (arith, so_far.few, c.push.ensures.len);
    }
