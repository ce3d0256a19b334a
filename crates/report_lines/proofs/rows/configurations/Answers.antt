use Rattle.std.proofs.Common.{List, [], ◌∷◌, ◌++◌, ◌∙◌, ap, arith}
use Rattle.std.proofs.lemmas.List.{length-set, take_more_set}
use Rattle.pst_model.specs.declared.rows.ConfigRow.{ConfigRow}
use Rattle.report_lines.specs.Rows.{config_by}
use Rattle.report_lines.proofs.Showing.{one_more}
use Rattle.report_lines.proofs.rows.configurations.Goals as goal

pub loop-at-preserved : goal.loop-at-preserved
loop-at-preserved c =
    let so_far = c.loop-at.invariant in
    let row = c.configuration_at.result in
    record {
      rows = take_more_set c.loop-at.rows c.loop-at.at row (omega (arith, so_far.room, c.loop-at-test.true, c.len-at-end.ensures.len, c.len-at-end.ensures.kept.stores.few))
          ∙ ap (λ (rows : List ConfigRow). rows ++ row ∷ []) so_far.rows
          ∙ one_more config_by c.args.directory.now.directory.stores c.loop-at.at row (omega (arith, c.loop-at-test.true, c.len-at-end.ensures.len)) c.configuration_at.ensures;
      room = length-set c.loop-at.rows c.loop-at.at row ∙ so_far.room;
    }
