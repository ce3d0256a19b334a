use Rattle.std.proofs.Common.{◌≡◌, List, [], ◌∷◌, drop, sym, ◌∙◌, ap, subst}
use Rattle.std.specs.Prelude.{map}
use Rattle.control_defs.specs.declared.instructions.Instruction.{Instruction}
use Rattle.pus_request.specs.View.{listed}
use Rattle.pst_model.specs.declared.rows.ConfigRow.{ConfigRow}
use Rattle.pst_model.specs.declared.rows.StatusRow.{StatusRow}
use Rattle.pst_model.specs.Contents.{content_report}
use Rattle.pst_model.specs.Reports.{Report, configuration_report, status_report}
use Rattle.report_lines.specs.Content.{HoldsReport}
use Rattle.report_lines.specs.Rows.{config_by, status_by}
use Rattle.report_lines.proofs.Showing.{config-shown, status-shown}
use Rattle.report_lines.proofs.content.write_content.Goals as goal

pub returns-in-Status-clause-some : goal.returns-in-Status-clause-some
returns-in-Status-clause-some c table shown =
    let items = listed c.args.items.now in
    let view = c.args.view.now in
    let asked : content_report items table ≡ status_report (map status_by view.directory.now.stores) ∷ [] =
    ap (λ (l : List Instruction). content_report l table) (c.first.ensures ∙ ap (λ (item : Instruction). item ∷ drop 1 items) c.in-Status.is)
    ∙ ap (λ (rows : List StatusRow). status_report rows ∷ []) (status-shown table.stores view.directory.now.stores view.indexes.now shown.stores) in
    subst (λ (reports : List Report). HoldsReport reports c.args.head c.write_statuses.new.out c.write_statuses.result) (sym asked) c.write_statuses.ensures

pub returns-in-Configuration-clause-some : goal.returns-in-Configuration-clause-some
returns-in-Configuration-clause-some c table shown =
    let items = listed c.args.items.now in
    let view = c.args.view.now in
    let asked : content_report items table ≡ configuration_report (map config_by view.directory.now.stores) ∷ [] =
    ap (λ (l : List Instruction). content_report l table) (c.first.ensures ∙ ap (λ (item : Instruction). item ∷ drop 1 items) c.in-Configuration.is)
    ∙ ap (λ (rows : List ConfigRow). configuration_report rows ∷ []) (config-shown table.stores view.directory.now.stores view.indexes.now shown.stores) in
    subst (λ (reports : List Report). HoldsReport reports c.args.head c.write_configurations.new.out c.write_configurations.result) (sym asked) c.write_configurations.ensures
