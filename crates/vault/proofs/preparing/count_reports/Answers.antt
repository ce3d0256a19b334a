use Rattle.std.proofs.Common.{◌≡◌, ◌+◌, ◌%◌, Some, ◌∙◌, ap}
use Rattle.pst_model.specs.Reports.{count_behind}
use Rattle.store_directory.specs.Changes.{Clock, apply}
use Rattle.store_directory.specs.Directory.{Directory}
use Rattle.vault.proofs.Entered.{made_by}
use Rattle.vault.proofs.Prepared.{count_made}
use Rattle.vault.proofs.preparing.count_reports.Goals as goal

pub returns-clause-made : goal.returns-clause-made
returns-clause-made c =
    let d = c.args.directory.now.directory in
    let made = c.args.made in
    let next : Directory = record d { reports = count_behind d.reports made } in
    let fits : apply d (Clock c.now.result ((c.reports.result + made) % 16384)) ≡ Some next =
    (λ i. apply d (Clock (c.now.ensures.now i) ((c.reports.ensures.reports i + made) % 16384))) ∙ count_made d made in
    count_made d made
    ∙ ap Some (made_by c.apply.result d c.apply.new.self.directory next (Clock c.now.result ((c.reports.result + made) % 16384))
    c.apply.ensures.ok c.apply.ensures.unfit c.apply.ensures.memory fits)
