use Rattle.std.proofs.Common.{lit<}
use Rattle.std.proofs.lemmas.List.Elements.{All-replicate}
use Rattle.pst_model.specs.Reports.{HasTimes}
use Rattle.pus_report.proofs.tests.stores.summaries_of_no_store_and_of_thirty_two.Goals as goal

pub write_summary-requires-2-clause-times : goal.write_summary-requires-2-clause-times
write_summary-requires-2-clause-times g c = All-replicate HasTimes 32 _ (record { oldest = lit< tt; newest = lit< tt })
