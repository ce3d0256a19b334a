use Rattle.std.proofs.Common.{length, rules}
use Rattle.journal_reader.proofs.Fronts.{no_checkpoint}
use Rattle.journal_reader.proofs.half.spelled_by.Goals as goal

pub returns-in-Err : goal.returns-in-Err
returns-in-Err c = record {
  spelled = no_checkpoint c.in-Err.field-0 (length c.args.wear.now) c.args.text.now (search rules) c.in-Err.ensures.stops;
  unread = tt;
}
