use Rattle.std.proofs.Common.{◌∙◌, ap, drop}
use Rattle.session_text.proofs.Buffers.{slice_range-skipped}
use Rattle.session_text.proofs.held.Held.skip.Goals as goal

pub returns : goal.returns
returns c = slice_range-skipped c.self.inside.octets.items c.self.inside.start c.args.count c.self.inside.end ∙ ap (drop c.args.count) c.self.view_is
