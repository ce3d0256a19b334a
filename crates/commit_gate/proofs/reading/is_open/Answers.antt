use Rattle.std.proofs.Common.{◌∙◌, ap, bytes_eq}
use Rattle.commit_gate.specs.Entries.{open_page}
use Rattle.commit_gate.proofs.reading.is_open.Goals as goal

pub returns : goal.returns
unfolding open_page
returns c = c.eq.ensures ∙ ap (bytes_eq c.args.page.now) c.as_slice.ensures
