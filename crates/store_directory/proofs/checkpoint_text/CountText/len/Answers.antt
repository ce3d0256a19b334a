use Rattle.std.proofs.Common.{length, ap, sym, ◌∙◌}
use Rattle.store_directory.proofs.CountTexts.{length-counts_in}
use Rattle.store_directory.proofs.checkpoint_text.CountText.len.Goals as goal

pub returns : goal.returns
returns c = sym (length-counts_in c.self.inside.count c.self.inside.octets.now) ∙ ap length c.self.view_is
