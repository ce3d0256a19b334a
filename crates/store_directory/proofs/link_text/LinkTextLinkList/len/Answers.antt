use Rattle.std.proofs.Common.{length, ap, sym, ◌∙◌}
use Rattle.store_directory.proofs.LinkTexts.{length-links_in}
use Rattle.store_directory.proofs.link_text.LinkTextLinkList.len.Goals as goal

pub returns : goal.returns
returns c = sym (length-links_in c.self.inside.count c.self.inside.octets.now) ∙ ap length c.self.view_is
