use Rattle.std.proofs.Common.{length, ap, sym, ◌∙◌}
use Rattle.store_directory.specs.Views.{patterns_read}
use Rattle.store_directory.proofs.PatternTexts.{spell-from}
use Rattle.store_directory.proofs.pattern_text.PatternText.len.Goals as goal

pub returns : goal.returns
returns c =
    let text = c.self.inside in
    let spell = spell-from text.count text.octets.now (patterns_read text.count text.octets.now) c.self.invariant in
    sym spell.many ∙ ap length c.self.view_is
