use Rattle.std.proofs.Common.{◌∙◌, ap, sym, arith}
use Rattle.std.specs.Prelude.{is_some}
use Rattle.store_directory.proofs.PatternTexts.{spelled-at}
use Rattle.store_directory.proofs.pattern_text.PatternText.get.Goals as goal

pub overflow_mul-at : goal.overflow_mul-at
overflow_mul-at c =
    let text = c.self.inside in
    let at = spelled-at text.count c.args.at text.octets.now c.args.self.now c.self.invariant c.self.view_is c.requires in
    let within = at.within in
    let long = c.self.told in
    omega (arith, within, long.0)

pub spelled_pattern_at-requires : goal.spelled_pattern_at-requires
spelled_pattern_at-requires c =
    let text = c.self.inside in
    let at = spelled-at text.count c.args.at text.octets.now c.args.self.now c.self.invariant c.self.view_is c.requires in
    at.within

pub unwrap-requires : goal.unwrap-requires
unwrap-requires c =
    let text = c.self.inside in
    let at = spelled-at text.count c.args.at text.octets.now c.args.self.now c.self.invariant c.self.view_is c.requires in
    ap is_some c.spelled_pattern_at.ensures.value ∙ at.some

pub returns-clause-pattern : goal.returns-clause-pattern
returns-clause-pattern c =
    let text = c.self.inside in
    let at = spelled-at text.count c.args.at text.octets.now c.args.self.now c.self.invariant c.self.view_is c.requires in
    at.is ∙ sym c.spelled_pattern_at.ensures.value ∙ c.unwrap.ensures
