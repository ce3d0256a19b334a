use Rattle.std.proofs.Common.{◌∙◌, ap, arith}
use Rattle.std.specs.Str.{bytes_eq}
use Rattle.station.proofs.Texts.{one_word}
use Rattle.station.proofs.words.are_only.Goals as goal

pub returns-then-len-eq1 : goal.returns-then-len-eq1
returns-then-len-eq1 c =
    one_word c.args.words.now.items c.index.result.now c.args.word.now c.eq.result (omega arith) c.index.ensures
    (c.eq.ensures ∙ ap (λ text. bytes_eq text c.args.word.now) c.as_str.ensures.value)
