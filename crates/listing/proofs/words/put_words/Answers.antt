use Rattle.std.proofs.Common.{◌+◌, ℕ, List, [], length, ap, subst, sym, ◌∙◌, arith}
use Rattle.octet_fields.specs.Fields.{Writes}
use Rattle.listing.specs.declared.words.Word.TheVariants.{Name}
use Rattle.listing.proofs.Spaced.{and_then, spaced-more}
use Rattle.listing.proofs.words.put_words.Goals as goal

pub loop-word-preserved : goal.loop-word-preserved
loop-word-preserved c =
    let so_far = c.loop-word.invariant in
    let words = c.args.words.now in
    let at = c.loop-word.word-index in
    let more = spaced-more words at (Name (record { ref_ptr = (0, 0); now = [] })) (omega arith) in
    let both = and_then {b = c.put_word-end.result} so_far.writes so_far.end c.put_word-end.ensures.writes (omega (arith, c.put_word-end.ensures.end)) in
    record {
      few = omega (arith, so_far.few, c.put_word-end.ensures.few);
      end = both.1 ∙ ap (λ (octets : List ℕ). c.args.at + length octets) (sym more);
      writes = subst (λ (octets : List ℕ). Writes c.args.out.now c.put_word-end.new.out c.args.at octets) (sym more) both.0;
    }
