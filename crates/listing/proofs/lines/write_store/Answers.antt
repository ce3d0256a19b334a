use Rattle.std.proofs.Common.{◌+◌, ℕ, List, ◌++◌, length, codes, sym, ◌∙◌, ap, subst}
use Rattle.listing.specs.Rows.{content_words, row_words}
use Rattle.listing.specs.Words.{HoldsLine, spaced}
use Rattle.listing.proofs.Spaced.{and_then, line_written, spaced-append}
use Rattle.listing.proofs.ShownWords.{store_words-shown}
use Rattle.pst_model.specs.Listing.{range_words, words_line}
use Rattle.octet_fields.specs.Fields.{Writes}
use Rattle.listing.proofs.lines.write_store.Goals as goal

pub returns-clause-line : goal.returns-clause-line
returns-clause-line c store shown =
    let row = c.put_row-end.ensures in
    let range = c.put_range-end.ensures in
    let content = c.put_content-end.ensures in
    let two = and_then range.writes range.end content.writes content.end in
    let three = and_then row.writes row.end two.0 two.1 in
    let rest = row_words c.args.row.now ++ range_words c.args.row.now.range ++ content_words c.args.row.now.told c.args.index.now in
    let text = spaced-append (row_words c.args.row.now) (range_words c.args.row.now.range ++ content_words c.args.row.now.told c.args.index.now)
    ∙ ap (λ octets. spaced (row_words c.args.row.now) ++ octets) (spaced-append (range_words c.args.row.now.range) (content_words c.args.row.now.told c.args.index.now)) in
    subst (λ (words : List (List ℕ)). HoldsLine c.args.out.now c.end_line.new.out c.end_line.result (words_line words))
    (sym (store_words-shown store c.args.row.now c.args.index.now shown))
    (line_written (codes "store") rest c.as_bytes.ensures.value c.put_text-end.ensures.writes c.put_text-end.ensures.end (
      subst (λ (octets : List ℕ). Writes c.put_text-end.new.out c.put_content-end.new.out c.put_text-end.result octets) (sym text) three.0,
      three.1 ∙ ap (λ (octets : List ℕ). c.put_text-end.result + length octets) (sym text),
    )
    c.end_line.ensures.writes c.end_line.ensures.end)
