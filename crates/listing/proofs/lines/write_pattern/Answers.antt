use Rattle.listing.proofs.Spaced.{line_written}
use Rattle.pst_model.specs.Listing.{pattern_words}
use Rattle.listing.proofs.lines.write_pattern.Goals as goal

pub returns : goal.returns
returns c =
    line_written c.args.name.now (pattern_words c.args.pattern) c.as_bytes.ensures.value c.put_text-end.ensures.writes c.put_text-end.ensures.end
    (c.put_pattern-end.ensures.writes, c.put_pattern-end.ensures.end) c.end_line.ensures.writes c.end_line.ensures.end
