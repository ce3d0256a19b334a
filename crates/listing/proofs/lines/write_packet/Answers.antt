use Rattle.std.proofs.Common.{◌+◌, ℕ, List, ◌∷◌, [], length, codes, sym, ◌∙◌, ap, subst, append-nil}
use Rattle.hex.specs.Hex.{encode_lower}
use Rattle.listing.proofs.Spaced.{and_then, line_written}
use Rattle.octet_fields.specs.Fields.{Writes}
use Rattle.pst_model.specs.Listing.{time_word}
use Rattle.listing.proofs.lines.write_packet.Goals as goal

pub returns : goal.returns
returns c =
    let time = c.put_time-end.ensures in
    let octets = c.put_hex-end.ensures in
    let text = ap (λ (l : List ℕ). 32 ∷ l) (sym (append-nil (encode_lower c.args.packet.now))) in
    line_written (codes "packet") (time_word c.args.time ∷ encode_lower c.args.packet.now ∷ []) c.as_bytes.ensures.value
    c.put_text-end.ensures.writes c.put_text-end.ensures.end
    (and_then time.writes time.end (subst (λ (l : List ℕ). Writes c.put_time-end.new.out c.put_hex-end.new.out c.put_time-end.result l) text octets.writes)
    (octets.end ∙ ap (λ (l : List ℕ). c.put_time-end.result + length l) text))
    c.end_line.ensures.writes c.end_line.ensures.end
