use Rattle.std.proofs.Common.{ap, ◌∙◌, length, arith}
use Rattle.std.proofs.lemmas.List.{with_items_is}
use Rattle.session_text.proofs.HeldLines.{end_most, end_of, held_cut, held_long, held_room, held_short, held_whole}
use Rattle.session_text.proofs.lines.Lines.read_line.Goals as goal

pub invariant_of-self-2-clause-within : goal.invariant_of-self-2-clause-within
invariant_of-self-2-clause-within c =
    held_room c.args.self.now.limit c.args.self.now.place c.args.count c.size_of-size.result (end_of c.args.ended) c.size_of-size.ensures (end_most c.args.ended) c.args.self.now.within c.else-room-size.either (omega (arith, c.if-count-gt-LONGEST.false))

pub invariant_of-self-2-clause-room : goal.invariant_of-self-2-clause-room
invariant_of-self-2-clause-room c =
    ap length (with_items_is c.args.self.now.packet c.read_form.new.packet (c.read_form.auto.packet ∙ c.deref_mut.ensures.len))
    ∙ c.read_form.auto.packet ∙ ap length c.deref_mut.ensures.value ∙ c.args.self.now.room
