use Rattle.std.proofs.Common.{[], ◌++◌, refl, arith}
use Rattle.listing.specs.Lists.{ToldTable}
use Rattle.listing.specs.Parts.{packet_at}
use Rattle.listing.proofs.Runs.{breaks_on, breaks_within, line_broke, line_sent, lists_as, lists_on, lists_read, same_text}
use Rattle.listing.proofs.stores.send_packet.Goals as goal

pub returns-in-Ok-clause-ok : goal.returns-in-Ok-clause-ok
returns-in-Ok-clause-ok g c =
    let means = g.B.Board.means in
    let old = c.args.board.now in
    let mid = c.write_fetched.new.board in
    let new = c.send_line.new.board in
    let told = ToldTable means c.args.vault.now old in
    let text = packet_at c.args.at c.args.position in
    lists_as means told told (λ table here. here) old new (λ table. [] ++ text table) text (λ table here. refl) (omega arith) refl
    (lists_on means told told (λ table here. here) old mid new (λ _. []) text
    (lists_read means told old mid c.in_ok-size.ensures.reads c.in_ok-size.ensures.no_fault)
    (line_sent means told mid new _ text (λ table here. c.in_ok-size.ensures.line table here) c.in-Ok.ensures.ok))

pub returns-in-Err-clause-err : goal.returns-in-Err-clause-err
returns-in-Err-clause-err g c =
    let means = g.B.Board.means in
    let old = c.args.board.now in
    let mid = c.write_fetched.new.board in
    let new = c.send_line.new.board in
    let told = ToldTable means c.args.vault.now old in
    let text = packet_at c.args.at c.args.position in
    breaks_within means told told (λ table here. here) old new (λ table. [] ++ text table) text
    (λ table here. same_text (text table) (text table) refl) (omega arith) (omega arith)
    (breaks_on means told told (λ table here. here) old mid new (λ _. []) text
    (lists_read means told old mid c.in_ok-size.ensures.reads c.in_ok-size.ensures.no_fault)
    (line_broke means told mid new _ text (λ table here. c.in_ok-size.ensures.line table here) c.in-Err.ensures.err))
