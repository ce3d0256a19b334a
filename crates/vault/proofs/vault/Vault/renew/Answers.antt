use Rattle.std.proofs.Common.{Ok, Err}
use Rattle.std.specs.Prelude.{⊤}
use Rattle.vault.proofs.RenewRuns.{renews_on, room_renews, stands_on}
use Rattle.vault.specs.Renewing.{Renews}
use Rattle.vault.proofs.vault.Vault.renew.Goals as goal

pub swap_last-requires-clause-flash : goal.swap_last-requires-clause-flash
swap_last-requires-clause-flash g c =
    let means = g.B.Board.means in
    let old = c.args.board.now in
    let mid = c.make_journal_room.new.board in
    let was = c.args.self.now in
    let half = c.make_journal_room.new.self in
    let room = c.in-Ok.ensures in
    let first : Renews {A = ⊤} means old mid was half (Ok tt) =
    room_renews means old mid was half (Ok tt) c.requires.flash room.any_moment room.stands room.after room.sound room.touches tt room.no_fault tt in
    stands_on means old mid mid was half half first c.requires.flash

pub returns-in-Ok-clause-renews : goal.returns-in-Ok-clause-renews
returns-in-Ok-clause-renews g c =
    let means = g.B.Board.means in
    let old = c.args.board.now in
    let mid = c.make_journal_room.new.board in
    let was = c.args.self.now in
    let half = c.make_journal_room.new.self in
    let room = c.in-Ok.ensures in
    let first : Renews {A = ⊤} means old mid was half (Ok tt) =
    room_renews means old mid was half (Ok tt) c.requires.flash room.any_moment room.stands room.after room.sound room.touches tt room.no_fault tt in
    renews_on means old mid c.swap_last.new.board was half c.swap_last.new.self first c.swap_last.result c.swap_last.ensures.renews

pub returns-in-Err-clause-renews : goal.returns-in-Err-clause-renews
returns-in-Err-clause-renews g c =
    let room = c.in-Err.ensures in
    room_renews g.B.Board.means c.args.board.now c.make_journal_room.new.board c.args.self.now c.make_journal_room.new.self (Err c.in-Err.fault) c.requires.flash
    room.any_moment tt room.after tt room.touches room.fault tt room.cause
