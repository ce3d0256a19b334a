use Rattle.std.proofs.Common.{◌≡◌, ◌+◌, ℕ, None, Some, sym, ◌∙◌, ap, subst, arith, rules}
use Rattle.board.specs.Touches.{Touches}
use Rattle.board.proofs.Reading.{reads_none}
use Rattle.board.proofs.Touching.{touches_none}
use Rattle.pst_model.specs.Rules.{Step, grant}
use Rattle.record_view.specs.Records.{Meaning}
use Rattle.retrieval.specs.Picks.{pick_of}
use Rattle.vault.proofs.Granted.{charge_is, granted_by, granted_none, none_sent, packet_sent, picked_channel, reads_touches, still_held, then_passed}
use Rattle.vault.proofs.Passed.{picked_position, picked_store}
use Rattle.vault.specs.Changing.{if_short, journal_pages}
use Rattle.vault.specs.Granting.{sent_of}
use Rattle.vault.specs.Memory.{InMemory, IsSound}
use Rattle.vault.proofs.vault.Vault.send_next.Given.{Over}
use Rattle.vault.proofs.vault.Vault.send_next.Goals as goal
use Rattle.vault.proofs.vault.Vault.send_next.Goals.{After-next_of, In_ok-pass}

sound_here : (g : Over) (c : After-next_of g) → IsSound c.args.self.now
sound_here g c =
    let is = c.self.view_is in
    subst IsSound is (c.self.invariant.1 (ap (λ (v : InMemory). v.is_open) is ∙ c.requires.is_open))

-- nothing is picked

pub returns-in_default-clause-any_moment : goal.returns-in_default-clause-any_moment
returns-in_default-clause-any_moment g c told table number stands =
    let at = (goal.at.returns-in_default-clause-any_moment g c).After-next_of in
    let means = g.B.Board.means in
    let old = c.args.board.now in
    still_held means c.args.self.now table (grant number table).table old old told c.requires.blocks (sound_here g at) stands
    (reads_none means old (λ image told left. g.met.B.Board.images_now old image told left))

pub returns-in_default-clause-sends : goal.returns-in_default-clause-sends
returns-in_default-clause-sends g c told table number stands =
    let at = (goal.at.returns-in_default-clause-sends g c).After-next_of in
    let none : pick_of c.args.self.now.directory.stores ≡ None = search rules in
    ap (λ (s : Step). s.outputs) (none_sent c.args.self.now (g.B.Board.means.flash c.args.board.now) table (sound_here g at) stands number none)

pub returns-in_default-clause-granted : goal.returns-in_default-clause-granted
returns-in_default-clause-granted g c =
    let at = (goal.at.returns-in_default-clause-granted g c).After-next_of in
    let none : pick_of c.args.self.now.directory.stores ≡ None = search rules in
    granted_none g.B.Board.means c.args.self.now c.args.board.now (sound_here g at) c.requires.is_open none c.requires.journal

pub returns-in_default-clause-works : goal.returns-in_default-clause-works
returns-in_default-clause-works g c =
    let means = g.B.Board.means in
    let old = c.args.board.now in
    reads_touches means journal_pages old old old (reads_none means old (λ image told left. g.met.B.Board.images_now old image told left))
    (touches_none means journal_pages old (λ image told left. g.met.B.Board.images_now old image told left))
    (omega arith) (omega arith) (omega arith) (omega arith)

-- the store of the pick

pub load-requires-clause-within : goal.load-requires-clause-within
load-requires-clause-within g c =
    let at = (goal.at.load-requires-clause-within g c).After-next_of in
    let picked : pick_of c.args.self.now.directory.stores ≡ Some c.in-Some.pick =
    ap (λ (v : InMemory). pick_of v.directory.stores) (sym c.self.view_is) ∙ sym c.in-Some.ensures.pick in
    picked_position c.args.self.now c.in-Some.pick (picked_store c.args.self.now c.in-Some.pick (sound_here g at) picked)

pub returns-in_err-load-clause-any_moment : goal.returns-in_err-load-clause-any_moment
returns-in_err-load-clause-any_moment g c told table number stands =
    let at = (goal.at.returns-in_err-load-clause-any_moment g c).After-next_of in
    still_held g.B.Board.means c.args.self.now table (grant number table).table c.args.board.now c.load.new.board told c.requires.blocks (sound_here g at) stands
    c.load.ensures.reads

-- the packet is held

picked_here : (g : Over) (c : In_ok-pass g) → pick_of c.args.self.now.directory.stores ≡ Some c.in-Some.pick
picked_here g c = ap (λ (v : InMemory). pick_of v.directory.stores) (sym c.self.view_is) ∙ sym c.in-Some.ensures.pick

pub returns-in_err-pass-clause-any_moment : goal.returns-in_err-pass-clause-any_moment
returns-in_err-pass-clause-any_moment g c told table number stands =
    let at = (goal.at.returns-in_err-pass-clause-any_moment g c).After-next_of in
    then_passed g.B.Board.means c.args.self.now table (grant number table).table c.args.board.now c.load.new.board told c.requires.blocks (sound_here g at) stands
    c.pass.new.board c.load.new.self c.load.ensures.reads c.in_ok-load.ensures.after
    (λ told_mid there. c.pass.ensures.any_moment told_mid table number there)

pub returns-clause-any_moment : goal.returns-clause-any_moment
returns-clause-any_moment g c told table number stands =
    let at = (goal.at.returns-clause-any_moment g c).After-next_of in
    then_passed g.B.Board.means c.args.self.now table (grant number table).table c.args.board.now c.load.new.board told c.requires.blocks (sound_here g at) stands
    c.pass.new.board c.load.new.self c.load.ensures.reads c.in_ok-load.ensures.after
    (λ told_mid there. c.pass.ensures.any_moment told_mid table number there)

pub returns-clause-sends : goal.returns-clause-sends
returns-clause-sends g c told table number stands =
    let at = (goal.at.returns-clause-sends g c).After-next_of in
    let pick = c.in-Some.pick in
    let picked = picked_here g c in
    packet_sent c.args.self.now (g.B.Board.means.flash c.args.board.now) table (sound_here g at) stands number pick c.load.new.self.held picked
    (c.in_ok-load.ensures.told told table stands)
    ∙ ap (λ (m : Meaning). sent_of number pick.channel m.packet) (sym (ap (λ (v : InMemory). v.held) c.in_ok-pass.ensures.after.others))

pub returns-clause-granted : goal.returns-clause-granted
returns-clause-granted g c =
    let at = (goal.at.returns-clause-granted g c).After-next_of in
    let pick = c.in-Some.pick in
    let picked = picked_here g c in
    granted_by g.B.Board.means c.args.self.now c.args.board.now (sound_here g at) c.load.new.board c.pass.new.board c.load.new.self c.pass.new.self pick picked
    c.load.ensures.reads c.in_ok-load.ensures.after c.in_ok-pass.ensures.after.others c.in_ok-pass.ensures.after.directory c.in_ok-pass.ensures.room c.in_ok-pass.ensures.sound
    c.in_ok-pass.ensures.journal c.in_ok-pass.ensures.stands

pub returns-clause-channel : goal.returns-clause-channel
returns-clause-channel g c =
    let at = (goal.at.returns-clause-channel g c).After-next_of in
    picked_channel c.args.self.now.directory.stores c.in-Some.pick (sound_here g at).kept.stores.each (picked_here g c)

pub returns-clause-works : goal.returns-clause-works
returns-clause-works g c =
    let means = g.B.Board.means in
    let mid = c.load.new.board in
    let new = c.pass.new.board in
    let pick = c.in-Some.pick in
    let picked = picked_here g c in
    let charge = charge_is c.args.self.now pick picked in
    reads_touches means journal_pages c.args.board.now mid new c.load.ensures.reads
    (subst (λ (n : ℕ). Touches means journal_pages (if_short n 85 + 2) (if_short n 7) (if_short n 13 + 2) mid new)
    (ap (λ (v : InMemory). v.journal.room) c.in_ok-load.ensures.after) c.pass.ensures.touches)
    (omega (arith, charge)) (omega arith) (omega arith) (omega arith)
