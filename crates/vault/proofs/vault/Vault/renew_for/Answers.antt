use Rattle.std.proofs.Common.{◌≡◌, ◌<◌, ◌+◌, length, Err, refl, sym, ◌∙◌, ap, subst, arith}
use Rattle.std.specs.Prelude.{⊤}
use Rattle.space_packet.specs.View.{octets_of}
use Rattle.vault.proofs.ReplacedStores.{rows_long}
use Rattle.vault.proofs.RenewRuns.{after_failed, renews_on, stands_on}
use Rattle.vault.proofs.RenewedFor.{HasRenewed, all_fresh, needs_some, none_yet, renewed_next, spared_next}
use Rattle.vault.specs.Memory.{InMemory, IsSound}
use Rattle.vault.specs.Renewing.{Renews}
use Rattle.vault.proofs.vault.Vault.renew_for.Given.{Over}
use Rattle.vault.proofs.vault.Vault.renew_for.Goals as goal
use Rattle.vault.proofs.vault.Vault.renew_for.Goals.{After-from_residual, In-loop-at}
use Rattle.vault.proofs.vault.Vault.renew_for.Goals.{then-needs_renewal+in_ok-renew, else-needs_renewal}

pub loop-at-init : goal.loop-at-init
loop-at-init g c =
    none_yet g.B.Board.means (octets_of c.args.packet.now) c.args.board.now c.args.self.now c.requires.blocks c.requires.is_open
    (subst IsSound c.self.view_is (c.self.invariant.1 (ap (λ (v : InMemory). v.is_open) c.self.view_is ∙ c.requires.is_open)))
    c.requires.flash (λ image told left. g.met.B.Board.images_now c.args.board.now image told left)

within : (g : Over) (c : In-loop-at g) → c.loop-at.at < length c.loop-at.self.directory.stores
within g c =
    let same = ap (λ (v : InMemory). length v.directory.stores) c.self.view_is in
    let rows = rows_long c.args.self.now.directory.stores c.loop-at.self.directory.stores c.loop-at.invariant.renews.after.rows in
    let long = c.len-at-end.ensures.len in
    let low = c.loop-at-test.true in
    omega (arith, same, rows, long, low)

pub needs_renewal-requires-clause-within : goal.needs_renewal-requires-clause-within
needs_renewal-requires-clause-within g c = within g c

pub renew-requires-clause-flash : goal.renew-requires-clause-flash
renew-requires-clause-flash g c =
    stands_on g.B.Board.means c.args.board.now c.loop-at.board c.loop-at.board c.args.self.now c.loop-at.self c.loop-at.self c.loop-at.invariant.renews
    c.requires.flash

pub renew-requires-clause-within : goal.renew-requires-clause-within
renew-requires-clause-within g c = within g (goal.at.renew-requires-clause-within g c).In-loop-at

pub renew-requires-clause-linked : goal.renew-requires-clause-linked
renew-requires-clause-linked g c = λ s index last there indexed lasting.
    (c.if-needs_renewal.ensures.needed refl s index last there indexed lasting).linked

-- a renewal failed
failed : (g : Over) (c : After-from_residual g)
    → Renews {A = ⊤} g.B.Board.means c.args.board.now c.renew.new.board c.args.self.now c.renew.new.self (Err c.in_err-renew.field-0.0)
failed g c =
    renews_on g.B.Board.means c.args.board.now c.loop-at.board c.renew.new.board c.args.self.now c.loop-at.self c.renew.new.self c.loop-at.invariant.renews
    (Err c.in_err-renew.field-0.0) c.in_err-renew.ensures.renews

pub returns-in_err-renew-clause-any_moment : goal.returns-in_err-renew-clause-any_moment
returns-in_err-renew-clause-any_moment g c = (failed g c).leaves

pub returns-in_err-renew-clause-link : goal.returns-in_err-renew-clause-link
returns-in_err-renew-clause-link g c = (failed g c).link

pub returns-in_err-renew-clause-nothing : goal.returns-in_err-renew-clause-nothing
returns-in_err-renew-clause-nothing g c fresh =
    absurd (needs_some g.B.Board.means (octets_of c.args.packet.now) c.args.board.now c.loop-at.board c.args.self.now c.loop-at.self c.loop-at.at c.loop-at.invariant
    (c.if-needs_renewal.ensures.needed refl) (within g (goal.at.returns-in_err-renew-clause-nothing g c).In-loop-at) fresh)

pub returns-in_err-renew-clause-after : goal.returns-in_err-renew-clause-after
returns-in_err-renew-clause-after g c =
    after_failed c.from_residual.result c.in_err-renew.field-0.0 c.args.self.now c.renew.new.self c.from_residual.ensures.0 (failed g c).after

pub loop-at-preserved : goal.loop-at-preserved
loop-at-preserved g c =
    let means = g.B.Board.means in
    let packet = octets_of c.args.packet.now in
    let start = c.args.board.now in
    let old = c.args.self.now in
    let board = c.loop-at.board in
    let now = c.loop-at.self in
    let at = c.loop-at.at in
    let low = within g (goal.at.loop-at-preserved g c).In-loop-at in
    elim c.if-needs_renewal.branch [
      | then-needs_renewal+in_ok-renew w ↦
          subst (λ b. HasRenewed means start b old c.if-needs_renewal.self packet (at + 1)) (sym w.board-is)
          (subst (λ (v : InMemory). HasRenewed means start w.renew.new.board old v packet (at + 1)) (sym w.self-is)
          (renewed_next means packet start board old now at c.loop-at.invariant (w.if-needs_renewal.ensures.needed refl) low
          w.renew.new.board w.renew.new.self w.in_ok-renew.ensures.renews w.in_ok-renew.ensures.place))
      | else-needs_renewal w ↦
          subst (λ b. HasRenewed means start b old c.if-needs_renewal.self packet (at + 1)) (sym w.board-is)
          (subst (λ (v : InMemory). HasRenewed means start board old v packet (at + 1)) (sym w.self-is)
          (spared_next means packet start board old now at c.loop-at.invariant (w.if-needs_renewal.ensures.spared refl)))
    ]

pub returns-clause-fresh : goal.returns-clause-fresh
returns-clause-fresh g c =
    let means = g.B.Board.means in
    let packet = octets_of c.args.packet.now in
    let start = c.args.board.now in
    let old = c.args.self.now in
    let now = c.loop-at.self in
    let same = ap (λ (v : InMemory). length v.directory.stores) c.self.view_is in
    let rows = rows_long old.directory.stores now.directory.stores c.loop-at.invariant.renews.after.rows in
    let long = c.len-at-end.ensures.len in
    let high = c.loop-at-test.false in
    let most = c.loop-at.auto.at-end in
    let all : c.loop-at.at ≡ length now.directory.stores = omega (arith, same, rows, long, high, most) in
    all_fresh means packet start c.loop-at.board old now
    (subst (HasRenewed means start c.loop-at.board old now packet) all c.loop-at.invariant)
